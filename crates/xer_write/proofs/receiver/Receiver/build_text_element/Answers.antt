use Rattle.std.proofs.Common.{◌≡◌, ◌==◌, [], length, sym, ap, subst, ◌∙◌}
use Rattle.xer_write.specs.Private.Receiving.{name_seen, Tells}
use Rattle.xer_write.specs.Private.Gaining.{text_item}
use Rattle.xer_write.proofs.Receiving.{tells-none, tells-element}
use Rattle.xer_write.proofs.Gaining.{text_item-some, text_item-empty, on_ok}
use Rattle.xer_write.proofs.receiver.Receiver.build_text_element.Goals as goal
use Rattle.xer_write.proofs.receiver.Receiver.build_text_element.Goals.{then-not-is_empty+in_ok-put_text, else-not-is_empty}

pub returns : goal.returns
returns c =
    let begun = c.open.new.self in
    let mid = c.if-not-is_empty.self in
    let words = c.args.text.now in
    let counted : c.is_empty.result ≡ (length words == 0) = c.is_empty.ensures ∙ ap (λ s. length s == 0) c.bytes.ensures.bytes in
    let inner : Tells begun mid [] (text_item words) = elim c.if-not-is_empty.branch [
      | then-not-is_empty+in_ok-put_text w ↦
          subst (λ r. Tells begun r [] (text_item words)) (sym w.self-is)
          (subst (Tells begun w.put_text.new.self []) (sym (text_item-some words (sym counted ∙ w.if-not-is_empty.true))) w.in_ok-put_text.ensures)
      | else-not-is_empty w ↦
          subst (λ r. Tells begun r [] (text_item words)) (sym w.self-is)
          (subst (Tells begun begun []) (sym (text_item-empty words (sym counted ∙ w.if-not-is_empty.false))) (tells-none begun))
    ] in
    on_ok c.close.result _ _ (λ closes. tells-element c.args.self.now begun mid c.close.new.self (name_seen c.args.name.now) c.in_ok-tag.tag [] (text_item words) c.in_ok-tag.ensures inner closes) c.close.ensures
