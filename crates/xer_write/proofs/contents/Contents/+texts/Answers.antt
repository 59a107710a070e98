use Rattle.std.proofs.Common.{◌≡◌, false, [], ◌∷◌, length, length-append, sym, ap, subst, ◌∙◌, ◌==◌, IsUtf8, arith, refl}
use Rattle.std.specs.Prelude.{map}
use Rattle.xml_items.specs.Mixing.{text_before}
use Rattle.base_trees.specs.Rose.{none}
use Rattle.xer_items.specs.Items.{given}
use Rattle.xer_write.specs.declared.contents.Contents.{Contents}
use Rattle.xer_write.specs.Private.Gaining.{Gains, first_text, value_text}
use Rattle.xer_write.proofs.Gaining.{gains-nothing, gains-empty, gains-text, gains-length, room-made, on_ok}
use Rattle.xer_write.proofs.contents.Contents.+texts.Goals.{add_next-in-Some+in_ok-text+in_ok-add_text, add_next-in_default}
use Rattle.xer_write.proofs.contents.Contents.+texts.Goals as goal

pub add_text-returns-then-is_empty : goal.add_text-returns-then-is_empty
add_text-returns-then-is_empty t c =
    gains-empty c.args.self.now c.args.text (ap (λ s. length s == 0) (sym c.as_str.ensures) ∙ sym c.is_empty.ensures ∙ c.if-is_empty.true)

pub add_text-returns : goal.add_text-returns
add_text-returns t c =
    let room = c.make_room.new.self in
    let some : (length c.args.text == 0) ≡ false = ap (λ s. length s == 0) (sym c.as_str.ensures) ∙ sym c.is_empty.ensures ∙ c.if-is_empty.false in
    on_ok c.put_text.result _ _
    (λ tells. gains-text c.args.self.now room (record { receiver = c.put_text.new.self; texts = room.texts }) c.args.text some (subst IsUtf8 c.as_str.ensures c.as_str.utf8) c.in_ok-make_room.ensures refl tells)
    c.put_text.ensures

pub add_next-returns-clause-gains : goal.add_next-returns-clause-gains
add_next-returns-clause-gains t c =
    let old = c.args.self.now in
    let words = first_text (map value_text c.args.texts) in
    elim c.match-next.branch [
      | add_next-in-Some+in_ok-text+in_ok-add_text w ↦
          let text = w.in_ok-text.ensures ∙ sym (ap (λ vs. first_text (map value_text vs)) w.in-Some.ensures.steps) in
          subst (λ x. Gains old x (given [] (text_before words none))) (sym w.self-is) (subst (λ s. Gains old w.add_text.new.self (given [] (text_before s none))) text w.in_ok-add_text.ensures)
      | add_next-in_default w ↦
          let text = sym (ap (λ vs. first_text (map value_text vs)) w.in_default.ensures.steps.0) in
          subst (λ x. Gains old x (given [] (text_before words none))) (sym w.self-is) (subst (λ s. Gains old old (given [] (text_before s none))) text (gains-nothing old))
    ]

pub make_room-make_room-requires : goal.make_room-make_room-requires
make_room-make_room-requires t c =
    let d = c.decreases in
    let old = c.args.self.now in
    let popped : Contents = record { receiver = old.receiver; texts = c.pop.new.self } in
    let same = gains-length popped c.add_next.new.self _ c.in_ok-left.ensures.gains in
    let one = ap length c.in-Some.ensures.items in
    let more = length-append c.pop.new.self.items (c.in-Some.texts ∷ []) in
    (omega (arith, d, same, one, more), tt)

pub make_room-returns : goal.make_room-returns
make_room-returns t c =
    let old = c.args.self.now in
    let room = c.make_room.new.self in
    let popped : Contents = record { receiver = old.receiver; texts = c.pop.new.self } in
    room-made old popped c.add_next.new.self room (record { receiver = room.receiver; texts = c.push.new.self }) c.in-Some.texts c.in_ok-left.left
    c.in-Some.ensures.items refl c.in_ok-left.ensures.gains c.in_ok-left.ensures.left c.in_ok-make_room.ensures c.in_ok-push.ensures.items refl
