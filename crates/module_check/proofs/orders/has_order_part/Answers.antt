use Rattle.std.proofs.Common.{◌≡◌, ◌-◌, length, slice_get, sym, ap, ◌∙◌, subst}
use Rattle.std.specs.Prelude.{IfOk}
use Rattle.base_trees.specs.Rose.{roses_of, label_of, kids_of}
use Rattle.module_text.specs.Told.{has_use_nil}
use Rattle.module_text.specs.Resolving.{resolve}
use Rattle.module_text.specs.Orders.{is_sequence, has_no_group, element_identifiers}
use Rattle.module_check.specs.Elements.{texts_in, part_of_order, content_order, content_of}
use Rattle.module_check.proofs.Ordering.{own-order, content-ordered, no-content, last-of}
use Rattle.module_check.proofs.orders.has_order_part.Goals as goal

pub returns-then-not-has_use_nil : goal.returns-then-not-has_use_nil
returns-then-not-has_use_nil c =
    let l = label_of c.args.node.now in
    let ks = kids_of c.args.node.now in
    let s = ap (λ m. is_sequence m.form) (sym c.label-label.ensures) ∙ sym c.is_sequence.ensures ∙ c.if-not-is_sequence.false in
    let g = ap has_no_group (sym c.label-label.ensures) ∙ sym c.has_no_group.ensures ∙ c.if-not-has_no_group.false in
    let n = ap (λ m. has_use_nil m.marks) (sym c.label-label.ensures) ∙ ap has_use_nil (sym c.items.ensures) ∙ sym c.has_use_nil.ensures ∙ c.if-not-has_use_nil.true in
    c.is_order_part.ensures
    ∙ ap (λ xs. part_of_order c.label-label.result.now (roses_of c.kids-kids.result.now) (texts_in xs)) c.deref.ensures.value
    ∙ ap (part_of_order c.label-label.result.now (roses_of c.kids-kids.result.now)) c.in_ok-elements.ensures
    ∙ ap (λ m. part_of_order m (roses_of c.kids-kids.result.now) (element_identifiers m)) c.label-label.ensures
    ∙ ap (λ us. part_of_order l (roses_of us) (element_identifiers l)) c.kids-kids.ensures
    ∙ sym (own-order c.args.context.now.assignments.now l (roses_of ks) s g n)

pub returns-in-Some : goal.returns-in-Some
returns-in-Some c =
    let P = c.args.context.now.assignments.now in
    let l = label_of c.args.node.now in
    let ks = kids_of c.args.node.now in
    let s = ap (λ m. is_sequence m.form) (sym c.label-label.ensures) ∙ sym c.is_sequence.ensures ∙ c.if-not-is_sequence.false in
    let g = ap has_no_group (sym c.label-label.ensures) ∙ sym c.has_no_group.ensures ∙ c.if-not-has_no_group.false in
    let n = ap (λ m. has_use_nil m.marks) (sym c.label-label.ensures) ∙ ap has_use_nil (sym c.items.ensures) ∙ sym c.has_use_nil.ensures ∙ c.if-not-has_use_nil.false in
    let content = content_of (label_of (resolve P c.in-Some.content.now)) in
    let got = last-of ks _ (c.in-Some.ensures.value ∙ ap (λ us. slice_get us (length us - 1)) c.kids-kids.ensures) in
    let same = ap (λ m. content_order m (roses_of c.kids-kids.result.now) content) c.label-label.ensures
    ∙ ap (λ us. content_order l (roses_of us) content) c.kids-kids.ensures
    ∙ sym (content-ordered P l (roses_of ks) s g n c.in-Some.content.now got) in
    subst (λ due. IfOk c.has_content_order.result (λ is. is ≡ due)) same c.has_content_order.ensures

pub returns-in-None : goal.returns-in-None
returns-in-None c =
    let l = label_of c.args.node.now in
    let ks = kids_of c.args.node.now in
    let s = ap (λ m. is_sequence m.form) (sym c.label-label.ensures) ∙ sym c.is_sequence.ensures ∙ c.if-not-is_sequence.false in
    let g = ap has_no_group (sym c.label-label.ensures) ∙ sym c.has_no_group.ensures ∙ c.if-not-has_no_group.false in
    let n = ap (λ m. has_use_nil m.marks) (sym c.label-label.ensures) ∙ ap has_use_nil (sym c.items.ensures) ∙ sym c.has_use_nil.ensures ∙ c.if-not-has_use_nil.false in
    let got = last-of ks _ (c.in-None.ensures.value ∙ ap (λ us. slice_get us (length us - 1)) c.kids-kids.ensures) in
    sym (no-content c.args.context.now.assignments.now l (roses_of ks) s g n got)
