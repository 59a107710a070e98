use Rattle.std.proofs.Common.{◌≡◌, ◌-◌, ◌∙◌, Some, None, length, sym, ap}
use Rattle.std.specs.Prelude.{slice_get}
use Rattle.base_trees.specs.Rose.{label_of, kids_of}
use Rattle.simple_types.proofs.Spellings.{found_at, missed_at}
use Rattle.asn_types.specs.Marks.{has_use_nil}
use Rattle.asn_types.specs.Parts.{parts_of}
use Rattle.asn_values.proofs.Ordering.{ordered-nil, ordered-none}
use Rattle.asn_values.proofs.orders.ordered_type.Goals as goal

pub returns-in-Some : goal.returns-in-Some
returns-in-Some c =
    let m = c.args.module.now in
    let t = c.args.node.now in
    let content = c.in-Some.content.now in
    let at = c.in-Some.ensures.lookup in
    let last = c.saturating_sub.ensures ∙ ap (λ n. n - 1) (c.part_count.ensures ∙ ap (λ l. length (parts_of l.form)) c.label-label.ensures) in
    let got : slice_get (kids_of t) (length (parts_of (label_of t).form) - 1) ≡ Some content =
    ap (λ ks. slice_get ks (length (parts_of (label_of t).form) - 1)) (sym c.kids.ensures) ∙ ap (λ i. slice_get c.kids.result.now i) (sym last) ∙ found_at c.kids.result.now c.saturating_sub.result content at.0 at.1 in
    let nil = ap (λ l. has_use_nil l.marks) (sym c.label-label.ensures) ∙ sym c.has_use_nil.ensures ∙ c.if-not-has_use_nil.false in
    ordered-nil m t content nil got ∙ ap Some (sym (c.label.ensures ∙ ap label_of c.resolve.ensures))

pub returns-in-None : goal.returns-in-None
returns-in-None c =
    let m = c.args.module.now in
    let t = c.args.node.now in
    let last = c.saturating_sub.ensures ∙ ap (λ n. n - 1) (c.part_count.ensures ∙ ap (λ l. length (parts_of l.form)) c.label-label.ensures) in
    let missed : slice_get (kids_of t) (length (parts_of (label_of t).form) - 1) ≡ None =
    ap (λ ks. slice_get ks (length (parts_of (label_of t).form) - 1)) (sym c.kids.ensures) ∙ ap (λ i. slice_get c.kids.result.now i) (sym last)
    ∙ missed_at c.kids.result.now c.saturating_sub.result c.in-None.ensures.lookup.0 in
    let nil = ap (λ l. has_use_nil l.marks) (sym c.label-label.ensures) ∙ sym c.has_use_nil.ensures ∙ c.if-not-has_use_nil.false in
    ordered-none m t nil missed
