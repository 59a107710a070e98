use Rattle.std.proofs.Common.{◌∙◌, sym, ap}
use Rattle.std.specs.Prelude.{◌↔◌, IsTrue}
use Rattle.base_trees.specs.Rose.{label_of}
use Rattle.asn_types.specs.Marks.{has_list, has_use_union}
use Rattle.asn_values.specs.Private.Judging.{HasTextsAndOrder}
use Rattle.asn_values.specs.Values.{IsSpelled, OwnAt}
use Rattle.asn_values.proofs.Counting.{if_ok}
use Rattle.asn_values.proofs.Judging.{list-own, sequence-own, union-own, list-simple, union-simple}
use Rattle.asn_values.proofs.rules.own_at.Goals as goal

pub returns-in-SequenceOf : goal.returns-in-SequenceOf
returns-in-SequenceOf c =
    let m = c.args.module.now in
    let t = c.args.node.now in
    let v = c.args.value.now in
    let form = ap (λ l. l.form) (sym c.label-label.ensures) ∙ c.in-SequenceOf.is in
    let marked = ap (λ l. has_list l.marks) (sym c.label-label.ensures) ∙ sym c.has_list.ensures ∙ c.if-has_list.true in
    let same = list-own m t v c.in-SequenceOf.part c.in-SequenceOf.min c.in-SequenceOf.max c.requires form marked in
    if_ok (λ b. IsTrue b ↔ IsSpelled t v) (λ b. IsTrue b ↔ OwnAt m (label_of t) t v) c.is_spelled.result (λ b is. ((λ yes. same.0 (is.0 yes)), (λ own. is.1 (same.1 own)))) c.is_spelled.ensures

pub returns-in-Choice : goal.returns-in-Choice
returns-in-Choice c =
    let m = c.args.module.now in
    let t = c.args.node.now in
    let v = c.args.value.now in
    let form = ap (λ l. l.form) (sym c.label-label.ensures) ∙ c.in-Choice.is in
    let marked = ap (λ l. has_use_union l.marks) (sym c.label-label.ensures) ∙ sym c.has_use_union.ensures ∙ c.if-has_use_union.true in
    let same = union-own m t v c.in-Choice.parts c.requires form marked in
    if_ok (λ b. IsTrue b ↔ IsSpelled t v) (λ b. IsTrue b ↔ OwnAt m (label_of t) t v) c.is_spelled-in-Choice.result (λ b is. ((λ yes. same.0 (is.0 yes)), (λ own. is.1 (same.1 own)))) c.is_spelled-in-Choice.ensures

pub is_spelled-requires : goal.is_spelled-requires
is_spelled-requires c =
    let marked = ap (λ l. has_list l.marks) (sym c.label-label.ensures) ∙ sym c.has_list.ensures ∙ c.if-has_list.true in
    list-simple c.args.module.now c.args.node.now c.requires marked

pub is_spelled-requires-in-Choice : goal.is_spelled-requires-in-Choice
is_spelled-requires-in-Choice c =
    let marked = ap (λ l. has_use_union l.marks) (sym c.label-label.ensures) ∙ sym c.has_use_union.ensures ∙ c.if-has_use_union.true in
    union-simple c.args.module.now c.args.node.now c.requires marked

pub returns-in-Sequence : goal.returns-in-Sequence
returns-in-Sequence c =
    let m = c.args.module.now in
    let t = c.args.node.now in
    let v = c.args.value.now in
    let form = ap (λ l. l.form) (sym c.label-label.ensures) ∙ c.in-Sequence.is in
    let same = sequence-own m t v c.in-Sequence.parts c.requires form in
    if_ok (λ b. IsTrue b ↔ HasTextsAndOrder m (label_of t) t v) (λ b. IsTrue b ↔ OwnAt m (label_of t) t v) c.has_texts_and_order.result
    (λ b is. ((λ yes. same.0 (is.0 yes)), (λ own. is.1 (same.1 own)))) c.has_texts_and_order.ensures
