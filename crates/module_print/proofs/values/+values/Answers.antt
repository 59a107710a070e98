use Rattle.std.proofs.Common.{◌≡◌, ◌++◌, ◌∷◌, codes, sym, ap, ◌∙◌, arith}
use Rattle.std.specs.Prelude.{map}
use Rattle.std.proofs.lemmas.List.{append-nil}
use Rattle.std.proofs.lemmas.Option.{slice_get_within, get_or_from_slice_get}
use Rattle.base_trees.specs.Rose.{count_all, roses_of}
use Rattle.base_trees.proofs.Kids.{kid-count-le}
use Rattle.base_trees.proofs.Roses.{node_count-kids}
use Rattle.simple_types.proofs.Spellings.{found_at, missed_at}
use Rattle.asn_types.specs.declared.types.TypeLabel.{TypeLabel}
use Rattle.module_print.specs.Notation.{listed}
use Rattle.module_print.specs.Values.{part_notation}
use Rattle.module_print.proofs.Valuing.{part-some, part-none, list-notation, choice-notation, items-begun}
use Rattle.module_print.proofs.values.+values.Goals as goal

pub write_items-items-init : goal.write_items-items-init
write_items-items-init t c =
    let f = part_notation (roses_of c.args.kids.now) 0 in
    let first = c.in-Some.first in
    let others = c.into_iter-value-iterator.result in
    let all : first ∷ others ≡ c.args.values.now =
    ap (λ vs. first ∷ vs) c.into_iter-value-iterator.ensures.into_iter_gives ∙ sym c.in-Some.ensures.steps ∙ c.again-further.ensures in
    items-begun f c.args.out.now.items c.extend_from_slice-2.new.self.items c.write_part.new.out.items first others c.in_ok-extend_from_slice.ensures.items c.in_ok-write_part.ensures
    ∙ ap (λ vs. c.args.out.now.items ++ (codes "{" ++ listed (codes " ") (map f vs))) all

pub write_part-write_value-requires : goal.write_part-write_value-requires
write_part-write_value-requires t c =
    let kids = c.args.kids.now in
    let at = c.in-Some.ensures.lookup in
    let kid = c.in-Some.kid.now in
    let found = found_at kids c.args.i kid at.0 at.1 in
    let fewer = kid-count-le kids c.args.i kid (slice_get_within kids c.args.i kid found) (sym (get_or_from_slice_get kids c.args.i kid kid found)) in
    let now = c.decreases in
    (omega (arith, now, fewer), tt)

pub write_part-returns-in-Some : goal.write_part-returns-in-Some
write_part-returns-in-Some t c =
    let at = c.in-Some.ensures.lookup in
    let found = found_at c.args.kids.now c.args.i c.in-Some.kid.now at.0 at.1 in
    rw (part-some c.args.kids.now c.args.i c.in-Some.kid.now c.args.value.now found) c.write_value.ensures

pub write_part-returns-in-None : goal.write_part-returns-in-None
write_part-returns-in-None t c =
    let missed = missed_at c.args.kids.now c.args.i c.in-None.ensures.lookup.0 in
    rw (part-none c.args.kids.now c.args.i c.args.value.now missed) (sym (append-nil c.args.out.now.items))

pub write_value-write_items-requires : goal.write_value-write_items-requires
write_value-write_items-requires t c =
    let fewer = ap (λ ts. count_all (roses_of ts)) c.kids.ensures in
    let all = node_count-kids c.args.tree.now in
    let now = c.decreases in
    (omega (arith, now, fewer, all), tt)

pub write_value-write_chosen-requires : goal.write_value-write_chosen-requires
write_value-write_chosen-requires t c =
    let fewer = ap (λ ts. count_all (roses_of ts)) c.kids-in-Choice.ensures in
    let all = node_count-kids c.args.tree.now in
    let now = c.decreases in
    (omega (arith, now, fewer, all), tt)

pub write_value-returns-in-SequenceOf : goal.write_value-returns-in-SequenceOf
write_value-returns-in-SequenceOf t c =
    let form = ap (λ (l : TypeLabel). l.form) (sym c.label-label.ensures) ∙ c.in-SequenceOf.is in
    rw (list-notation c.args.tree.now c.kids.result.now c.in-SequenceOf.part c.in-SequenceOf.min c.in-SequenceOf.max c.args.value.now c.kids.ensures form, sym c.kids-in-SequenceOf.ensures)
    c.write_items.ensures

pub write_value-returns-in-Choice : goal.write_value-returns-in-Choice
write_value-returns-in-Choice t c =
    let form = ap (λ (l : TypeLabel). l.form) (sym c.label-label.ensures) ∙ c.in-Choice.is in
    rw (choice-notation c.args.tree.now c.kids-in-Choice.result.now c.in-Choice.parts c.args.value.now c.kids-in-Choice.ensures form, sym c.items.ensures) c.write_chosen.ensures
