use Rattle.std.proofs.Common.{◌≡◌, ◌++◌, sym, ap, subst, ◌∙◌, arith, append_assoc}
use Rattle.std.specs.Prelude.{string_bytes, map}
use Rattle.std.specs.List.{join_with_byte}
use Rattle.std.proofs.lemmas.List.{append-nil}
use Rattle.base_trees.specs.Rose.{roses_of, AllowedAll}
use Rattle.base_trees.proofs.Roses.{node_count-kids, allowed-kids}
use Rattle.base_trees.proofs.Kids.{node_count-got, allowed-got}
use Rattle.simple_types.specs.Reading.{spelled}
use Rattle.simple_types.proofs.Spellings.{found_at, missed_at, behind, join-behind}
use Rattle.asn_types.specs.Parts.{MayHave}
use Rattle.asn_types.specs.Spaces.{space_at}
use Rattle.asn_values.proofs.Spelled.{spelled-Bool, spelled-Int, spelled-Numbers, spelled-Words, spelled-Order, spelled-Utf8, spelled-Sequence, spelled-Ref, spelled-SequenceOf, spelled-Choice, spelled-union, by-member, by-none, has-item, member-count, member-allowed}
use Rattle.asn_values.proofs.spellings.+spelling.Goals as goal

pub write_spelling-returns-in-Bool : goal.write_spelling-returns-in-Bool
write_spelling-returns-in-Bool t c =
    let is = spelled-Bool c.args.node.now c.args.value.now (ap (λ l. l.form) (sym c.label.ensures) ∙ c.in-Bool.is) in
    rw (is, sym c.label-label.ensures) c.write_boolean.ensures

pub write_spelling-returns-in-Int : goal.write_spelling-returns-in-Int
write_spelling-returns-in-Int t c =
    let is = spelled-Int c.args.node.now c.args.value.now c.in-Int.lo c.in-Int.hi (ap (λ l. l.form) (sym c.label.ensures) ∙ c.in-Int.is) in
    rw (is, sym c.label-label.ensures) c.write_whole.ensures

pub write_spelling-returns-in-Numbers : goal.write_spelling-returns-in-Numbers
write_spelling-returns-in-Numbers t c =
    let is = spelled-Numbers c.args.node.now c.args.value.now c.in-Numbers.numbers (ap (λ l. l.form) (sym c.label.ensures) ∙ c.in-Numbers.is) in
    rw (is, sym c.label-label.ensures, sym c.items.ensures) c.write_number.ensures

pub write_spelling-returns-in-Words : goal.write_spelling-returns-in-Words
write_spelling-returns-in-Words t c =
    let is = spelled-Words c.args.node.now c.args.value.now c.in-Words.identifiers c.in-Words.words (ap (λ l. l.form) (sym c.label.ensures) ∙ c.in-Words.is) in
    rw (is, sym c.label-label.ensures, sym c.items-in-Words.ensures) c.write_word.ensures

pub write_spelling-returns-in-Utf8 : goal.write_spelling-returns-in-Utf8
write_spelling-returns-in-Utf8 t c =
    let is = spelled-Utf8 c.args.node.now c.args.value.now c.in-Utf8.min c.in-Utf8.max c.in-Utf8.class (ap (λ l. l.form) (sym c.label.ensures) ∙ c.in-Utf8.is) in
    rw (is, sym c.label-label.ensures) c.write_text.ensures

pub write_spelling-returns-in-Order : goal.write_spelling-returns-in-Order
write_spelling-returns-in-Order t c =
    let is = spelled-Order c.args.node.now c.args.value.now c.in-Order.identifiers (ap (λ l. l.form) (sym c.label.ensures) ∙ c.in-Order.is) in
    rw (is, sym c.label-label.ensures) c.write_boolean-in-Order.ensures

pub write_spelling-returns-in-Sequence : goal.write_spelling-returns-in-Sequence
write_spelling-returns-in-Sequence t c =
    let is = spelled-Sequence c.args.node.now c.args.value.now c.in-Sequence.parts (ap (λ l. l.form) (sym c.label.ensures) ∙ c.in-Sequence.is) in
    rw (is, sym c.label-label.ensures) c.write_boolean-in-Sequence.ensures

pub write_spelling-returns-in-Ref : goal.write_spelling-returns-in-Ref
write_spelling-returns-in-Ref t c =
    let is = spelled-Ref c.args.node.now c.args.value.now c.in-Ref.to (ap (λ l. l.form) (sym c.label.ensures) ∙ c.in-Ref.is) in
    rw (is, sym c.label-label.ensures) c.write_boolean-in-Ref.ensures

pub write_spelling-returns-in-SequenceOf : goal.write_spelling-returns-in-SequenceOf
write_spelling-returns-in-SequenceOf t c =
    let is = spelled-SequenceOf c.args.node.now c.args.value.now c.in-SequenceOf.part c.in-SequenceOf.min c.in-SequenceOf.max c.kid.result.now (ap (λ l. l.form) (sym c.label.ensures) ∙ c.in-SequenceOf.is) c.kid.ensures in
    rw (is, sym c.kids.ensures) c.write_items.ensures

pub write_spelling-returns-in-Choice : goal.write_spelling-returns-in-Choice
write_spelling-returns-in-Choice t c =
    let is = spelled-Choice c.args.node.now c.args.value.now c.in-Choice.parts (ap (λ l. l.form) (sym c.label.ensures) ∙ c.in-Choice.is) in
    rw (is, sym c.kids-in-Choice.ensures) c.write_chosen.ensures

pub write_spelling-kid-requires : goal.write_spelling-kid-requires
write_spelling-kid-requires t c = has-item c.args.node.now c.in-SequenceOf.part c.in-SequenceOf.min c.in-SequenceOf.max (ap (λ l. l.form) (sym c.label.ensures) ∙ c.in-SequenceOf.is) c.requires

pub write_spelling-write_items-requires : goal.write_spelling-write_items-requires
write_spelling-write_items-requires t c =
    let d = c.decreases in
    let k = node_count-got c.args.node.now 0 c.kid.result.now c.kid.ensures in
    (omega (arith, d, k), allowed-got c.args.node.now 0 c.kid.result.now c.kid.ensures MayHave c.requires)

pub write_spelling-write_chosen-requires : goal.write_spelling-write_chosen-requires
write_spelling-write_chosen-requires t c =
    let d = c.decreases in
    let k = node_count-kids c.args.node.now in
    (rw c.kids-in-Choice.ensures (omega (arith, d, k)), subst (λ ks. AllowedAll MayHave (roses_of ks)) (sym c.kids-in-Choice.ensures) (allowed-kids MayHave c.args.node.now c.requires))

pub write_items-returns : goal.write_items-returns
write_items-returns t c =
    let sp = spelled (space_at c.args.item.now) in
    let further = c.next.new.self in
    let begun = ap (λ vs. string_bytes c.write_spelling.new.out ++ behind (map sp vs)) c.into_iter-value-iterator.ensures.into_iter_gives in
    let parts : string_bytes c.items.out ≡ string_bytes c.write_spelling.new.out ++ behind (map sp further) =
    sym (append-nil (string_bytes c.items.out)) ∙ ap (λ vs. string_bytes c.items.out ++ behind (map sp vs)) (sym c.in-None.ensures.steps.0) ∙ c.items.invariant ∙ begun in
    let joined : sp c.in-Some.first ++ behind (map sp further) ≡ join_with_byte 0x20 (map sp c.args.values.now) =
    sym (join-behind (sp c.in-Some.first) (map sp further)) ∙ ap (λ vs. join_with_byte 0x20 (map sp vs)) (sym c.in-Some.ensures.steps ∙ c.again-further.ensures) in
    parts ∙ ap (λ l. l ++ behind (map sp further)) c.in_ok-write_spelling.ensures
    ∙ append_assoc (string_bytes c.args.out.now) (sp c.in-Some.first) (behind (map sp further)) ∙ ap (λ l. string_bytes c.args.out.now ++ l) joined

pub write_chosen-returns-in_default : goal.write_chosen-returns-in_default
write_chosen-returns-in_default t c =
    rw (spelled-union c.args.members.now c.args.value.now, c.in_default.ensures) (sym (append-nil (string_bytes c.args.out.now)))

pub write_chosen-write_spelling-requires : goal.write_chosen-write_spelling-requires
write_chosen-write_spelling-requires t c =
    let at = c.in-Some-get.ensures.lookup in
    let found = found_at c.args.members.now c.in-Some.i c.in-Some-get.member.now at.0 at.1 in
    let part = member-count c.args.members.now c.in-Some.i c.in-Some-get.member.now found in
    let d = c.decreases in
    (omega (arith, d, part), member-allowed c.args.members.now c.in-Some.i c.in-Some-get.member.now found c.requires)

pub write_chosen-returns-in-Some-get : goal.write_chosen-returns-in-Some-get
write_chosen-returns-in-Some-get t c =
    let at = c.in-Some-get.ensures.lookup in
    let found = found_at c.args.members.now c.in-Some.i c.in-Some-get.member.now at.0 at.1 in
    rw (spelled-union c.args.members.now c.args.value.now, c.in-Some.ensures, by-member c.args.members.now c.in-Some.i c.in-Some-get.member.now c.in-Some.chosen found) c.write_spelling.ensures

pub write_chosen-returns-in-None : goal.write_chosen-returns-in-None
write_chosen-returns-in-None t c =
    let missed = missed_at c.args.members.now c.in-Some.i c.in-None.ensures.lookup.0 in
    rw (spelled-union c.args.members.now c.args.value.now, c.in-Some.ensures, by-none c.args.members.now c.in-Some.i c.in-Some.chosen missed) (sym (append-nil (string_bytes c.args.out.now)))
