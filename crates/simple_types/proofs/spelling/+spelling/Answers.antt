use Rattle.std.proofs.Common.{◌≡◌, ◌++◌, [], ◌∷◌, sym, ap, ◌∙◌, arith, append_assoc}
use Rattle.std.specs.Prelude.{string_bytes, map}
use Rattle.std.specs.List.{join_with_byte}
use Rattle.std.proofs.lemmas.Str.{encode_ascii}
use Rattle.std.proofs.lemmas.List.{append-nil}
use Rattle.simple_types.specs.Space.{count_parts}
use Rattle.simple_types.specs.Seen.{space_of, spaces_in}
use Rattle.simple_types.specs.Reading.{spelled}
use Rattle.simple_types.proofs.Seen.{union_is, list_is}
use Rattle.simple_types.proofs.Spellings.{spelled-Bool, spelled-Whole, spelled-Numbers, spelled-Words, spelled-Chars, spelled-ListOf, spelled-UnionOf, spelled_by_member, spelled_by_none, member_parts, found_at, missed_at, behind, behind_more, join-behind}
use Rattle.simple_types.proofs.spelling.+spelling.Goals as goal

pub write_spelling-returns-in-Bool : goal.write_spelling-returns-in-Bool
write_spelling-returns-in-Bool t c =
    let is = spelled-Bool c.args.simple.now c.args.value.now c.in-Bool.is in
    rw (is, sym c.label-label.ensures) c.write_boolean.ensures

pub write_spelling-returns-in-Whole : goal.write_spelling-returns-in-Whole
write_spelling-returns-in-Whole t c =
    let is = spelled-Whole c.args.simple.now c.args.value.now c.in-Whole.is in
    rw (is, sym c.label-label.ensures) c.write_whole.ensures

pub write_spelling-returns-in-Numbers : goal.write_spelling-returns-in-Numbers
write_spelling-returns-in-Numbers t c =
    let is = spelled-Numbers c.args.simple.now c.args.value.now _ c.in-Numbers.is in
    rw (is, sym c.label-label.ensures, sym c.items.ensures) c.write_number.ensures

pub write_spelling-returns-in-Words : goal.write_spelling-returns-in-Words
write_spelling-returns-in-Words t c =
    let is = spelled-Words c.args.simple.now c.args.value.now _ c.in-Words.is in
    rw (is, sym c.label-label.ensures, sym c.items-in-Words.ensures) c.write_word.ensures

pub write_spelling-returns-in-Chars : goal.write_spelling-returns-in-Chars
write_spelling-returns-in-Chars t c =
    let is = spelled-Chars c.args.simple.now c.args.value.now c.in-Chars.is in
    rw (is, sym c.label-label.ensures) c.write_text.ensures

pub write_spelling-returns-in-List : goal.write_spelling-returns-in-List
write_spelling-returns-in-List t c =
    let is = list_is c.args.simple.now c.in-List.item c.in-List.min c.in-List.max c.deref.result.now c.in-List.is c.deref.ensures in
    rw (is, spelled-ListOf (space_of c.deref.result.now) c.in-List.min c.in-List.max c.args.value.now, sym c.kids.ensures) c.write_items.ensures

pub write_spelling-returns-in-Union : goal.write_spelling-returns-in-Union
write_spelling-returns-in-Union t c =
    let is = union_is c.args.simple.now c.in-Union.members c.items-in-Union.result.now c.in-Union.is c.items-in-Union.ensures in
    rw is c.write_chosen.ensures

pub write_spelling-write_items-requires : goal.write_spelling-write_items-requires
write_spelling-write_items-requires t c =
    let is = ap count_parts (list_is c.args.simple.now c.in-List.item c.in-List.min c.in-List.max c.deref.result.now c.in-List.is c.deref.ensures) in
    let d = c.decreases in
    (omega (arith, d, is), tt)

pub write_spelling-write_chosen-requires : goal.write_spelling-write_chosen-requires
write_spelling-write_chosen-requires t c =
    let is = ap count_parts (union_is c.args.simple.now c.in-Union.members c.items-in-Union.result.now c.in-Union.is c.items-in-Union.ensures) in
    let d = c.decreases in
    (omega (arith, d, is), tt)

pub write_chosen-returns-in_default : goal.write_chosen-returns-in_default
write_chosen-returns-in_default t c =
    rw (spelled-UnionOf (spaces_in c.args.members.now) c.args.value.now, c.in_default.ensures) (sym (append-nil (string_bytes c.args.out.now)))

pub write_chosen-write_spelling-requires : goal.write_chosen-write_spelling-requires
write_chosen-write_spelling-requires t c =
    let at = c.in-Some-get.ensures.lookup in
    let found = found_at c.args.members.now c.in-Some.i c.in-Some-get.member.now at.0 at.1 in
    let part = member_parts c.in-Some-get.member.now c.args.members.now c.in-Some.i found in
    let d = c.decreases in
    (omega (arith, d, part), tt)

pub write_chosen-returns-in-Some-get : goal.write_chosen-returns-in-Some-get
write_chosen-returns-in-Some-get t c =
    let at = c.in-Some-get.ensures.lookup in
    let found = found_at c.args.members.now c.in-Some.i c.in-Some-get.member.now at.0 at.1 in
    rw (spelled-UnionOf (spaces_in c.args.members.now) c.args.value.now, c.in-Some.ensures, spelled_by_member c.in-Some-get.member.now c.args.members.now c.in-Some.i c.in-Some.chosen found) c.write_spelling.ensures

pub write_chosen-returns-in-None : goal.write_chosen-returns-in-None
write_chosen-returns-in-None t c =
    let missed = missed_at c.args.members.now c.in-Some.i c.in-None.ensures.lookup.0 in
    rw (spelled-UnionOf (spaces_in c.args.members.now) c.args.value.now, c.in-Some.ensures, spelled_by_none c.args.members.now c.in-Some.i c.in-Some.chosen missed) (sym (append-nil (string_bytes c.args.out.now)))

pub write_items-items-init : goal.write_items-items-init
write_items-items-init t c =
    let sp = spelled (space_of c.args.item.now) in
    let first = c.in-Some.first in
    let further = c.into_iter-value-iterator.result in
    let all : first ∷ further ≡ c.args.values.now =
    ap (λ vs. first ∷ vs) c.into_iter-value-iterator.ensures.into_iter_gives ∙ sym c.in-Some.ensures.steps ∙ c.again-further.ensures in
    ap (λ l. l ++ behind (map sp further)) c.in_ok-write_spelling.ensures
    ∙ append_assoc (string_bytes c.args.out.now) (sp first) (behind (map sp further))
    ∙ ap (λ l. string_bytes c.args.out.now ++ l) (sym (join-behind (sp first) (map sp further)) ∙ ap (λ vs. join_with_byte 0x20 (map sp vs)) all)

pub write_items-items-preserved : goal.write_items-items-preserved
write_items-items-preserved t c =
    let sp = spelled (space_of c.args.item.now) in
    let value = c.in-Some-value.value in
    let later = c.next-in-items.new.self in
    let spaced : string_bytes c.push.new.self ≡ string_bytes c.items.out ++ 0x20 ∷ [] =
    c.in_ok-push.ensures.bytes ∙ ap (λ l. string_bytes c.items.out ++ l) (encode_ascii 32 (omega arith)) in
    let written : string_bytes c.write_spelling-in-items.new.out ≡ (string_bytes c.items.out ++ 0x20 ∷ []) ++ sp value =
    c.in_ok-write_spelling-2.ensures ∙ ap (λ l. l ++ sp value) spaced in
    ap (λ l. l ++ behind (map sp later)) written ∙ behind_more sp value later (string_bytes c.items.out)
    ∙ ap (λ vs. string_bytes c.items.out ++ behind (map sp vs)) (sym c.in-Some-value.ensures.steps) ∙ c.items.invariant

pub write_items-returns : goal.write_items-returns
write_items-returns t c =
    let sp = spelled (space_of c.args.item.now) in
    sym (append-nil (string_bytes c.items.out)) ∙ ap (λ vs. string_bytes c.items.out ++ behind (map sp vs)) (sym c.in-None.ensures.steps.0) ∙ c.items.invariant
