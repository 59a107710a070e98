use Rattle.std.proofs.Common.{◌≡◌, refl, sym, ap, ◌∙◌, subst, arith, Err}
use Rattle.std.specs.Prelude.{◌==◌, false}
use Rattle.std.proofs.lemmas.Bool.Decides.{nat_tests}
use Rattle.simple_types.specs.Answering.{AnswersReading}
use Rattle.simple_types.specs.Space.{count_parts}
use Rattle.simple_types.specs.Seen.{space_of, spaces_in}
use Rattle.simple_types.specs.Sound.{Sound}
use Rattle.simple_types.specs.Reading.{reads, spelled, taken_by, spelled_by}
use Rattle.simple_types.proofs.Seen.{union_is, list_is}
use Rattle.simple_types.proofs.Members.{member_sound, count_in, part_member}
use Rattle.simple_types.proofs.Readings.{takes, finds_wide, passes, none_takes, spelled_member, turn_further, reads-Bool, reads-Whole, reads-Numbers, reads-Words, reads-Chars, reads-ListOf, reads-UnionOf, sound-Numbers, sound-Words}
use Rattle.simple_types.proofs.accepting.+accepting.Goals as goal

pub put_value-read_number-requires-clause-sorted : goal.put_value-read_number-requires-clause-sorted
put_value-read_number-requires-clause-sorted t c =
    let known = sound-Numbers c.args.simple.now c.in-Numbers.numbers c.in-Numbers.is c.requires.1.1 in
    rw c.items.ensures known.1

pub put_value-read_number-requires-clause-count : goal.put_value-read_number-requires-clause-count
put_value-read_number-requires-clause-count t c =
    let known = sound-Numbers c.args.simple.now c.in-Numbers.numbers c.in-Numbers.is c.requires.1.1 in
    rw c.items.ensures known.0.1

pub put_value-read_word-requires-clause-sorted : goal.put_value-read_word-requires-clause-sorted
put_value-read_word-requires-clause-sorted t c =
    let known = sound-Words c.args.simple.now c.in-Words.space c.in-Words.words c.in-Words.is c.requires.1.1 in
    rw c.items-in-Words.ensures known.1

pub put_value-read_word-requires-clause-count : goal.put_value-read_word-requires-clause-count
put_value-read_word-requires-clause-count t c =
    let known = sound-Words c.args.simple.now c.in-Words.space c.in-Words.words c.in-Words.is c.requires.1.1 in
    rw c.items-in-Words.ensures known.0.1

pub put_value-put_list-requires : goal.put_value-put_list-requires
put_value-put_list-requires t c =
    let is = list_is c.args.simple.now c.in-List.item c.in-List.min c.in-List.max c.deref.result.now c.in-List.is c.deref.ensures in
    let parts = ap count_parts is in
    let d = c.requires.1.0 in
    let known = subst Sound is c.requires.1.1 in
    (omega (arith, d, parts), known.0)

pub put_value-put_union-requires : goal.put_value-put_union-requires
put_value-put_union-requires t c =
    let is = union_is c.args.simple.now c.in-Union.members c.items-in-Union.result.now c.in-Union.is c.items-in-Union.ensures in
    let parts = ap count_parts is in
    let d = c.requires.1.0 in
    let known = subst Sound is c.requires.1.1 in
    (omega (arith, d, parts), (known.1, rw (sym (count_in c.items-in-Union.result.now)) known.0.1))

pub take-read-requires : goal.take-read-requires
take-read-requires t c =
    let members = c.args.members.now in
    let member = c.index-members-i.result in
    let part = part_member members c.members.i member c.members-test.true in
    let same = ap (λ m. count_parts (space_of m)) c.index-members-i.is in
    let d = c.requires.1.0 in
    (omega (arith, d, part, same), rw c.index-members-i.is (member_sound members c.members.i member c.requires.1.1 c.members-test.true))

pub take-returns-in-Ok-clause-taken : goal.take-returns-in-Ok-clause-taken
take-returns-in-Ok-clause-taken t c =
    let read = ap (λ m. reads (space_of m) c.args.text.now) (sym c.index-members-i.is) ∙ c.in-Ok.ensures in
    takes c.args.members.now c.args.text.now c.members.i c.index-members-i.result c.members-test.true c.members.invariant c.in-Ok.value read

pub take-returns-clause-taken : goal.take-returns-clause-taken
take-returns-clause-taken t c = none_takes c.args.members.now c.args.text.now c.members.i c.members-test.false c.members.invariant

pub take-members-preserved : goal.take-members-preserved
take-members-preserved t c =
    let members = c.args.members.now in
    let text = c.args.text.now in
    let refused = subst (λ e. AnswersReading (Err e) (reads (space_of c.index-members-i.result) text)) c.in-Err-BadText.field-0-is c.in-Err-BadText.ensures in
    passes members text c.members.i c.index-members-i.result c.members-test.true c.members.invariant (ap (λ m. reads (space_of m) text) (sym c.index-members-i.is) ∙ refused)

pub settle-turns-init : goal.settle-turns-init
settle-turns-init t c = record { member = c.in_ok-member.ensures.bound; so_far = refl }

pub settle-turns-preserved : goal.settle-turns-preserved
settle-turns-preserved t c =
    let ss = spaces_in c.args.members.now in
    let other : (c.in_ok-next.next == c.turns.member) ≡ false = grind (arith, nat_tests) in
    record {
      member = c.in_ok-next.ensures.bound;
      so_far = c.turns.invariant.so_far ∙ turn_further (taken_by ss) (spelled_by ss) (c.turns.member, c.turns.value) c.turns.turns (c.in_ok-next.next, c.in_ok-next.again) c.turns-test.true (rw (sym c.root.ensures) c.in_ok-next.ensures.taken) other;
    }

pub take_again-returns-clause-taken : goal.take_again-returns-clause-taken
take_again-returns-clause-taken t c =
    let members = c.args.members.now in
    let value = c.args.value.now in
    let same = c.as_str.ensures ∙ c.in_ok-spelled.ensures ∙ ap (λ m. spelled (space_of m) value) c.index-members-member.is
    ∙ spelled_member members c.args.member c.index-members-member.result value c.requires.member in
    rw (sym same) c.take.ensures.taken

pub take-returns-in-Err-TooWide-clause-taken : goal.take-returns-in-Err-TooWide-clause-taken
take-returns-in-Err-TooWide-clause-taken t c =
    let members = c.args.members.now in
    let text = c.args.text.now in
    let refused = subst (λ e. AnswersReading (Err e) (reads (space_of c.index-members-i.result) text)) c.in-Err-TooWide.field-0-is c.in-Err-TooWide.ensures in
    finds_wide members text c.members.i c.index-members-i.result c.members-test.true c.members.invariant (ap (λ m. reads (space_of m) text) (sym c.index-members-i.is) ∙ refused)

pub put_value-returns-in-Bool-clause-read : goal.put_value-returns-in-Bool-clause-read
put_value-returns-in-Bool-clause-read t c = rw (reads-Bool c.args.simple.now c.args.text.now c.in-Bool.is) (c.put.ensures.read _ c.read_boolean.ensures)

pub put_value-returns-in-Whole-clause-read : goal.put_value-returns-in-Whole-clause-read
put_value-returns-in-Whole-clause-read t c = rw (reads-Whole c.args.simple.now c.args.text.now c.in-Whole.lo c.in-Whole.hi c.in-Whole.is) (c.put-in-Whole.ensures.read _ c.read_whole.ensures)

pub put_value-returns-in-Numbers-clause-read : goal.put_value-returns-in-Numbers-clause-read
put_value-returns-in-Numbers-clause-read t c = rw (reads-Numbers c.args.simple.now c.args.text.now c.in-Numbers.numbers c.in-Numbers.is, sym c.items.ensures) (c.put-in-Numbers.ensures.read _ c.read_number.ensures)

pub put_value-returns-in-Words-clause-read : goal.put_value-returns-in-Words-clause-read
put_value-returns-in-Words-clause-read t c = rw (reads-Words c.args.simple.now c.args.text.now c.in-Words.space c.in-Words.words c.in-Words.is, sym c.items-in-Words.ensures) (c.put-in-Words.ensures.read _ c.read_word.ensures)

pub put_value-returns-in-Chars-clause-read : goal.put_value-returns-in-Chars-clause-read
put_value-returns-in-Chars-clause-read t c = rw (reads-Chars c.args.simple.now c.args.text.now c.in-Chars.space c.in-Chars.min c.in-Chars.max c.in-Chars.class c.in-Chars.is) (c.put-in-Chars.ensures.read _ c.read_characters.ensures)

pub put_value-returns-in-List-clause-read : goal.put_value-returns-in-List-clause-read
put_value-returns-in-List-clause-read t c =
    let is = list_is c.args.simple.now c.in-List.item c.in-List.min c.in-List.max c.deref.result.now c.in-List.is c.deref.ensures in
    rw (is, reads-ListOf (space_of c.deref.result.now) c.in-List.min c.in-List.max c.args.text.now) c.put_list.ensures.read

pub put_value-returns-in-Union-clause-read : goal.put_value-returns-in-Union-clause-read
put_value-returns-in-Union-clause-read t c =
    let is = union_is c.args.simple.now c.in-Union.members c.items-in-Union.result.now c.in-Union.is c.items-in-Union.ensures in
    rw (is, reads-UnionOf (spaces_in c.items-in-Union.result.now) c.args.text.now, count_in c.items-in-Union.result.now) c.put_union.ensures.read
