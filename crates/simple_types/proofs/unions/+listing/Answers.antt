use Rattle.std.proofs.Common.{sym, ap, ◌∙◌, arith}
use Rattle.simple_types.specs.Space.{count_parts}
use Rattle.simple_types.specs.Seen.{space_of}
use Rattle.simple_types.specs.Sound.{has_list}
use Rattle.simple_types.proofs.Seen.{union_is, list_space}
use Rattle.simple_types.proofs.Members.{part_member}
use Rattle.simple_types.proofs.unions.+listing.Goals as goal

pub has_list-have_list-requires : goal.has_list-have_list-requires
has_list-have_list-requires t c =
    let is = ap count_parts (union_is c.args.simple.now c.in-Union.members c.items.result.now c.in-Union.is c.items.ensures) in
    let d = c.decreases in
    (omega (arith, d, is), tt)

pub has_list-returns-in-List : goal.has_list-returns-in-List
has_list-returns-in-List t c = sym (ap has_list (ap space_of c.in-List.is ∙ list_space c.in-List.item c.in-List.min c.in-List.max))

pub has_list-returns-in-Union : goal.has_list-returns-in-Union
has_list-returns-in-Union t c =
    c.have_list.ensures ∙ sym (ap has_list (union_is c.args.simple.now c.in-Union.members c.items.result.now c.in-Union.is c.items.ensures))

pub have_list-has_list-requires : goal.have_list-has_list-requires
have_list-has_list-requires t c =
    let part = part_member c.args.members.now c.members.member-index c.member-item.result c.members-test.true in
    let same = ap (λ m. count_parts (space_of m)) c.member-item.is in
    let d = c.decreases in
    (omega (arith, d, part, same), tt)
