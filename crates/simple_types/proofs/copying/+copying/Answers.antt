use Rattle.std.proofs.Common.{sym, ap, ◌∙◌, arith}
use Rattle.simple_types.specs.Space.{ListOf, UnionOf, count_parts}
use Rattle.simple_types.specs.Seen.{space_of, spaces_in}
use Rattle.simple_types.specs.Joining.{joined}
use Rattle.simple_types.proofs.Seen.{union_is, list_is, union_space, list_space}
use Rattle.simple_types.proofs.Members.{part_member}
use Rattle.simple_types.proofs.Copies.{joined-none, copied_more}
use Rattle.simple_types.proofs.copying.+copying.Goals as goal

pub append_copies-members-init : goal.append_copies-members-init
append_copies-members-init t c = joined-none (spaces_in c.args.out.now.items)

pub append_copies-copy-requires : goal.append_copies-copy-requires
append_copies-copy-requires t c =
    let part = part_member c.args.members.now c.members.member-index c.member-item.result c.members-test.true in
    let same = ap (λ m. count_parts (space_of m)) c.member-item.is in
    let d = c.decreases in
    (omega (arith, d, part, same), tt)

pub append_copies-members-preserved : goal.append_copies-members-preserved
append_copies-members-preserved t c =
    ap spaces_in c.in_ok-push.ensures.items
    ∙ copied_more (spaces_in c.args.out.now.items) c.members.out.items c.args.members.now c.members.member-index c.member-item.result c.in_ok-copied.copied c.members-test.true
    c.members.invariant (c.in_ok-copied.ensures ∙ ap space_of c.member-item.is)

pub copy-copy-requires-in-List : goal.copy-copy-requires-in-List
copy-copy-requires-in-List t c =
    let is = ap count_parts (list_is c.args.simple.now c.in-List.item c.in-List.min c.in-List.max c.deref.result.now c.in-List.is c.deref.ensures) in
    let d = c.decreases in
    (omega (arith, d, is), tt)

pub copy-append_copies-requires : goal.copy-append_copies-requires
copy-append_copies-requires t c =
    let is = ap count_parts (union_is c.args.simple.now c.in-Union.members c.items.result.now c.in-Union.is c.items.ensures) in
    let d = c.decreases in
    (omega (arith, d, is), tt)

pub copy-returns-in_ok-item-in-List-2 : goal.copy-returns-in_ok-item-in-List-2
copy-returns-in_ok-item-in-List-2 t c =
    let is = list_is c.args.simple.now c.in-List.item c.in-List.min c.in-List.max c.deref.result.now c.in-List.is c.deref.ensures in
    list_space c.in_ok-item-in-List-2.item c.in-List.min c.in-List.max
    ∙ ap (λ s. ListOf s c.in-List.min c.in-List.max) (ap space_of c.in_ok-item-in-List-2.ensures.ok ∙ c.in_ok-item-in-List.ensures) ∙ sym is

pub copy-returns-in_ok-append_copies-in-Union : goal.copy-returns-in_ok-append_copies-in-Union
copy-returns-in_ok-append_copies-in-Union t c =
    let is = union_is c.args.simple.now c.in-Union.members c.items.result.now c.in-Union.is c.items.ensures in
    union_space c.of.result
    ∙ ap UnionOf (c.of.ensures ∙ c.in_ok-append_copies-in-Union.ensures ∙ ap (λ l. joined (spaces_in l) (spaces_in c.items.result.now)) c.new-copies.ensures.items) ∙ sym is
