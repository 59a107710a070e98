use Rattle.std.proofs.Common.{◌+◌, refl, sym, ap, ◌∙◌, arith}
use Rattle.std.proofs.lemmas.Bool.{true≢false}
use Rattle.simple_types.specs.Seen.{space_of}
use Rattle.simple_types.specs.Space.{count_members}
use Rattle.simple_types.specs.Joining.{flattened}
use Rattle.simple_facets.specs.Making.{lent_spaces}
use Rattle.simple_facets.proofs.Counting.{cut, past_end, members_from}
use Rattle.simple_facets.proofs.making.are_few_members.Goals as goal

pub members-preserved : goal.members-preserved
members-preserved c =
    let ps = c.args.members.now in
    let i = c.members.member-index in
    let p = c.member-item.result in
    let from = members_from ps i p (space_of p.now) (cut ps i p c.members-test.true c.member-item.is) refl in
    let so_far = c.members.invariant in
    let count = c.member_count-count.ensures in
    let few = c.if-count-left.false in
    omega (arith, from, so_far, count, few)

pub returns-then-count-left : goal.returns-then-count-left
returns-then-count-left c =
    let ps = c.args.members.now in
    let i = c.members.member-index in
    let p = c.member-item.result in
    let from = members_from ps i p (space_of p.now) (cut ps i p c.members-test.true c.member-item.is) refl in
    let so_far = c.members.invariant in
    let count = c.member_count-count.ensures in
    let many = c.if-count-left.true in
    (λ never. absurd (true≢false (sym never)), λ few. absurd (omega (arith, from, so_far, count, many, few)))

pub returns : goal.returns
returns c =
    let end = ap (λ qs. 1000 + count_members (flattened (lent_spaces qs))) (past_end c.args.members.now c.members.member-index c.members-test.false) in
    let so_far = c.members.invariant ∙ end in
    (λ _. omega (arith, so_far), λ _. refl)
