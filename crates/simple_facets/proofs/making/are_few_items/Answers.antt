use Rattle.std.proofs.Common.{◌+◌, refl, sym, ap, ◌∙◌, arith}
use Rattle.std.proofs.lemmas.Bool.{true≢false}
use Rattle.simple_types.specs.Seen.{space_of}
use Rattle.simple_types.specs.Joining.{flattened}
use Rattle.simple_facets.specs.Making.{lent_spaces, count_all_items}
use Rattle.simple_facets.proofs.Counting.{cut, past_end, items_from}
use Rattle.simple_facets.proofs.making.are_few_items.Goals as goal

pub members-preserved : goal.members-preserved
members-preserved c =
    let ps = c.args.members.now in
    let i = c.members.member-index in
    let p = c.member-item.result in
    let from = items_from ps i p (space_of p.now) (cut ps i p c.members-test.true c.member-item.is) refl in
    let so_far = c.members.invariant in
    let rest = c.in-Some.ensures in
    omega (arith, from, so_far, rest)

pub returns-in-None : goal.returns-in-None
returns-in-None c =
    let ps = c.args.members.now in
    let i = c.members.member-index in
    let p = c.member-item.result in
    let from = items_from ps i p (space_of p.now) (cut ps i p c.members-test.true c.member-item.is) refl in
    let so_far = c.members.invariant in
    let many = c.in-None.ensures in
    (λ never. absurd (true≢false (sym never)), λ few. absurd (omega (arith, from, so_far, many, few)))

pub returns : goal.returns
returns c =
    let end = ap (λ qs. 10000 + count_all_items (flattened (lent_spaces qs))) (past_end c.args.members.now c.members.member-index c.members-test.false) in
    let so_far = c.members.invariant ∙ end in
    (λ _. omega (arith, so_far), λ _. refl)
