use Rattle.std.proofs.Common.{refl, sym, ap, ◌∙◌}
use Rattle.simple_types.specs.Seen.{space_of, spaces_in}
use Rattle.simple_types.specs.Joining.{joined, flattened}
use Rattle.simple_types.proofs.Copies.{joined-none}
use Rattle.simple_facets.specs.Making.{lent_spaces}
use Rattle.simple_facets.proofs.Counting.{cut, past_end, part_flat}
use Rattle.simple_facets.proofs.making.flat_copies.Goals as goal

pub members-preserved : goal.members-preserved
members-preserved c =
    let ps = c.args.members.now in
    let i = c.members.member-index in
    let p = c.member-item.result in
    part_flat c.members.flat.items c.append_flat.new.flat.items ps i p (space_of p.now) (flattened (lent_spaces ps))
    (cut ps i p c.members-test.true c.member-item.is) refl c.members.invariant c.in_ok-append_flat.ensures

pub returns : goal.returns
returns c =
    let flat = c.members.flat.items in
    joined-none (spaces_in flat)
    ∙ ap (λ qs. joined (spaces_in flat) (flattened (lent_spaces qs))) (sym (past_end c.args.members.now c.members.member-index c.members-test.false))
    ∙ c.members.invariant
