use Rattle.std.proofs.Common.{refl, sym, ap, ◌∙◌}
use Rattle.simple_types.specs.Seen.{spaces_in}
use Rattle.simple_types.specs.Joining.{joined}
use Rattle.simple_types.proofs.Copies.{joined-none}
use Rattle.simple_facets.specs.Making.{lent_spaces}
use Rattle.simple_facets.proofs.Counting.{past_end, lent_pushed}
use Rattle.simple_facets.proofs.making.lent_all.Goals as goal

pub members-preserved : goal.members-preserved
members-preserved c =
    lent_pushed c.members.lent.items c.push.new.self.items _ c.args.members.now c.members.member-index c.member-item.result c.members-test.true c.member-item.is refl
    c.in_ok-push.ensures.items c.members.invariant

pub returns : goal.returns
returns c =
    let lent = lent_spaces c.members.lent.items in
    joined-none lent ∙ ap (λ xs. joined lent (spaces_in xs)) (sym (past_end c.args.members.now c.members.member-index c.members-test.false)) ∙ c.members.invariant
