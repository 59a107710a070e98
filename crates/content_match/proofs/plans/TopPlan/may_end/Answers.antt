use Rattle.std.proofs.Common.{◌≡◌, nat_eq, sym, subst}
use Rattle.content_models.specs.SpotLaws.{may_end}
use Rattle.content_match.specs.Private.Tops.{particle_of_top, StandsAt, spot_at}
use Rattle.content_match.proofs.Standing.{whole_ends}
use Rattle.content_match.proofs.plans.TopPlan.may_end.Goals as goal

pub returns-in-All-clause-ends : goal.returns-in-All-clause-ends
returns-in-All-clause-ends g c =
    let position = c.args.position.now in
    subst (λ top. nat_eq position.wanted 0 ≡ may_end (particle_of_top top) (spot_at top position)) (sym c.in-All.is)
    (whole_ends c.in-All.field-0 position (subst (λ top. StandsAt top position) c.in-All.is c.requires.stands))
