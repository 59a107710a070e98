use Rattle.std.proofs.Common.{◌≡◌, [], sym, ap, ◌∙◌, subst}
use Rattle.std.specs.Prelude.{MatchOption}
use Rattle.asn_types.specs.Private.Saying.{space_in}
use Rattle.asn_types.proofs.SaidLaws.{space_at_place}
use Rattle.asn_types.proofs.marks.Marks.namespace.Goals as goal

pub returns-in-Some : goal.returns-in-Some
returns-in-Some c =
    subst (λ told. MatchOption c.namespace.result (told ≡ []) (λ space. told ≡ space.now))
    (ap space_in (sym c.in-Some.ensures) ∙ space_at_place c.args.self.now) c.namespace.ensures

pub returns-in-None : goal.returns-in-None
returns-in-None c = sym (space_at_place c.args.self.now) ∙ ap space_in c.in-None.ensures
