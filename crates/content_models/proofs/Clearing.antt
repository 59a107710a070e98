-- What is clear below a particle, taken together.
use Rattle.std.proofs.Common.{List}
use Rattle.base_texts.specs.declared.texts.Name.{Name}
use Rattle.content_models.specs.Particle.{Term, Particles}
use Rattle.content_models.specs.Clear.{Rule3, AllApart, ClearBelow, ClearOneOf}
use Rattle.content_models.proofs.Orders.{StandsAlone}

abbrev pub ClearTerm : Term → List Name → Type 0
ClearTerm t follow = Rule3 t follow × ClearBelow t follow × StandsAlone t follow

-- the alternatives of a choice
abbrev pub ClearAny : Particles → List Name → Type 0
ClearAny ps follow = AllApart ps × ClearOneOf ps follow
