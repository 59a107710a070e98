-- Lists that are ready for a matcher.
use Rattle.std.specs.Prelude.{◌≡◌, ◌≤◌, []}
use Rattle.std.specs.Vec.{vec_capacity}
use Rattle.content_models.specs.Particle.{Particle}
use Rattle.content_match.specs.Taking.{levels}
use Rattle.content_match.specs.declared.places.Lists.{Lists}

-- The lists are empty, and have capacity for all levels of the content model.
pub record AreReady (p : Particle) (lists : Lists) : Type 0 where
  pub turns : lists.turns.items ≡ []
  pub kids : lists.kids.items ≡ []
  pub turns_room : levels p ≤ vec_capacity lists.turns
  pub kids_room : levels p ≤ vec_capacity lists.kids
