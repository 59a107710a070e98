-- Lists that are ready for a matcher.
use Rattle.std.proofs.Common.{◌≡◌, ℕ, ◌≤◌, List, [], refl, sym, ◌∙◌, ap, subst, arith}
use Rattle.std.specs.Vec.{vec_capacity}
use Rattle.content_models.specs.Particle.{Particle}
use Rattle.content_models.specs.Clear.{IsNoAll}
use Rattle.content_match.specs.Taking.{levels}
use Rattle.content_match.specs.Ready.{AreReady}
use Rattle.content_match.specs.Private.Standing.{AreWithin}
use Rattle.content_match.specs.Private.Tops.{particle_of_top, height_of, marks_of, required_of, IsTop}
use Rattle.content_match.specs.declared.places.Lists.{Lists}
use Rattle.content_match.specs.declared.places.Turn.{Turn}
use Rattle.content_match.specs.declared.plans.TopPlan.{TopPlan}
use Rattle.content_match.specs.declared.plans.TopPlan.TheVariants.{Tree as TreePlan, All as WholePlan}
use Rattle.content_match.proofs.Standing.{top_levels}

-- there is room for all levels where there is room for as many as are kept
pub ready : (p : Particle) (top : TopPlan) (count : ℕ) (lists : Lists) → particle_of_top top ≡ p → IsTop top → height_of top ≤ count
    → lists.turns.items ≡ [] → lists.kids.items ≡ [] → count ≤ vec_capacity lists.turns → count ≤ vec_capacity lists.kids → AreReady p lists
ready p top count lists e h most turns kids a b =
    let high : height_of top ≡ levels p = top_levels top h ∙ ap levels e in
    record {
      turns = turns;
      kids = kids;
      turns_room = omega (arith, high, most, a);
      kids_room = omega (arith, high, most, b);
    }

-- lists that are ready have the room
pub roomy : (p : Particle) (top : TopPlan) (room : ℕ) → particle_of_top top ≡ p → IsTop top → levels p ≤ room → height_of top ≤ room
roomy p top room e h most =
    let high : height_of top ≡ levels p = top_levels top h ∙ ap levels e in
    omega (arith, high, most)

pub within : (us : List Turn) → us ≡ [] → AreWithin 0 us
within us e = subst (λ (vs : List Turn). AreWithin 0 vs) (sym e) (tt {0})

-- what is no all has no marks
pub unmarked : (top : TopPlan) → IsNoAll (particle_of_top top) → marks_of top ≡ []
unmarked (TreePlan t) h = refl
unmarked (WholePlan a) h = absurd h

pub unrequired : (top : TopPlan) → IsNoAll (particle_of_top top) → required_of top ≡ 0
unrequired (TreePlan t) h = refl
unrequired (WholePlan a) h = absurd h
