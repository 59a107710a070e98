-- Where no value is kept, nothing is put down, whatever was to be.
use Rattle.std.proofs.Common.{◌≡◌, ℕ, zero, suc, ◌≤◌, Bool, true, false, Option, Some, None, refl, arith}
use Rattle.std.specs.Prelude.{IsTrue, ◌↔◌}
use Rattle.base_texts.specs.declared.texts.Name.{Name}
use Rattle.content_models.specs.Particle.{Particle}
use Rattle.content_models.specs.Spots.{Spot}
use Rattle.content_models.specs.SpotLaws.{step_from}
use Rattle.value_builder.specs.Built.{Built}
use Rattle.value_builder.proofs.Putting.{puts-off}
use Rattle.value_contents.specs.Reached.{IsFillable}
use Rattle.value_contents.specs.Private.Moves.{top_entered, top_moved}
use Rattle.value_contents.proofs.Tops.{Promised, first-promised, next-promised}

-- the way to the next leaf
pub unkept-step : (p : Particle) (o q : Option Spot) (u : Spot) (a : Name) (b : Built) → b.most ≡ 0 → IsFillable p → q ≡ Some u → step_from p o a ≡ Some u → Promised p o q b b
unkept-step p None q u a b off k to e = first-promised p None q u a b b k refl to e (puts-off (top_entered p u) b off)
unkept-step p (Some f) q u a b off k to e = next-promised p (Some f) q f u a b b k refl to e (puts-off (top_moved p f u) b off)

not_so : {P : Type 0} → false ≡ true → P
not_so e = absurd (cc)

-- some node may be kept
pub kept-some : (b : Bool) (most : ℕ) → IsTrue b ↔ (most ≡ 0) → b ≡ false → 1 ≤ most
kept-some true most only off = absurd (cc)
kept-some false zero only off = not_so (only.1 refl)
kept-some false (suc n) only off = omega arith

-- none may be
pub kept-none : (most : ℕ) {P : Type 0} → most ≡ 0 → 1 ≤ most → P
kept-none most off some = absurd (omega (arith, off, some))
