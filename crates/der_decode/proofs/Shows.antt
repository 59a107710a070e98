-- Steps of reading, one behind the other.
use Rattle.std.proofs.Common.{◌≡◌, Bool, true, false, List, ◌++◌, ◌∷◌, [], refl, sym, ap, subst, append_assoc, Result, Ok, Err}
use Rattle.base_codecs.specs.declared.spots.Spot.{Spot}
use Rattle.base_codecs.specs.Reading.{◌>>=◌, with_spot}
use Rattle.base_codecs.proofs.Steps.{err_bind}
use Rattle.der_fields.specs.declared.stops.Stop.{Stop}
use Rattle.der_decode.specs.declared.faults.DerEnd.{DerEnd}
use Rattle.der_decode.specs.declared.faults.DerEnd.TheVariants as fault
use Rattle.der_decode.specs.Private.Showing.{Shows, Fails}

pub never_both : (b : Bool) → b ≡ true → b ≡ false → ⊥
never_both true e f = absurd cc
never_both false e f = absurd cc

-- what reads the same
pub shows_as : {A B : Type 0} (view : A → B × Spot) (answer : Result A DerEnd) (x y : Result (B × Spot) Stop) → y ≡ x → Shows view answer x → Shows view answer y
shows_as view answer x y e h = subst (Shows view answer) (sym e) h

pub fails_as : {B : Type 0} (e : DerEnd) (x y : Result (B × Spot) Stop) → y ≡ x → Fails e x → Fails e y
fails_as e x y same h = subst (Fails e) (sym same) h

-- what fails first fails
pub fails_then : {B D : Type 0} (e : DerEnd) (r : Result (B × Spot) Stop) (f : B × Spot → Result (D × Spot) Stop) → Fails e r → Fails e (r >>= f)
fails_then (fault.Stopped stop) r f h = err_bind r f stop h
fails_then fault.Memory r f h = tt

-- what was read before, and what is still read
abbrev pub with_front : {B : Type 0} → List B → Result (List B × Spot) Stop → Result (List B × Spot) Stop
with_front front r = r >>= λ x. with_spot (front ++ x.0) x.1

pub regroup : {B : Type 0} (front : List B) (b : B) (r : Result (List B × Spot) Stop) → with_front front (r >>= λ x. with_spot (b ∷ x.0) x.1) ≡ with_front (front ++ b ∷ []) r
regroup front b (Ok x) = ap (λ bs. Ok (bs, x.1)) (sym (append_assoc front (b ∷ []) x.0))
regroup front b (Err f) = refl

pub same_front : {B : Type 0} (r : Result (List B × Spot) Stop) → with_front [] r ≡ r
same_front (Ok x) = refl
same_front (Err f) = refl
