-- Conjunctions of tests.
use Rattle.std.proofs.Common.{◌≡◌, Bool, true, false, refl}
use Rattle.std.specs.Prelude.{◌&&◌}

pub third_left : (a b c : Bool) → a ≡ true → b ≡ true → c ≡ (a && b && c)
third_left true true c one two = refl
third_left true false c one two = absurd (let e : false ≡ true = two in cc)
third_left false b c one two = absurd (let e : false ≡ true = one in cc)
