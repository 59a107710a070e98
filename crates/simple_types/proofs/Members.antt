-- The members of a union, as a list of types and as their spaces.
use Rattle.std.proofs.Common.{◌≡◌, ℕ, zero, suc, ◌<◌, ◌≤◌, List, [], ◌∷◌, refl, ap, arith, length, get_or}
use Rattle.simple_types.specs.declared.simples.Simple.{Simple}
use Rattle.simple_types.specs.Space.{count_parts, count_all_parts, count_members}
use Rattle.simple_types.specs.Seen.{space_of, spaces_in}
use Rattle.simple_types.specs.Sound.{Sound, AreSound}

pub member_sound : (members : List Simple) (i : ℕ) (d : Simple) → AreSound (spaces_in members) → i < length members → Sound (space_of (get_or members i d))
member_sound [] i d sound below = absurd (omega arith)
member_sound (s ∷ ss) zero d sound below = sound.0
member_sound (s ∷ ss) (suc i) d sound below = member_sound ss i d sound.2 (omega arith)

pub count_in : (members : List Simple) → count_members (spaces_in members) ≡ length members
count_in [] = refl
count_in (s ∷ ss) = ap suc (count_in ss)

pub part_member : (members : List Simple) (i : ℕ) (d : Simple) → i < length members → count_parts (space_of (get_or members i d)) ≤ count_all_parts (spaces_in members)
part_member [] i d below = absurd (omega arith)
part_member (s ∷ ss) zero d below = omega arith
part_member (s ∷ ss) (suc i) d below = let rest = part_member ss i d (omega arith) in omega arith
