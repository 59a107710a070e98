-- Turns and kids never lead to a particle of an all, where marks stand beside them.
use Rattle.std.proofs.Common.{◌≡◌, ℕ, true, List, [], ◌∷◌, Option, Some}
use Rattle.base_texts.specs.declared.texts.Name.{Name}
use Rattle.content_models.specs.Particle.{Particles}
use Rattle.content_models.specs.Spots.{Inner, among_picked, Picked, over, finishes_all, next_all}
use Rattle.content_models.proofs.Options.{over_some}
use Rattle.content_match.specs.Private.Standing.{spot_of}
use Rattle.content_match.specs.declared.places.Turn.{Turn}
use Rattle.value_contents.specs.Private.Moves.{inner_in}

not-among : (us : List Turn) (ks : List ℕ) (r : Picked) → inner_in (spot_of us ks) ≡ among_picked r → ⊥
not-among [] ks r e = cc
not-among (u ∷ us) [] r e = cc
not-among (u ∷ us) (k ∷ ks) r e = cc

pub never-entered : (o : Option Picked) (us : List Turn) (ks : List ℕ) → over among_picked o ≡ Some (inner_in (spot_of us ks)) → ⊥
never-entered o us ks e = let x = over_some among_picked o (inner_in (spot_of us ks)) e in not-among us ks x.0 x.2

pub never-ended : (ps : Particles) (us : List Turn) (ks : List ℕ) → finishes_all ps (inner_in (spot_of us ks)) ≡ true → ⊥
never-ended ps [] ks e = cc
never-ended ps (u ∷ us) [] e = cc
never-ended ps (u ∷ us) (k ∷ ks) e = cc

pub never-left : (ps : Particles) (us : List Turn) (ks : List ℕ) (a : Name) (s : Inner) → next_all ps (inner_in (spot_of us ks)) a ≡ Some s → ⊥
never-left ps [] ks a s e = cc
never-left ps (u ∷ us) [] a s e = cc
never-left ps (u ∷ us) (k ∷ ks) a s e = cc
