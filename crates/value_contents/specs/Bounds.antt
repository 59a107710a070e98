-- The form of the part for a particle, by the bounds of the particle (X.694, clauses 18 and 19).
use Rattle.std.specs.Prelude.{ℕ, Bool, true, false, ◌&&◌, ◌||◌, ◌==◌, not, Option, Some, None}
use Rattle.content_models.specs.Particle.{Term, sequence, all}

-- The bounds are 1 and 1.
abbrev pub is_once : ℕ → Option ℕ → Bool
is_once least None = false
is_once least (Some most) = (least == 1) && (most == 1)

-- The bounds are 0 and 1.
abbrev pub is_optional : ℕ → Option ℕ → Bool
is_optional least None = false
is_optional least (Some most) = (least == 0) && (most == 1)

-- The value of a present particle is that of its one occurrence. Otherwise it is a SEQUENCE OF. Bounds of 0 and 1 make a part
-- OPTIONAL, except in a CHOICE, whose alternatives never are.
abbrev pub is_single : Bool → ℕ → Option ℕ → Bool
is_single in_choice least most = is_once least most || (is_optional least most && not in_choice)

-- The particles of a top sequence that occurs once, and those of an all, are parts by themselves.
abbrev pub is_parted : Term → ℕ → Option ℕ → Bool
is_parted (sequence ps) least most = is_once least most
is_parted (all ps) least most = true
is_parted _ least most = false
