-- Counts of the faults of a source, a sink or a library.
use Rattle.std.specs.Prelude.{ℕ, Bool, ◌+◌, ◌-◌, ◌^◌, ◌≤◌, min, if◌then◌else◌}

-- One more, up to the greatest value of a 64-bit count.
abbrev pub one_more : ℕ → ℕ
one_more before = min (before + 1) (2 ^ 64 - 1)

-- The count is greater than before, or remains at its greatest value.
abbrev pub HasRisen : ℕ → ℕ → Type 0
HasRisen before now = one_more before ≤ now

-- A count never decreases, and increases if the call failed.
pub record Counts (before now : ℕ) (failed : Type 0) : Type 0 where
  pub later : before ≤ now
  pub rose : failed → HasRisen before now

-- the number of failed calls, after one more call
abbrev pub count_after : Bool → ℕ → ℕ
count_after failed before = if failed then one_more before else before
