-- An octet of a source that was read ahead of its turn.
use Rattle.std.specs.Prelude.{◌≡◌, ℕ, List, Option, Some, None, nat_le, if◌then◌else◌}
use Rattle.std.specs.Option.{option_to_list}
use Rattle.std.specs.Io.KnownBytes.{prepend_known}
use Rattle.base_texts.specs.Faults.{one_more}

-- what is left, where the source gives what it has left
abbrev pub left_with : Option ℕ → Option (List ℕ) → Option (List ℕ)
left_with ahead left = prepend_known (option_to_list ahead) left

-- While the octet is held, the source has left what it had.
abbrev pub IsUntouched : ℕ → Option (List ℕ) → Option ℕ → Option (List ℕ) → Type 0
IsUntouched octet old held left = (ahead : ℕ) → held ≡ Some ahead → (ahead ≡ octet) × (left ≡ old)

-- The faults since the octet was read: none until decoding reads it, and then those of the source once these rose.
abbrev pub faults_behind : ℕ → Option ℕ → ℕ → ℕ
faults_behind before (Some octet) now = 0
faults_behind before None now = if nat_le (one_more before) now then now else 0
