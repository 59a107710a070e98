-- Lists to which more is added: each item keeps its number.
use Rattle.std.specs.Prelude.{◌≡◌, ℕ, List, slice_get, Some}

pub record Grows {A : Type 0} (old new : List A) : Type 0 where
  pub kept : (number : ℕ) (x : A) → slice_get old number ≡ Some x → slice_get new number ≡ Some x
