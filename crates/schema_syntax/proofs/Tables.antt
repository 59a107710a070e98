-- A name that no row of a table has.
use Rattle.std.proofs.Common.{◌≡◌, ℕ, Bool, true, false, cond, List, [], ◌∷◌, Option, Some, None, refl, sym}
use Rattle.std.specs.Prelude.{bytes_eq}
use Rattle.std.proofs.lemmas.Slice.Eq.{bytes_eq-Decides}
use Rattle.base_texts.specs.Entries.{beside}

-- the name is another than that of each row
abbrev pub IsOther : {A : Type 0} → List ℕ → List (List ℕ × A) → Type 0
IsOther name [] = Unit {0}
IsOther name (row ∷ rows) = (name ≡ row.0 → ⊥) × IsOther name rows

passed : {A : Type 0} (t : Bool) (a : A) (found : Option A) → (t ≡ true → ⊥) → None ≡ found → None ≡ cond t (Some a) found
passed true a found other none = absurd (other refl)
passed false a found other none = none

-- what a `match` over the names of a table answers where none of them fits
pub none_beside : {A : Type 0} (name : List ℕ) (rows : List (List ℕ × A)) → IsOther name rows → None ≡ beside name rows
none_beside name [] other = refl
none_beside name (row ∷ rows) other =
    passed (bytes_eq row.0 name) row.1 (beside name rows) (λ e. other.0 (sym ((bytes_eq-Decides row.0 name).0 e))) (none_beside name rows other.1)
