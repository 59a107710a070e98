-- Lists of names with a value for each, and of tests with a value for each. A library is a list of names with contents.
use Rattle.std.specs.Prelude.{◌≡◌, ℕ, Bool, true, false, ◌<◌, ⊤, List, [], ◌∷◌, length, bytes_eq, Option, Some, None, Result, Ok, Err, if◌then◌else◌}
use Rattle.base_texts.specs.declared.libraries.LoadError.{LoadError}
use Rattle.base_texts.specs.declared.libraries.LoadError.TheVariants.{Failed, TooLong, Memory}

-- The value of the first entry with this name.
abbrev pub beside : {A : Type 0} → List ℕ → List (List ℕ × A) → Option A
beside name [] = None
beside name (entry ∷ entries) = if bytes_eq entry.0 name then Some entry.1 else beside name entries

-- The value of the first test that holds.
abbrev pub first_true : {A : Type 0} → List (Bool × A) → Option A
first_true [] = None
first_true (test ∷ more) = if test.0 then Some test.1 else first_true more

-- If the entries are known, the first entry of the name has these contents.
abbrev pub HasEntry : Option (List (List ℕ × List ℕ)) → List ℕ → List ℕ → Type 0
HasEntry None name bytes = ⊤
HasEntry (Some entries) name bytes = beside name entries ≡ Some bytes

-- If the entries are known, none has the name.
abbrev pub Lacks : Option (List (List ℕ × List ℕ)) → List ℕ → Type 0
Lacks None name = ⊤
Lacks (Some entries) name = beside name entries ≡ None

-- If the entries are known, the first entry of the name has contents longer than the limit.
abbrev pub HasLonger : Option (List (List ℕ × List ℕ)) → List ℕ → ℕ → Type 0
HasLonger None name limit = ⊤
HasLonger (Some entries) name limit = (bytes : List ℕ) × (beside name entries ≡ Some bytes) × (limit < length bytes)

-- If the names that are to be loaded are known, this one is the next.
abbrev pub IsNext : Option (List (List ℕ)) → List ℕ → Type 0
IsNext None name = ⊤
IsNext (Some names) name = (rest : List (List ℕ)) × (names ≡ name ∷ rest)

-- The names that are to be loaded after the next one.
abbrev pub after_next : Option (List (List ℕ)) → Option (List (List ℕ))
after_next None = None
after_next (Some []) = Some []
after_next (Some (name ∷ rest)) = Some rest

-- The load failed.
abbrev pub has_failed : {A : Type 0} → Result A LoadError → Bool
has_failed (Err Failed) = true
has_failed (Err TooLong) = false
has_failed (Err Memory) = false
has_failed (Ok a) = false
