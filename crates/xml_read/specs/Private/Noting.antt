-- Written names with the numbers of the names that they denote.
use Rattle.std.specs.Prelude.{◌≡◌, ℕ, List, [], ◌∷◌, Some, slice_get}
use Rattle.base_texts.specs.declared.texts.Name.{Name}
use Rattle.xml_pieces.specs.Pieces.{Tag}
use Rattle.std.specs.Borrow.{Bor}
use Rattle.xml_pieces.specs.Namespaces.{element_name}
use Rattle.xml_read.specs.Private.Entering.{IsNamed}

-- Where these bindings are in scope, no reason is against the written name, and it denotes the name with this number.
pub record KnownAs (inside : List (List ℕ × List ℕ)) (names : List Name) (written : List ℕ) (number : ℕ) : Type 0 where
  pub named : IsNamed written inside
  pub name : slice_get names number ≡ Some (element_name inside written)

-- All notes are right.
abbrev pub AllKnown : List (List ℕ × List ℕ) → List Name → List (Bor (List ℕ)) → List ℕ → Type 0
AllKnown inside names [] [] = Unit {0}
AllKnown inside names [] (number ∷ numbers) = ⊥
AllKnown inside names (written ∷ more_written) [] = ⊥
AllKnown inside names (written ∷ more_written) (number ∷ numbers) = KnownAs inside names written.now number × AllKnown inside names more_written numbers

-- a tag without attributes
abbrev pub bare : List ℕ → Tag
bare written = record { name = written; attributes = [] }
