-- The lookup of bindings in scope by their prefix.
use Rattle.std.specs.Prelude.{◌≡◌, ℕ, List, [], ◌∷◌, length, reverse, bytes_eq, Option, Some, None, if◌then◌else◌}
use Rattle.std.specs.Borrow.{Bor}
use Rattle.std.specs.Ordering.{nat_cmp}
use Rattle.std.specs.Cmp.Lexicographic.{slice_cmp}
use Rattle.std.specs.BTreeMap.{BTreeMap, get_by}
use Rattle.xml_pieces.specs.declared.scope.Binding.{Binding}

-- a prefix with a namespace
abbrev pub bound : Binding → List ℕ × List ℕ
bound b = (b.prefix.now, b.space)

-- For bindings with the innermost first: the place of the innermost of this prefix, where the outermost has the place 0.
abbrev pub place_of : List ℕ → List Binding → Option ℕ
place_of prefix [] = None
place_of prefix (b ∷ outer) = if bytes_eq b.prefix.now prefix then Some (length outer) else place_of prefix outer

-- For bindings with the innermost first: each has the place of the one that it hides.
abbrev pub Hides : List Binding → Type 0
Hides [] = Unit {0}
Hides (b ∷ outer) = (b.hidden ≡ place_of b.prefix.now outer) × Hides outer

-- The map has the place of the innermost binding of each prefix. The bindings are listed with the outermost first.
pub record Indexed (bindings : List Binding) (innermost : BTreeMap (Bor (List ℕ)) ℕ) : Type 0 where
  pub found : (prefix : List ℕ) → get_by (λ key. slice_cmp nat_cmp prefix key.now) innermost ≡ place_of prefix (reverse bindings)
  pub hides : Hides (reverse bindings)
