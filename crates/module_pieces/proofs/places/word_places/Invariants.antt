use Rattle.std.proofs.Common.{◌≡◌, ℕ, List, take}
use Rattle.std.specs.Prelude.{bytes_eq, position}
use Rattle.indexmap.specs.IndexMap.{get}
use Rattle.module_text.specs.declared.types.PlainName.{PlainName}
use Rattle.module_pieces.proofs.places.word_places.Given as goal

abbrev pub invariant-names : goal.invariant-names
invariant-names l = (r : List ℕ) → get bytes_eq l.places r ≡ position (λ (i : PlainName). bytes_eq i.name r) (take l.i l.names)
