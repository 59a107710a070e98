use Rattle.std.proofs.Common.{◌≡◌, ℕ, List, take}
use Rattle.std.specs.Prelude.{bytes_eq, position}
use Rattle.indexmap.specs.IndexMap.{get}
use Rattle.module_text.specs.declared.types.NumberedItem.{NumberedItem}
use Rattle.module_pieces.proofs.places.number_places.Given as goal

abbrev pub invariant-items : goal.invariant-items
invariant-items l = (r : List ℕ) → get bytes_eq l.places r ≡ position (λ (i : NumberedItem). bytes_eq i.identifier.name r) (take l.i l.items)
