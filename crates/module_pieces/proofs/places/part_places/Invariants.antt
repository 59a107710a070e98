use Rattle.std.proofs.Common.{◌≡◌, ℕ, List, take}
use Rattle.std.specs.Prelude.{bytes_eq, position}
use Rattle.indexmap.specs.IndexMap.{get}
use Rattle.module_text.specs.declared.types.PlainPart.{PlainPart}
use Rattle.module_pieces.proofs.places.part_places.Given as goal

abbrev pub invariant-parts : goal.invariant-parts
invariant-parts l = (r : List ℕ) → get bytes_eq l.places r ≡ position (λ (p : PlainPart). bytes_eq p.identifier r) (take l.i l.parts)
