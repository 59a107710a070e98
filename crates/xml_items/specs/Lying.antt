-- The storage of characters.
use Rattle.std.specs.Prelude.{ℕ, ◌≤◌, List, length, take, IsUtf8}
use Rattle.xml_items.specs.declared.characters.Lying.{Lying}
use Rattle.xml_items.specs.declared.characters.Lying.TheVariants.{Front, Kept}

abbrev pub lying_bytes : Lying → List ℕ
lying_bytes (Front bytes len) = take len bytes.now
lying_bytes (Kept text) = text.now

abbrev pub LiesWithin : Lying → Type 0
LiesWithin (Front bytes len) = (len ≤ length bytes.now) × ∥ IsUtf8 (take len bytes.now) ∥₁
LiesWithin (Kept text) = Unit {0}
