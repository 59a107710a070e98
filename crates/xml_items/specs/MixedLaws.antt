-- The children of an element and its texts and child elements.
use Rattle.std.specs.Prelude.{◌≡◌, ℕ, suc, List, length}
use Rattle.base_trees.specs.Rose.{Roses, length_all}
use Rattle.xml_items.specs.Plain.{Plain}
use Rattle.xml_items.specs.Mixing.{interleaved, child_elements, texts_between, AllElements, AreTidy}

-- Tidy children are made of their texts and their child elements.
abbrev pub TakesApart : Type 0
TakesApart = (items : Roses Plain) → AreTidy items
    → (interleaved (texts_between items) (child_elements items) ≡ items) × AllElements (child_elements items)
    × (length (texts_between items) ≡ suc (length_all (child_elements items)))

-- Texts with elements, of which there is one fewer, are recovered from the children made of them.
abbrev pub PutsTogether : Type 0
PutsTogether = (texts : List (List ℕ)) (items : Roses Plain) → AllElements items → length texts ≡ suc (length_all items)
    → AreTidy (interleaved texts items) × (texts_between (interleaved texts items) ≡ texts) × (child_elements (interleaved texts items) ≡ items)
