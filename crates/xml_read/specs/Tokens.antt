-- A tree of items as tokens from left to right: the starts and ends of its elements, and its texts.
use Rattle.std.specs.Prelude.{ℕ, ◌+◌, ◌≤◌, ◌<◌, List, [], ◌∷◌, ◌++◌}
use Rattle.base_texts.specs.declared.texts.Name.{Name}
use Rattle.base_trees.specs.Rose.{Rose, node, Roses, none, more}
use Rattle.xml_items.specs.declared.label.ItemLabel.{ItemLabel}
use Rattle.xml_items.specs.declared.label.ItemLabel.TheVariants.{Element, Text}

pub data Token : Type 0 where
  Opens : Name → List (Name × List ℕ) → List (List ℕ × List ℕ) → ℕ → Token
  Closes : Token
  Words : List ℕ → ℕ → Token

abbrev mutual
  pub tokens : Rose ItemLabel → List Token
  tokens (node (Element name attributes declares at) kids) = Opens name attributes declares at ∷ (tokens_all kids ++ Closes ∷ [])
  tokens (node (Text text at) kids) = Words text at ∷ tokens_all kids

  pub tokens_all : Roses ItemLabel → List Token
  tokens_all none = []
  tokens_all (more t ts) = tokens t ++ tokens_all ts

-- Characters before these tokens. With a text that follows they make one text, at their own place. No characters make no text.
abbrev pub join : List ℕ → ℕ → List Token → List Token
join [] at ts = ts
join (b ∷ bs) at [] = Words (b ∷ bs) at ∷ []
join (b ∷ bs) at (Words text place ∷ ts) = Words ((b ∷ bs) ++ text) at ∷ ts
join (b ∷ bs) at (Opens name attributes declares place ∷ ts) = Words (b ∷ bs) at ∷ Opens name attributes declares place ∷ ts
join (b ∷ bs) at (Closes ∷ ts) = Words (b ∷ bs) at ∷ Closes ∷ ts

-- The places ascend from `least` and are below the bound. The next place after an element's is at least 2 greater.
abbrev pub Ascend : ℕ → ℕ → List Token → Type 0
Ascend least bound [] = Unit {0}
Ascend least bound (Opens name attributes declares at ∷ ts) = (least ≤ at) × (at < bound) × Ascend (at + 2) bound ts
Ascend least bound (Closes ∷ ts) = Ascend least bound ts
Ascend least bound (Words text at ∷ ts) = (least ≤ at) × (at < bound) × Ascend (at + 1) bound ts
