-- The number of elements in a tree.
use Rattle.std.specs.Prelude.{ℕ, suc, ◌+◌}
use Rattle.base_trees.specs.Rose.{Rose, node, Roses, none, more}
use Rattle.xml_items.specs.declared.label.ItemLabel.{ItemLabel}
use Rattle.xml_items.specs.declared.label.ItemLabel.TheVariants.{Element, Text}

-- The number of elements, including the root. A text counts as none.
abbrev mutual
  pub element_count : Rose ItemLabel → ℕ
  element_count (node (Element name attributes declares at) ts) = suc (elements_in ts)
  element_count (node (Text words at) ts) = 0

  pub elements_in : Roses ItemLabel → ℕ
  elements_in none = 0
  elements_in (more t ts) = element_count t + elements_in ts
