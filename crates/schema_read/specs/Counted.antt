-- The places of the components that the limit of components counts, in the order written.
use Rattle.std.specs.Prelude.{ℕ, List, [], ◌∷◌, ◌++◌, if◌then◌else◌}
use Rattle.base_texts.specs.declared.texts.Name.{Name}
use Rattle.base_trees.specs.Rose.{Rose, node, Roses, none, more}
use Rattle.xml_items.specs.declared.label.ItemLabel.{ItemLabel}
use Rattle.xml_items.specs.declared.label.ItemLabel.TheVariants.{Element, Text}
use Rattle.schema_syntax.specs.Elements.{is_counted, is_looked_into}

abbrev pub counted_here : Name → ℕ → List ℕ
counted_here name at = if is_counted name then at ∷ [] else []

abbrev pub counted_inside : Name → List ℕ → List ℕ
counted_inside name inside = if is_looked_into name then inside else []

abbrev mutual
  pub counted_at : Rose ItemLabel → List ℕ
  counted_at (node (Text text at) kids) = []
  counted_at (node (Element name attributes declares at) kids) =
      counted_here name at ++ counted_inside name (counted_among kids)

  pub counted_among : Roses ItemLabel → List ℕ
  counted_among none = []
  counted_among (more t ts) = counted_at t ++ counted_among ts
