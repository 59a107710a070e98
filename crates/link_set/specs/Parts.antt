-- The set that the code's parts represent.
use Rattle.std.specs.Prelude.{IfSome}
use Rattle.base_trees.specs.Rose.{Allowed}
use Rattle.content_models.specs.Kids.{MayHave}
use Rattle.schema_components.specs.Components.{components, model_of}
use Rattle.schema_components.specs.declared.components.ComplexDef.{ComplexDef}
use Rattle.link_set.specs.Sets.{SetParts, parts_of}
use Rattle.link_set.specs.declared.parts.SetParts.{SetParts as KeptParts}

abbrev pub parts_made : KeptParts → SetParts
parts_made p = parts_of (components p.elements.items p.globals p.simples.items p.complexes.items p.attributes.items)

-- If there is a content model, each choice in it has an alternative, each `all` a particle, and an element has no children.
abbrev pub HasWholeModel : ComplexDef → Type 0
HasWholeModel c = IfSome (model_of c.content) (Allowed MayHave)
