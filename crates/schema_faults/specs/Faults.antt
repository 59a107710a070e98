-- The nodes of a schema document that are checked, with the first reason against each.
use Rattle.std.specs.Prelude.{ℕ, Bool, true, false, ◌&&◌, List, [], ◌∷◌, ◌++◌, bytes_eq, codes, Option, Some, None}
use Rattle.base_texts.specs.declared.texts.Name.{Name}
use Rattle.base_texts.specs.Namespaces.{xml_prefix, xml_space}
use Rattle.base_trees.specs.Rose.{Rose, node, Roses, none, more, label_of, list_of}
use Rattle.xml_items.specs.Labels.{item_place}
use Rattle.xml_items.specs.declared.label.ItemLabel.{ItemLabel}
use Rattle.xml_items.specs.declared.label.ItemLabel.TheVariants.{Element, Text}
use Rattle.schema_syntax.specs.Elements.{is_schema_name, placement}
use Rattle.schema_syntax.specs.Attributes.{own_attributes}
use Rattle.schema_faults.specs.Limits.{level_inside}
use Rattle.schema_faults.specs.Reasons.{reason_against, reason_against_text}
use Rattle.schema_syntax.specs.declared.elements.Placement.{Placement}
use Rattle.schema_syntax.specs.declared.elements.Placement.TheVariants.{Skipped, Refused, Placed}
use Rattle.schema_syntax.specs.declared.roles.ElementRole.{ElementRole}
use Rattle.schema_syntax.specs.declared.roles.ElementRole.TheVariants.{Schema, Composition}
use Rattle.schema_syntax.specs.declared.roles.Position.{Position}
use Rattle.schema_syntax.specs.declared.why.SchemaWhy.{SchemaWhy}
use Rattle.schema_syntax.specs.declared.why.SchemaWhy.TheVariants as why
use Rattle.schema_faults.specs.declared.faults.DocumentFault.{DocumentFault}

-- A node that is checked: its place, and the first reason against it, if there is one.
abbrev pub LookedAt : Type 0
LookedAt = ℕ × Option SchemaWhy

abbrev pub fault_if : ℕ → Option SchemaWhy → Option DocumentFault
fault_if at None = None
fault_if at (Some reason) = Some (record { at = at; why = reason })

abbrev pub is_composition : ElementRole → Bool
is_composition Composition = true
is_composition role = false

-- The content of `include` and `import` isn't checked.
abbrev pub unless_composition : ElementRole → List LookedAt → List LookedAt
unless_composition Composition inside = []
unless_composition role inside = inside

-- The position of the nearest element up to a node that has this placement.
abbrev pub placed_behind : Option Position → Placement → Option Position
placed_behind before Skipped = before
placed_behind before (Refused reason) = before
placed_behind before (Placed part) = Some part.position

abbrev pub position_behind : ElementRole → Option Position → ItemLabel → Option Position
position_behind parent before (Text text at) = before
position_behind parent before (Element name attributes declares at) = placed_behind before (placement parent before name)

abbrev pub own_reason : ElementRole → List (List ℕ × List ℕ) → ℕ → List (Name × List ℕ) → List (Rose ItemLabel) → Option SchemaWhy
own_reason role scope level attributes kids = reason_against role scope level (own_attributes attributes) kids

-- The node itself and its content, if it may appear there; only the reason against it, if it may not.
abbrev pub placed_at : ℕ → Placement → (ElementRole → List LookedAt) → List LookedAt
placed_at at Skipped inside = []
placed_at at (Refused reason) inside = (at, Some reason) ∷ []
placed_at at (Placed part) inside = inside part.role

abbrev mutual
  -- An element of this role, with its bindings and those around it: the element itself, and then its content in preorder.
  pub reasons_of : ElementRole → List (List ℕ × List ℕ) → ℕ → Rose ItemLabel → List LookedAt
  reasons_of role outer level (node (Text text at) kids) = []
  reasons_of role outer level (node (Element name attributes declares at) kids) =
      (at, own_reason role (declares ++ outer) level attributes (list_of kids))
      ∷ unless_composition role (reasons_among role None (declares ++ outer) (level_inside role level) kids)

  -- A node in a parent of this role, after an element of position `before`, if there is one.
  pub reasons_at : ElementRole → Option Position → List (List ℕ × List ℕ) → ℕ → Rose ItemLabel → List LookedAt
  reasons_at parent before outer level (node (Text text at) kids) = (at, reason_against_text text) ∷ []
  reasons_at parent before outer level (node (Element name attributes declares at) kids) =
      placed_at at (placement parent before name) (λ role.
      (at, own_reason role (declares ++ outer) level attributes (list_of kids))
      ∷ unless_composition role (reasons_among role None (declares ++ outer) (level_inside role level) kids))

  pub reasons_among : ElementRole → Option Position → List (List ℕ × List ℕ) → ℕ → Roses ItemLabel → List LookedAt
  reasons_among parent before scope level none = []
  reasons_among parent before scope level (more t ts) =
      reasons_at parent before scope level t ++ reasons_among parent (position_behind parent before (label_of t)) scope level ts

abbrev pub is_schema : ItemLabel → Bool
is_schema (Element name attributes declares at) = is_schema_name name && bytes_eq name.local (codes "schema")
is_schema (Text text at) = false

-- Outside the root only `xml` is bound.
abbrev pub outside : List (List ℕ × List ℕ)
outside = (xml_prefix, xml_space) ∷ []

-- All nodes of the document that are checked.
abbrev pub reasons : Rose ItemLabel → List LookedAt
reasons root = elim (is_schema (label_of root)) [ true ↦ reasons_of Schema outside 0 root | false ↦ (item_place (label_of root), Some why.NotASchema) ∷ [] ]

-- The first node that has a reason against it, with the first such reason.
abbrev pub first_fault : List LookedAt → Option DocumentFault
first_fault [] = None
first_fault (s ∷ seen) = elim s.1 [ None ↦ first_fault seen | Some reason ↦ Some (record { at = s.0; why = reason }) ]
