-- The map of a linked set is printable, with encoding instructions and without.
use Rattle.std.specs.Prelude.{List, All}
use Rattle.base_trees.specs.Rose.{Rose, node, Roses, none, more}
use Rattle.schema_components.specs.Components.{Set}
use Rattle.schema_components.specs.Linked.{IsLinked}
use Rattle.asn_types.specs.declared.types.Component.{Component}
use Rattle.asn_types.specs.declared.types.TypeLabel.{TypeLabel}
use Rattle.asn_types.specs.declared.modules.Assignment.{Assignment}
use Rattle.asn_types.specs.Parts.{parts_of}
use Rattle.map_assignments.specs.Mapped.{IsMapOf}
use Rattle.map_laws.specs.Widths.{HasWidths}
use Rattle.module_print.specs.Names.{HasOctets, IsNotation}
use Rattle.module_text.specs.Printable.{IsPrintable}

-- The map of a linked set within the widths of numbers is printable.
abbrev pub MapsArePrintable : Type 0
MapsArePrintable = (s : Set) (M : List Assignment) → IsLinked s → HasWidths s → IsMapOf s M → IsPrintable M

-- Every fixed value in a type consists of octets, which the types of the code imply.
abbrev mutual
  pub HasFixedOctets : Rose TypeLabel → Type 0
  HasFixedOctets (node l ts) = All (λ (part : Component). HasOctets part.standard) (parts_of l.form) × HaveFixedOctets ts

  pub HaveFixedOctets : Roses TypeLabel → Type 0
  HaveFixedOctets none = Unit {0}
  HaveFixedOctets (more t ts) = HasFixedOctets t × HaveFixedOctets ts

-- The same of every type in a module.
abbrev pub FixedAreOctets : List Assignment → Type 0
FixedAreOctets M = All (λ a. HasFixedOctets a.body) M

-- The names in the map of a linked set are those of ASN.1, so its print gives where each encoding instruction begins and ends.
abbrev pub MapsAreNotation : Type 0
MapsAreNotation = (s : Set) (M : List Assignment) → IsLinked s → IsMapOf s M → FixedAreOctets M → IsNotation M
