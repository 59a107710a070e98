-- What the names and the fixed values of a module must be, so that its print shows where each encoding instruction begins and ends.
-- Texts after DEFAULT and texts in instructions may be any, because they are in quotation marks.
use Rattle.std.specs.Prelude.{◌≡◌, ◌==◌, ℕ, ◌<◌, Bool, true, not, ◌&&◌, List, [], All}
use Rattle.std.specs.List.{list_all}
use Rattle.base_trees.specs.Rose.{Rose, node, Roses, none, more}
use Rattle.simple_types.specs.declared.standards.Standard.{Standard}
use Rattle.simple_types.specs.declared.standards.Standard.TheVariants.{Free, Default, Fixed}
use Rattle.asn_types.specs.declared.types.Component.{Component}
use Rattle.asn_types.specs.declared.types.Form.{Form}
use Rattle.asn_types.specs.declared.types.Form.TheVariants as form
use Rattle.asn_types.specs.declared.types.TypeLabel.{TypeLabel}
use Rattle.asn_types.specs.declared.modules.Assignment.{Assignment}
use Rattle.asn_types.specs.Parts.{parts_of}

-- The byte is neither a bracket nor a quotation mark.
abbrev pub is_free : ℕ → Bool
is_free b = not (b == 34) && not (b == 91) && not (b == 93)

-- A name has neither: its characters are letters, digits and hyphens (X.680, clauses 12.2 and 12.3).
abbrev pub IsFree : List ℕ → Type 0
IsFree name = list_all is_free name ≡ true

-- A fixed value consists of octets, each written as two hexadecimal digits.
abbrev pub HasOctets : Standard → Type 0
HasOctets Free = Unit {0}
HasOctets (Default text) = Unit {0}
HasOctets (Fixed text) = All (λ octet. octet < 256) text

-- What holds of a component, an alternative or an item.
abbrev pub IsNamed : Component → Type 0
IsNamed part = IsFree part.identifier × HasOctets part.standard

-- The identifiers of the items of an ENUMERATED, except those that represent numbers.
abbrev pub identifiers_of : Form → List (List ℕ)
identifiers_of (form.Words identifiers words) = identifiers
identifiers_of (form.Order identifiers) = identifiers
identifiers_of _ = []

abbrev mutual
  pub HasNames : Rose TypeLabel → Type 0
  HasNames (node l ts) = All IsFree (identifiers_of l.form) × All IsNamed (parts_of l.form) × HaveNames ts

  pub HaveNames : Roses TypeLabel → Type 0
  HaveNames none = Unit {0}
  HaveNames (more t ts) = HasNames t × HaveNames ts

abbrev pub IsNamedAssignment : Assignment → Type 0
IsNamedAssignment a = IsFree a.reference × HasNames a.body

abbrev pub IsNotation : List Assignment → Type 0
IsNotation M = All IsNamedAssignment M
