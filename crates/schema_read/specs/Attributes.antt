-- The attributes that a schema document declares (XML Schema Part 1, sections 3.2.2 and 3.4.2).
use Rattle.std.specs.Prelude.{ℕ, Bool, true, false, ◌&&◌, not, List, [], ◌∷◌, ◌++◌, bytes_eq, codes, Option, Some, None, unwrap_or, if◌then◌else◌}
use Rattle.base_texts.specs.declared.texts.Name.{Name}
use Rattle.base_trees.specs.Rose.{Rose, roses_of, label_of, kids_of}
use Rattle.xml_items.specs.declared.label.ItemLabel.{ItemLabel}
use Rattle.xml_items.specs.declared.label.ItemLabel.TheVariants.{Element, Text}
use Rattle.simple_types.specs.declared.standards.Standard.{Standard}
use Rattle.simple_types.specs.declared.standards.Standard.TheVariants.{Free, Default, Fixed}
use Rattle.schema_components.specs.Raw.{Base, Use, Attribute}
use Rattle.base_texts.specs.Entries.{beside}
use Rattle.schema_syntax.specs.Attributes.{own_attributes}
use Rattle.schema_syntax.specs.Values.{qualifications}
use Rattle.schema_syntax.specs.Children.{is_in}
use Rattle.schema_syntax.specs.declared.children.ChildSet.TheVariants.{Attributes}
use Rattle.schema_read.specs.Names.{referred, value_or_empty, declared_name}
use Rattle.schema_read.specs.SimpleTypes.{declared_type}

-- The attribute is `qualified`, or it is absent and the default is.
abbrev pub is_qualified : List ℕ → List (List ℕ × List ℕ) → Bool → Bool
is_qualified name own default = elim (beside name own) [ None ↦ default | Some value ↦ unwrap_or (beside value qualifications) false ]

-- The name of a local declaration, which is in the target namespace if it is qualified.
abbrev pub local_name : List ℕ → Bool → List (List ℕ × List ℕ) → Name
local_name target default own =
    record { space = if is_qualified (codes "form") own default then target else []; local = value_or_empty (codes "name") own }

abbrev pub has_use : List ℕ → List (List ℕ × List ℕ) → Bool
has_use how own = elim (beside (codes "use") own) [ None ↦ false | Some value ↦ bytes_eq value how ]

-- The value constraint, with the text as written. A declaration without a fault has at most one of the attributes (section
-- 3.2.3).
abbrev pub fixed_of : List (List ℕ × List ℕ) → Standard
fixed_of own = elim (beside (codes "fixed") own) [ None ↦ Free | Some text ↦ Fixed text ]

abbrev pub standard_of : List (List ℕ × List ℕ) → Standard
standard_of own = elim (beside (codes "default") own) [ None ↦ fixed_of own | Some text ↦ Default text ]

abbrev pub use_to : Name → List (List ℕ × List ℕ) → ℕ → Use
use_to name own at =
    record { name = name; reference = true; kind = None; standard = standard_of own; required = has_use (codes "required") own; at = at }

abbrev pub own_use : Name → Base → List (List ℕ × List ℕ) → ℕ → Use
own_use name kind own at =
    record { name = name; reference = false; kind = Some kind; standard = standard_of own; required = has_use (codes "required") own; at = at }

-- The attribute use: a reference, or a declaration of its own.
abbrev pub use_by : List ℕ → Bool → ℕ → List (List ℕ × List ℕ) → List (List ℕ × List ℕ) → List (Rose ItemLabel) → Use
use_by target default at scope own kids = elim (beside (codes "ref") own) [
  | None ↦ own_use (local_name target default own) (declared_type scope own (roses_of kids)) own at
  | Some text ↦ use_to (referred scope text) own at
]

-- The attribute use, unless it is prohibited.
abbrev pub use_at : List ℕ → Bool → List (List ℕ × List ℕ) → ItemLabel → List (Rose ItemLabel) → Option Use
use_at target default outer (Element name attributes declares at) kids =
    if is_in Attributes (Element name attributes declares at) && not (has_use (codes "prohibited") (own_attributes attributes))
    then Some (use_by target default at (declares ++ outer) (own_attributes attributes) kids)
    else None
use_at target default outer (Text text at) kids = None

abbrev pub and_use : Option Use → List Use → List Use
and_use None uses = uses
and_use (Some first) uses = first ∷ uses

-- The attributes that these declare, in their order.
abbrev pub uses_among : List ℕ → Bool → List (List ℕ × List ℕ) → List (Rose ItemLabel) → List Use
uses_among target default scope [] = []
uses_among target default scope (t ∷ ts) = and_use (use_at target default scope (label_of t) (kids_of t)) (uses_among target default scope ts)

abbrev pub attribute_by : List ℕ → ℕ → List (List ℕ × List ℕ) → List (List ℕ × List ℕ) → List (Rose ItemLabel) → Attribute
attribute_by target at scope own kids =
    record { name = declared_name target own; kind = declared_type scope own (roses_of kids); standard = standard_of own; at = at }

-- A global attribute declaration.
abbrev pub global_attribute : List ℕ → List (List ℕ × List ℕ) → ItemLabel → List (Rose ItemLabel) → Option Attribute
global_attribute target outer (Element name attributes declares at) kids = Some (attribute_by target at (declares ++ outer) (own_attributes attributes) kids)
global_attribute target outer (Text text at) kids = None
