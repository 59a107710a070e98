-- The children that a rule counts or requires.
use Rattle.std.specs.Prelude.{ℕ, Bool, false, ◌&&◌, List, [], ◌∷◌, bytes_eq, codes, count_by}
use Rattle.std.specs.List.{list_any}
use Rattle.base_trees.specs.Rose.{Rose, label_of}
use Rattle.xml_items.specs.declared.label.ItemLabel.{ItemLabel}
use Rattle.xml_items.specs.declared.label.ItemLabel.TheVariants.{Element, Text}
use Rattle.schema_syntax.specs.Elements.{is_schema_name}
use Rattle.schema_syntax.specs.declared.children.ChildSet.{ChildSet}
use Rattle.schema_syntax.specs.declared.children.ChildSet.TheVariants.{Types, SimpleTypes, Varieties, Derivations, Particles, TakenParticles, Attributes, Enumerations}

-- The names of the elements in a set, including unsupported ones that replace supported ones.
abbrev pub names_in : ChildSet → List (List ℕ)
names_in Types = codes "simpleType" ∷ codes "complexType" ∷ []
names_in SimpleTypes = codes "simpleType" ∷ []
names_in Varieties = codes "restriction" ∷ codes "list" ∷ codes "union" ∷ []
names_in Derivations = codes "extension" ∷ codes "restriction" ∷ []
names_in Particles = codes "element" ∷ codes "sequence" ∷ codes "choice" ∷ codes "any" ∷ codes "group" ∷ codes "all" ∷ []
names_in TakenParticles = codes "element" ∷ codes "sequence" ∷ codes "choice" ∷ codes "all" ∷ []
names_in Attributes = codes "attribute" ∷ []
names_in Enumerations = codes "enumeration" ∷ []

abbrev pub is_in : ChildSet → ItemLabel → Bool
is_in set (Element name attributes declares at) = is_schema_name name && list_any (bytes_eq name.local) (names_in set)
is_in set (Text text at) = false

abbrev pub has_child : ChildSet → List (Rose ItemLabel) → Bool
has_child set kids = list_any (λ kid. is_in set (label_of kid)) kids

abbrev pub child_count : ChildSet → List (Rose ItemLabel) → ℕ
child_count set kids = count_by (λ kid. is_in set (label_of kid)) kids
