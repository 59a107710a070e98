-- The attributes of elements of schema documents (XML Schema Part 1, section 3).
use Rattle.std.specs.Prelude.{ℕ, Bool, ◌||◌, not, List, [], ◌∷◌, bytes_eq, codes, if◌then◌else◌}
use Rattle.std.specs.List.{list_any}
use Rattle.std.specs.Option.{is_some}
use Rattle.base_texts.specs.Entries.{beside}
use Rattle.base_texts.specs.WhiteSpace.{treated}
use Rattle.base_texts.specs.declared.white_space.WhiteSpace.TheVariants.{Collapse}
use Rattle.base_texts.specs.declared.texts.Name.{Name}
use Rattle.base_texts.specs.Limits.{is_empty}
use Rattle.schema_syntax.specs.declared.roles.ElementRole.{ElementRole}
use Rattle.schema_syntax.specs.declared.roles.ElementRole.TheVariants.{Schema, Composition, GlobalElement, LocalElement, GlobalAttribute, LocalAttribute, GlobalSimpleType, InnerSimpleType, Restriction, List as ListRole, Union, Facet, GlobalComplexType, InnerComplexType, SimpleContent, Extension, Sequence, Choice, All, AllElement}

-- ---- values in use

-- The attributes whose values keep their white space: a facet's value (Part 2, section 4.3), and the texts of the type of a
-- declaration.
abbrev pub kept_as_written : List (List ℕ)
kept_as_written = codes "value" ∷ codes "default" ∷ codes "fixed" ∷ []

-- The value in use. The other attributes are of types whose facet `whiteSpace` is `collapse`.
abbrev pub in_use : List ℕ → List ℕ → List ℕ
in_use name value = if list_any (bytes_eq name) kept_as_written then value else treated Collapse value

-- The attributes without a namespace, each by its name with its value. Others have no meaning in a schema.
abbrev pub own_attributes : List (Name × List ℕ) → List (List ℕ × List ℕ)
own_attributes [] = []
own_attributes (a ∷ rest) = if is_empty a.0.space then (a.0.local, in_use a.0.local a.1) ∷ own_attributes rest else own_attributes rest

abbrev pub has : List ℕ → List (List ℕ × List ℕ) → Bool
has name own = is_some (beside name own)

-- ---- attributes that may appear

-- The attributes that every element may have, without effect here.
abbrev pub common_attributes : List (List ℕ)
common_attributes = codes "id" ∷ codes "version" ∷ codes "block" ∷ codes "final" ∷ codes "blockDefault" ∷ codes "finalDefault" ∷ []

abbrev pub global_element_attributes : List (List ℕ)
global_element_attributes =
    codes "name" ∷ codes "type" ∷ codes "nillable" ∷ codes "abstract" ∷ codes "substitutionGroup" ∷ codes "default" ∷ codes "fixed" ∷ []

abbrev pub local_element_attributes : List (List ℕ)
local_element_attributes =
    codes "name" ∷ codes "ref" ∷ codes "type" ∷ codes "nillable" ∷ codes "form" ∷ codes "minOccurs" ∷ codes "maxOccurs" ∷ codes "default" ∷ codes "fixed" ∷ []

abbrev pub local_attribute_attributes : List (List ℕ)
local_attribute_attributes = codes "name" ∷ codes "ref" ∷ codes "type" ∷ codes "use" ∷ codes "form" ∷ codes "default" ∷ codes "fixed" ∷ []

abbrev pub attributes_of : ElementRole → List (List ℕ)
attributes_of Schema = codes "targetNamespace" ∷ codes "elementFormDefault" ∷ codes "attributeFormDefault" ∷ []
attributes_of Composition = codes "schemaLocation" ∷ codes "namespace" ∷ []
attributes_of GlobalElement = global_element_attributes
attributes_of LocalElement = local_element_attributes
attributes_of AllElement = local_element_attributes
attributes_of GlobalAttribute = codes "name" ∷ codes "type" ∷ codes "default" ∷ codes "fixed" ∷ []
attributes_of LocalAttribute = local_attribute_attributes
attributes_of GlobalSimpleType = codes "name" ∷ []
attributes_of InnerSimpleType = []
attributes_of Restriction = codes "base" ∷ []
attributes_of ListRole = codes "itemType" ∷ []
attributes_of Union = codes "memberTypes" ∷ []
attributes_of Facet = codes "value" ∷ codes "fixed" ∷ []
attributes_of GlobalComplexType = codes "name" ∷ codes "mixed" ∷ codes "abstract" ∷ []
attributes_of InnerComplexType = codes "mixed" ∷ codes "abstract" ∷ []
attributes_of SimpleContent = []
attributes_of Extension = codes "base" ∷ []
attributes_of Sequence = codes "minOccurs" ∷ codes "maxOccurs" ∷ []
attributes_of Choice = codes "minOccurs" ∷ codes "maxOccurs" ∷ []
attributes_of All = codes "minOccurs" ∷ codes "maxOccurs" ∷ []

abbrev pub is_listed : ElementRole → List ℕ → Bool
is_listed role name = list_any (bytes_eq name) common_attributes || list_any (bytes_eq name) (attributes_of role)

abbrev pub has_unknown : ElementRole → List (List ℕ × List ℕ) → Bool
has_unknown role own = list_any (λ a. not (is_listed role a.0)) own
