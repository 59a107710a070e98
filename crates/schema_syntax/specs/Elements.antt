-- The elements of schema documents and where they may appear (XML Schema Part 1, section 3, and Part 2, section 4.3).
use Rattle.std.specs.Prelude.{ℕ, Bool, true, false, ◌&&◌, not, List, [], ◌∷◌, bytes_eq, codes, Option, Some, None, if◌then◌else◌}
use Rattle.std.specs.List.{list_any}
use Rattle.std.specs.Option.{option_or}
use Rattle.base_texts.specs.Entries.{beside}
use Rattle.base_texts.specs.Namespaces.{schema_space}
use Rattle.base_texts.specs.declared.texts.Name.{Name}
use Rattle.schema_syntax.specs.declared.why.SchemaWhy.{SchemaWhy}
use Rattle.schema_syntax.specs.declared.why.SchemaWhy.TheVariants as why
use Rattle.schema_syntax.specs.declared.roles.ElementRole.{ElementRole}
use Rattle.schema_syntax.specs.declared.roles.ElementRole.TheVariants.{Schema, Composition, GlobalElement, LocalElement, GlobalAttribute, LocalAttribute, GlobalSimpleType, InnerSimpleType, Restriction, List as ListRole, Union, Facet, GlobalComplexType, InnerComplexType, SimpleContent, Extension, Sequence, Choice, All, AllElement}
use Rattle.schema_syntax.specs.declared.roles.Position.{Position}
use Rattle.schema_syntax.specs.declared.roles.Position.TheVariants.{Anywhere, First, Alone}
use Rattle.schema_syntax.specs.declared.roles.Part.{Part}
use Rattle.schema_syntax.specs.declared.elements.Placement.{Placement}
use Rattle.schema_syntax.specs.declared.elements.Placement.TheVariants.{Skipped, Refused, Placed}

-- ---- names

-- The elements that this profile does not support, each with its reason.
abbrev pub left_out_elements : List (List ℕ × SchemaWhy)
left_out_elements =
    (codes "any", why.Wildcard) ∷ (codes "anyAttribute", why.Wildcard) ∷ (codes "redefine", why.Redefine) ∷ (codes "notation", why.NotationElement)
    ∷ (codes "key", why.IdentityConstraint) ∷ (codes "keyref", why.IdentityConstraint) ∷ (codes "unique", why.IdentityConstraint)
    ∷ (codes "group", why.Group) ∷ (codes "attributeGroup", why.Group) ∷ (codes "complexContent", why.ComplexContent)
    ∷ (codes "pattern", why.Pattern) ∷ (codes "totalDigits", why.TotalDigits) ∷ (codes "fractionDigits", why.FractionDigits) ∷ []

-- The elements that it does not support in one parent only.
abbrev pub left_out_there : ElementRole → List (List ℕ × SchemaWhy)
left_out_there SimpleContent = (codes "restriction", why.SimpleContentRestriction) ∷ []
left_out_there _ = []

abbrev pub left_out : ElementRole → List ℕ → Option SchemaWhy
left_out parent name = option_or (beside name (left_out_there parent)) (beside name left_out_elements)

-- The other elements, except `annotation`.
abbrev pub element_names : List (List ℕ)
element_names =
    codes "schema" ∷ codes "include" ∷ codes "import" ∷ codes "element" ∷ codes "attribute" ∷ codes "simpleType" ∷ codes "restriction" ∷ codes "list"
    ∷ codes "union" ∷ codes "length" ∷ codes "minLength" ∷ codes "maxLength" ∷ codes "minInclusive" ∷ codes "maxInclusive" ∷ codes "minExclusive"
    ∷ codes "maxExclusive" ∷ codes "enumeration" ∷ codes "whiteSpace" ∷ codes "complexType" ∷ codes "simpleContent" ∷ codes "extension"
    ∷ codes "sequence" ∷ codes "choice" ∷ codes "all" ∷ []

-- ---- places

-- The role of a child in its parent, and where it may appear among the children.
abbrev pub part : ElementRole → Position → Part
part role position = record { role = role; position = position }

abbrev pub schema_children : List (List ℕ × Part)
schema_children =
    (codes "include", part Composition Anywhere) ∷ (codes "import", part Composition Anywhere) ∷ (codes "element", part GlobalElement Anywhere)
    ∷ (codes "attribute", part GlobalAttribute Anywhere) ∷ (codes "simpleType", part GlobalSimpleType Anywhere) ∷ (codes "complexType", part GlobalComplexType Anywhere) ∷ []

abbrev pub element_children : List (List ℕ × Part)
element_children = (codes "simpleType", part InnerSimpleType Alone) ∷ (codes "complexType", part InnerComplexType Alone) ∷ []

abbrev pub attribute_children : List (List ℕ × Part)
attribute_children = (codes "simpleType", part InnerSimpleType Alone) ∷ []

abbrev pub simple_type_children : List (List ℕ × Part)
simple_type_children = (codes "restriction", part Restriction Alone) ∷ (codes "list", part ListRole Alone) ∷ (codes "union", part Union Alone) ∷ []

abbrev pub restriction_children : List (List ℕ × Part)
restriction_children =
    (codes "simpleType", part InnerSimpleType First) ∷ (codes "length", part Facet Anywhere) ∷ (codes "minLength", part Facet Anywhere) ∷ (codes "maxLength", part Facet Anywhere)
    ∷ (codes "minInclusive", part Facet Anywhere) ∷ (codes "maxInclusive", part Facet Anywhere) ∷ (codes "minExclusive", part Facet Anywhere)
    ∷ (codes "maxExclusive", part Facet Anywhere) ∷ (codes "enumeration", part Facet Anywhere) ∷ (codes "whiteSpace", part Facet Anywhere) ∷ []

abbrev pub union_children : List (List ℕ × Part)
union_children = (codes "simpleType", part InnerSimpleType Anywhere) ∷ []

abbrev pub complex_type_children : List (List ℕ × Part)
complex_type_children =
    (codes "simpleContent", part SimpleContent Alone) ∷ (codes "sequence", part Sequence First) ∷ (codes "choice", part Choice First) ∷ (codes "all", part All First) ∷ (codes "attribute", part LocalAttribute Anywhere) ∷ []

abbrev pub simple_content_children : List (List ℕ × Part)
simple_content_children = (codes "extension", part Extension Alone) ∷ []

abbrev pub extension_children : List (List ℕ × Part)
extension_children = (codes "attribute", part LocalAttribute Anywhere) ∷ []

abbrev pub group_children : List (List ℕ × Part)
group_children = (codes "element", part LocalElement Anywhere) ∷ (codes "sequence", part Sequence Anywhere) ∷ (codes "choice", part Choice Anywhere) ∷ []

-- An `all` has elements only (Part 1, section 3.8.2).
abbrev pub all_children : List (List ℕ × Part)
all_children = (codes "element", part AllElement Anywhere) ∷ []

abbrev pub children : ElementRole → List (List ℕ × Part)
children Schema = schema_children
children Composition = []
children GlobalElement = element_children
children LocalElement = element_children
children AllElement = element_children
children GlobalAttribute = attribute_children
children LocalAttribute = attribute_children
children GlobalSimpleType = simple_type_children
children InnerSimpleType = simple_type_children
children Restriction = restriction_children
children ListRole = attribute_children
children Union = union_children
children Facet = []
children GlobalComplexType = complex_type_children
children InnerComplexType = complex_type_children
children SimpleContent = simple_content_children
children Extension = extension_children
children Sequence = group_children
children Choice = group_children
children All = all_children

-- An element of this position may follow the one before, if there is one.
abbrev pub may_stand : Option Position → Position → Bool
may_stand None position = true
may_stand (Some Alone) position = false
may_stand (Some before) Anywhere = true
may_stand (Some before) position = false

-- ---- the placement of an element

abbrev pub placed : Option Position → Option Part → Placement
placed before None = Refused why.Misplaced
placed before (Some found) = if may_stand before found.position then Placed found else Refused why.Misplaced

abbrev pub refused_or : Option SchemaWhy → Placement → Placement
refused_or None otherwise = otherwise
refused_or (Some reason) otherwise = Refused reason

-- The reasons against an element of the schema namespace by its name and its place, in their order.
abbrev pub placement_of : ElementRole → Option Position → List ℕ → Placement
placement_of parent before name =
    refused_or (left_out parent name)
    (if list_any (bytes_eq name) element_names then placed before (beside name (children parent)) else Refused why.UnknownElement)

abbrev pub is_schema_name : Name → Bool
is_schema_name name = bytes_eq name.space schema_space

-- An annotation may appear anywhere.
abbrev pub placement : ElementRole → Option Position → Name → Placement
placement parent before name =
    if not (is_schema_name name) then Refused why.UnknownElement
    else if bytes_eq name.local (codes "annotation") then Skipped
    else placement_of parent before name.local

-- ---- counted elements

abbrev pub counted_names : List (List ℕ)
counted_names = codes "element" ∷ codes "attribute" ∷ codes "simpleType" ∷ codes "complexType" ∷ codes "sequence" ∷ codes "choice" ∷ codes "all" ∷ []

abbrev pub is_counted : Name → Bool
is_counted name = is_schema_name name && list_any (bytes_eq name.local) counted_names

abbrev pub skipped_names : List (List ℕ)
skipped_names = codes "annotation" ∷ codes "include" ∷ codes "import" ∷ []

abbrev pub is_looked_into : Name → Bool
is_looked_into name = not (list_any (bytes_eq name.local) skipped_names)
