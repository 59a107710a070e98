-- The reasons against an element whose name may appear in its place, in their order.
use Rattle.std.specs.Prelude.{◌==◌, ℕ, Bool, true, false, ◌||◌, ◌&&◌, not, nat_le, List, [], ◌∷◌, codes, Option, Some, None, unwrap_or, if◌then◌else◌}
use Rattle.std.specs.List.{list_any}
use Rattle.std.specs.Option.{option_or}
use Rattle.base_texts.specs.Entries.{beside, first_true}
use Rattle.base_texts.specs.WhiteSpace.{is_blank, words_of}
use Rattle.base_trees.specs.Rose.{Rose, label_of}
use Rattle.simple_types.specs.Lexical.{boolean_of}
use Rattle.xml_items.specs.declared.label.ItemLabel.{ItemLabel}
use Rattle.xml_items.specs.declared.label.ItemLabel.TheVariants.{Element, Text}
use Rattle.schema_syntax.specs.Attributes.{has, has_unknown, own_attributes}
use Rattle.schema_syntax.specs.Values.{has_bad_value, least_of, never_occurs}
use Rattle.schema_syntax.specs.References.{TypeName, Known, LeftOut, Elsewhere, type_name}
use Rattle.schema_syntax.specs.Children.{is_in}
use Rattle.schema_faults.specs.Requirements.{lacks_required, has_both_forms, is_untyped}
use Rattle.schema_faults.specs.Limits.{is_over_limit}
use Rattle.schema_syntax.specs.declared.children.ChildSet.TheVariants.{Particles}
use Rattle.schema_syntax.specs.declared.roles.ElementRole.{ElementRole}
use Rattle.schema_syntax.specs.declared.roles.ElementRole.TheVariants.{GlobalElement, LocalElement, GlobalAttribute, LocalAttribute, Choice, All, AllElement}
use Rattle.schema_syntax.specs.declared.why.SchemaWhy.{SchemaWhy}
use Rattle.schema_syntax.specs.declared.why.SchemaWhy.TheVariants as why

abbrev pub is_element : ElementRole → Bool
is_element GlobalElement = true
is_element LocalElement = true
is_element AllElement = true
is_element role = false

abbrev pub is_attribute : ElementRole → Bool
is_attribute GlobalAttribute = true
is_attribute LocalAttribute = true
is_attribute role = false

abbrev pub is_all : ElementRole → Bool
is_all All = true
is_all role = false

abbrev pub is_choice : ElementRole → Bool
is_choice Choice = true
is_choice role = false

-- ---- attributes that are not supported

abbrev pub is_true : List ℕ → List (List ℕ × List ℕ) → Bool
is_true name own = elim (beside name own) [ None ↦ false | Some value ↦ unwrap_or (boolean_of value) false ]

abbrev pub has_default : List (List ℕ × List ℕ) → Bool
has_default own = has (codes "default") own || has (codes "fixed") own

abbrev pub left_out_attributes : ElementRole → List (List ℕ × List ℕ) → List (Bool × SchemaWhy)
left_out_attributes role own =
    (has (codes "substitutionGroup") own, why.SubstitutionGroup)
    ∷ (is_true (codes "abstract") own, why.Abstract)
    ∷ (is_element role && has_default own, why.ElementDefault)
    ∷ (is_all role && (least_of own == 0), why.OptionalAll)
    ∷ []

-- ---- datatypes that are not supported

abbrev pub only_left_out : Option TypeName → Option SchemaWhy
only_left_out None = None
only_left_out (Some (Known datatype)) = None
only_left_out (Some (LeftOut reason)) = Some reason
only_left_out (Some (Elsewhere name)) = None

abbrev pub left_out_type : List (List ℕ × List ℕ) → List ℕ → Option SchemaWhy
left_out_type scope text = only_left_out (type_name scope text)

-- The place of a datatype's reason among those of datatypes.
abbrev pub rank : SchemaWhy → ℕ
rank why.Decimal = 1
rank why.Float = 2
rank why.Double = 3
rank why.Duration = 4
rank why.DateTime = 5
rank why.Time = 6
rank why.Date = 7
rank why.GYearMonth = 8
rank why.GYear = 9
rank why.GMonthDay = 10
rank why.GDay = 11
rank why.GMonth = 12
rank why.HexBinary = 13
rank why.Base64Binary = 14
rank why.QName = 15
rank why.NOTATION = 16
rank why.ID = 17
rank why.IDREF = 18
rank why.IDREFS = 19
rank why.ENTITY = 20
rank why.ENTITIES = 21
rank why.AnySimpleType = 22
rank why.AnyType = 23
rank reason = 0

abbrev pub earlier : Option SchemaWhy → Option SchemaWhy → Option SchemaWhy
earlier None b = b
earlier (Some x) None = Some x
earlier (Some x) (Some y) = if nat_le (rank x) (rank y) then Some x else Some y

-- The first in the order of the reasons, among the one found so far and those of the names.
abbrev pub earliest : Option SchemaWhy → List (List ℕ × List ℕ) → List (List ℕ) → Option SchemaWhy
earliest found scope [] = found
earliest found scope (word ∷ words) = earliest (earlier found (left_out_type scope word)) scope words

-- The first reason of the names that the attribute's value lists, or of the single name that it is.
abbrev pub left_out_value : List ℕ → List (List ℕ × List ℕ) → List (List ℕ × List ℕ) → Option SchemaWhy
left_out_value name scope own = elim (beside name own) [ None ↦ None | Some value ↦ earliest None scope (words_of value) ]

-- The reason of the datatypes that an element refers to. No element has two of these attributes.
unfoldable pub left_out_reference : List (List ℕ × List ℕ) → List (List ℕ × List ℕ) → Option SchemaWhy
left_out_reference scope own =
    option_or (option_or (option_or (left_out_value (codes "type") scope own) (left_out_value (codes "base") scope own))
    (left_out_value (codes "itemType") scope own)) (left_out_value (codes "memberTypes") scope own)

-- A declaration without a type has the type that all others are derived from (Part 1, sections 3.2.2 and 3.3.2).
abbrev pub untyped : ElementRole → List (List ℕ × List ℕ) → List (Rose ItemLabel) → Option SchemaWhy
untyped role own kids = first_true
    ((is_element role && is_untyped role own kids, why.AnyType) ∷ (is_attribute role && is_untyped role own kids, why.AnySimpleType) ∷ [])

-- ---- choices

-- The item is a particle that isn't dropped (Part 1, section 3.9.6).
abbrev pub occurs : ItemLabel → Bool
occurs (Element name attributes declares at) = is_in Particles (Element name attributes declares at) && not (never_occurs (own_attributes attributes))
occurs (Text text at) = false

abbrev pub is_empty_choice : ElementRole → List (List ℕ × List ℕ) → List (Rose ItemLabel) → Bool
is_empty_choice role own kids = is_choice role && not (never_occurs own) && not (list_any (λ kid. occurs (label_of kid)) kids)

-- ---- all of them

abbrev pub early_tests : ElementRole → List (List ℕ × List ℕ) → ℕ → List (List ℕ × List ℕ) → List (Rose ItemLabel) → List (Bool × SchemaWhy)
early_tests role scope level own kids =
    (has_unknown role own, why.UnknownAttribute)
    ∷ (lacks_required role own kids, why.MissingAttribute)
    ∷ (has_bad_value role scope own, why.BadValue)
    ∷ (is_over_limit role level own kids, why.Limit)
    ∷ left_out_attributes role own

abbrev pub late_tests : ElementRole → List (List ℕ × List ℕ) → List (Rose ItemLabel) → List (Bool × SchemaWhy)
late_tests role own kids = (has_both_forms role own kids, why.BothForms) ∷ (is_empty_choice role own kids, why.EmptyChoice) ∷ []

unfoldable pub reason_against : ElementRole → List (List ℕ × List ℕ) → ℕ → List (List ℕ × List ℕ) → List (Rose ItemLabel) → Option SchemaWhy
reason_against role scope level own kids =
    option_or (option_or (option_or (first_true (early_tests role scope level own kids)) (left_out_reference scope own)) (untyped role own kids))
    (first_true (late_tests role own kids))

-- A text between elements may consist of white space only (Part 1, section 2.1).
abbrev pub reason_against_text : List ℕ → Option SchemaWhy
reason_against_text text = if is_blank text then None else Some why.Misplaced
