-- The attributes of an element: those of XML Schema for documents (XML Schema Part 1, section 2.6), and those that are declared.
use Rattle.std.specs.Prelude.{◌≡◌, ℕ, Bool, true, false, not, List, [], ◌∷◌, filter, Option, Some, None, Ok, Err, All, codes, if◌then◌else◌, ◌⊎◌, ◌&&◌, bytes_eq}
use Rattle.std.specs.List.{list_any, Any}
use Rattle.base_texts.specs.declared.texts.Name.{Name}
use Rattle.base_texts.specs.declared.white_space.WhiteSpace.TheVariants.{Collapse}
use Rattle.base_texts.specs.Names.{name_eq}
use Rattle.base_texts.specs.Namespaces.{xsi_space}
use Rattle.base_texts.specs.WhiteSpace.{treated}
use Rattle.base_trees.specs.Rose.{Rose}
use Rattle.simple_types.specs.declared.labels.ValueLabel.{ValueLabel}
use Rattle.simple_types.specs.Space.{Space}
use Rattle.simple_types.specs.declared.standards.Standard.{Standard}
use Rattle.simple_types.specs.declared.standards.Standard.TheVariants.{Free, Default, Fixed}
use Rattle.simple_types.specs.Lexical.{boolean_of}
use Rattle.simple_types.specs.Reading.{Wide, Bad, Reading, reads, spelled, Accepts}
use Rattle.xml_read.specs.Same.{value_of}
use Rattle.validity_rules.specs.Asked.{Attribute}
use Rattle.validity_rules.specs.declared.why.InvalidWhy.{InvalidWhy}
use Rattle.validity_rules.specs.declared.why.InvalidWhy.TheVariants.{UnknownAttribute, BadAttribute, TooWide}

-- ---- attributes that any element may have

abbrev pub xsi : List ℕ → Name
xsi local = record { space = xsi_space; local = local }

abbrev pub xsi_type : Name
xsi_type = xsi (codes "type")

abbrev pub xsi_nil : Name
xsi_nil = xsi (codes "nil")

-- They state where a schema may be found, and nothing about the element.
abbrev pub location_hints : List Name
location_hints = xsi (codes "schemaLocation") ∷ xsi (codes "noNamespaceSchemaLocation") ∷ []

abbrev pub is_special : Name → Bool
is_special name = list_any (name_eq name) (xsi_type ∷ xsi_nil ∷ location_hints)

-- The text of the attribute of this name, if it is present.
abbrev pub text_of : List (Name × List ℕ) → Name → Option (List ℕ)
text_of xs name = value_of name.space name.local xs

-- The other attributes, which must be declared.
abbrev pub left : List (Name × List ℕ) → List (Name × List ℕ)
left xs = filter (λ x. not (is_special x.0)) xs

-- ---- nil (section 3.3.4, 'Element Locally Valid (Element)', rule 3)

pub data Nil : Type 0 where
  not_nil is_nil bad_nil : Nil

-- What a boolean text states.
abbrev pub nil_from : Option Bool → Nil
nil_from None = bad_nil
nil_from (Some true) = is_nil
nil_from (Some false) = not_nil

abbrev pub nil_by : Bool → Option (List ℕ) → Nil
nil_by nillable None = not_nil
nil_by true (Some text) = nil_from (boolean_of (treated Collapse text))
nil_by false (Some text) = bad_nil

abbrev pub nil_of : Bool → List (Name × List ℕ) → Nil
nil_of nillable xs = nil_by nillable (text_of xs xsi_nil)

-- ---- declared attributes (section 3.2.4, 'Attribute Locally Valid', and section 3.4.4, 'Element Locally Valid (Complex
-- Type)', rules 3 and 4)

abbrev pub declared : List Attribute → Name → Option Attribute
declared [] name = None
declared (a ∷ wanted) name = if name_eq a.name name then Some a else declared wanted name

-- Why a text isn't accepted. `bad` is the reason for Bad.
abbrev pub Refuses : Reading → InvalidWhy → InvalidWhy → Type 0
Refuses (Ok value) bad why = ⊥
Refuses (Err Bad) bad why = why ≡ bad
Refuses (Err Wide) bad why = why ≡ TooWide

-- The attribute has its fixed value, if it has one (section 3.5.4). Values are distinguished by their spellings.
abbrev pub IsFixedTo : Standard → List ℕ → Type 0
IsFixedTo Free text = Unit {0}
IsFixedTo (Default other) text = Unit {0}
IsFixedTo (Fixed other) text = text ≡ other

abbrev pub IsOtherThanFixed : Standard → List ℕ → Type 0
IsOtherThanFixed Free text = ⊥
IsOtherThanFixed (Default other) text = ⊥
IsOtherThanFixed (Fixed other) text = text ≡ other → ⊥

-- The attribute accepts the text: its type accepts it, and if the attribute has a fixed value, that is the value.
abbrev pub Takes : Attribute → List ℕ → Type 0
Takes a text = (value : Rose ValueLabel) × Accepts a.space text value × IsFixedTo a.standard (spelled a.space value)

-- Why the attribute doesn't accept the text.
abbrev pub Declines : Attribute → List ℕ → InvalidWhy → Type 0
Declines a text why =
    Refuses (reads a.space text) BadAttribute why
    ⊎ ((value : Rose ValueLabel) × Accepts a.space text value × IsOtherThanFixed a.standard (spelled a.space value) × (why ≡ BadAttribute))

-- The attribute is declared and accepts its text.
abbrev pub IsRight : List Attribute → Name × List ℕ → Type 0
IsRight wanted x = elim (declared wanted x.0) [ None ↦ ⊥ | Some a ↦ Takes a x.1 ]

abbrev pub IsWrong : List Attribute → InvalidWhy → Name × List ℕ → Type 0
IsWrong wanted why x = elim (declared wanted x.0) [ None ↦ why ≡ UnknownAttribute | Some a ↦ Declines a x.1 why ]

-- The first attribute that is wrong.
abbrev pub FirstWrong : List Attribute → InvalidWhy → List (Name × List ℕ) → Type 0
FirstWrong wanted why [] = ⊥
FirstWrong wanted why (x ∷ xs) = IsWrong wanted why x ⊎ (IsRight wanted x × FirstWrong wanted why xs)

abbrev pub Stands : List (Name × List ℕ) → Attribute → Type 0
Stands xs a = a.required ≡ true → text_of xs a.name ≡ None → ⊥

abbrev pub IsMissing : List (Name × List ℕ) → Attribute → Type 0
IsMissing xs a = (a.required ≡ true) × (text_of xs a.name ≡ None)

abbrev pub AllRight : List Attribute → List (Name × List ℕ) → Type 0
AllRight wanted xs = All (IsRight wanted) xs

abbrev pub AllStand : List Attribute → List (Name × List ℕ) → Type 0
AllStand wanted xs = All (Stands xs) wanted

abbrev pub OneMissing : List Attribute → List (Name × List ℕ) → Type 0
OneMissing wanted xs = Any (IsMissing xs) wanted

-- ---- treated attributes

abbrev pub spelled_read : Space → Reading → Option (List ℕ)
spelled_read space (Ok value) = Some (spelled space value)
spelled_read space (Err why) = None

-- The canonical spelling of the text, if it is present.
abbrev pub treated_text : Space → Option (List ℕ) → Option (List ℕ)
treated_text space None = None
treated_text space (Some text) = spelled_read space (reads space text)

abbrev pub put_attribute : Name → Option (List ℕ) → List (Name × List ℕ) → List (Name × List ℕ)
put_attribute name None others = others
put_attribute name (Some text) others = (name, text) ∷ others

-- The text is that of the value constraint.
abbrev pub has_spelling : Standard → List ℕ → Bool
has_spelling Free text = false
has_spelling (Default other) text = bytes_eq text other
has_spelling (Fixed other) text = bytes_eq text other

-- An attribute that may be absent is dropped if its value is the default or fixed one, which it has in any case.
abbrev pub unless_standard : Attribute → Option (List ℕ) → Option (List ℕ)
unless_standard a None = None
unless_standard a (Some text) = if not a.required && has_spelling a.standard text then None else Some text

abbrev pub treated_attribute : Attribute → List (Name × List ℕ) → Option (List ℕ)
treated_attribute a xs = unless_standard a (treated_text a.space (text_of xs a.name))

-- The attributes in the order of the declaration, in canonical spelling.
abbrev pub treated_attributes : List Attribute → List (Name × List ℕ) → List (Name × List ℕ)
treated_attributes [] xs = []
treated_attributes (a ∷ wanted) xs = put_attribute a.name (treated_attribute a xs) (treated_attributes wanted xs)

-- `xsi:nil` comes first, and appears only if it is true.
abbrev pub with_nil : Nil → List (Name × List ℕ) → List (Name × List ℕ)
with_nil is_nil xs = (xsi_nil, codes "true") ∷ xs
with_nil _ xs = xs
