-- The values of a type (X.680), and the rules that exclude values that no document has.
use Rattle.std.specs.Prelude.{◌≡◌, ◌↔◌, ◌==◌, ℕ, suc, ◌+◌, ◌-◌, ◌≤◌, ◌&&◌, ◌||◌, Bool, true, false, not, nat_lt, nat_le, Option, Some, None, List, [], ◌∷◌, length, map, slice_get, replicate, if◌then◌else◌, MatchBool, IsUtf8}
use Rattle.std.specs.List.{Contains, IsDistinct}
use Rattle.std.specs.Option.{option_map}
use Rattle.base_trees.specs.Rose.{Rose, node, Roses, none, more, label_of, kids_of, roses_of, length_all, node_count}
use Rattle.base_texts.specs.WhiteSpace.{IsTreated}
use Rattle.simple_types.specs.Lexical.{is_128_bits, is_from, is_to, is_at_most}
use Rattle.simple_types.specs.Reading.{has_characters, Holds}
use Rattle.simple_types.specs.Sound.{Sound}
use Rattle.simple_types.specs.Space.{Space}
use Rattle.simple_types.specs.declared.standards.Standard.TheVariants.{Free, Default, Fixed}
use Rattle.simple_types.specs.declared.labels.ValueLabel.{ValueLabel}
use Rattle.simple_types.specs.declared.labels.ValueLabel.TheVariants as value
use Rattle.asn_types.specs.declared.marks.Instruction.{Instruction}
use Rattle.asn_types.specs.declared.modules.Assignment.{Assignment}
use Rattle.asn_types.specs.declared.roles.Role.{Role}
use Rattle.asn_types.specs.declared.roles.Role.TheVariants.{Element, Group, Content, Order}
use Rattle.asn_types.specs.declared.types.Component.{Component}
use Rattle.asn_types.specs.declared.types.Form.{Form}
use Rattle.asn_types.specs.declared.types.Form.TheVariants as form
use Rattle.asn_types.specs.declared.types.TypeLabel.{TypeLabel}
use Rattle.asn_types.specs.Marks.{has_embed_values, has_list, has_use_nil, has_use_order, has_use_union, white_space_of}
use Rattle.asn_types.specs.Modules.{ordered}
use Rattle.asn_types.specs.Parts.{parts_of}
use Rattle.asn_types.specs.Refs.{resolve, is_element}
use Rattle.asn_types.specs.Roles.{role_of}
use Rattle.asn_types.specs.Simples.{MapsTo}
use Rattle.asn_types.specs.Spaces.{spelling}

-- The place of a child of a value: the part, its role, and its type.
pub record ComponentPlace : Type 0 where
  pub role : Role
  pub part : Component
  pub type : Rose TypeLabel

abbrev pub place_of : TypeLabel → ℕ → Component → Rose TypeLabel → ComponentPlace
place_of l i part t = record { role = role_of l i part; part = part; type = t }

abbrev pub put_first : {A : Type 0} → A → Option (List A) → Option (List A)
put_first x None = None
put_first x (Some xs) = Some (x ∷ xs)

-- A SEQUENCE has a flag for each component, and a component without a value is optional (X.680, clause 25). These are the
-- places of those that are present, from the component with number i on.
abbrev pub present_from : TypeLabel → ℕ → List Component → List (Rose TypeLabel) → List Bool → Option (List ComponentPlace)
present_from l i [] ts [] = Some []
present_from l i (part ∷ parts) (t ∷ ts) (true ∷ flags) = put_first (place_of l i part t) (present_from l (i + 1) parts ts flags)
present_from l i (part ∷ parts) (t ∷ ts) (false ∷ flags) = if part.optional then present_from l (i + 1) parts ts flags else None
present_from _ _ _ _ _ = None

-- The place of the alternative, or of the items.
abbrev pub place_at : TypeLabel → ℕ → Option Component → Option (Rose TypeLabel) → Option ComponentPlace
place_at l i (Some part) (Some t) = Some (place_of l i part t)
place_at _ _ _ _ = None

abbrev pub alone : Option ComponentPlace → Option (List ComponentPlace)
alone None = None
alone (Some place) = Some (place ∷ [])

abbrev pub repeated : ℕ → Option ComponentPlace → Option (List ComponentPlace)
repeated n None = None
repeated n (Some place) = Some (replicate n place)

abbrev pub none_if : Bool → Option (List ComponentPlace)
none_if holds = if holds then Some [] else None

-- The places of the children of a value with this label and n children. There are none unless it is of a type with this form. Its
-- number, index and size must be within bounds (X.680, clauses 18 to 29 and 41).
abbrev pub places_in : TypeLabel → List (Rose TypeLabel) → Form → ValueLabel → ℕ → Option (List ComponentPlace)
places_in l ts form.Bool (value.Bool b) n = Some []
places_in l ts (form.Int least greatest) (value.Int z) n = none_if (is_128_bits z && is_from least z && is_to greatest z)
places_in l ts (form.Numbers numbers) (value.Enum i) n = none_if (nat_lt i (length numbers))
places_in l ts (form.Words identifiers words) (value.Enum i) n = none_if (nat_lt i (length words))
places_in l ts (form.Order identifiers) (value.Enum i) n = none_if (nat_lt i (length identifiers))
places_in l ts (form.Utf8 least most class) (value.Utf8 text) n = Some []
places_in l ts (form.Sequence parts) (value.Sequence present) n = present_from l 0 parts ts present
places_in l ts (form.Choice parts) (value.Choice i) n = alone (place_at l i (slice_get parts i) (slice_get ts i))
places_in l ts (form.SequenceOf part least most) value.SequenceOf n =
    if nat_le least n && is_at_most n most then repeated n (place_at l 0 (Some part) (slice_get ts 0)) else None
places_in _ _ _ _ _ = None

abbrev pub places : Rose TypeLabel → ValueLabel → ℕ → Option (List ComponentPlace)
places t v n = places_in (label_of t) (kids_of t) (label_of t).form v n

-- The number of child elements that a part contributes to the element that contains it: one for an element, or those of its
-- value.
abbrev pub counted : Role → ℕ → ℕ
counted Element inner = 1
counted Group inner = inner
counted Content inner = inner
counted _ inner = 0

module _ (M : List Assignment) where
  unfoldable mutual
    -- The number of child elements that a value contributes to the element that contains it.
    pub child_count : Rose TypeLabel → Rose ValueLabel → ℕ
    child_count t (node v vs) = elim (places (resolve M t) v (length_all vs)) [ None ↦ 0 | Some ps ↦ count_in ps vs ]

    pub count_in : List ComponentPlace → Roses ValueLabel → ℕ
    count_in ps none = 0
    count_in ps (more v vs) = elim ps [ [] ↦ 0 | p ∷ others ↦ counted p.role (child_count p.type v) + count_in others vs ]

-- A text consists of XML characters, its WHITESPACE leaves it unchanged, and it is within the size and the class.
abbrev pub IsTextOf : Form → List Instruction → ValueLabel → Type 0
IsTextOf (form.Utf8 least most class) marks (value.Utf8 text) =
    IsUtf8 text × (has_characters least most class text ≡ true) × IsTreated (white_space_of marks) text
IsTextOf _ _ _ = Unit {0}

-- The value is the one that its own spelling gives, read by the simple type that is mapped to the type.
abbrev pub IsSpelled : Rose TypeLabel → Rose ValueLabel → Type 0
IsSpelled t v = (s : Space) × Sound s × MapsTo s t × Holds s v

-- The number of items of the first part, if it is present.
abbrev pub first_count : ValueLabel → List (Rose ValueLabel) → ℕ
first_count (value.Sequence (true ∷ flags)) (v ∷ vs) = length (kids_of v)
first_count _ _ = 0

abbrev pub is_unset : Option Bool → Bool
is_unset None = false
is_unset (Some flag) = not flag

-- The last part of a SEQUENCE is absent.
abbrev pub is_last_absent : ValueLabel → Bool
is_last_absent (value.Sequence present) = is_unset (slice_get present (length present - 1))
is_last_absent _ = false

-- One text more than child elements, and none if the element is nil.
abbrev pub text_count : Bool → ℕ → ℕ
text_count nil children = if nil then 0 else children + 1

-- ---- USE-ORDER: the order of the child elements (X.693)

-- The flags of the parts of role Element, from the one with number i on, in their order.
abbrev pub flags_from : TypeLabel → ℕ → List Component → List Bool → List Bool
flags_from l i (part ∷ parts) (flag ∷ flags) =
    if is_element (role_of l i part) then flag ∷ flags_from l (i + 1) parts flags else flags_from l (i + 1) parts flags
flags_from _ _ _ _ = []

-- The flags of the element parts of a SEQUENCE: those that are set are present.
abbrev pub element_flags : TypeLabel → ValueLabel → List Bool
element_flags l (value.Sequence present) = flags_from l 0 (parts_of l.form) present
element_flags _ _ = []

-- The value that has the elements in an order. For a USE-NIL type it is the content, if that is present. For each other type it is
-- the value itself.
abbrev pub ordered_value : TypeLabel → Rose ValueLabel → Option ValueLabel
ordered_value l v =
    if has_use_nil l.marks
    then (if is_last_absent (label_of v) then None else option_map label_of (slice_get (kids_of v) (length (kids_of v) - 1)))
    else Some (label_of v)

abbrev pub is_order_role : Role → Bool
is_order_role Order = true
is_order_role _ = false

-- The number of an item of an ENUMERATED.
abbrev pub item_number : Rose ValueLabel → ℕ
item_number (node (value.Enum i) vs) = i
item_number _ = 0

-- The numbers of the part `order`, in their order.
abbrev pub numbers_in : List ComponentPlace → List (Rose ValueLabel) → List ℕ
numbers_in (p ∷ ps) (v ∷ vs) = if is_order_role p.role then map item_number (kids_of v) else numbers_in ps vs
numbers_in _ _ = []

abbrev pub order_of : Rose TypeLabel → Rose ValueLabel → List ℕ
order_of t v = elim (places t (label_of v) (length (kids_of v))) [ None ↦ [] | Some ps ↦ numbers_in ps (kids_of v) ]

-- The numbers are distinct, and are exactly those of the flags that are set.
abbrev pub AreJustSet : List ℕ → List Bool → Type 0
AreJustSet numbers flags = IsDistinct ◌==◌ numbers × ((i : ℕ) → Contains numbers i ↔ (slice_get flags i ≡ Some true))

module _ (M : List Assignment) where
  -- The flags of the elements in an order: none if the content is absent.
  abbrev pub ordered_flags : TypeLabel → Rose TypeLabel → Rose ValueLabel → List Bool
  ordered_flags l t v =
      elim (ordered M l (roses_of (kids_of t))) [
        | None ↦ []
        | Some inner ↦ elim (ordered_value l v) [ None ↦ [] | Some w ↦ element_flags inner w ]
      ]

  -- The part `order` names each element that is present once, by its number among all that may be, and no other.
  abbrev pub HasOrder : TypeLabel → Rose TypeLabel → Rose ValueLabel → Type 0
  HasOrder l t v = AreJustSet (order_of t v) (ordered_flags l t v)

module _ (M : List Assignment) where
  abbrev pub HasTextCount : TypeLabel → Rose TypeLabel → Rose ValueLabel → Type 0
  HasTextCount l t v =
      first_count (label_of v) (kids_of v) ≡ text_count (has_use_nil l.marks && is_last_absent (label_of v)) (child_count M t v)

  -- The rule of one node, whose type is already resolved.
  abbrev pub OwnAt : TypeLabel → Rose TypeLabel → Rose ValueLabel → Type 0
  OwnAt l t v =
      IsTextOf l.form l.marks (label_of v)
      × MatchBool (has_list l.marks || has_use_union l.marks) (IsSpelled t v) (Unit {0})
      × MatchBool (has_embed_values l.marks) (HasTextCount l t v) (Unit {0})
      × MatchBool (has_use_order l.marks) (HasOrder M l t v) (Unit {0})

  abbrev pub Own : Rose TypeLabel → Rose ValueLabel → Type 0
  Own t v = let found = resolve M t in OwnAt (label_of found) found v

-- ---- default and fixed values

-- A part that may be absent is never present with its default or fixed value: canonical encodings omit what the type states (X.691,
-- clause 19.5). A part with a fixed value has no other value. So a part with a fixed value is present if and only if it may not be
-- absent, and has that value.
abbrev pub Kept : List Assignment → Component → Rose TypeLabel → Rose ValueLabel → Type 0
Kept M part t v = elim part.standard [
  | Free ↦ Unit {0}
  | Default text ↦ spelling M t v ≡ text → ⊥
  | Fixed text ↦ (part.optional ≡ false) × (spelling M t v ≡ text)
]

abbrev pub below : Role → ℕ → ℕ
below Element depth = suc depth
below _ depth = depth

module _ (M : List Assignment) where
  unfoldable mutual
    -- The value is of the type, at this nesting depth of elements, which is at most 64.
    pub FitsAt : ℕ → Rose TypeLabel → Rose ValueLabel → Type 0
    FitsAt depth t (node v vs) =
        (depth ≤ 64)
        × elim (places (resolve M t) v (length_all vs)) [ None ↦ ⊥ | Some ps ↦ FitEach depth ps vs ]
        × Own M t (node v vs)

    -- The values fit the parts that are present.
    pub FitEach : ℕ → List ComponentPlace → Roses ValueLabel → Type 0
    FitEach depth ps none = elim ps [ [] ↦ Unit {0} | p ∷ others ↦ ⊥ ]
    FitEach depth ps (more v vs) =
        elim ps [ [] ↦ ⊥ | p ∷ others ↦ (FitsAt (below p.role depth) p.type v × Kept M p.part p.type v) × FitEach depth others vs ]

  abbrev pub IfAssigned : ℕ → (Rose TypeLabel → Type 0) → Type 0
  IfAssigned t P = elim (slice_get M t) [ None ↦ ⊥ | Some a ↦ P a.body ]

-- The value is one of the type of the assignment with this number, whose root is an element.
abbrev pub Fits : List Assignment → ℕ → Rose ValueLabel → Type 0
Fits M t v = IfAssigned M t (λ body. FitsAt M 1 body v)

-- The value fits, and it has at most 1,048,576 nodes.
abbrev pub In : List Assignment → ℕ → Rose ValueLabel → Type 0
In M t v = Fits M t v × (node_count v ≤ 1048576)
