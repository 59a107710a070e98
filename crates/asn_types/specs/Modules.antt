-- What holds of each module.
use Rattle.std.specs.Prelude.{◌≡◌, ℕ, ◌^◌, ◌<◌, ◌+◌, ◌-◌, ◌||◌, Bool, true, false, nat_lt, Option, Some, None, List, [], ◌∷◌, length, map, slice_get, bytes_eq, All, if◌then◌else◌}
use Rattle.std.specs.Option.{option_map}
use Rattle.std.specs.List.{IsDistinct}
use Rattle.std.specs.List.Sorted.{IsStrictlySortedBy}
use Rattle.std.specs.Ordering.{nat_cmp, int_cmp}
use Rattle.std.specs.Cmp.Lexicographic.{slice_cmp}
use Rattle.base_trees.specs.Rose.{Rose, node, Roses, none, more, label_of, list_of, Allowed}
use Rattle.simple_types.specs.declared.simples.Class.TheVariants.{Any}
use Rattle.simple_types.specs.declared.labels.ValueLabel.{ValueLabel}
use Rattle.simple_types.specs.declared.standards.Standard.TheVariants.{Free, Default, Fixed}
use Rattle.simple_types.specs.Sound.{Sound, IsCounted, AreBounds, AreSizes}
use Rattle.simple_types.specs.Space.{Space}
use Rattle.simple_types.specs.Reading.{Holds, spelled}
use Rattle.base_texts.specs.Limits.{is_empty}
use Rattle.asn_types.specs.declared.marks.Instruction.{Instruction}
use Rattle.asn_types.specs.declared.roles.Role.{Role}
use Rattle.asn_types.specs.declared.roles.Role.TheVariants.{Group, Order}
use Rattle.asn_types.specs.declared.types.Component.{Component}
use Rattle.asn_types.specs.declared.types.Form.{Form}
use Rattle.asn_types.specs.declared.types.Form.TheVariants as form
use Rattle.asn_types.specs.declared.types.TypeLabel.{TypeLabel}
use Rattle.asn_types.specs.declared.modules.Assignment.{Assignment}
use Rattle.asn_types.specs.Marks.{has_attribute, has_use_nil, has_embed_values, has_use_order, has_list, has_use_union}
use Rattle.asn_types.specs.Parts.{parts_of, IsPart, MayHave}
use Rattle.asn_types.specs.Roles.{role_of, order_place}
use Rattle.asn_types.specs.Simples.{MapsTo, IsSimple}
use Rattle.asn_types.specs.Refs.{resolve, is_element, ChainsWithin}

-- No bounds are crossed, numbers and words ascend, no ENUMERATED and no CHOICE is empty, and references are of the module.
abbrev pub IsForm : List Assignment → Form → Type 0
IsForm M form.Bool = Unit {0}
IsForm M (form.Int least greatest) = AreBounds least greatest
IsForm M (form.Numbers numbers) = IsCounted (length numbers) × IsStrictlySortedBy int_cmp numbers
IsForm M (form.Words identifiers words) = IsCounted (length words) × IsStrictlySortedBy (slice_cmp nat_cmp) words × (length identifiers ≡ length words)
IsForm M (form.Order identifiers) = IsCounted (length identifiers)
IsForm M (form.Utf8 least most class) = AreSizes least most
IsForm M (form.Sequence parts) = length parts < 2 ^ 32
IsForm M (form.Choice parts) = IsCounted (length parts)
IsForm M (form.SequenceOf part least most) = AreSizes least most
IsForm M (form.Ref to) = to < length M

-- The type is UTF8String without constraints.
abbrev pub IsAnyText : Rose TypeLabel → Type 0
IsAnyText (node l ts) = l.form ≡ form.Utf8 0 None Any

-- The type is SEQUENCE OF UTF8String without bounds.
abbrev pub AreTexts : Rose TypeLabel → Type 0
AreTexts (node l none) = ⊥
AreTexts (node l (more t ts)) = (part : Component) × (l.form ≡ form.SequenceOf part 0 None) × IsAnyText t

-- EMBED-VALUES: the type is a SEQUENCE whose first part has the texts.
abbrev pub HasTexts : Form → Roses TypeLabel → Type 0
HasTexts (form.Sequence parts) (more t ts) = AreTexts t
HasTexts _ _ = ⊥

-- USE-NIL: the type is a SEQUENCE whose last part may be absent.
abbrev pub HasContent : Form → Type 0
HasContent (form.Sequence parts) = (part : Component) × (slice_get parts (length parts - 1) ≡ Some part) × (part.optional ≡ true)
HasContent _ = ⊥

abbrev pub IsSequenceOf : Form → Type 0
IsSequenceOf (form.SequenceOf part least most) = Unit {0}
IsSequenceOf _ = ⊥

abbrev pub IsChoice : Form → Type 0
IsChoice (form.Choice parts) = Unit {0}
IsChoice _ = ⊥

-- The type of each part with ATTRIBUTE is that of a simple type.
abbrev pub AttributesAreSimple : List Assignment → List Component → Roses TypeLabel → Type 0
AttributesAreSimple M [] ts = Unit {0}
AttributesAreSimple M (part ∷ parts) none = Unit {0}
AttributesAreSimple M (part ∷ parts) (more t ts) =
    (has_attribute part.marks ≡ true → IsSimple (resolve M t)) × AttributesAreSimple M parts ts

-- ---- default and fixed values (X.680, clause 25)

-- The text is the canonical spelling of a value of the type, which is that of a simple type.
abbrev pub IsSpellingOf : List Assignment → Rose TypeLabel → List ℕ → Type 0
IsSpellingOf M t text = (s : Space) × (v : Rose ValueLabel) × Sound s × MapsTo s (resolve M t) × Holds s v × (spelled s v ≡ text)

-- Only parts that are attributes have them, and a default value requires that the part may be absent.
abbrev pub IsStandard : List Assignment → Component → Rose TypeLabel → Type 0
IsStandard M part t = elim part.standard [
  | Free ↦ Unit {0}
  | Default text ↦ (has_attribute part.marks ≡ true) × (part.optional ≡ true) × IsSpellingOf M t text
  | Fixed text ↦ (has_attribute part.marks ≡ true) × IsSpellingOf M t text
]

abbrev pub AreStandards : List Assignment → List Component → Roses TypeLabel → Type 0
AreStandards M [] ts = Unit {0}
AreStandards M (part ∷ parts) none = Unit {0}
AreStandards M (part ∷ parts) (more t ts) = IsStandard M part t × AreStandards M parts ts

-- Only a part of a SEQUENCE has one.
abbrev pub HasStandards : List Assignment → Form → Roses TypeLabel → Type 0
HasStandards M (form.Sequence parts) ts = AreStandards M parts ts
HasStandards M (form.Choice parts) ts = All (λ (part : Component). part.standard ≡ Free) parts
HasStandards M (form.SequenceOf part least most) ts = part.standard ≡ Free
HasStandards M _ ts = Unit {0}

-- ---- USE-ORDER: the order of the child elements (X.693)

-- The type whose elements are in an order: the content of a USE-NIL type, and each other type itself.
abbrev pub ordered : List Assignment → TypeLabel → Roses TypeLabel → Option TypeLabel
ordered M l ts =
    if has_use_nil l.marks then option_map (λ t. label_of (resolve M t)) (slice_get (list_of ts) (length (parts_of l.form) - 1)) else Some l

-- The parts of a type, from the one with number i on, that have the role, in their order.
abbrev pub parts_from : TypeLabel → (Role → Bool) → ℕ → List Component → List Component
parts_from l is i [] = []
parts_from l is i (part ∷ parts) =
    if is (role_of l i part) then part ∷ parts_from l is (i + 1) parts else parts_from l is (i + 1) parts

abbrev pub element_parts : TypeLabel → List Component
element_parts l = parts_from l is_element 0 (parts_of l.form)

abbrev pub is_group : Role → Bool
is_group Group = true
is_group _ = false

abbrev pub group_parts : TypeLabel → List Component
group_parts l = parts_from l is_group 0 (parts_of l.form)

-- The type is a SEQUENCE OF the ENUMERATED of these identifiers, without bounds.
abbrev pub IsOrderOf : List (List ℕ) → Rose TypeLabel → Type 0
IsOrderOf identifiers (node l none) = ⊥
IsOrderOf identifiers (node l (more t ts)) =
    (part : Component) × (l.form ≡ form.SequenceOf part 0 None) × ((label_of t).form ≡ form.Order identifiers)

abbrev pub IsSequence : Form → Type 0
IsSequence (form.Sequence parts) = Unit {0}
IsSequence _ = ⊥

-- A USE-ORDER type is a SEQUENCE with a part that has the order of its elements. If it is a USE-NIL type, they are those of its
-- content, which is a SEQUENCE without content, texts and order of its own. No part of either has UNTAGGED.
pub record HasOrderPart (M : List Assignment) (l : TypeLabel) (ts : Roses TypeLabel) : Type 0 where
  pub sequence : IsSequence l.form
  pub groups : group_parts l ≡ []
  pub inner : TypeLabel
  pub inner_found : ordered M l ts ≡ Some inner
  pub inner_sequence : IsSequence inner.form
  pub inner_groups : group_parts inner ≡ []
  pub inner_alone : has_use_nil l.marks ≡ true
      → (has_use_nil inner.marks ≡ false) × (has_embed_values inner.marks ≡ false) × (has_use_order inner.marks ≡ false)
  pub part : Component
  pub type : Rose TypeLabel
  pub part_found : IsPart l ts (order_place l.marks) part type
  pub role : role_of l (order_place l.marks) part ≡ Order
  pub present : part.optional ≡ false
  pub identifiers : IsOrderOf (map (λ (p : Component). p.identifier) (element_parts inner)) type

-- What holds of each type of a module.
pub record IsWellFormed (M : List Assignment) (l : TypeLabel) (ts : Roses TypeLabel) : Type 0 where
  pub form : IsForm M l.form
  pub attribute : has_attribute l.marks ≡ false
  pub embed_values : has_embed_values l.marks ≡ true → HasTexts l.form ts
  pub use_nil : has_use_nil l.marks ≡ true → HasContent l.form
  pub use_order : has_use_order l.marks ≡ true → HasOrderPart M l ts
  pub list : has_list l.marks ≡ true → IsSequenceOf l.form
  pub use_union : has_use_union l.marks ≡ true → IsChoice l.form
  pub simple : (has_list l.marks || has_use_union l.marks) ≡ true → IsSimple (node l ts)
  pub attributes : AttributesAreSimple M (parts_of l.form) ts
  pub standards : HasStandards M l.form ts
  pub chains : ChainsWithin M 4 (node l ts)

abbrev mutual
  pub AreWellFormed : List Assignment → Rose TypeLabel → Type 0
  AreWellFormed M (node l ts) = IsWellFormed M l ts × AllWellFormed M ts

  pub AllWellFormed : List Assignment → Roses TypeLabel → Type 0
  AllWellFormed M none = Unit {0}
  AllWellFormed M (more t ts) = AreWellFormed M t × AllWellFormed M ts

-- The part of a SEQUENCE OF has no identifier if and only if it is one of three: an item of a LIST, a text of EMBED-VALUES, or an
-- item of USE-ORDER.
abbrev pub IsItemNamed : Bool → Form → Type 0
IsItemNamed nameless (form.SequenceOf part least most) = is_empty part.identifier ≡ nameless
IsItemNamed nameless _ = Unit {0}

abbrev pub one_if : Bool → ℕ
one_if true = 1
one_if false = 0

-- The number of the first parts that are such texts or such an order.
abbrev pub nameless_parts : List Instruction → ℕ
nameless_parts marks = one_if (has_embed_values marks) + one_if (has_use_order marks)

abbrev mutual
  -- The rule holds in a type, which is that of such texts or of such an order if `nameless` is true.
  pub AreItemsNamed : Bool → Rose TypeLabel → Type 0
  AreItemsNamed nameless (node l ts) = IsItemNamed (has_list l.marks || nameless) l.form × AllItemsNamed (nameless_parts l.marks) ts

  -- The rule holds in the types of parts, of which the first `front` are such texts or such an order.
  pub AllItemsNamed : ℕ → Roses TypeLabel → Type 0
  AllItemsNamed front none = Unit {0}
  AllItemsNamed front (more t ts) = AreItemsNamed (nat_lt 0 front) t × AllItemsNamed (front - 1) ts

-- What holds of each assignment.
pub record IsAssignment (M : List Assignment) (a : Assignment) : Type 0 where
  pub allowed : Allowed MayHave a.body
  pub types : AreWellFormed M a.body
  pub items : AreItemsNamed false a.body
  pub attribute : has_attribute a.marks ≡ true → IsSimple (resolve M a.body)

pub record IsModule (M : List Assignment) : Type 0 where
  pub counted : length M < 2 ^ 32
  pub distinct : IsDistinct bytes_eq (map (λ a. a.reference) M)
  pub assignments : All (IsAssignment M) M
