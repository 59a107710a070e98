-- The faults of a plain text, in the order of the text. At one place they are in the order Duplicate, Unresolved, LongChain,
-- Spelling. The place of each fault is a first byte, so the first of these faults has the least place.
use Rattle.std.specs.Prelude.{ℕ, zero, suc, ◌+◌, ◌-◌, Bool, true, false, ◌&&◌, ◌||◌, not, nat_lt, int_lt, ℤ, pos, Option, Some, None, List, [], ◌∷◌, ◌++◌, is_some, codes, bytes_eq, if◌then◌else◌}
use Rattle.std.specs.List.{list_any}
use Rattle.base_trees.specs.Rose.{Rose, node, Roses, none, more, label_of, list_of}
use Rattle.base_texts.specs.Limits.{is_empty}
use Rattle.simple_types.specs.Space.{Space}
use Rattle.asn_names.specs.ReservedWords.{reserved_words}
use Rattle.module_text.specs.declared.bounds.PlainNumber.{PlainNumber}
use Rattle.module_text.specs.declared.bounds.PlainEnds.{PlainEnds}
use Rattle.module_text.specs.declared.bounds.PlainEnds.TheVariants as ends
use Rattle.module_text.specs.declared.bounds.PlainRange.{PlainRange}
use Rattle.module_text.specs.declared.bounds.PlainRange.TheVariants as range
use Rattle.module_text.specs.declared.marks.PartMark.{PartMark}
use Rattle.module_text.specs.declared.marks.TypeMark.{TypeMark}
use Rattle.module_text.specs.declared.values.PlainValueLabel.{PlainValueLabel}
use Rattle.module_text.specs.declared.values.PlainOctets.{PlainOctets}
use Rattle.module_text.specs.declared.values.Absence.{Absence}
use Rattle.module_text.specs.declared.values.Absence.TheVariants as absence
use Rattle.module_text.specs.declared.types.NumberedItem.{NumberedItem}
use Rattle.module_text.specs.declared.types.PlainName.{PlainName}
use Rattle.module_text.specs.declared.types.PlainPart.{PlainPart}
use Rattle.module_text.specs.declared.types.PlainForm.{PlainForm}
use Rattle.module_text.specs.declared.types.PlainForm.TheVariants as form
use Rattle.module_text.specs.declared.types.PlainLabel.{PlainLabel}
use Rattle.module_text.specs.declared.modules.PlainAssignment.{PlainAssignment}
use Rattle.module_text.specs.Ranks.{rank_of_part_mark, rank_of_type_mark}
use Rattle.module_text.specs.Texts.{parts_of}
use Rattle.module_text.specs.declared.reasons.ModuleWhy.TheVariants as why
use Rattle.module_text.specs.declared.spots.Spot.{Spot}
use Rattle.module_text.specs.declared.spots.Spot.TheVariants.{Elsewhere, Order}
use Rattle.module_text.specs.Told.{whole_of, is_printed_number, size_of, words_of, has_attribute, has_embed_values, has_use_order, has_list}
use Rattle.module_text.specs.Resolving.{role_of, resolve, number_of, chains_end}
use Rattle.module_text.specs.Simple.{simple_told, is_order_item, item_spot, text_lt}
use Rattle.module_text.specs.Defaults.{default_told, canonical_value, octets_of}
use Rattle.module_text.specs.Orders.{is_order, is_sequence_of}
use Rattle.module_text.specs.Marks.{part_mark_stands, type_mark_may, stands_once, next_item}
use Rattle.module_text.specs.declared.reasons.TextFault.{TextFault}
use Rattle.module_text.specs.Listed.{unless}

abbrev pub has_text : List (List ℕ) → List ℕ → Bool
has_text texts text = list_any (bytes_eq text) texts

-- ---- numbers and bounds

abbrev pub number_faults : PlainNumber → List TextFault
number_faults n = unless (is_printed_number n) n.at why.Spelling

abbrev pub is_below : Option ℤ → Option ℤ → Bool
is_below (Some y) (Some z) = int_lt y z
is_below _ _ = false

-- Bounds are not crossed. Equal bounds are written as one.
abbrev pub ends_faults : PlainEnds → List TextFault
ends_faults (ends.One number) = number_faults number
ends_faults (ends.Both least greatest) =
    number_faults least ++ unless (is_printed_number greatest && is_below (whole_of least) (whole_of greatest)) greatest.at why.Spelling
ends_faults (ends.From least max_at) = number_faults least

abbrev pub range_faults : Option PlainRange → List TextFault
range_faults None = []
range_faults (Some (range.Ends e)) = ends_faults e
range_faults (Some (range.To greatest)) = number_faults greatest

abbrev pub is_size : PlainNumber → Bool
is_size n = is_printed_number n && is_some (size_of (whole_of n))

abbrev pub is_zero : Option ℤ → Bool
is_zero (Some (pos zero)) = true
is_zero _ = false

abbrev pub one_size_faults : PlainNumber → List TextFault
one_size_faults n = unless (is_size n) n.at why.Spelling

-- Sizes have 32 bits. If any size is allowed, there is no constraint.
abbrev pub size_faults : Option PlainEnds → List TextFault
size_faults None = []
size_faults (Some (ends.One number)) = one_size_faults number
size_faults (Some (ends.Both least greatest)) =
    one_size_faults least ++ unless (is_size greatest && is_below (whole_of least) (whole_of greatest)) greatest.at why.Spelling
size_faults (Some (ends.From least max_at)) = one_size_faults least ++ unless (not (is_zero (whole_of least))) max_at why.Spelling

-- ---- items of an ENUMERATED

-- The number is above the previous one, if there is one.
abbrev pub is_above : Option ℤ → Option ℤ → Bool
is_above None z = true
is_above (Some y) z = is_below (Some y) z

-- The identifier is `int` and the number.
abbrev pub is_numbered_so : NumberedItem → Bool
is_numbered_so item = bytes_eq item.identifier.name (codes "int" ++ item.number.written)

-- The faults of an item after one with this number.
abbrev pub item_faults : Option ℤ → NumberedItem → List TextFault
item_faults last item =
    unless (is_numbered_so item) item.identifier.at why.Spelling
    ++ unless (is_printed_number item.number && is_above last (whole_of item.number)) item.number.at why.Spelling

abbrev pub numbered_faults : List (List ℕ) → Option ℤ → List NumberedItem → List TextFault
numbered_faults before last [] = []
numbered_faults before last (item ∷ items) =
    unless (not (has_text before item.identifier.name)) item.identifier.at why.Duplicate
    ++ item_faults last item
    ++ numbered_faults (before ++ item.identifier.name ∷ []) (whole_of item.number) items

abbrev pub is_word_above : Option (List ℕ) → List ℕ → Bool
is_word_above None word = true
is_word_above (Some before) word = text_lt before word

-- The words ascend. The identifiers of an order may be in any order.
abbrev pub word_faults : Bool → List (List ℕ) → Option (List ℕ) → List PlainName → List (List ℕ) → List TextFault
word_faults order before last (i ∷ is) (word ∷ words) =
    unless (not (has_text before i.name)) i.at why.Duplicate
    ++ unless (order || is_word_above last word) i.at why.Spelling
    ++ word_faults order (before ++ i.name ∷ []) (Some word) is words
word_faults order before last _ _ = []

-- ---- encoding instructions

abbrev pub part_mark_faults : Bool → List ℕ → Option ℕ → List PartMark → List TextFault
part_mark_faults simple generated before [] = []
part_mark_faults simple generated before (m ∷ ms) =
    unless (part_mark_stands simple generated before m) m.at why.Spelling
    ++ part_mark_faults simple generated (Some (rank_of_part_mark m.kind)) ms

module _ (P : List PlainAssignment) where
  abbrev pub type_mark_faults : Spot → PlainLabel → Roses PlainLabel → Option ℕ → ℕ → List TypeMark → List TextFault
  type_mark_faults spot l ts before least [] = []
  type_mark_faults spot l ts before least (m ∷ ms) =
      unless (stands_once before (rank_of_type_mark m.kind) && type_mark_may P spot l ts least m.kind) m.at why.Spelling
      ++ type_mark_faults spot l ts (Some (rank_of_type_mark m.kind)) (next_item spot l.form least m.kind) ms

-- ---- default and fixed values: of a part with this simple type, if the part has ATTRIBUTE

abbrev pub is_canonical : Option Space → Option (List ℕ) → Bool
is_canonical (Some s) (Some text) = is_some (canonical_value s text)
is_canonical _ _ = false

abbrev pub fixed_faults : Option Space → Option PlainOctets → List TextFault
fixed_faults space None = []
fixed_faults space (Some octets) = unless (is_canonical space (octets_of octets.digits)) octets.at why.Spelling

-- A default value is the fixed value, if there is one.
abbrev pub is_fixed : Option PlainOctets → List ℕ → Bool
is_fixed None text = true
is_fixed (Some octets) text = elim (octets_of octets.digits) [ None ↦ false | Some fixed ↦ bytes_eq fixed text ]

abbrev pub is_default : Option Space → Option PlainOctets → Rose PlainLabel → Rose PlainValueLabel → Bool
is_default None fixed (node l ts) v = false
is_default (Some s) fixed (node l ts) v = elim (default_told s l (list_of ts) v) [ None ↦ false | Some text ↦ is_fixed fixed text ]

abbrev pub value_at : Rose PlainValueLabel → ℕ
value_at (node l vs) = l.at

-- The type, through references, is this.
abbrev pub absence_faults : Option Space → Option PlainOctets → Rose PlainLabel → Absence → List TextFault
absence_faults space fixed t absence.Never = []
absence_faults space fixed t absence.Optional = []
absence_faults space fixed t (absence.Default v) = unless (is_default space fixed t v) (value_at v) why.Spelling

-- ---- parts

-- The number of the first parts that are the texts of EMBED-VALUES and the order of USE-ORDER. The items of these have no
-- identifier.
abbrev pub one_if : Bool → ℕ
one_if true = 1
one_if false = 0

abbrev pub nameless_parts : List TypeMark → ℕ
nameless_parts marks = one_if (has_embed_values marks) + one_if (has_use_order marks)

abbrev pub is_listed : List (List ℕ) → List ℕ → Bool
is_listed before identifier = not (is_empty identifier) && has_text before identifier

-- The part of a SEQUENCE OF has no identifier if and only if it is an item: of a LIST, of such texts, or of an order.
abbrev pub are_alike : Bool → Bool → Bool
are_alike true b = b
are_alike false b = not b

abbrev pub is_named_so : Bool → PlainForm → PlainPart → Bool
is_named_so nameless (form.SequenceOf size item) part = are_alike (is_empty part.identifier) nameless
is_named_so nameless _ part = true

abbrev pub has_no : {A : Type 0} → List A → Bool
has_no [] = true
has_no (x ∷ xs) = false

-- The part is only a reference, so it begins where the reference begins.
abbrev pub is_bare : PlainPart → PlainLabel → Bool
is_bare part l = is_empty part.identifier && has_no part.marks && has_no l.marks

-- The spot of the type of a part.
abbrev pub part_spot : Spot → PlainLabel → ℕ → PlainPart → Spot
part_spot spot l i part =
    if is_sequence_of l.form then item_spot spot else (if is_order (role_of l i part) then Order else Elsewhere)

-- ---- types

abbrev pub reference_faults : List PlainAssignment → PlainForm → List TextFault
reference_faults P (form.Ref reference) = unless (is_some (number_of P reference.name)) reference.at why.Unresolved
reference_faults P _ = []

abbrev pub form_faults : List PlainAssignment → Spot → List TypeMark → PlainForm → List TextFault
form_faults P spot marks form.Bool = []
form_faults P spot marks (form.Int r) = range_faults r
form_faults P spot marks (form.Numbers items) = numbered_faults [] None items
form_faults P spot marks (form.Words identifiers) = word_faults (is_order_item spot) [] None identifiers (words_of marks identifiers)
form_faults P spot marks (form.Utf8 size class) = size_faults size
form_faults P spot marks (form.Sequence components) = []
form_faults P spot marks (form.Choice alternatives) = []
form_faults P spot marks (form.SequenceOf size item) = size_faults size
form_faults P spot marks (form.Ref reference) = reference_faults P (form.Ref reference)

module _ (P : List PlainAssignment) where
  -- The simple type that a type at this spot represents, through references.
  abbrev pub space_through : Spot → Rose PlainLabel → Option Space
  space_through spot t = elim (label_of t).form [ form.Ref reference ↦ simple_told Elsewhere (resolve P t) | _ ↦ simple_told spot t ]

  -- The simple type, if the part has ATTRIBUTE.
  abbrev pub space_at : Spot → List PartMark → Rose PlainLabel → Option Space
  space_at spot marks t = if has_attribute marks then space_through spot t else None

  unfoldable mutual
    -- The faults of a type at this spot. If `nameless` is true, the type is that of such texts or of such an order.
    pub type_faults : Spot → Bool → Rose PlainLabel → List TextFault
    type_faults spot nameless (node l ts) =
        type_mark_faults P spot l ts None 0 l.marks
        ++ form_faults P spot l.marks l.form
        ++ part_faults spot (has_list l.marks || nameless) l 0 [] (nameless_parts l.marks) (parts_of l.form) ts

    -- The faults of the parts from the one with number i on, with these types, after parts with these identifiers.
    pub part_faults : Spot → Bool → PlainLabel → ℕ → List (List ℕ) → ℕ → List PlainPart → Roses PlainLabel → List TextFault
    part_faults spot nameless l i before front parts none = []
    part_faults spot nameless l i before front parts (more t ts) =
        elim parts [
          | [] ↦ []
          | part ∷ others ↦
              unless (not (is_listed before part.identifier)) part.at why.Duplicate
              ++ (if is_bare part (label_of t) then reference_faults P (label_of t).form else [])
              ++ unless (is_named_so nameless l.form part) part.at why.Spelling
              ++ part_mark_faults (is_some (space_at (part_spot spot l i part) part.marks t)) part.identifier None part.marks
              ++ type_faults (part_spot spot l i part) (nat_lt 0 front) t
              ++ fixed_faults (space_at (part_spot spot l i part) part.marks t) part.fixed
              ++ absence_faults (space_at (part_spot spot l i part) part.marks t) part.fixed (resolve P t) part.absence
              ++ part_faults spot nameless l (i + 1) (before ++ part.identifier ∷ []) (front - 1) others ts
        ]

  -- ---- assignments

  abbrev pub assignment_faults : List (List ℕ) → PlainAssignment → List TextFault
  assignment_faults before a =
      unless (not (has_text before a.reference) && not (has_text reserved_words a.reference)) a.at why.Duplicate
      ++ unless (chains_end P a.body) a.at why.LongChain
      ++ part_mark_faults (is_some (space_at Elsewhere a.marks a.body)) a.reference None a.marks
      ++ type_faults Elsewhere false a.body

  -- The faults of assignments after those with these references.
  abbrev pub faults_from : List (List ℕ) → List PlainAssignment → List TextFault
  faults_from before [] = []
  faults_from before (a ∷ others) = assignment_faults before a ++ faults_from (before ++ a.reference ∷ []) others

abbrev pub faults : List PlainAssignment → List TextFault
faults P = faults_from P [] P
