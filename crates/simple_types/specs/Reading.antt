-- The value that a simple type gives to a text, and the canonical spelling of its values (XML Schema Part 2, section 2).
use Rattle.std.specs.Prelude.{◌≡◌, ℕ, zero, suc, Bool, ◌&&◌, nat_le, ◌==◌, ℤ, pos, negsuc, Option, Some, None, Result, Ok, Err, List, [], ◌∷◌, length, map, position, bytes_eq, slice_get, slice_index_or, if◌then◌else◌}
use Rattle.std.specs.List.{list_all, join_with_byte}
use Rattle.std.specs.Ordering.{int_eq}
use Rattle.std.specs.Str.{chars}
use Rattle.std.specs.Fmt.{signed_decimal}
use Rattle.base_trees.specs.Rose.{Rose, node, none as no_kids, more as with_kid, roses_of, label_of, kids_of}
use Rattle.base_texts.specs.declared.white_space.WhiteSpace.TheVariants.{Collapse}
use Rattle.base_texts.specs.WhiteSpace.{treated, words_of}
use Rattle.base_texts.specs.Characters.{is_xml_char}
use Rattle.simple_types.specs.declared.simples.Class.{Class}
use Rattle.simple_types.specs.declared.labels.ValueLabel.{ValueLabel}
use Rattle.simple_types.specs.declared.labels.ValueLabel.TheVariants as label
use Rattle.simple_types.specs.Space.{Space, Spaces, none, more, Booleans, Wholes, Numbers, Words, Characters, ListOf, UnionOf, count_members}
use Rattle.simple_types.specs.Lexical.{boolean_of, boolean_text, whole_number, is_128_bits, in_class, is_from, is_to, is_at_most}

-- The reason why a text has no value. `Wide`: it is a whole number outside 128 bits that no bound of the type refuses. `Bad`: it
-- is no text of the type.
pub data Refusal : Type 0 where
  Wide : Refusal
  Bad : Refusal

abbrev pub Reading : Type 0
Reading = Result (Rose ValueLabel) Refusal

abbrev pub leaf : ValueLabel → Rose ValueLabel
leaf l = node l no_kids

abbrev pub boolean_from : Option Bool → Reading
boolean_from None = Err Bad
boolean_from (Some b) = Ok (leaf (label.Bool b))

abbrev pub read_boolean : List ℕ → Reading
read_boolean text = boolean_from (boolean_of text)

-- The bound on the side of the number.
abbrev pub bound_beyond : Option ℤ → Option ℤ → ℤ → Option ℤ
bound_beyond least greatest (pos n) = greatest
bound_beyond least greatest (negsuc n) = least

-- The result for a number outside 128 bits, by the bound on its side.
abbrev pub outside : Option ℤ → Reading
outside None = Err Wide
outside (Some bound) = Err Bad

abbrev pub whole_within : Option ℤ → Option ℤ → ℤ → Reading
whole_within least greatest z =
    if is_128_bits z
    then (if is_from least z && is_to greatest z then Ok (leaf (label.Int z)) else Err Bad)
    else outside (bound_beyond least greatest z)

-- section 3.3.13
abbrev pub whole_from : Option ℤ → Option ℤ → Option ℤ → Reading
whole_from least greatest None = Err Bad
whole_from least greatest (Some z) = whole_within least greatest z

abbrev pub read_whole : Option ℤ → Option ℤ → List ℕ → Reading
read_whole least greatest text = whole_from least greatest (whole_number text)

-- the item of an enumeration, by its number from 0
abbrev pub item_at : Option ℕ → Reading
item_at None = Err Bad
item_at (Some i) = Ok (leaf (label.Enum i))

-- one of the numbers, however it is written
abbrev pub number_from : List ℤ → Option ℤ → Reading
number_from numbers None = Err Bad
number_from numbers (Some z) = if is_128_bits z then item_at (position (λ n. int_eq n z) numbers) else Err Bad

abbrev pub read_number : List ℤ → List ℕ → Reading
read_number numbers text = number_from numbers (whole_number text)

abbrev pub read_word : List (List ℕ) → List ℕ → Reading
read_word words text = item_at (position (λ w. bytes_eq w text) words)

-- The text has only XML characters, their number is within the bounds, and it is in the class.
abbrev pub has_characters : ℕ → Option ℕ → Class → List ℕ → Bool
has_characters least most class text =
    list_all is_xml_char (chars text) && nat_le least (length (chars text)) && is_at_most (length (chars text)) most && in_class class text

abbrev pub read_characters : ℕ → Option ℕ → Class → List ℕ → Reading
read_characters least most class text = if has_characters least most class text then Ok (leaf (label.Utf8 text)) else Err Bad

-- The values of all texts, in order, or the reason of the first text that is refused.
abbrev pub read_each : (List ℕ → Reading) → List (List ℕ) → Result (List (Rose ValueLabel)) Refusal
read_each read [] = Ok []
read_each read (text ∷ texts) =
    elim (read text) [
      | Err why ↦ Err why
      | Ok value ↦ elim (read_each read texts) [ Err why ↦ Err why | Ok values ↦ Ok (value ∷ values) ]
    ]

-- A list whose number of items is within the bounds.
abbrev pub list_within : ℕ → Option ℕ → Result (List (Rose ValueLabel)) Refusal → Reading
list_within least most (Err why) = Err why
list_within least most (Ok values) =
    if nat_le least (length values) && is_at_most (length values) most then Ok (node label.SequenceOf (roses_of values)) else Err Bad

-- The number of the member that accepts a text, from 0, and its value; or the reason why none does.
abbrev pub Taking : Type 0
Taking = Result (ℕ × Rose ValueLabel) Refusal

abbrev pub taken_later : Taking → Taking
taken_later (Ok taken) = Ok (suc taken.0, taken.1)
taken_later (Err why) = Err why

-- The first member that accepts the text, or that finds the number too wide.
abbrev pub first_taking : Reading → Taking → Taking
first_taking (Ok value) others = Ok (0, value)
first_taking (Err Wide) others = Err Wide
first_taking (Err Bad) others = taken_later others

-- Each text has a chain. It begins with the text and continues with the spelling of the value read, until the member stays the
-- same. This rule is the profile's own: each value is then the one that its own spelling gives. A member accepts what it spells,
-- so each turn that continues matches an earlier member, and as many turns as there are members suffice.
abbrev pub goes_on : (List ℕ → Taking) → (ℕ → Rose ValueLabel → List ℕ) → ℕ → ℕ × Rose ValueLabel → Reading
goes_on take spell zero taken = Err Bad
goes_on take spell (suc turns) taken =
    elim (take (spell taken.0 taken.1)) [
      | Err why ↦ Err why
      | Ok next ↦ if next.0 == taken.0 then Ok (node (label.Choice taken.0) (with_kid taken.1 no_kids)) else goes_on take spell turns next
    ]

abbrev pub settled : (List ℕ → Taking) → (ℕ → Rose ValueLabel → List ℕ) → ℕ → List ℕ → Reading
settled take spell turns text = elim (take text) [ Err why ↦ Err why | Ok taken ↦ goes_on take spell turns taken ]

-- The spellings of values by the label of their root.
abbrev pub spelled_boolean : ValueLabel → List ℕ
spelled_boolean (label.Bool b) = boolean_text b
spelled_boolean _ = []

abbrev pub spelled_whole : ValueLabel → List ℕ
spelled_whole (label.Int z) = signed_decimal z
spelled_whole _ = []

abbrev pub spelled_if : Option ℤ → List ℕ
spelled_if None = []
spelled_if (Some z) = signed_decimal z

abbrev pub spelled_number : List ℤ → ValueLabel → List ℕ
spelled_number numbers (label.Enum i) = spelled_if (slice_get numbers i)
spelled_number numbers _ = []

abbrev pub spelled_word : List (List ℕ) → ValueLabel → List ℕ
spelled_word words (label.Enum i) = slice_index_or words i []
spelled_word words _ = []

abbrev pub spelled_text : ValueLabel → List ℕ
spelled_text (label.Utf8 text) = text
spelled_text _ = []

-- the alternative that was chosen, and its value
abbrev pub choice_at : ValueLabel → List (Rose ValueLabel) → Option (ℕ × Rose ValueLabel)
choice_at (label.Choice i) (value ∷ others) = Some (i, value)
choice_at _ _ = None

abbrev pub spelled_choice : (ℕ → Rose ValueLabel → List ℕ) → Option (ℕ × Rose ValueLabel) → List ℕ
spelled_choice spell None = []
spelled_choice spell (Some choice) = spell choice.0 choice.1

-- The canonical spelling. It is meaningful only for values of the type.
unfoldable mutual
  pub spelled : Space → Rose ValueLabel → List ℕ
  spelled Booleans value = spelled_boolean (label_of value)
  spelled (Wholes least greatest) value = spelled_whole (label_of value)
  spelled (Numbers numbers) value = spelled_number numbers (label_of value)
  spelled (Words how words) value = spelled_word words (label_of value)
  spelled (Characters how least most class) value = spelled_text (label_of value)
  spelled (ListOf item least most) value = join_with_byte 0x20 (map (spelled item) (kids_of value))
  spelled (UnionOf members) value = spelled_choice (spelled_by members) (choice_at (label_of value) (kids_of value))

  -- by the member with this number
  pub spelled_by : Spaces → ℕ → Rose ValueLabel → List ℕ
  spelled_by none i value = []
  spelled_by (more s ss) zero value = spelled s value
  spelled_by (more s ss) (suc i) value = spelled_by ss i value

unfoldable mutual
  pub reads : Space → List ℕ → Reading
  reads Booleans text = read_boolean (treated Collapse text)
  reads (Wholes least greatest) text = read_whole least greatest (treated Collapse text)
  reads (Numbers numbers) text = read_number numbers (treated Collapse text)
  reads (Words how words) text = read_word words (treated how text)
  reads (Characters how least most class) text = read_characters least most class (treated how text)
  reads (ListOf item least most) text = list_within least most (read_each (reads item) (words_of text))
  reads (UnionOf members) text = settled (taken_by members) (spelled_by members) (count_members members) text

  pub taken_by : Spaces → List ℕ → Taking
  taken_by none text = Err Bad
  taken_by (more s ss) text = first_taking (reads s text) (taken_by ss text)

abbrev pub Accepts : Space → List ℕ → Rose ValueLabel → Type 0
Accepts s text value = reads s text ≡ Ok value

abbrev pub TooWide : Space → List ℕ → Type 0
TooWide s text = reads s text ≡ Err Wide

abbrev pub BadText : Space → List ℕ → Type 0
BadText s text = reads s text ≡ Err Bad

-- The type accepts the value's own spelling with this value.
abbrev pub Holds : Space → Rose ValueLabel → Type 0
Holds s value = Accepts s (spelled s value) value
