-- The simple type that a plain type represents, if it represents one (X.694, clauses 11 to 13). The form, the instructions except
-- TEXT, and the parts must be those to which a simple type is mapped. What the simple type is made of must be sound.
use Rattle.std.specs.Prelude.{ℕ, ◌^◌, Bool, true, false, ◌&&◌, not, nat_lt, nat_le, int_le, int_lt, is_some, bytes_eq, ℤ, Option, Some, None, List, [], ◌∷◌, length, if◌then◌else◌}
use Rattle.std.specs.List.{list_all}
use Rattle.std.specs.Ordering.{is_lt, nat_cmp}
use Rattle.std.specs.Cmp.Lexicographic.{slice_cmp}
use Rattle.base_trees.specs.Rose.{Rose, node, Roses}
use Rattle.base_trees.specs.Rose as rose
use Rattle.simple_types.specs.declared.simples.Class.{Class}
use Rattle.base_texts.specs.declared.white_space.WhiteSpace.{WhiteSpace}
use Rattle.base_texts.specs.WhiteSpace.{treated}
use Rattle.simple_types.specs.Sound.{has_list, is_union}
use Rattle.simple_types.specs.Space.{Space, Spaces, none, more, Booleans, Wholes, Numbers, Words, Characters, ListOf, UnionOf, count_members}
use Rattle.module_text.specs.declared.types.NumberedItem.{NumberedItem}
use Rattle.module_text.specs.declared.types.PlainPart.{PlainPart}
use Rattle.module_text.specs.declared.types.PlainForm.TheVariants as form
use Rattle.module_text.specs.declared.types.PlainLabel.{PlainLabel}
use Rattle.module_text.specs.declared.spots.Spot.{Spot}
use Rattle.module_text.specs.declared.spots.Spot.TheVariants.{Elsewhere, Order, OrderItem}
use Rattle.module_text.specs.Told.{Bounds, Sizes, whole_of, range_of, sizes_of, is_xml_text, have_names_alone, told_alone, is_nothing, is_number_alone, is_list_alone, is_union_alone, white_space_alone, words_of}

abbrev pub if_so : {A : Type 0} → Bool → Option A → Option A
if_so b found = if b then found else None

-- ---- what is sound

-- The count fits in 32 bits and is at least one.
abbrev pub is_counted : ℕ → Bool
is_counted n = nat_lt 0 n && nat_lt n (2 ^ 32)

abbrev pub are_bounds : Bounds → Bool
are_bounds (Some least, Some greatest) = int_le least greatest
are_bounds _ = true

abbrev pub are_sizes : Sizes → Bool
are_sizes (least, Some most) = nat_le least most
are_sizes (least, None) = true

-- Each number is above the previous one. The first is above this one, if there is one.
abbrev pub ascend_behind : Option ℤ → List ℤ → Bool
ascend_behind last [] = true
ascend_behind None (z ∷ zs) = ascend_behind (Some z) zs
ascend_behind (Some y) (z ∷ zs) = int_lt y z && ascend_behind (Some z) zs

abbrev pub ascend : List ℤ → Bool
ascend numbers = ascend_behind None numbers

-- The first text precedes the second in the order of their bytes.
abbrev pub text_lt : List ℕ → List ℕ → Bool
text_lt first second = is_lt (slice_cmp nat_cmp first second)

abbrev pub texts_behind : Option (List ℕ) → List (List ℕ) → Bool
texts_behind last [] = true
texts_behind None (word ∷ words) = texts_behind (Some word) words
texts_behind (Some before) (word ∷ words) = text_lt before word && texts_behind (Some word) words

abbrev pub texts_ascend : List (List ℕ) → Bool
texts_ascend words = texts_behind None words

-- The word has only XML characters, and its treatment leaves it unchanged.
abbrev pub is_word : WhiteSpace → List ℕ → Bool
is_word how word = is_xml_text word && bytes_eq (treated how word) word

-- ---- what is listed

-- The numbers, if each has 128 bits.
abbrev pub with_number : Option ℤ → Option (List ℤ) → Option (List ℤ)
with_number (Some z) (Some zs) = Some (z ∷ zs)
with_number _ _ = None

abbrev pub numbers_of : List NumberedItem → Option (List ℤ)
numbers_of [] = Some []
numbers_of (item ∷ items) = with_number (whole_of item.number) (numbers_of items)

-- ---- spaces

abbrev pub whole_space : Option Bounds → Option Space
whole_space None = None
whole_space (Some bounds) = if_so (are_bounds bounds) (Some (Wholes bounds.0 bounds.1))

abbrev pub number_space : Option (List ℤ) → Option Space
number_space None = None
number_space (Some numbers) = if_so (is_counted (length numbers) && ascend numbers) (Some (Numbers numbers))

abbrev pub word_space : List (List ℕ) → Option WhiteSpace → Option Space
word_space words None = None
word_space words (Some how) =
    if_so (is_counted (length words) && texts_ascend words && list_all (is_word how) words) (Some (Words how words))

abbrev pub text_space : Option Sizes → Class → Option WhiteSpace → Option Space
text_space (Some sizes) class (Some how) = if_so (are_sizes sizes) (Some (Characters how sizes.0 sizes.1 class))
text_space _ class _ = None

-- The list of this item. There is none if the item has a list in it.
abbrev pub list_space : Option Sizes → Option Space → Option Space
list_space (Some sizes) (Some item) = if_so (are_sizes sizes && not (has_list item)) (Some (ListOf item sizes.0 sizes.1))
list_space _ _ = None

abbrev pub union_space : Option Spaces → Option Space
union_space None = None
union_space (Some members) = if_so (is_counted (count_members members)) (Some (UnionOf members))

-- These members after this one. There are none if this one is a union.
abbrev pub with_member : Option Space → Option Spaces → Option Spaces
with_member (Some s) (Some ss) = if_so (not (is_union s)) (Some (more s ss))
with_member _ _ = None

abbrev pub are_plain : List PlainPart → Bool
are_plain parts = list_all (λ (part : PlainPart). have_names_alone part.marks) parts

-- The spot of the item of a type at this spot.
abbrev pub item_spot : Spot → Spot
item_spot Order = OrderItem
item_spot _ = Elsewhere

abbrev pub is_order_item : Spot → Bool
is_order_item OrderItem = true
is_order_item _ = false

-- The simple type that a type at this spot represents. An item of an order represents none.
unfoldable mutual
  pub simple_told : Spot → Rose PlainLabel → Option Space
  simple_told spot (node l ts) = elim l.form [
    | form.Bool ↦ if_so (is_nothing (told_alone l.marks)) (Some Booleans)
    | form.Int r ↦ if_so (is_nothing (told_alone l.marks)) (whole_space (range_of r))
    | form.Numbers items ↦ if_so (is_number_alone (told_alone l.marks)) (number_space (numbers_of items))
    | form.Words identifiers ↦ if_so (not (is_order_item spot)) (word_space (words_of l.marks identifiers) (white_space_alone (told_alone l.marks)))
    | form.Utf8 size class ↦ text_space (sizes_of size) class (white_space_alone (told_alone l.marks))
    | form.Sequence components ↦ None
    | form.Choice alternatives ↦ if_so (is_union_alone (told_alone l.marks) && are_plain alternatives) (union_space (members_told ts))
    | form.SequenceOf size item ↦
        if_so
        (is_list_alone (told_alone l.marks) && have_names_alone item.marks)
        (list_space (sizes_of size) (item_told (item_spot spot) ts))
    | form.Ref reference ↦ None
  ]

  pub members_told : Roses PlainLabel → Option Spaces
  members_told rose.none = Some none
  members_told (rose.more t ts) = with_member (simple_told Elsewhere t) (members_told ts)

  pub item_told : Spot → Roses PlainLabel → Option Space
  item_told spot rose.none = None
  item_told spot (rose.more t ts) = simple_told spot t

abbrev pub is_simple : Spot → Rose PlainLabel → Bool
is_simple spot t = is_some (simple_told spot t)
