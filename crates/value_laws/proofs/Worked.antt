-- Worked documents, each beside its value: the document is valid with these treated items, the value fits the root type, and
-- its items are the same.
use Rattle.std.proofs.Common.{◌≡◌, ◌+◌, ◌≤◌, ℕ, List, [], ◌∷◌, Some, None, Bool, true, false, inl, inr, true≢false, refl, sym, ap, arith}
use Rattle.std.specs.Prelude.{codes, pos, ℤ, All, bytes_eq}
use Rattle.std.specs.Fmt.{digits}
use Rattle.std.specs.Str.{chars, is_utf8}
use Rattle.std.specs.Char.{encode_utf8}
use Rattle.std.specs.List.Sorted.{IsStrictlySortedBy}
use Rattle.std.proofs.lemmas.List.Elements.{All-nil, All-cons}
use Rattle.std.proofs.lemmas.Str.{IsUtf8-from_is_utf8}
use Rattle.base_texts.specs.declared.texts.Name.{Name}
use Rattle.base_texts.specs.declared.white_space.WhiteSpace.TheVariants.{Collapse}
use Rattle.base_texts.specs.WhiteSpace.{is_white_space, words_of, treated}
use Rattle.base_texts.specs.Characters.{is_xml_char}
use Rattle.base_trees.specs.Rose.{Rose, node, none, roses_of}
use Rattle.simple_types.specs.declared.simples.Class.TheVariants.{Any}
use Rattle.simple_types.specs.Space as space
use Rattle.simple_types.specs.declared.standards.Standard.TheVariants.{Free, Default, Fixed}
use Rattle.simple_types.specs.declared.labels.ValueLabel.{ValueLabel}
use Rattle.simple_types.specs.declared.labels.ValueLabel.TheVariants as value
use Rattle.simple_types.specs.Lexical.{whole_number, in_class}
use Rattle.simple_types.specs.Reading.{has_characters, reads, taken_by, spelled, spelled_by}
use Rattle.content_models.specs.Language.{Leaf, names, Lang, leaf_at, turn_of}
use Rattle.content_models.specs.Seen.{seen}
use Rattle.content_models.specs.Laws.{Opens}
use Rattle.content_models.proofs.Opening.{lang_opens}
use Rattle.xml_items.specs.declared.label.ItemLabel.{ItemLabel}
use Rattle.xml_items.specs.declared.label.ItemLabel.TheVariants.{Element, Text}
use Rattle.xml_items.specs.Plain.{Plain, element, text}
use Rattle.schema_components.specs.SetParts.{SetParts}
use Rattle.validity_rules.specs.Asked.{Attribute, asked_at}
use Rattle.validity_rules.specs.Attributes.{IsRight, Stands, xsi}
use Rattle.validity_rules.specs.Valid.{Valid, ValidBy}
use Rattle.validity_rules.specs.Private.WorkedSets.{unqualified, any_text, any_token, any_int, any_byte, po, orders, order_model, line_model, elements, nested_model, mixed_model}
use Rattle.asn_types.specs.declared.modules.Assignment.{Assignment}
use Rattle.asn_types.specs.declared.types.Component.{Component}
use Rattle.asn_types.specs.Refs.{follow}
use Rattle.asn_types.specs.Spaces.{spelling}
use Rattle.asn_values.specs.Values.{child_count, count_in, FitsAt, FitEach, Fits}
use Rattle.asn_values.proofs.JustSet.{just_set}
use Rattle.xer_items.specs.Items.{inside, gathered, Xer}
use Rattle.value_laws.proofs.WorkedTypes.{component, refers, text_type, token_type, byte_type, order_types, element_types, prices, price_types, settings, setting_types, any_model, any_order, any_types}

-- a valid element of the declaration, and a value of the assignment, with the same items
abbrev AreOne : SetParts → ℕ → Rose ItemLabel → List Assignment → ℕ → Rose ValueLabel → Rose Plain → Type 0
AreOne s d t M n v b = Valid s d t b × Fits M n v × (Xer M n v ≡ Some b)

-- ---- items of documents, treated items, values

abbrev item : Name → List (Name × List ℕ) → List (List ℕ × List ℕ) → ℕ → List (Rose ItemLabel) → Rose ItemLabel
item name attributes declares at items = node (Element name attributes declares at) (roses_of items)

abbrev said : List ℕ → ℕ → Rose ItemLabel
said words at = node (Text words at) none

abbrev plain : Name → List (Name × List ℕ) → List (Rose Plain) → Rose Plain
plain name attributes items = node (element name attributes) (roses_of items)

abbrev characters : List ℕ → Rose Plain
characters bytes = node (text bytes) none

abbrev number : ℤ → Rose ValueLabel
number z = node (value.Int z) none

abbrev words : List ℕ → Rose ValueLabel
words bytes = node (value.Utf8 bytes) none

abbrev sequence : List Bool → List (Rose ValueLabel) → Rose ValueLabel
sequence present vs = node (value.Sequence present) (roses_of vs)

abbrev several : List (Rose ValueLabel) → Rose ValueLabel
several vs = node value.SequenceOf (roses_of vs)

abbrev chosen : ℕ → Rose ValueLabel → Rose ValueLabel
chosen i v = node (value.Choice i) (roses_of (v ∷ []))

abbrev default_po : List ℕ × List ℕ
default_po = ([], codes "urn:po")

abbrev xsi_prefix : List ℕ × List ℕ
xsi_prefix = (codes "xsi", codes "http://www.w3.org/2001/XMLSchema-instance")

-- ---- texts and numbers that fit

text_fits : (M : List Assignment) (depth : ℕ) → depth ≤ 64 → (bytes : List ℕ) → is_utf8 bytes ≡ true → has_characters 0 None Any bytes ≡ true → FitsAt M depth text_type (words bytes)
unfolding follow FitsAt FitEach treated
text_fits M depth small bytes e f = (small, tt, ((IsUtf8-from_is_utf8 bytes e, f, refl), tt, tt, tt))

token_fits : (M : List Assignment) (depth : ℕ) → depth ≤ 64 → (bytes : List ℕ) → is_utf8 bytes ≡ true → has_characters 0 None Any bytes ≡ true → treated Collapse bytes ≡ bytes
    → FitsAt M depth token_type (words bytes)
unfolding follow FitsAt FitEach
token_fits M depth small bytes e f g = (small, tt, ((IsUtf8-from_is_utf8 bytes e, f, g), tt, tt, tt))

-- ---- an order of one line

abbrev id_of : List ℕ → Name × List ℕ
id_of bytes = (unqualified (codes "id"), bytes)

abbrev hint : Name × List ℕ
hint = (xsi (codes "schemaLocation"), codes "urn:po order.xsd")

abbrev line_break : ℕ → Rose ItemLabel
line_break at = said (10 ∷ 32 ∷ 32 ∷ []) at

abbrev sku_item : List ℕ → ℕ → Rose ItemLabel
sku_item bytes at = item (po (codes "sku")) [] [] at (said bytes (at + 5) ∷ [])

abbrev qty_item : List ℕ → ℕ → Rose ItemLabel
qty_item bytes at = item (po (codes "qty")) [] [] at (said bytes (at + 5) ∷ [])

-- <order xmlns="urn:po" xmlns:xsi=".." xsi:schemaLocation="urn:po order.xsd" id="7">
--   <line>
--     <sku>A1</sku>
--     <qty>3</qty>
--   </line>
-- </order>
abbrev spaced_line : Rose ItemLabel
spaced_line =
    item (po (codes "line")) [] [] 182
    (said (codes "\n    ") 188 ∷ sku_item (codes "A1") 193 ∷ said (codes "\n    ") 206 ∷ qty_item (codes "3") 211 ∷ said (codes "\n  ") 223 ∷ [])

abbrev spaced_order : Rose ItemLabel
spaced_order = item (po (codes "order")) (hint ∷ id_of (codes "7") ∷ []) (default_po ∷ xsi_prefix ∷ []) 58 (said (codes "\n  ") 179 ∷ spaced_line ∷ said (codes "\n") 233 ∷ [])

-- the same, its attributes in the other order, and no white space: <order .. id="7" xsi:schemaLocation=".."><line>..
abbrev dense_order : Rose ItemLabel
dense_order =
    item (po (codes "order")) (id_of (codes "7") ∷ hint ∷ []) (default_po ∷ xsi_prefix ∷ []) 0
    (item (po (codes "line")) [] [] 121 (sku_item (codes "A1") 127 ∷ qty_item (codes "3") 140 ∷ []) ∷ [])

abbrev sku_plain : List ℕ → Rose Plain
sku_plain bytes = plain (po (codes "sku")) [] (characters bytes ∷ [])

abbrev qty_plain : List ℕ → Rose Plain
qty_plain bytes = plain (po (codes "qty")) [] (characters bytes ∷ [])

abbrev line_plain : List ℕ → List ℕ → Rose Plain
line_plain sku qty = plain (po (codes "line")) [] (sku_plain sku ∷ qty_plain qty ∷ [])

abbrev order_plain : Rose Plain
order_plain = plain (po (codes "order")) (id_of (codes "7") ∷ []) (line_plain (codes "A1") (codes "3") ∷ [])

abbrev line_value : List ℕ → ℤ → Rose ValueLabel
line_value sku qty = sequence (true ∷ true ∷ []) (words sku ∷ number qty ∷ [])

abbrev order_value : Rose ValueLabel
order_value = sequence (true ∷ true ∷ false ∷ []) (number (pos 7) ∷ several (line_value (codes "A1") (pos 3) ∷ []) ∷ [])

-- the leaf of the line in the turn n
abbrev line_leaf : ℕ → Leaf
line_leaf n = leaf_at 1 1 (po (codes "line")) (turn_of 0 0 ∷ turn_of 1 n ∷ [])

abbrev note_leaf : Leaf
note_leaf = leaf_at 2 2 (po (codes "note")) (turn_of 0 0 ∷ turn_of 2 0 ∷ [])

abbrev sku_leaf : Leaf
sku_leaf = leaf_at 1 3 (po (codes "sku")) (turn_of 0 0 ∷ turn_of 1 0 ∷ [])

abbrev qty_leaf : Leaf
qty_leaf = leaf_at 2 4 (po (codes "qty")) (turn_of 0 0 ∷ turn_of 2 0 ∷ [])

one_line : Lang (seen order_model) 0 [] (line_leaf 0 ∷ [])
one_line = (
  1,
  (omega arith, omega arith),
  (
    line_leaf 0 ∷ [],
    [],
    refl,
    (line_leaf 0 ∷ [], [], refl, (1, omega arith, (line_leaf 0 ∷ [], [], refl, refl, refl)), ([], [], refl, (0, (omega arith, omega arith), refl), refl)),
    refl,
  ),
)

sku_and_qty : Lang (seen line_model) 0 [] (sku_leaf ∷ qty_leaf ∷ [])
sku_and_qty = (
  1,
  (omega arith, omega arith),
  (
    sku_leaf ∷ qty_leaf ∷ [],
    [],
    refl,
    (
      sku_leaf ∷ [],
      qty_leaf ∷ [],
      refl,
      (1, (omega arith, omega arith), (sku_leaf ∷ [], [], refl, refl, refl)),
      (qty_leaf ∷ [], [], refl, (1, (omega arith, omega arith), (qty_leaf ∷ [], [], refl, refl, refl)), refl),
    ),
    refl,
  ),
)

abbrev id_wanted : Attribute
id_wanted = record { name = unqualified (codes "id"); space = space.Wholes (Some (pos 0)) (Some (pos 65535)); required = true; standard = Free }

id_right : IsRight (asked_at orders 0).attributes (id_of (codes "7"))
unfolding orders reads treated words_of is_white_space whole_number
id_right = (number (pos 7), refl, tt)

ids_right : All (IsRight (asked_at orders 0).attributes) (id_of (codes "7") ∷ [])
ids_right = All-cons (IsRight (asked_at orders 0).attributes) (id_of (codes "7")) [] id_right (All-nil (IsRight (asked_at orders 0).attributes))

id_stands : (bytes : List ℕ) → All (Stands (id_of bytes ∷ [])) (asked_at orders 0).attributes
unfolding orders
id_stands bytes = All-cons (Stands (id_of bytes ∷ [])) id_wanted [] (λ f n. cc) (All-nil (Stands (id_of bytes ∷ [])))

sku_valid : (at : ℕ) → ValidBy (asked_at orders) 3 (sku_item (codes "A1") at) (sku_plain (codes "A1"))
unfolding orders reads spelled treated words_of is_white_space chars is_xml_char in_class
sku_valid at = (roses_of (characters (codes "A1") ∷ []), refl, refl, All-nil (IsRight []), All-nil (Stands []), (codes "A1", refl, refl))

qty_valid : (at : ℕ) → ValidBy (asked_at orders) 4 (qty_item (codes "3") at) (qty_plain (codes "3"))
unfolding orders reads spelled treated words_of is_white_space whole_number digits
qty_valid at = (roses_of (characters (codes "3") ∷ []), refl, refl, All-nil (IsRight []), All-nil (Stands []), (codes "3", refl, refl))

dense_line_valid : (at : ℕ) → ValidBy (asked_at orders) 1 (item (po (codes "line")) [] [] at (sku_item (codes "A1") (at + 6) ∷ qty_item (codes "3") (at + 19) ∷ [])) (line_plain (codes "A1") (codes "3"))
unfolding orders
dense_line_valid at = (
  roses_of (sku_plain (codes "A1") ∷ qty_plain (codes "3") ∷ []),
  refl,
  refl,
  All-nil (IsRight []),
  All-nil (Stands []),
  (
    sku_leaf ∷ qty_leaf ∷ [],
    sku_and_qty,
    (
      sku_leaf,
      qty_leaf ∷ [],
      sku_plain (codes "A1"),
      roses_of (qty_plain (codes "3") ∷ []),
      refl,
      refl,
      refl,
      sku_valid (at + 6),
      (qty_leaf, [], qty_plain (codes "3"), none, refl, refl, refl, qty_valid (at + 19), (refl, refl)),
    ),
  ),
)

spaced_line_valid : ValidBy (asked_at orders) 1 spaced_line (line_plain (codes "A1") (codes "3"))
unfolding orders is_white_space
spaced_line_valid = (
  roses_of (sku_plain (codes "A1") ∷ qty_plain (codes "3") ∷ []),
  refl,
  refl,
  All-nil (IsRight []),
  All-nil (Stands []),
  (
    sku_leaf ∷ qty_leaf ∷ [],
    sku_and_qty,
    (
      roses_of (sku_plain (codes "A1") ∷ qty_plain (codes "3") ∷ []),
      (
        sku_leaf,
        qty_leaf ∷ [],
        sku_plain (codes "A1"),
        roses_of (qty_plain (codes "3") ∷ []),
        refl,
        refl,
        refl,
        sku_valid 193,
        (roses_of (qty_plain (codes "3") ∷ []), (qty_leaf, [], qty_plain (codes "3"), none, refl, refl, refl, qty_valid 211, (none, (refl, refl), (refl, refl))), (refl, refl)),
      ),
      (refl, refl),
    ),
  ),
)

spaced_valid : Valid orders 0 spaced_order order_plain
unfolding orders reads spelled treated words_of is_white_space whole_number digits
spaced_valid = (
  refl,
  (
    roses_of (line_plain (codes "A1") (codes "3") ∷ []),
    refl,
    refl,
    ids_right,
    id_stands (codes "7"),
    (
      line_leaf 0 ∷ [],
      one_line,
      (
        roses_of (line_plain (codes "A1") (codes "3") ∷ []),
        (line_leaf 0, [], line_plain (codes "A1") (codes "3"), none, refl, refl, refl, spaced_line_valid, (none, (refl, refl), (refl, refl))),
        (refl, refl),
      ),
    ),
  ),
)

dense_valid : Valid orders 0 dense_order order_plain
unfolding orders reads spelled treated words_of is_white_space whole_number digits
dense_valid = (
  refl,
  (
    roses_of (line_plain (codes "A1") (codes "3") ∷ []),
    refl,
    refl,
    ids_right,
    id_stands (codes "7"),
    (
      line_leaf 0 ∷ [],
      one_line,
      (line_leaf 0, [], line_plain (codes "A1") (codes "3"), none, refl, refl, refl, dense_line_valid 121, (refl, refl)),
    ),
  ),
)

line_fits : FitsAt order_types 2 (refers 1) (line_value (codes "A1") (pos 3))
unfolding order_types follow FitsAt FitEach chars is_xml_char in_class treated words_of is_white_space is_utf8 encode_utf8
line_fits = (
  omega arith,
  ((token_fits order_types 3 (omega arith) (codes "A1") refl refl refl, tt), (((omega arith, tt, (tt, tt, tt, tt)), tt), tt)),
  (tt, tt, tt, tt),
)

order_fits : Fits order_types 0 order_value
unfolding order_types follow FitsAt FitEach chars is_xml_char in_class treated words_of is_white_space is_utf8 encode_utf8
order_fits = (
  omega arith,
  (((omega arith, tt, (tt, tt, tt, tt)), tt), (((omega arith, ((line_fits, tt), tt), (tt, tt, tt, tt)), tt), tt)),
  (tt, tt, tt, tt),
)

order_items : Xer order_types 0 order_value ≡ Some order_plain
unfolding order_types follow inside gathered spelled digits
order_items = refl

spaced_is_one : AreOne orders 0 spaced_order order_types 0 order_value order_plain
spaced_is_one = (spaced_valid, order_fits, order_items)

dense_is_one : AreOne orders 0 dense_order order_types 0 order_value order_plain
dense_is_one = (dense_valid, order_fits, order_items)

-- ---- an order without a line: it isn't valid, and the value for it doesn't fit

-- <order xmlns="urn:po" id="7"/>
abbrev empty_order : Rose ItemLabel
empty_order = item (po (codes "order")) (id_of (codes "7") ∷ []) (default_po ∷ []) 0 []

abbrev empty_value : Rose ValueLabel
empty_value = sequence (true ∷ true ∷ false ∷ []) (number (pos 7) ∷ several [] ∷ [])

no_empty_list : (w : List Leaf) → Lang (seen order_model) 0 [] w → w ≡ [] → ⊥
no_empty_list w h n = go (names w) (lang_opens (seen order_model) 0 [] w h) (ap names n)
  where
    go : (xs : List Name) → Opens (po (codes "line") ∷ []) false xs → xs ≡ [] → ⊥
    go [] o e = cc
    go (x ∷ xs) o e = cc

empty_is_not_valid : (b : Rose Plain) → Valid orders 0 empty_order b → ⊥
unfolding orders
empty_is_not_valid b h = let inner = h.1.5 in no_empty_list inner.0 inner.1 inner.2.0

empty_does_not_fit : Fits order_types 0 empty_value → ⊥
unfolding order_types follow FitsAt FitEach
empty_does_not_fit h = h.1.1.0.0.1

-- ---- an order of two lines and an empty note; white space of its texts is treated

-- <order xmlns="urn:po" id=" 07 "><line><sku> B  2 </sku><qty>100</qty></line><line><sku>A1</sku><qty>3</qty></line><note/></order>
abbrev two_lines : Rose ItemLabel
two_lines =
    item (po (codes "order")) (id_of (codes " 07 ") ∷ []) (default_po ∷ []) 0
    (item (po (codes "line")) [] [] 32 (sku_item (codes " B  2 ") 38 ∷ qty_item (codes "100") 55 ∷ [])
    ∷ item (po (codes "line")) [] [] 76 (sku_item (codes "A1") 82 ∷ qty_item (codes "3") 95 ∷ []) ∷ item (po (codes "note")) [] [] 114 [] ∷ [])

abbrev note_plain : Rose Plain
note_plain = plain (po (codes "note")) [] []

abbrev two_lines_plain : Rose Plain
two_lines_plain = plain (po (codes "order")) (id_of (codes "7") ∷ []) (line_plain (codes "B 2") (codes "100") ∷ line_plain (codes "A1") (codes "3") ∷ note_plain ∷ [])

abbrev two_lines_value : Rose ValueLabel
two_lines_value =
    sequence (true ∷ true ∷ true ∷ []) (number (pos 7) ∷ several (line_value (codes "B 2") (pos 100) ∷ line_value (codes "A1") (pos 3) ∷ []) ∷ words [] ∷ [])

lines_and_note : Lang (seen order_model) 0 [] (line_leaf 0 ∷ line_leaf 1 ∷ note_leaf ∷ [])
lines_and_note = (
  1,
  (omega arith, omega arith),
  (
    line_leaf 0 ∷ line_leaf 1 ∷ note_leaf ∷ [],
    [],
    refl,
    (
      line_leaf 0 ∷ line_leaf 1 ∷ [],
      note_leaf ∷ [],
      refl,
      (2, omega arith, (line_leaf 0 ∷ [], line_leaf 1 ∷ [], refl, refl, (line_leaf 1 ∷ [], [], refl, refl, refl))),
      (note_leaf ∷ [], [], refl, (1, (omega arith, omega arith), (note_leaf ∷ [], [], refl, refl, refl)), refl),
    ),
    refl,
  ),
)

spaced_ids_right : All (IsRight (asked_at orders 0).attributes) (id_of (codes " 07 ") ∷ [])
unfolding orders reads treated words_of is_white_space whole_number
spaced_ids_right =
    All-cons (IsRight (asked_at orders 0).attributes) (id_of (codes " 07 ")) [] (number (pos 7), refl, tt) (All-nil (IsRight (asked_at orders 0).attributes))

spaced_sku_valid : ValidBy (asked_at orders) 3 (sku_item (codes " B  2 ") 38) (sku_plain (codes "B 2"))
unfolding orders reads spelled treated words_of is_white_space chars is_xml_char in_class
spaced_sku_valid = (roses_of (characters (codes "B 2") ∷ []), refl, refl, All-nil (IsRight []), All-nil (Stands []), (codes " B  2 ", refl, refl))

large_qty_valid : ValidBy (asked_at orders) 4 (qty_item (codes "100") 55) (qty_plain (codes "100"))
unfolding orders reads spelled treated words_of is_white_space whole_number digits
large_qty_valid = (roses_of (characters (codes "100") ∷ []), refl, refl, All-nil (IsRight []), All-nil (Stands []), (codes "100", refl, refl))

first_line_valid : ValidBy (asked_at orders) 1 (item (po (codes "line")) [] [] 32 (sku_item (codes " B  2 ") 38 ∷ qty_item (codes "100") 55 ∷ [])) (line_plain (codes "B 2") (codes "100"))
unfolding orders
first_line_valid = (
  roses_of (sku_plain (codes "B 2") ∷ qty_plain (codes "100") ∷ []),
  refl,
  refl,
  All-nil (IsRight []),
  All-nil (Stands []),
  (
    sku_leaf ∷ qty_leaf ∷ [],
    sku_and_qty,
    (
      sku_leaf,
      qty_leaf ∷ [],
      sku_plain (codes "B 2"),
      roses_of (qty_plain (codes "100") ∷ []),
      refl,
      refl,
      refl,
      spaced_sku_valid,
      (qty_leaf, [], qty_plain (codes "100"), none, refl, refl, refl, large_qty_valid, (refl, refl)),
    ),
  ),
)

note_valid : ValidBy (asked_at orders) 2 (item (po (codes "note")) [] [] 114 []) note_plain
unfolding orders reads spelled treated chars in_class
note_valid = (none, refl, refl, All-nil (IsRight []), All-nil (Stands []), ([], refl, refl))

two_lines_valid : Valid orders 0 two_lines two_lines_plain
unfolding orders reads spelled treated words_of is_white_space whole_number digits
two_lines_valid = (
  refl,
  (
    roses_of (line_plain (codes "B 2") (codes "100") ∷ line_plain (codes "A1") (codes "3") ∷ note_plain ∷ []),
    refl,
    refl,
    spaced_ids_right,
    id_stands (codes " 07 "),
    (
      line_leaf 0 ∷ line_leaf 1 ∷ note_leaf ∷ [],
      lines_and_note,
      (
        line_leaf 0,
        line_leaf 1 ∷ note_leaf ∷ [],
        line_plain (codes "B 2") (codes "100"),
        roses_of (line_plain (codes "A1") (codes "3") ∷ note_plain ∷ []),
        refl,
        refl,
        refl,
        first_line_valid,
        (
          line_leaf 1,
          note_leaf ∷ [],
          line_plain (codes "A1") (codes "3"),
          roses_of (note_plain ∷ []),
          refl,
          refl,
          refl,
          dense_line_valid 76,
          (note_leaf, [], note_plain, none, refl, refl, refl, note_valid, (refl, refl)),
        ),
      ),
    ),
  ),
)

first_line_fits : FitsAt order_types 2 (refers 1) (line_value (codes "B 2") (pos 100))
unfolding order_types follow FitsAt FitEach chars is_xml_char in_class treated words_of is_white_space is_utf8 encode_utf8
first_line_fits = (
  omega arith,
  ((token_fits order_types 3 (omega arith) (codes "B 2") refl refl refl, tt), (((omega arith, tt, (tt, tt, tt, tt)), tt), tt)),
  (tt, tt, tt, tt),
)

two_lines_fits : Fits order_types 0 two_lines_value
unfolding order_types follow FitsAt FitEach chars in_class treated is_utf8 encode_utf8
two_lines_fits = (
  omega arith,
  (
    ((omega arith, tt, (tt, tt, tt, tt)), tt),
    (((omega arith, ((first_line_fits, tt), ((line_fits, tt), tt)), (tt, tt, tt, tt)), tt), ((text_fits order_types 2 (omega arith) [] refl refl, tt), tt)),
  ),
  (tt, tt, tt, tt),
)

two_lines_items : Xer order_types 0 two_lines_value ≡ Some two_lines_plain
unfolding order_types follow inside gathered spelled digits
two_lines_items = refl

two_lines_is_one : AreOne orders 0 two_lines order_types 0 two_lines_value two_lines_plain
two_lines_is_one = (two_lines_valid, two_lines_fits, two_lines_items)

-- ---- nil, and not nil

-- <k xmlns:xsi=".." xsi:nil="1"/>
abbrev nil_item : Rose ItemLabel
nil_item = item (unqualified (codes "k")) ((xsi (codes "nil"), codes "1") ∷ []) (xsi_prefix ∷ []) 0 []

abbrev nil_plain : Rose Plain
nil_plain = plain (unqualified (codes "k")) ((xsi (codes "nil"), codes "true") ∷ []) []

nil_is_one : AreOne elements 5 nil_item element_types 3 (sequence (false ∷ []) []) nil_plain
unfolding elements element_types follow FitsAt FitEach inside gathered treated words_of is_white_space
nil_is_one = ((refl, (none, refl, refl, All-nil (IsRight []), All-nil (Stands []), (refl, refl))), (omega arith, tt, (tt, tt, tt, tt)), refl)

-- <k>5</k>
five_is_one : AreOne elements 5 (item (unqualified (codes "k")) [] [] 0 (said (codes "5") 3 ∷ [])) element_types 3 (sequence (true ∷ []) (number (pos 5) ∷ []))
    (plain (unqualified (codes "k")) [] (characters (codes "5") ∷ []))
unfolding elements element_types follow FitsAt FitEach inside gathered reads spelled treated words_of is_white_space whole_number digits
five_is_one = (
  (refl, (roses_of (characters (codes "5") ∷ []), refl, refl, All-nil (IsRight []), All-nil (Stands []), (codes "5", refl, refl))),
  (omega arith, (((omega arith, tt, (tt, tt, tt, tt)), tt), tt), (tt, tt, tt, tt)),
  refl,
)

-- ---- mixed content: texts before, between and behind child elements

abbrev b_item : Rose ItemLabel
b_item = item (unqualified (codes "b")) [] [] 6 (said (codes "x") 9 ∷ [])

abbrev i_item : Rose ItemLabel
i_item = item (unqualified (codes "i")) [] [] 16 (said (codes "y") 19 ∷ [])

-- <p>Hi <b>x</b>, <i>y</i>!</p>
abbrev mixed_item : Rose ItemLabel
mixed_item = item (unqualified (codes "p")) [] [] 0 (said (codes "Hi ") 3 ∷ b_item ∷ said (codes ", ") 14 ∷ i_item ∷ said (codes "!") 24 ∷ [])

abbrev b_plain : Rose Plain
b_plain = plain (unqualified (codes "b")) [] (characters (codes "x") ∷ [])

abbrev i_plain : Rose Plain
i_plain = plain (unqualified (codes "i")) [] (characters (codes "y") ∷ [])

abbrev mixed_kids : List (Rose Plain)
mixed_kids = characters (codes "Hi ") ∷ b_plain ∷ characters (codes ", ") ∷ i_plain ∷ characters (codes "!") ∷ []

abbrev mixed_value : Rose ValueLabel
mixed_value =
    sequence (true ∷ true ∷ [])
    (several (words (codes "Hi ") ∷ words (codes ", ") ∷ words (codes "!") ∷ []) ∷ several (chosen 0 (words (codes "x")) ∷ chosen 1 (words (codes "y")) ∷ []) ∷ [])

-- each in a turn of the choice
abbrev b_leaf : Leaf
b_leaf = leaf_at 1 14 (unqualified (codes "b")) (turn_of 0 0 ∷ turn_of 1 0 ∷ [])

abbrev i_leaf : Leaf
i_leaf = leaf_at 2 15 (unqualified (codes "i")) (turn_of 0 1 ∷ turn_of 2 0 ∷ [])

b_and_i : Lang (seen mixed_model) 0 [] (b_leaf ∷ i_leaf ∷ [])
b_and_i = (
  2,
  omega arith,
  (
    b_leaf ∷ [],
    i_leaf ∷ [],
    refl,
    inl (1, (omega arith, omega arith), (b_leaf ∷ [], [], refl, refl, refl)),
    (i_leaf ∷ [], [], refl, inr (inl (1, (omega arith, omega arith), (i_leaf ∷ [], [], refl, refl, refl))), refl),
  ),
)

b_valid : ValidBy (asked_at elements) 14 b_item b_plain
unfolding elements reads spelled treated chars is_xml_char in_class
b_valid = (roses_of (characters (codes "x") ∷ []), refl, refl, All-nil (IsRight []), All-nil (Stands []), (codes "x", refl, refl))

i_valid : ValidBy (asked_at elements) 15 i_item i_plain
unfolding elements reads spelled treated chars is_xml_char in_class
i_valid = (roses_of (characters (codes "y") ∷ []), refl, refl, All-nil (IsRight []), All-nil (Stands []), (codes "y", refl, refl))

mixed_valid : Valid elements 12 mixed_item (plain (unqualified (codes "p")) [] mixed_kids)
unfolding elements
mixed_valid = (
  refl,
  (
    roses_of mixed_kids,
    refl,
    refl,
    All-nil (IsRight []),
    All-nil (Stands []),
    (
      b_leaf ∷ i_leaf ∷ [],
      b_and_i,
      (
        roses_of (b_plain ∷ characters (codes ", ") ∷ i_plain ∷ characters (codes "!") ∷ []),
        (
          b_leaf,
          i_leaf ∷ [],
          b_plain,
          roses_of (characters (codes ", ") ∷ i_plain ∷ characters (codes "!") ∷ []),
          refl,
          refl,
          refl,
          b_valid,
          (
            roses_of (i_plain ∷ characters (codes "!") ∷ []),
            (i_leaf, [], i_plain, roses_of (characters (codes "!") ∷ []), refl, refl, refl, i_valid, (none, (refl, refl), refl)),
            refl,
          ),
        ),
        refl,
      ),
    ),
  ),
)

mixed_fits : Fits element_types 6 mixed_value
unfolding element_types follow FitsAt FitEach child_count count_in chars is_xml_char in_class is_utf8 encode_utf8
mixed_fits = (
  omega arith,
  (
    (
      (
        omega arith,
        (
          (text_fits element_types 1 (omega arith) (codes "Hi ") refl refl, tt),
          ((text_fits element_types 1 (omega arith) (codes ", ") refl refl, tt), ((text_fits element_types 1 (omega arith) (codes "!") refl refl, tt), tt)),
        ),
        (tt, tt, tt, tt),
      ),
      tt,
    ),
    (
      (
        (
          omega arith,
          (
            ((omega arith, ((text_fits element_types 2 (omega arith) (codes "x") refl refl, tt), tt), (tt, tt, tt, tt)), tt),
            (((omega arith, ((text_fits element_types 2 (omega arith) (codes "y") refl refl, tt), tt), (tt, tt, tt, tt)), tt), tt),
          ),
          (tt, tt, tt, tt),
        ),
        tt,
      ),
      tt,
    ),
  ),
  (tt, tt, refl, tt),
)

mixed_items : Xer element_types 6 mixed_value ≡ Some (plain (unqualified (codes "p")) [] mixed_kids)
unfolding element_types follow inside gathered spelled
mixed_items = refl

mixed_is_one : AreOne elements 12 mixed_item element_types 6 mixed_value (plain (unqualified (codes "p")) [] mixed_kids)
mixed_is_one = (mixed_valid, mixed_fits, mixed_items)

-- <p/>: one text, which is empty
no_mixed_is_one : AreOne elements 12 (item (unqualified (codes "p")) [] [] 0 []) element_types 6 (sequence (true ∷ true ∷ []) (several (words [] ∷ []) ∷ several [] ∷ []))
    (plain (unqualified (codes "p")) [] [])
unfolding elements element_types follow FitsAt FitEach inside gathered spelled child_count count_in chars in_class is_utf8
no_mixed_is_one = (
  (refl, (none, refl, refl, All-nil (IsRight []), All-nil (Stands []), ([], (0, omega arith, refl), (refl, refl)))),
  (
    omega arith,
    (((omega arith, ((text_fits element_types 1 (omega arith) [] refl refl, tt), tt), (tt, tt, tt, tt)), tt), (((omega arith, tt, (tt, tt, tt, tt)), tt), tt)),
    (tt, tt, refl, tt),
  ),
  refl,
)

-- ---- a list, which is one text: <v> 1  255 </v>

abbrev list_value : Rose ValueLabel
list_value = several (number (pos 1) ∷ number (pos 255) ∷ [])

list_fits : Fits element_types 11 list_value
unfolding element_types follow FitsAt FitEach reads spelled words_of treated is_white_space whole_number digits
list_fits = (
  omega arith,
  (((omega arith, tt, (tt, tt, tt, tt)), tt), (((omega arith, tt, (tt, tt, tt, tt)), tt), tt)),
  (tt, (space.ListOf any_byte 1 (Some 3), (omega arith, refl, omega arith), (component [] false [], (refl, refl), (refl, refl), (refl, refl)), refl), tt, tt),
)

list_is_one : AreOne elements 6 (item (unqualified (codes "v")) [] [] 0 (said (codes " 1  255 ") 3 ∷ [])) element_types 11 list_value
    (plain (unqualified (codes "v")) [] (characters (codes "1 255") ∷ []))
unfolding elements element_types follow inside reads spelled treated words_of is_white_space whole_number digits
list_is_one = (
  (refl, (roses_of (characters (codes "1 255") ∷ []), refl, refl, All-nil (IsRight []), All-nil (Stands []), (codes " 1  255 ", refl, refl))),
  list_fits,
  refl,
)

-- ---- unions, by the member that takes the text

abbrev alternatives : List Component
alternatives = component (codes "alt") false [] ∷ component (codes "alt-1") false [] ∷ []

union_fits : Fits element_types 10 (chosen 0 (number (pos 7)))
unfolding element_types follow FitsAt FitEach reads taken_by spelled spelled_by treated words_of is_white_space whole_number digits
union_fits = (
  omega arith,
  (((omega arith, tt, (tt, tt, tt, tt)), tt), tt),
  (
    tt,
    (
      space.UnionOf (space.more any_int (space.more any_token space.none)),
      ((omega arith, omega arith), (omega arith, refl, (tt, refl, tt))),
      (alternatives, (refl, refl), ((refl, refl), ((refl, refl), tt)), ((refl, refl), ((refl, refl), tt))),
      refl,
    ),
    tt,
    tt,
  ),
)

-- <u> 007 </u>
union_is_one : AreOne elements 3 (item (unqualified (codes "u")) [] [] 0 (said (codes " 007 ") 3 ∷ [])) element_types 10 (chosen 0 (number (pos 7)))
    (plain (unqualified (codes "u")) [] (characters (codes "7") ∷ []))
unfolding elements element_types follow inside reads taken_by spelled spelled_by treated words_of is_white_space whole_number digits
union_is_one = (
  (refl, (roses_of (characters (codes "7") ∷ []), refl, refl, All-nil (IsRight []), All-nil (Stands []), (codes " 007 ", refl, refl))),
  union_fits,
  refl,
)

words_fit : Fits element_types 12 (chosen 0 (node (value.Enum 0) none))
unfolding element_types follow FitsAt FitEach IsStrictlySortedBy reads taken_by spelled spelled_by treated words_of is_white_space whole_number digits chars is_xml_char
words_fit = (
  omega arith,
  (((omega arith, tt, (tt, tt, tt, tt)), tt), tt),
  (
    tt,
    (
      space.UnionOf (space.more (space.Words Collapse (codes "7" ∷ [])) (space.more any_int space.none)),
      ((omega arith, omega arith), (((omega arith, omega arith), (tt, tt), ((refl, refl), tt)), refl, (omega arith, refl, tt))),
      (alternatives, (refl, refl), ((refl, refl), ((refl, refl), tt)), ((codes "x7" ∷ [], (refl, refl)), ((refl, refl), tt))),
      refl,
    ),
    tt,
    tt,
  ),
)

-- <w>007</w>: the second member takes the text, and the first its spelling
words_is_one : AreOne elements 4 (item (unqualified (codes "w")) [] [] 0 (said (codes "007") 3 ∷ [])) element_types 12 (chosen 0 (node (value.Enum 0) none))
    (plain (unqualified (codes "w")) [] (characters (codes "7") ∷ []))
unfolding elements element_types follow inside reads taken_by spelled spelled_by treated words_of is_white_space whole_number digits
words_is_one = (
  (refl, (roses_of (characters (codes "7") ∷ []), refl, refl, All-nil (IsRight []), All-nil (Stands []), (codes "007", refl, refl))),
  words_fit,
  refl,
)

-- ---- an enumeration, whose words ascend: <c> red </c>

colour_is_one : AreOne elements 7 (item (unqualified (codes "c")) [] [] 0 (said (codes " red ") 3 ∷ [])) element_types 0 (node (value.Enum 2) none)
    (plain (unqualified (codes "c")) [] (characters (codes "red") ∷ []))
unfolding elements element_types follow FitsAt FitEach inside reads spelled treated words_of is_white_space
colour_is_one = (
  (refl, (roses_of (characters (codes "red") ∷ []), refl, refl, All-nil (IsRight []), All-nil (Stands []), (codes " red ", refl, refl))),
  (omega arith, tt, (tt, tt, tt, tt)),
  refl,
)

-- ---- an attribute that may be absent

abbrev t_of : List ℕ → Name × List ℕ
t_of bytes = (unqualified (codes "t"), bytes)

t_right : All (IsRight (asked_at elements 13).attributes) (t_of (codes "a\nb") ∷ [])
unfolding elements reads treated chars is_xml_char in_class
t_right = All-cons (IsRight (asked_at elements 13).attributes) (t_of (codes "a\nb")) [] (words (codes "a\nb"), refl, tt) (All-nil (IsRight (asked_at elements 13).attributes))

t_stands : (xs : List (Name × List ℕ)) → All (Stands xs) (asked_at elements 13).attributes
unfolding elements
t_stands xs = All-cons (Stands xs) (record { name = unqualified (codes "t"); space = any_text; required = false; standard = Free }) [] (λ f n. cc) (All-nil (Stands xs))

-- <q t="a&#10;b"/>
attribute_is_one : AreOne elements 13 (item (unqualified (codes "q")) (t_of (codes "a\nb") ∷ []) [] 0 []) element_types 7 (sequence (true ∷ []) (words (codes "a\nb") ∷ []))
    (plain (unqualified (codes "q")) (t_of (codes "a\nb") ∷ []) [])
unfolding elements element_types follow FitsAt FitEach inside gathered reads spelled treated chars is_xml_char in_class is_utf8 encode_utf8
attribute_is_one = (
  (refl, (none, refl, refl, t_right, t_stands (t_of (codes "a\nb") ∷ []), (refl, refl))),
  (omega arith, ((text_fits element_types 1 (omega arith) (codes "a\nb") refl refl, tt), tt), (tt, tt, tt, tt)),
  refl,
)

-- <q/>
no_attribute_is_one : AreOne elements 13 (item (unqualified (codes "q")) [] [] 0 []) element_types 7 (sequence (false ∷ []) []) (plain (unqualified (codes "q")) [] [])
unfolding elements element_types follow FitsAt FitEach inside gathered
no_attribute_is_one = (
  (refl, (none, refl, refl, All-nil (IsRight (asked_at elements 13).attributes), t_stands [], (refl, refl))),
  (omega arith, tt, (tt, tt, tt, tt)),
  refl,
)

-- ---- an element in one of the same type: <z><z/></z>

abbrev z_leaf : Leaf
z_leaf = leaf_at 1 11 (unqualified (codes "z")) (turn_of 0 0 ∷ turn_of 1 0 ∷ [])

abbrev z_plain : List (Rose Plain) → Rose Plain
z_plain items = plain (unqualified (codes "z")) [] items

no_z : Lang (seen nested_model) 0 [] []
no_z = (1, (omega arith, omega arith), ([], [], refl, ([], [], refl, (0, (omega arith, omega arith), refl), refl), refl))

one_z : Lang (seen nested_model) 0 [] (z_leaf ∷ [])
one_z = (
  1,
  (omega arith, omega arith),
  (z_leaf ∷ [], [], refl, (z_leaf ∷ [], [], refl, (1, (omega arith, omega arith), (z_leaf ∷ [], [], refl, refl, refl)), refl), refl),
)

inner_valid : ValidBy (asked_at elements) 11 (item (unqualified (codes "z")) [] [] 3 []) (z_plain [])
unfolding elements
inner_valid = (none, refl, refl, All-nil (IsRight []), All-nil (Stands []), ([], no_z, (refl, refl)))

nested_is_one : AreOne elements 11 (item (unqualified (codes "z")) [] [] 0 (item (unqualified (codes "z")) [] [] 3 [] ∷ [])) element_types 13
    (sequence (true ∷ []) (sequence (false ∷ []) [] ∷ [])) (z_plain (z_plain [] ∷ []))
unfolding elements element_types follow FitsAt FitEach inside gathered
nested_is_one = (
  (
    refl,
    (
      roses_of (z_plain [] ∷ []),
      refl,
      refl,
      All-nil (IsRight []),
      All-nil (Stands []),
      (z_leaf ∷ [], one_z, (z_leaf, [], z_plain [], none, refl, refl, refl, inner_valid, (refl, refl))),
    ),
  ),
  (omega arith, (((omega arith, tt, (tt, tt, tt, tt)), tt), tt), (tt, tt, tt, tt)),
  refl,
)

-- ---- simple content with an attribute

abbrev euros : Name × List ℕ
euros = (unqualified (codes "currency"), codes "EUR")

abbrev wanted : Attribute
wanted = record { name = unqualified (codes "currency"); space = any_text; required = true; standard = Free }

abbrev is_true : Name × List ℕ
is_true = (xsi (codes "nil"), codes "true")

euros_right : All (IsRight (wanted ∷ [])) (euros ∷ [])
unfolding reads treated chars is_xml_char in_class
euros_right = All-cons (IsRight (wanted ∷ [])) euros [] (words (codes "EUR"), refl, tt) (All-nil (IsRight (wanted ∷ [])))

euros_stand : (xs : List (Name × List ℕ)) → All (Stands (euros ∷ xs)) (wanted ∷ [])
euros_stand xs = All-cons (Stands (euros ∷ xs)) wanted [] (λ f n. cc) (All-nil (Stands (euros ∷ xs)))

-- <price currency="EUR"> 5 </price>
price_is_one : AreOne prices 0 (item (unqualified (codes "price")) (euros ∷ []) [] 0 (said (codes " 5 ") 22 ∷ [])) price_types 0
    (sequence (true ∷ true ∷ []) (words (codes "EUR") ∷ number (pos 5) ∷ [])) (plain (unqualified (codes "price")) (euros ∷ []) (characters (codes "5") ∷ []))
unfolding prices price_types follow FitsAt FitEach inside gathered reads spelled treated words_of is_white_space whole_number digits chars is_xml_char in_class is_utf8 encode_utf8
price_is_one = (
  (refl, (roses_of (characters (codes "5") ∷ []), refl, refl, euros_right, euros_stand [], (codes " 5 ", refl, refl))),
  (omega arith, ((text_fits price_types 1 (omega arith) (codes "EUR") refl refl, tt), (((omega arith, tt, (tt, tt, tt, tt)), tt), tt)), (tt, tt, tt, tt)),
  refl,
)

-- <rebate currency="EUR" xmlns:xsi=".." xsi:nil="true"/>: nil stands first in the items of the value
rebate_is_one : AreOne prices 1 (item (unqualified (codes "rebate")) (euros ∷ is_true ∷ []) (xsi_prefix ∷ []) 0 []) price_types 1
    (sequence (true ∷ false ∷ []) (words (codes "EUR") ∷ [])) (plain (unqualified (codes "rebate")) (is_true ∷ euros ∷ []) [])
unfolding prices price_types follow FitsAt FitEach inside gathered reads spelled treated words_of is_white_space chars is_xml_char in_class is_utf8 encode_utf8
rebate_is_one = (
  (refl, (none, refl, refl, euros_right, euros_stand [], (refl, refl))),
  (omega arith, ((text_fits price_types 1 (omega arith) (codes "EUR") refl refl, tt), tt), (tt, tt, tt, tt)),
  refl,
)

-- ---- attributes with default and fixed values

abbrev v_of : List ℕ → Name × List ℕ
v_of bytes = (unqualified (codes "v"), bytes)

abbrev x_of : List ℕ → Name × List ℕ
x_of bytes = (unqualified (codes "x"), bytes)

abbrev v_wanted : Attribute
v_wanted = record { name = unqualified (codes "v"); space = any_byte; required = false; standard = Default (codes "5") }

abbrev x_wanted : Bool → Attribute
x_wanted required = record { name = unqualified (codes "x"); space = any_token; required = required; standard = Fixed (codes "on") }

abbrev both_wanted : List Attribute
both_wanted = v_wanted ∷ x_wanted false ∷ []

both_stand : (xs : List (Name × List ℕ)) → All (Stands xs) both_wanted
both_stand xs = All-cons (Stands xs) v_wanted (x_wanted false ∷ []) (λ f n. cc) (All-cons (Stands xs) (x_wanted false) [] (λ f n. cc) (All-nil (Stands xs)))

v_right : IsRight both_wanted (v_of (codes "05"))
unfolding reads treated words_of is_white_space whole_number
v_right = (number (pos 5), refl, tt)

other_v_right : IsRight both_wanted (v_of (codes "6"))
unfolding reads treated words_of is_white_space whole_number
other_v_right = (number (pos 6), refl, tt)

x_right : IsRight both_wanted (x_of (codes " on "))
unfolding reads spelled treated words_of is_white_space chars is_xml_char in_class
x_right = (words (codes "on"), refl, refl)

both_right : All (IsRight both_wanted) (v_of (codes "05") ∷ x_of (codes " on ") ∷ [])
both_right =
    All-cons (IsRight both_wanted) (v_of (codes "05")) (x_of (codes " on ") ∷ []) v_right
    (All-cons (IsRight both_wanted) (x_of (codes " on ")) [] x_right (All-nil (IsRight both_wanted)))

-- <g v="05" x=" on "/>: neither says anything
settings_are_one : AreOne settings 0 (item (unqualified (codes "g")) (v_of (codes "05") ∷ x_of (codes " on ") ∷ []) [] 0 []) setting_types 0 (sequence (false ∷ false ∷ []) [])
    (plain (unqualified (codes "g")) [] [])
unfolding settings setting_types follow FitsAt FitEach inside gathered reads spelled treated words_of is_white_space whole_number digits chars is_xml_char in_class
settings_are_one = ((refl, (none, refl, refl, both_right, both_stand (v_of (codes "05") ∷ x_of (codes " on ") ∷ []), (refl, refl))), (omega arith, tt, (tt, tt, tt, tt)), refl)

other_says_something : spelling setting_types byte_type (number (pos 6)) ≡ codes "5" → ⊥
unfolding follow spelled digits
other_says_something e = true≢false (sym (ap (λ text. bytes_eq text (codes "5")) e))

-- <g v="6"/>
other_setting_is_one : AreOne settings 0 (item (unqualified (codes "g")) (v_of (codes "6") ∷ []) [] 0 []) setting_types 0 (sequence (true ∷ false ∷ []) (number (pos 6) ∷ []))
    (plain (unqualified (codes "g")) (v_of (codes "6") ∷ []) [])
unfolding settings setting_types follow FitsAt FitEach inside gathered reads spelled treated words_of is_white_space whole_number digits
other_setting_is_one = (
  (
    refl,
    (
      none,
      refl,
      refl,
      All-cons (IsRight both_wanted) (v_of (codes "6")) [] other_v_right (All-nil (IsRight both_wanted)),
      both_stand (v_of (codes "6") ∷ []),
      (refl, refl),
    ),
  ),
  (omega arith, (((omega arith, tt, (tt, tt, tt, tt)), other_says_something), tt), (tt, tt, tt, tt)),
  refl,
)

-- a default value that stands is of no value
default_never_stands : Fits setting_types 0 (sequence (true ∷ false ∷ []) (number (pos 5) ∷ [])) → ⊥
unfolding setting_types follow FitsAt FitEach spelled digits
default_never_stands h = h.1.0.1 refl

-- <h x="on"/>: what is required stands in the value, though it can be no other
required_right : IsRight (x_wanted true ∷ []) (x_of (codes "on"))
unfolding reads spelled treated words_of is_white_space chars is_xml_char in_class
required_right = (words (codes "on"), refl, refl)

required_is_one : AreOne settings 1 (item (unqualified (codes "h")) (x_of (codes "on") ∷ []) [] 0 []) setting_types 1 (sequence (true ∷ []) (words (codes "on") ∷ []))
    (plain (unqualified (codes "h")) (x_of (codes "on") ∷ []) [])
unfolding settings setting_types follow FitsAt FitEach inside gathered reads spelled treated words_of is_white_space chars is_xml_char in_class is_utf8 encode_utf8
required_is_one = (
  (
    refl,
    (
      none,
      refl,
      refl,
      All-cons (IsRight (x_wanted true ∷ [])) (x_of (codes "on")) [] required_right (All-nil (IsRight (x_wanted true ∷ []))),
      All-cons (Stands (x_of (codes "on") ∷ [])) (x_wanted true) [] (λ f n. cc) (All-nil (Stands (x_of (codes "on") ∷ []))),
      (refl, refl),
    ),
  ),
  (omega arith, ((token_fits setting_types 1 (omega arith) (codes "on") refl refl refl, (refl, refl)), tt), (tt, tt, tt, tt)),
  refl,
)

-- ---- children in any order: the value has them in the order of the schema, and its first part tells that of the document

abbrev any_a : Leaf
any_a = leaf_at 1 1 (unqualified (codes "a")) (turn_of 0 0 ∷ turn_of 1 0 ∷ [])

abbrev any_b : Leaf
any_b = leaf_at 2 2 (unqualified (codes "b")) (turn_of 0 0 ∷ turn_of 2 0 ∷ [])

any_taken : Lang (seen any_model) 0 [] (any_b ∷ any_a ∷ [])
any_taken = (
  1,
  (omega arith, omega arith),
  (
    any_b ∷ any_a ∷ [],
    [],
    refl,
    (
      (any_b ∷ []) ∷ (any_a ∷ []) ∷ [],
      refl,
      (
        (any_b ∷ []) ∷ [],
        any_a ∷ [],
        [],
        refl,
        (1, (omega arith, omega arith), (any_a ∷ [], [], refl, refl, refl)),
        ([], any_b ∷ [], [], refl, (1, (omega arith, omega arith), (any_b ∷ [], [], refl, refl, refl)), refl),
      ),
    ),
    refl,
  ),
)

-- <y><b>1</b><a>02</a></y>
abbrev any_item : Rose ItemLabel
any_item =
    item (unqualified (codes "y")) [] [] 0
    (item (unqualified (codes "b")) [] [] 3 (said (codes "1") 6 ∷ []) ∷ item (unqualified (codes "a")) [] [] 11 (said (codes "02") 14 ∷ []) ∷ [])

abbrev number_plain : List ℕ → List ℕ → Rose Plain
number_plain local digits_are = plain (unqualified local) [] (characters digits_are ∷ [])

abbrev any_plain : Rose Plain
any_plain = plain (unqualified (codes "y")) [] (number_plain (codes "b") (codes "1") ∷ number_plain (codes "a") (codes "2") ∷ [])

abbrev numbered : ℕ → Rose ValueLabel
numbered i = node (value.Enum i) none

abbrev any_value : Rose ValueLabel
any_value = sequence (true ∷ true ∷ true ∷ []) (several (numbered 1 ∷ numbered 0 ∷ []) ∷ number (pos 2) ∷ number (pos 1) ∷ [])

any_valid : Valid any_order 0 any_item any_plain
unfolding any_order reads spelled treated words_of is_white_space whole_number digits
any_valid = (
  refl,
  (
    roses_of (number_plain (codes "b") (codes "1") ∷ number_plain (codes "a") (codes "2") ∷ []),
    refl,
    refl,
    All-nil (IsRight []),
    All-nil (Stands []),
    (
      any_b ∷ any_a ∷ [],
      any_taken,
      (
        any_b,
        any_a ∷ [],
        number_plain (codes "b") (codes "1"),
        roses_of (number_plain (codes "a") (codes "2") ∷ []),
        refl,
        refl,
        refl,
        (roses_of (characters (codes "1") ∷ []), refl, refl, All-nil (IsRight []), All-nil (Stands []), (codes "1", refl, refl)),
        (
          any_a,
          [],
          number_plain (codes "a") (codes "2"),
          none,
          refl,
          refl,
          refl,
          (roses_of (characters (codes "2") ∷ []), refl, refl, All-nil (IsRight []), All-nil (Stands []), (codes "02", refl, refl)),
          (refl, refl),
        ),
      ),
    ),
  ),
)

any_fits : Fits any_types 0 any_value
unfolding any_types follow FitsAt FitEach
any_fits = (
  omega arith,
  (
    ((omega arith, (((omega arith, tt, (tt, tt, tt, tt)), tt), (((omega arith, tt, (tt, tt, tt, tt)), tt), tt)), (tt, tt, tt, tt)), tt),
    (((omega arith, tt, (tt, tt, tt, tt)), tt), (((omega arith, tt, (tt, tt, tt, tt)), tt), tt)),
  ),
  (tt, tt, tt, (just_set (true ∷ true ∷ []) (1 ∷ 0 ∷ [])).0 refl),
)

any_items : Xer any_types 0 any_value ≡ Some any_plain
unfolding any_types follow inside gathered spelled digits
any_items = refl

any_is_one : AreOne any_order 0 any_item any_types 0 any_value any_plain
any_is_one = (any_valid, any_fits, any_items)
