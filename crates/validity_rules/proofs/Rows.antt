-- Worked elements: which are valid, with their treated items, and the first fault of the others.
use Rattle.std.proofs.Common.{◌≡◌, ℕ, inl, inr, List, [], ◌∷◌, Option, Some, None, true, false, refl, sym, ◌∙◌, ap, arith}
use Rattle.std.specs.Prelude.{codes, pos, All, bytes_eq}
use Rattle.std.specs.Fmt.{digits}
use Rattle.std.specs.Str.{chars}
use Rattle.std.proofs.lemmas.List.Elements.{All-nil, All-cons}
use Rattle.base_texts.specs.declared.texts.Name.{Name}
use Rattle.base_texts.specs.WhiteSpace.{is_white_space, words_of, treated}
use Rattle.base_texts.specs.Characters.{is_xml_char}
use Rattle.base_trees.specs.Rose.{Rose, node, none, roses_of}
use Rattle.simple_types.specs.Space.{Wholes}
use Rattle.simple_types.specs.declared.labels.ValueLabel.TheVariants as label
use Rattle.simple_types.specs.declared.standards.Standard.TheVariants.{Free}
use Rattle.simple_types.specs.Lexical.{whole_number, in_class}
use Rattle.simple_types.specs.Reading.{leaf, reads, taken_by, spelled, spelled_by}
use Rattle.content_models.specs.Language.{Leaf, names, Lang, Viable, leaf_at, turn_of}
use Rattle.content_models.specs.Seen.{seen}
use Rattle.content_models.specs.Laws.{Opens}
use Rattle.content_models.specs.declared.particles.ParticleKind.TheVariants as particle
use Rattle.content_models.specs.declared.particles.ParticleLabel.{ParticleLabel}
use Rattle.content_models.proofs.Opening.{lang_opens}
use Rattle.xml_items.specs.declared.label.ItemLabel.{ItemLabel}
use Rattle.xml_items.specs.declared.label.ItemLabel.TheVariants.{Element, Text}
use Rattle.xml_items.specs.Plain.{Plain, element, text}
use Rattle.schema_components.specs.declared.components.Content.TheVariants as content
use Rattle.schema_components.specs.declared.components.TypeOf.TheVariants as kind
use Rattle.schema_components.specs.SetParts.{SetParts}
use Rattle.validity_rules.specs.Asked.{Attribute, asked_at}
use Rattle.validity_rules.specs.Attributes.{IsRight, Stands, xsi}
use Rattle.validity_rules.specs.Valid.{Valid, ValidBy}
use Rattle.validity_rules.specs.Faults.{FirstFault}
use Rattle.validity_rules.specs.Private.WorkedSets.{unqualified, any_text, any_byte, element_decl, complex_def, unnamed_type, particle_of, element_particle, po, orders, order_model, line_model, elements, mixed_model}
use Rattle.validity_rules.specs.declared.why.InvalidWhy.TheVariants.{WrongRoot, UnknownAttribute, MissingAttribute, NilWithContent, TextNotAllowed, BadText, TooWide, UnexpectedElement, MissingElement}

-- ---- items

abbrev item : Name → List (Name × List ℕ) → ℕ → List (Rose ItemLabel) → Rose ItemLabel
item name attributes at items = node (Element name attributes [] at) (roses_of items)

abbrev said : List ℕ → ℕ → Rose ItemLabel
said words at = node (Text words at) none

abbrev plain : Name → List (Name × List ℕ) → List (Rose Plain) → Rose Plain
plain name attributes items = node (element name attributes) (roses_of items)

abbrev words : List ℕ → Rose Plain
words bytes = node (text bytes) none

-- ---- a nillable number

abbrev nil_true : Name × List ℕ
nil_true = (xsi (codes "nil"), codes "true")

abbrev local_of : Option Name → List ℕ
local_of None = []
local_of (Some name) = name.local

abbrev first_local : List Name → List ℕ
first_local [] = []
first_local (name ∷ names) = name.local

k_nil : Valid elements 5 (item (unqualified (codes "k")) (nil_true ∷ []) 0 []) (plain (unqualified (codes "k")) (nil_true ∷ []) [])
unfolding elements treated words_of is_white_space
k_nil = (refl, (none, refl, refl, All-nil (IsRight []), All-nil (Stands []), (refl, refl)))

k_number : Valid elements 5 (item (unqualified (codes "k")) [] 0 (said (codes "5") 3 ∷ [])) (plain (unqualified (codes "k")) [] (words (codes "5") ∷ []))
unfolding elements reads spelled treated words_of is_white_space whole_number digits
k_number = (refl, (roses_of (words (codes "5") ∷ []), refl, refl, All-nil (IsRight []), All-nil (Stands []), (codes "5", refl, refl)))

-- nil, with white space
k_nil_with_content : FirstFault elements 5 (item (unqualified (codes "k")) (nil_true ∷ []) 0 (said (codes " ") 72 ∷ [])) 72 NilWithContent
unfolding elements treated words_of is_white_space
k_nil_with_content = inr (refl, inr (refl, inr ((λ b. b), inr (All-nil (IsRight []), inr (All-nil (Stands []), (refl, refl))))))

-- ---- lists and unions

v_few : Valid elements 6 (item (unqualified (codes "v")) [] 0 (said (codes "1 255") 3 ∷ [])) (plain (unqualified (codes "v")) [] (words (codes "1 255") ∷ []))
unfolding elements reads spelled treated words_of is_white_space whole_number digits
v_few = (refl, (roses_of (words (codes "1 255") ∷ []), refl, refl, All-nil (IsRight []), All-nil (Stands []), (codes "1 255", refl, refl)))

v_many : FirstFault elements 6 (item (unqualified (codes "v")) [] 0 (said (codes "1 2 3 4") 3 ∷ [])) 0 BadText
unfolding elements reads treated words_of is_white_space whole_number
v_many = inr (refl, inr (refl, inr ((λ b. b), inr (All-nil (IsRight []), inr (All-nil (Stands []), inr (codes "1 2 3 4", refl, refl, refl))))))

n_wide : FirstFault elements 1 (item (unqualified (codes "n")) [] 0 (said (codes "170141183460469231731687303715884105728") 3 ∷ [])) 0 TooWide
unfolding elements reads treated words_of is_white_space whole_number
n_wide = inr (refl, inr (refl, inr ((λ b. b), inr (All-nil (IsRight []), inr (All-nil (Stands []), inr (codes "170141183460469231731687303715884105728", refl, refl, refl))))))

u_number : Valid elements 3 (item (unqualified (codes "u")) [] 0 (said (codes " 007 ") 3 ∷ [])) (plain (unqualified (codes "u")) [] (words (codes "7") ∷ []))
unfolding elements reads taken_by spelled spelled_by treated words_of is_white_space whole_number digits
u_number = (refl, (roses_of (words (codes "7") ∷ []), refl, refl, All-nil (IsRight []), All-nil (Stands []), (codes " 007 ", refl, refl)))

-- the second member takes the text, and the first its spelling
w_seven : Valid elements 4 (item (unqualified (codes "w")) [] 0 (said (codes "007") 3 ∷ [])) (plain (unqualified (codes "w")) [] (words (codes "7") ∷ []))
unfolding elements reads taken_by spelled spelled_by treated words_of is_white_space whole_number digits
w_seven = (refl, (roses_of (words (codes "7") ∷ []), refl, refl, All-nil (IsRight []), All-nil (Stands []), (codes "007", refl, refl)))

-- ---- empty content, attributes, another root

e_empty : Valid elements 9 (item (unqualified (codes "e")) [] 0 []) (plain (unqualified (codes "e")) [] [])
unfolding elements
e_empty = (refl, (none, refl, refl, All-nil (IsRight []), All-nil (Stands []), (refl, refl)))

e_text : FirstFault elements 9 (item (unqualified (codes "e")) [] 0 (said (codes " ") 3 ∷ [])) 3 TextNotAllowed
unfolding elements
e_text = inr (refl, inr (refl, inr ((λ b. b), inr (All-nil (IsRight []), inr (All-nil (Stands []), (refl, refl))))))

s_attribute : FirstFault elements 2 (item (unqualified (codes "s")) ((unqualified (codes "a"), codes "1") ∷ []) 0 []) 0 UnknownAttribute
unfolding elements
s_attribute = inr (refl, inr (refl, inr ((λ b. b), inl (refl, inl refl))))

s_wrong : FirstFault elements 2 (item (unqualified (codes "e")) [] 0 []) 0 WrongRoot
unfolding elements
s_wrong = inl (refl, refl, λ e. let d : true ≡ false = ap (λ o. bytes_eq (codes "s") (local_of o)) e in cc)

q_attribute : Valid elements 13 (item (unqualified (codes "q")) ((unqualified (codes "t"), 97 ∷ 10 ∷ 98 ∷ []) ∷ []) 0 [])
    (plain (unqualified (codes "q")) ((unqualified (codes "t"), 97 ∷ 10 ∷ 98 ∷ []) ∷ []) [])
unfolding elements reads spelled treated chars is_xml_char in_class
q_attribute = (
  refl,
  (
    none,
    refl,
    refl,
    All-cons (IsRight (asked_at elements 13).attributes) (unqualified (codes "t"), 97 ∷ 10 ∷ 98 ∷ []) [] (leaf (label.Utf8 (97 ∷ 10 ∷ 98 ∷ [])), refl, tt) (All-nil (IsRight (asked_at elements 13).attributes)),
    All-cons (Stands ((unqualified (codes "t"), 97 ∷ 10 ∷ 98 ∷ []) ∷ [])) (record { name = unqualified (codes "t"); space = any_text; required = false; standard = Free }) [] (λ f n. cc)
        (All-nil (Stands ((unqualified (codes "t"), 97 ∷ 10 ∷ 98 ∷ []) ∷ []))),
    (refl, refl),
  ),
)

-- ---- mixed content

-- the leaf of `b` in the first turn of the choice
abbrev b_leaf : Leaf
b_leaf = leaf_at 1 14 (unqualified (codes "b")) (turn_of 0 0 ∷ turn_of 1 0 ∷ [])

b_taken : Lang (seen mixed_model) 0 [] (b_leaf ∷ [])
b_taken = (1, omega arith, (b_leaf ∷ [], [], refl, inl (1, (omega arith, omega arith), (b_leaf ∷ [], [], refl, refl, refl)), refl))

b_item : Rose ItemLabel
b_item = item (unqualified (codes "b")) [] 6 (said (codes "x") 9 ∷ [])

p_mixed : Valid elements 12 (item (unqualified (codes "p")) [] 0 (said (codes "Hi ") 3 ∷ b_item ∷ said (codes "!") 14 ∷ []))
    (plain (unqualified (codes "p")) [] (words (codes "Hi ") ∷ plain (unqualified (codes "b")) [] (words (codes "x") ∷ []) ∷ words (codes "!") ∷ []))
unfolding elements reads spelled treated chars is_xml_char in_class b_item
p_mixed = (
  refl,
  (
    roses_of (words (codes "Hi ") ∷ plain (unqualified (codes "b")) [] (words (codes "x") ∷ []) ∷ words (codes "!") ∷ []),
    refl,
    refl,
    All-nil (IsRight []),
    All-nil (Stands []),
    (
      b_leaf ∷ [],
      b_taken,
      (
        roses_of (plain (unqualified (codes "b")) [] (words (codes "x") ∷ []) ∷ words (codes "!") ∷ []),
        (
          b_leaf,
          [],
          plain (unqualified (codes "b")) [] (words (codes "x") ∷ []),
          roses_of (words (codes "!") ∷ []),
          refl,
          refl,
          refl,
          (roses_of (words (codes "x") ∷ []), refl, refl, All-nil (IsRight []), All-nil (Stands []), (codes "x", refl, refl)),
          (none, (refl, refl), refl),
        ),
        refl,
      ),
    ),
  ),
)

-- ---- orders

abbrev id_seven : Name × List ℕ
id_seven = (unqualified (codes "id"), codes "7")

abbrev id_wanted : Attribute
id_wanted = record { name = unqualified (codes "id"); space = Wholes (Some (pos 0)) (Some (pos 65535)); required = true; standard = Free }

id_right : IsRight (asked_at orders 0).attributes id_seven
unfolding orders reads treated words_of is_white_space whole_number
id_right = (leaf (label.Int (pos 7)), refl, tt)

id_stands : All (Stands (id_seven ∷ [])) (asked_at orders 0).attributes
unfolding orders
id_stands = All-cons (Stands (id_seven ∷ [])) id_wanted [] (λ f n. cc) (All-nil (Stands (id_seven ∷ [])))

ids_right : All (IsRight (asked_at orders 0).attributes) (id_seven ∷ [])
ids_right = All-cons (IsRight (asked_at orders 0).attributes) id_seven [] id_right (All-nil (IsRight (asked_at orders 0).attributes))

-- an order begins with a line
no_note : Viable (seen order_model) (po (codes "note") ∷ []) → ⊥
no_note (w, r, h, n) = go (names w) (lang_opens (seen order_model) 0 [] w h) n
  where
    go : (xs : List Name) → Opens (po (codes "line") ∷ []) false xs → xs ≡ po (codes "note") ∷ r → ⊥
    go [] o e = cc
    go (x ∷ xs) (inl o) e = let d : true ≡ false = ap (λ ys. bytes_eq (codes "line") (first_local ys)) (sym (ap (λ y. y ∷ xs) o) ∙ e) in cc
    go (x ∷ xs) (inr o) e = o

no_order_begins_empty : (w : List Leaf) → Lang (seen order_model) 0 [] w → names w ≡ [] → ⊥
no_order_begins_empty w h n = go (names w) (lang_opens (seen order_model) 0 [] w h) n
  where
    go : (xs : List Name) → Opens (po (codes "line") ∷ []) false xs → xs ≡ [] → ⊥
    go [] o e = cc
    go (x ∷ xs) o e = cc

-- a line begins an order
abbrev line_leaf : Leaf
line_leaf = leaf_at 1 1 (po (codes "line")) (turn_of 0 0 ∷ turn_of 1 0 ∷ [])

line_taken : Lang (seen order_model) 0 [] (line_leaf ∷ [])
line_taken = (
  1,
  (omega arith, omega arith),
  (
    line_leaf ∷ [],
    [],
    refl,
    (line_leaf ∷ [], [], refl, (1, omega arith, (line_leaf ∷ [], [], refl, refl, refl)), ([], [], refl, (0, (omega arith, omega arith), refl), refl)),
    refl,
  ),
)

order_unexpected : FirstFault orders 0 (item (po (codes "order")) (id_seven ∷ []) 0 (item (po (codes "note")) [] 29 (said (codes "n") 35 ∷ []) ∷ [])) 29 UnexpectedElement
unfolding orders
order_unexpected = inr (refl, inr (refl, inr ((λ b. b), inr (ids_right, inr (id_stands, ([], (line_leaf ∷ [], line_taken), inr (0, none, (refl, refl), inl (no_note, refl, refl))))))))

order_missing : FirstFault orders 0 (item (po (codes "order")) (id_seven ∷ []) 0 []) 0 MissingElement
unfolding orders
order_missing = inr (refl, inr (refl, inr ((λ b. b), inr (ids_right, inr (id_stands, ([], (line_leaf ∷ [], line_taken), inl (none, (refl, refl), no_order_begins_empty, refl, refl)))))))

order_without_id : FirstFault orders 0 (item (po (codes "order")) [] 0 []) 0 MissingAttribute
unfolding orders
order_without_id = inr (refl, inr (refl, inr ((λ b. b), inr (All-nil (IsRight (asked_at orders 0).attributes), inl (refl, refl, (0, id_wanted, omega arith, refl, (refl, refl)))))))

-- ---- the order of one line, with white space between its elements, and a hint where its schema is

abbrev hint : Name × List ℕ
hint = (xsi (codes "schemaLocation"), codes "urn:po a.xsd")

abbrev line_break : ℕ → Rose ItemLabel
line_break at = said (10 ∷ 32 ∷ 32 ∷ []) at

abbrev line_item : Rose ItemLabel
line_item =
    item (po (codes "line")) [] 193
    (line_break 199 ∷ item (po (codes "sku")) [] 204 (said (codes "A1") 209 ∷ []) ∷ line_break 217 ∷ item (po (codes "qty")) [] 222 (said (codes "3") 227 ∷ []) ∷ line_break 234 ∷ [])

abbrev order_item : Rose ItemLabel
order_item = item (po (codes "order")) (hint ∷ id_seven ∷ []) 57 (line_break 190 ∷ line_item ∷ line_break 244 ∷ [])

abbrev sku_plain : Rose Plain
sku_plain = plain (po (codes "sku")) [] (words (codes "A1") ∷ [])

abbrev qty_plain : Rose Plain
qty_plain = plain (po (codes "qty")) [] (words (codes "3") ∷ [])

abbrev line_plain : Rose Plain
line_plain = plain (po (codes "line")) [] (sku_plain ∷ qty_plain ∷ [])

abbrev sku_leaf : Leaf
sku_leaf = leaf_at 1 3 (po (codes "sku")) (turn_of 0 0 ∷ turn_of 1 0 ∷ [])

abbrev qty_leaf : Leaf
qty_leaf = leaf_at 2 4 (po (codes "qty")) (turn_of 0 0 ∷ turn_of 2 0 ∷ [])

line_model_taken : Lang (seen line_model) 0 [] (sku_leaf ∷ qty_leaf ∷ [])
line_model_taken = (
  1,
  (omega arith, omega arith),
  (
    sku_leaf ∷ qty_leaf ∷ [],
    [],
    refl,
    (
      sku_leaf ∷ [],
      qty_leaf ∷ [],
      refl,
      (1, (omega arith, omega arith), (sku_leaf ∷ [], [], refl, refl, refl)),
      (qty_leaf ∷ [], [], refl, (1, (omega arith, omega arith), (qty_leaf ∷ [], [], refl, refl, refl)), refl),
    ),
    refl,
  ),
)

sku_valid : ValidBy (asked_at orders) 3 (item (po (codes "sku")) [] 204 (said (codes "A1") 209 ∷ [])) sku_plain
unfolding orders reads spelled treated words_of is_white_space chars is_xml_char in_class
sku_valid = (roses_of (words (codes "A1") ∷ []), refl, refl, All-nil (IsRight []), All-nil (Stands []), (codes "A1", refl, refl))

qty_valid : ValidBy (asked_at orders) 4 (item (po (codes "qty")) [] 222 (said (codes "3") 227 ∷ [])) qty_plain
unfolding orders reads spelled treated words_of is_white_space whole_number digits
qty_valid = (roses_of (words (codes "3") ∷ []), refl, refl, All-nil (IsRight []), All-nil (Stands []), (codes "3", refl, refl))

line_valid : ValidBy (asked_at orders) 1 line_item line_plain
unfolding orders is_white_space
line_valid = (
  roses_of (sku_plain ∷ qty_plain ∷ []),
  refl,
  refl,
  All-nil (IsRight []),
  All-nil (Stands []),
  (
    sku_leaf ∷ qty_leaf ∷ [],
    line_model_taken,
    (
      roses_of (sku_plain ∷ qty_plain ∷ []),
      (
        sku_leaf,
        qty_leaf ∷ [],
        sku_plain,
        roses_of (qty_plain ∷ []),
        refl,
        refl,
        refl,
        sku_valid,
        (roses_of (qty_plain ∷ []), (qty_leaf, [], qty_plain, none, refl, refl, refl, qty_valid, (none, (refl, refl), (refl, refl))), (refl, refl)),
      ),
      (refl, refl),
    ),
  ),
)

order_valid : Valid orders 0 order_item (plain (po (codes "order")) (id_seven ∷ []) (line_plain ∷ []))
unfolding orders reads spelled treated words_of is_white_space whole_number digits
order_valid = (
  refl,
  (
    roses_of (line_plain ∷ []),
    refl,
    refl,
    ids_right,
    id_stands,
    (
      line_leaf ∷ [],
      line_taken,
      (roses_of (line_plain ∷ []), (line_leaf, [], line_plain, none, refl, refl, refl, line_valid, (none, (refl, refl), (refl, refl))), (refl, refl)),
    ),
  ),
)

-- ---- children in any order: `y` has an `a` and may have a `b`

abbrev any_model : Rose ParticleLabel
any_model = particle_of particle.All 1 (Some 1) (element_particle 1 (unqualified (codes "a")) 1 (Some 1) ∷ element_particle 2 (unqualified (codes "b")) 0 (Some 1) ∷ [])

unfoldable any_order : SetParts
any_order = record {
  elements =
      element_decl (unqualified (codes "y")) false (kind.Complex 0) ∷ element_decl (unqualified (codes "a")) false (kind.Simple 0)
      ∷ element_decl (unqualified (codes "b")) false (kind.Simple 0) ∷ [];
  globals = 1;
  simples = unnamed_type any_byte ∷ [];
  complexes = complex_def None [] (content.ElementOnly any_model) ∷ [];
  attributes = [];
}

abbrev any_a : Leaf
any_a = leaf_at 1 1 (unqualified (codes "a")) (turn_of 0 0 ∷ turn_of 1 0 ∷ [])

abbrev any_b : Leaf
any_b = leaf_at 2 2 (unqualified (codes "b")) (turn_of 0 0 ∷ turn_of 2 0 ∷ [])

any_taken : Lang (seen any_model) 0 [] (any_b ∷ any_a ∷ [])
any_taken = (
  1,
  (omega arith, omega arith),
  (
    any_b ∷ any_a ∷ [],
    [],
    refl,
    (
      (any_b ∷ []) ∷ (any_a ∷ []) ∷ [],
      refl,
      (
        (any_b ∷ []) ∷ [],
        any_a ∷ [],
        [],
        refl,
        (1, (omega arith, omega arith), (any_a ∷ [], [], refl, refl, refl)),
        ([], any_b ∷ [], [], refl, (1, (omega arith, omega arith), (any_b ∷ [], [], refl, refl, refl)), refl),
      ),
    ),
    refl,
  ),
)

abbrev number_plain : List ℕ → List ℕ → Rose Plain
number_plain local bytes = plain (unqualified local) [] (words bytes ∷ [])

any_valid : Valid any_order 0
    (item (unqualified (codes "y")) [] 0 (item (unqualified (codes "b")) [] 3 (said (codes "1") 6 ∷ []) ∷ item (unqualified (codes "a")) [] 11 (said (codes "02") 14 ∷ []) ∷ []))
    (plain (unqualified (codes "y")) [] (number_plain (codes "b") (codes "1") ∷ number_plain (codes "a") (codes "2") ∷ []))
unfolding any_order reads spelled treated words_of is_white_space whole_number digits
any_valid = (
  refl,
  (
    roses_of (number_plain (codes "b") (codes "1") ∷ number_plain (codes "a") (codes "2") ∷ []),
    refl,
    refl,
    All-nil (IsRight []),
    All-nil (Stands []),
    (
      any_b ∷ any_a ∷ [],
      any_taken,
      (
        any_b,
        any_a ∷ [],
        number_plain (codes "b") (codes "1"),
        roses_of (number_plain (codes "a") (codes "2") ∷ []),
        refl,
        refl,
        refl,
        (roses_of (words (codes "1") ∷ []), refl, refl, All-nil (IsRight []), All-nil (Stands []), (codes "1", refl, refl)),
        (
          any_a,
          [],
          number_plain (codes "a") (codes "2"),
          none,
          refl,
          refl,
          refl,
          (roses_of (words (codes "2") ∷ []), refl, refl, All-nil (IsRight []), All-nil (Stands []), (codes "02", refl, refl)),
          (refl, refl),
        ),
      ),
    ),
  ),
)
