-- What a simple type accepts of a text in UTF-8 is spelled in UTF-8.
use Rattle.std.proofs.Common.{◌≡◌, ℕ, suc, ◌<◌, ◌^◌, Bool, true, false, List, [], ◌∷◌, ◌++◌, take, drop, length, get_or, refl, sym, ap, ◌∙◌, subst, arith, append_assoc, Ok, inl, inr}
use Rattle.std.specs.Prelude.{nat_lt, ℤ, pos, negsuc, map, IsUtf8}
use Rattle.std.specs.List.{join_with_byte, list_all, All, slice_split, onto_first}
use Rattle.std.specs.Str.{IsAscii, IsCharBoundary}
use Rattle.std.specs.Fmt.{decimal, signed_decimal}
use Rattle.std.proofs.lemmas.Bool.{ltb-true}
use Rattle.std.proofs.lemmas.Fmt.{IsAscii-decimal_wide}
use Rattle.std.proofs.lemmas.List.{append-nil}
use Rattle.std.proofs.lemmas.List.Elements.{All-nil, All-cons, All-head, All-tail, All-filter}
use Rattle.std.proofs.lemmas.Str.{IsUtf8-nil, IsUtf8-append, IsUtf8-from_ascii, IsUtf8-take, IsUtf8-drop, IsCharBoundary-before_ascii, IsCharBoundary-after_ascii}
use Rattle.std.proofs.lemmas.Str.Ascii.{IsAscii-nil, IsAscii-cons}
use Rattle.base_trees.specs.Rose.{Rose, kids_of}
use Rattle.base_trees.proofs.Roses.{kids_of-node}
use Rattle.base_texts.specs.declared.white_space.WhiteSpace.{WhiteSpace}
use Rattle.base_texts.specs.declared.white_space.WhiteSpace.TheVariants.{Preserve, Replace, Collapse}
use Rattle.base_texts.specs.WhiteSpace.{is_white_space, spaced, has_bytes, words_of, treated}
use Rattle.base_texts.proofs.FirstWord.{white_space-ascii}
use Rattle.simple_types.specs.declared.labels.ValueLabel.{ValueLabel}
use Rattle.simple_types.specs.declared.labels.ValueLabel.TheVariants as label
use Rattle.simple_types.specs.Space.{Space, Spaces, none, more, Booleans, Wholes, Numbers, Words, Characters, ListOf, UnionOf, count_members}
use Rattle.simple_types.specs.Lexical.{boolean_of, boolean_text, whole_number, is_128_bits}
use Rattle.simple_types.specs.Reading.{Reading, Taking, read_each, reads, taken_by, spelled, spelled_by}
use Rattle.simple_types.proofs.Again.{is_whole, is_number, is_read, is_list, is_boolean, word_spelled, characters_spelled}
use Rattle.simple_types.proofs.Decimals.{short}
use Rattle.simple_types.proofs.OwnSpellings.{which, settles_so}
use Rattle.simple_types.proofs.Readings.{reads-ListOf, reads-UnionOf}
use Rattle.simple_types.proofs.Spellings.{spelled-ListOf}
use Rattle.simple_types.proofs.WholeNumbers.{and-first, and-second}

-- ---- a byte of ASCII between two texts

at_end : (x r : List ℕ) (b : ℕ) → get_or (x ++ b ∷ r) (length x) 0 ≡ b
at_end [] r b = refl
at_end (a ∷ x) r b = at_end x r b

below_end : (x r : List ℕ) (b : ℕ) → length x < length (x ++ b ∷ r)
below_end [] r b = omega arith
below_end (a ∷ x) r b = let h = below_end x r b in omega (arith, h)

take_end : (x r : List ℕ) → take (length x) (x ++ r) ≡ x
take_end [] r = refl
take_end (a ∷ x) r = ap (λ y. a ∷ y) (take_end x r)

drop_end : (x r : List ℕ) → drop (length x) (x ++ r) ≡ r
drop_end [] r = refl
drop_end (a ∷ x) r = drop_end x r

-- the texts before and behind it
parted : (x r : List ℕ) (b : ℕ) → b < 128 → IsUtf8 (x ++ b ∷ r) → IsUtf8 x × IsUtf8 r
parted x r b low u =
    let here : get_or (x ++ b ∷ r) (length x) 0 < 128 = rw (at_end x r b) low in
    let cut : IsCharBoundary (x ++ b ∷ r) (length x) = IsCharBoundary-before_ascii (x ++ b ∷ r) (length x) (below_end x r b) here in
    let front : IsUtf8 x = subst IsUtf8 (take_end x (b ∷ r)) (IsUtf8-take (x ++ b ∷ r) (length x) u cut) in
    let back : IsUtf8 (b ∷ r) = subst IsUtf8 (drop_end x (b ∷ r)) (IsUtf8-drop (x ++ b ∷ r) (length x) u cut) in
    (front, IsUtf8-drop (b ∷ r) 1 back (IsCharBoundary-after_ascii (b ∷ r) 0 back (omega arith) low))

byte_utf8 : (b : ℕ) → b < 128 → IsUtf8 (b ∷ [])
byte_utf8 b low = IsUtf8-from_ascii (b ∷ []) (IsAscii-cons b [] low IsAscii-nil)

joined : (x r : List ℕ) (b : ℕ) → b < 128 → IsUtf8 x → IsUtf8 r → IsUtf8 (x ++ b ∷ r)
joined x r b low ux ur = IsUtf8-append x (b ∷ r) ux (IsUtf8-append (b ∷ []) r (byte_utf8 b low) ur)

one_more : (x bs : List ℕ) (b : ℕ) → IsUtf8 (x ++ b ∷ bs) → IsUtf8 ((x ++ b ∷ []) ++ bs)
one_more x bs b u = subst IsUtf8 (sym (append_assoc x (b ∷ []) bs)) u

-- ---- white space

spaced_utf8 : (bs x : List ℕ) → IsUtf8 (x ++ bs) → IsUtf8 (x ++ map spaced bs)
spaced_utf8 [] x u = u
spaced_utf8 (b ∷ bs) x u = by (is_white_space b) refl (spaced_utf8 bs []) (spaced_utf8 bs (x ++ b ∷ []) (one_more x bs b u))
  where
    by : (w : Bool) → is_white_space b ≡ w → (IsUtf8 bs → IsUtf8 (map spaced bs)) → IsUtf8 ((x ++ b ∷ []) ++ map spaced bs) → IsUtf8 (x ++ map spaced (b ∷ bs))
    by true e alone further =
        let parts = parted x bs b (white_space-ascii b e) u in
        let same : spaced b ≡ 0x20 = rw e refl in
        subst (λ c. IsUtf8 (x ++ c ∷ map spaced bs)) (sym same) (joined x (map spaced bs) 0x20 (omega arith) parts.0 (alone parts.1))
    by false e alone further =
        let same : spaced b ≡ b = rw e refl in
        subst (λ c. IsUtf8 (x ++ c ∷ map spaced bs)) (sym same) (subst IsUtf8 (append_assoc x (b ∷ []) (map spaced bs)) further)

-- the parts of a text that begins with x, where these are the parts behind x
abbrev behind : List ℕ → List (List ℕ) → List (List ℕ)
behind x [] = x ∷ []
behind x (part ∷ parts) = (x ++ part) ∷ parts

behind_nothing : (parts : List (List ℕ)) → All IsUtf8 (behind [] parts) → All IsUtf8 parts
behind_nothing [] h = All-nil IsUtf8
behind_nothing (part ∷ parts) h = h

behind_byte : (x : List ℕ) (b : ℕ) (parts : List (List ℕ)) → behind (x ++ b ∷ []) parts ≡ behind x (onto_first b parts)
behind_byte x b [] = refl
behind_byte x b (part ∷ parts) = ap (λ y. y ∷ parts) (append_assoc x (b ∷ []) part)

parts_utf8 : (bs x : List ℕ) → IsUtf8 (x ++ bs) → All IsUtf8 (behind x (slice_split is_white_space bs))
parts_utf8 [] x u = All-cons IsUtf8 (x ++ []) [] u (All-nil IsUtf8)
parts_utf8 (b ∷ bs) x u = by (is_white_space b) refl (parts_utf8 bs []) (parts_utf8 bs (x ++ b ∷ []) (one_more x bs b u))
  where
    by : (w : Bool) → is_white_space b ≡ w → (IsUtf8 bs → All IsUtf8 (behind [] (slice_split is_white_space bs))) → All IsUtf8 (behind (x ++ b ∷ []) (slice_split is_white_space bs))
        → All IsUtf8 (behind x (slice_split is_white_space (b ∷ bs)))
    by true e alone further =
        let parts = parted x bs b (white_space-ascii b e) u in
        let cut : slice_split is_white_space (b ∷ bs) ≡ [] ∷ slice_split is_white_space bs = rw e refl in
        subst (λ ps. All IsUtf8 (behind x ps)) (sym cut)
        (All-cons IsUtf8 (x ++ []) (slice_split is_white_space bs) (subst IsUtf8 (sym (append-nil x)) parts.0) (behind_nothing (slice_split is_white_space bs) (alone parts.1)))
    by false e alone further =
        let cut : slice_split is_white_space (b ∷ bs) ≡ onto_first b (slice_split is_white_space bs) = rw e refl in
        subst (λ ps. All IsUtf8 (behind x ps)) (sym cut) (subst (All IsUtf8) (behind_byte x b (slice_split is_white_space bs)) further)

pub words_utf8 : (text : List ℕ) → IsUtf8 text → All IsUtf8 (words_of text)
unfolding words_of
words_utf8 text u = All-filter has_bytes IsUtf8 (slice_split is_white_space text) (behind_nothing (slice_split is_white_space text) (parts_utf8 text [] u))

join_utf8 : (ws : List (List ℕ)) → All IsUtf8 ws → IsUtf8 (join_with_byte 0x20 ws)
join_utf8 [] h = IsUtf8-nil
join_utf8 (x ∷ []) h = All-head IsUtf8 x [] h
join_utf8 (x ∷ y ∷ ws) h = joined x (join_with_byte 0x20 (y ∷ ws)) 0x20 (omega arith) (All-head IsUtf8 x (y ∷ ws) h) (join_utf8 (y ∷ ws) (All-tail IsUtf8 x (y ∷ ws) h))

pub treated_utf8 : (how : WhiteSpace) (text : List ℕ) → IsUtf8 text → IsUtf8 (treated how text)
unfolding treated
treated_utf8 Preserve text u = u
treated_utf8 Replace text u = spaced_utf8 text [] u
treated_utf8 Collapse text u = join_utf8 (words_of text) (words_utf8 text u)

-- ---- truth values and numbers

all_low : (cs : List ℕ) → list_all (λ c. nat_lt c 128) cs ≡ true → IsAscii cs
all_low [] e = IsAscii-nil
all_low (c ∷ cs) e =
    IsAscii-cons c cs (ltb-true c 128 (and-first (nat_lt c 128) (list_all (λ d. nat_lt d 128) cs) e)) (all_low cs (and-second (nat_lt c 128) (list_all (λ d. nat_lt d 128) cs) e))

boolean_utf8 : (b : Bool) → IsUtf8 (boolean_text b)
boolean_utf8 true = IsUtf8-from_ascii (boolean_text true) (all_low (boolean_text true) refl)
boolean_utf8 false = IsUtf8-from_ascii (boolean_text false) (all_low (boolean_text false) refl)

decimal_utf8 : (z : ℤ) → is_128_bits z ≡ true → IsUtf8 (signed_decimal z)
decimal_utf8 (pos n) e =
    let below = short n (ltb-true n (2 ^ 127) e) in
    IsUtf8-from_ascii (decimal n) (IsAscii-decimal_wide n (omega arith))
decimal_utf8 (negsuc n) e =
    let below = short n (ltb-true n (2 ^ 127) e) in
    IsUtf8-from_ascii (45 ∷ decimal (suc n)) (IsAscii-cons 45 (decimal (suc n)) (omega arith) (IsAscii-decimal_wide (suc n) (omega arith)))

-- ---- types

abbrev pub Utf8From : (List ℕ → Reading) → (Rose ValueLabel → List ℕ) → Type 0
Utf8From read spell = (text : List ℕ) (value : Rose ValueLabel) → IsUtf8 text → read text ≡ Ok value → IsUtf8 (spell value)

abbrev pub Utf8Taken : (List ℕ → Taking) → (ℕ → Rose ValueLabel → List ℕ) → Type 0
Utf8Taken take spell = (text : List ℕ) (i : ℕ) (value : Rose ValueLabel) → IsUtf8 text → take text ≡ Ok (i, value) → IsUtf8 (spell i value)

booleans_utf8 : Utf8From (reads Booleans) (spelled Booleans)
unfolding reads spelled
booleans_utf8 text value u e = let known = is_boolean (boolean_of (treated Collapse text)) value e in rw known.1 (boolean_utf8 known.0)

wholes_utf8 : (least greatest : _) → Utf8From (reads (Wholes least greatest)) (spelled (Wholes least greatest))
unfolding reads spelled
wholes_utf8 least greatest text value u e =
    let known = is_whole least greatest (whole_number (treated Collapse text)) value e in
    rw known.is (decimal_utf8 known.z known.bits)

numbers_utf8 : (numbers : _) → Utf8From (reads (Numbers numbers)) (spelled (Numbers numbers))
unfolding reads spelled
numbers_utf8 numbers text value u e =
    let known = is_number numbers (whole_number (treated Collapse text)) value e in
    rw known.spelled_is (decimal_utf8 known.z known.bits)

enumerated_utf8 : (how words : _) → Utf8From (reads (Words how words)) (spelled (Words how words))
unfolding reads spelled
enumerated_utf8 how words text value u e = subst IsUtf8 (sym (word_spelled words (treated how text) value e)) (treated_utf8 how text u)

characters_utf8 : (how least most class : _) → Utf8From (reads (Characters how least most class)) (spelled (Characters how least most class))
unfolding reads spelled
characters_utf8 how least most class text value u e = subst IsUtf8 (sym (characters_spelled least most class (treated how text) value e)) (treated_utf8 how text u)

each_utf8 : (read : List ℕ → Reading) (spell : Rose ValueLabel → List ℕ) → Utf8From read spell
    → (texts : List (List ℕ)) (values : List (Rose ValueLabel)) → All IsUtf8 texts → read_each read texts ≡ Ok values → All IsUtf8 (map spell values)
each_utf8 read spell f [] values each e = let none : [] ≡ values = cc in rw (sym none) (All-nil IsUtf8)
each_utf8 read spell f (text ∷ texts) values each e =
    let known = is_read read text texts values e in
    rw known.is (All-cons IsUtf8 (spell known.value) (map spell known.further) (f text known.value (All-head IsUtf8 text texts each) known.first)
    (each_utf8 read spell f texts known.further (All-tail IsUtf8 text texts each) known.rest))

list_utf8 : (item : Space) (least : ℕ) (most : _) → Utf8From (reads item) (spelled item) → Utf8From (reads (ListOf item least most)) (spelled (ListOf item least most))
list_utf8 item least most f text value u e =
    let known = is_list least most (read_each (reads item) (words_of text)) value (sym (reads-ListOf item least most text) ∙ e) in
    let kids : kids_of value ≡ known.values = ap kids_of known.is ∙ kids_of-node label.SequenceOf known.values in
    let same : spelled (ListOf item least most) value ≡ join_with_byte 0x20 (map (spelled item) known.values) =
    spelled-ListOf item least most value ∙ ap (λ ks. join_with_byte 0x20 (map (spelled item) ks)) kids in
    subst IsUtf8 (sym same) (join_utf8 (map (spelled item) known.values) (each_utf8 (reads item) (spelled item) f (words_of text) known.values (words_utf8 text u) known.read))

more_utf8 : (s : Space) (ss : Spaces) → Utf8From (reads s) (spelled s) → Utf8Taken (taken_by ss) (spelled_by ss) → Utf8Taken (taken_by (more s ss)) (spelled_by (more s ss))
unfolding reads taken_by spelled spelled_by
more_utf8 s ss one others text i value u e = elim (which (reads s text) (taken_by ss text) i value e) [
  | inl first ↦ subst (λ n. IsUtf8 (spelled_by (more s ss) n value)) (sym first.0) (one text value u first.1)
  | inr later ↦ subst (λ n. IsUtf8 (spelled_by (more s ss) n value)) (sym later.1) (others text later.0 value u later.2)
]

none_utf8 : Utf8Taken (taken_by none) (spelled_by none)
unfolding taken_by spelled_by
none_utf8 text i value u e = absurd (cc)

union_utf8 : (members : Spaces) → Utf8Taken (taken_by members) (spelled_by members) → Utf8From (reads (UnionOf members)) (spelled (UnionOf members))
unfolding spelled spelled_by
union_utf8 members f text value u e =
    let known = settles_so (taken_by members) (spelled_by members) IsUtf8 IsUtf8 (λ t is. is) (λ t i v is taken. f t i v is taken) (count_members members) text value u (sym (reads-UnionOf members text) ∙ e) in
    subst (λ v. IsUtf8 (spelled (UnionOf members) v)) (sym known.2) known.3

mutual
  pub accepted_utf8 : (s : Space) → Utf8From (reads s) (spelled s)
  accepted_utf8 Booleans = booleans_utf8
  accepted_utf8 (Wholes least greatest) = wholes_utf8 least greatest
  accepted_utf8 (Numbers numbers) = numbers_utf8 numbers
  accepted_utf8 (Words how words) = enumerated_utf8 how words
  accepted_utf8 (Characters how least most class) = characters_utf8 how least most class
  accepted_utf8 (ListOf item least most) = list_utf8 item least most (accepted_utf8 item)
  accepted_utf8 (UnionOf members) = union_utf8 members (taken_utf8 members)

  pub taken_utf8 : (ss : Spaces) → Utf8Taken (taken_by ss) (spelled_by ss)
  taken_utf8 none = none_utf8
  taken_utf8 (more s ss) = more_utf8 s ss (accepted_utf8 s) (taken_utf8 ss)
