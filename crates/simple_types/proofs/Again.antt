-- What is accepted is given again by its own spelling: the types without parts, and lists of texts.
use Rattle.std.proofs.Common.{◌≡◌, ℕ, Bool, true, false, not, ◌&&◌, List, [], ◌∷◌, refl, sym, ap, ◌∙◌, Option, Some, None, Result, Ok, Err, length, get_or}
use Rattle.std.specs.Prelude.{ℤ, map, position, bytes_eq, nat_le}
use Rattle.std.specs.List.{join_with_byte, list_all, All}
use Rattle.std.specs.Ordering.{int_eq}
use Rattle.std.specs.Fmt.{signed_decimal}
use Rattle.std.proofs.lemmas.Bool.Decides.{Decides-int_eq}
use Rattle.std.proofs.lemmas.List.Elements.{All-nil, All-cons, All-head, All-tail}
use Rattle.std.proofs.lemmas.List.Quantifiers.{position-Some}
use Rattle.std.proofs.lemmas.Option.{slice_get-get_or}
use Rattle.std.proofs.lemmas.Slice.Eq.{bytes_eq-Decides}
use Rattle.base_trees.specs.Rose.{Rose, node, label_of, kids_of, roses_of}
use Rattle.base_trees.proofs.Roses.{kids_of-node}
use Rattle.base_texts.specs.declared.white_space.WhiteSpace.{WhiteSpace}
use Rattle.base_texts.specs.declared.white_space.WhiteSpace.TheVariants.{Preserve, Replace, Collapse}
use Rattle.base_texts.specs.WhiteSpace.{is_white_space, spaced, words_of, treated, IsWord}
use Rattle.base_texts.proofs.Collapsing.{treated-treated}
use Rattle.base_texts.proofs.WordLaws.{words_of-join}
use Rattle.simple_types.specs.declared.simples.Class.{Class}
use Rattle.simple_types.specs.declared.labels.ValueLabel.{ValueLabel}
use Rattle.simple_types.specs.declared.labels.ValueLabel.TheVariants as label
use Rattle.simple_types.specs.Lexical.{boolean_of, boolean_text, whole_number, is_128_bits, is_from, is_to, is_at_most}
use Rattle.simple_types.specs.Reading.{Refusal, Reading, leaf, boolean_from, read_boolean, bound_beyond, outside, whole_within, whole_from, read_whole, item_at, number_from, read_number, read_word, has_characters, read_characters, read_each, list_within, spelled_boolean, spelled_whole, spelled_if, spelled_number, spelled_word, spelled_text}
use Rattle.simple_types.proofs.Collapsed.{one_word, not-false}
use Rattle.simple_types.proofs.WholeNumbers.{and-first, and-second}
use Rattle.simple_types.proofs.Decimals.{decimal_word, decimal_number}

-- a word is treated already
plain_spaced : (bs : List ℕ) → All (λ b. is_white_space b ≡ false) bs → map spaced bs ≡ bs
plain_spaced [] plain = refl
plain_spaced (b ∷ bs) plain =
    rw (All-head (λ b. is_white_space b ≡ false) b bs plain, plain_spaced bs (All-tail (λ b. is_white_space b ≡ false) b bs plain)) refl

pub word_alone : (word : List ℕ) → IsWord word → words_of word ≡ word ∷ []
word_alone word is = words_of-join (word ∷ []) (All-cons IsWord word [] is (All-nil IsWord))

pub word_treated : (how : WhiteSpace) (word : List ℕ) → IsWord word → treated how word ≡ word
unfolding treated
word_treated Preserve word is = refl
word_treated Replace word is = plain_spaced word is.plain
word_treated Collapse word is = one_word word word (word_alone word is)

-- booleans
boolean_again : (b : Bool) → boolean_of (treated Collapse (boolean_text b)) ≡ Some b
unfolding treated words_of is_white_space
boolean_again true = refl
boolean_again false = refl

pub plain_letters : (bs : List ℕ) → list_all (λ b. not (is_white_space b)) bs ≡ true → All (λ b. is_white_space b ≡ false) bs
plain_letters [] e = All-nil (λ b. is_white_space b ≡ false)
plain_letters (b ∷ bs) e =
    All-cons (λ b. is_white_space b ≡ false) b bs (not-false (is_white_space b) (and-first (not (is_white_space b)) (list_all (λ b. not (is_white_space b)) bs) e))
    (plain_letters bs (and-second (not (is_white_space b)) (list_all (λ b. not (is_white_space b)) bs) e))

boolean_word : (b : Bool) → IsWord (boolean_text b)
unfolding is_white_space
boolean_word true = record { has = refl; plain = plain_letters (boolean_text true) refl }
boolean_word false = record { has = refl; plain = plain_letters (boolean_text false) refl }

pub is_boolean : (o : Option Bool) (value : Rose ValueLabel) → boolean_from o ≡ Ok value → (b : Bool) × (value ≡ leaf (label.Bool b))
is_boolean None value e = absurd (cc)
is_boolean (Some b) value e = (b, cc)

pub read_boolean-again : (text : List ℕ) (value : Rose ValueLabel) → read_boolean text ≡ Ok value → read_boolean (treated Collapse (spelled_boolean (label_of value))) ≡ Ok value
read_boolean-again text value e =
    let known = is_boolean (boolean_of text) value e in
    rw known.1 (ap boolean_from (boolean_again known.0))

pub read_boolean-word : (text : List ℕ) (value : Rose ValueLabel) → read_boolean text ≡ Ok value → IsWord (spelled_boolean (label_of value))
read_boolean-word text value e =
    let known = is_boolean (boolean_of text) value e in
    rw known.1 (boolean_word known.0)

-- whole numbers
pub record IsWhole (least greatest : Option ℤ) (value : Rose ValueLabel) : Type 0 where
  pub z : ℤ
  pub bits : is_128_bits z ≡ true
  pub is : value ≡ leaf (label.Int z)
  pub within : whole_within least greatest z ≡ Ok value

refused_outside : (bound : Option ℤ) (value : Rose ValueLabel) → outside bound ≡ Ok value → ⊥
refused_outside None value e = cc
refused_outside (Some z) value e = cc

pub is_whole : (least greatest : Option ℤ) (o : Option ℤ) (value : Rose ValueLabel) → whole_from least greatest o ≡ Ok value → IsWhole least greatest value
is_whole least greatest None value e = absurd (cc)
is_whole least greatest (Some z) value e = by (is_128_bits z) refl (is_from least z && is_to greatest z) refl
  where
    by : (bits : Bool) → is_128_bits z ≡ bits → (in_bounds : Bool) → (is_from least z && is_to greatest z) ≡ in_bounds → IsWhole least greatest value
    by false wide in_bounds is = absurd (refused_outside (bound_beyond least greatest z) value (let f = rw wide at e in f))
    by true fits false is = absurd (let f = rw (fits, is) at e in cc)
    by true fits true is = record { z = z; bits = fits; is = (let f = rw (fits, is) at e in cc); within = e }

pub read_whole-again : (least greatest : Option ℤ) (text : List ℕ) (value : Rose ValueLabel) → read_whole least greatest text ≡ Ok value
    → read_whole least greatest (treated Collapse (spelled_whole (label_of value))) ≡ Ok value
read_whole-again least greatest text value e =
    let known = is_whole least greatest (whole_number text) value e in
    let label_is : spelled_whole (label_of value) ≡ signed_decimal known.z = ap (λ v. spelled_whole (label_of v)) known.is in
    let same : treated Collapse (spelled_whole (label_of value)) ≡ signed_decimal known.z = ap (treated Collapse) label_is ∙ word_treated Collapse (signed_decimal known.z) (decimal_word known.z known.bits) in
    ap (λ t. whole_from least greatest (whole_number t)) same ∙ ap (whole_from least greatest) (decimal_number known.z known.bits) ∙ known.within

pub read_whole-word : (least greatest : Option ℤ) (text : List ℕ) (value : Rose ValueLabel) → read_whole least greatest text ≡ Ok value → IsWord (spelled_whole (label_of value))
read_whole-word least greatest text value e =
    let known = is_whole least greatest (whole_number text) value e in
    rw known.is (decimal_word known.z known.bits)

-- items of an enumeration
pub is_item : (o : Option ℕ) (value : Rose ValueLabel) → item_at o ≡ Ok value → (i : ℕ) × (o ≡ Some i) × (value ≡ leaf (label.Enum i))
is_item None value e = absurd (cc)
is_item (Some i) value e = (i, refl, cc)

pub record IsNumber (numbers : List ℤ) (value : Rose ValueLabel) : Type 0 where
  pub z : ℤ
  pub bits : is_128_bits z ≡ true
  pub spelled_is : spelled_number numbers (label_of value) ≡ signed_decimal z
  pub given : number_from numbers (Some z) ≡ Ok value

pub is_number : (numbers : List ℤ) (o : Option ℤ) (value : Rose ValueLabel) → number_from numbers o ≡ Ok value → IsNumber numbers value
is_number numbers None value e = absurd (cc)
is_number numbers (Some z) value e = by (is_128_bits z) refl
  where
    by : (bits : Bool) → is_128_bits z ≡ bits → IsNumber numbers value
    by false wide = absurd (let f = rw wide at e in cc)
    by true fits =
        let f : item_at (position (λ n. int_eq n z) numbers) ≡ Ok value = rw fits at e in
        let item = is_item (position (λ n. int_eq n z) numbers) value f in
        let found = position-Some (λ n. int_eq n z) numbers item.0 z item.1 in
        let same : get_or numbers item.0 z ≡ z = (Decides-int_eq (get_or numbers item.0 z) z).0 found.1 in
        record {
          z = z;
          bits = fits;
          spelled_is = ap (λ v. spelled_number numbers (label_of v)) item.2 ∙ ap spelled_if (slice_get-get_or numbers item.0 z found.0 ∙ ap Some same);
          given = e;
        }

pub read_number-again : (numbers : List ℤ) (text : List ℕ) (value : Rose ValueLabel) → read_number numbers text ≡ Ok value
    → read_number numbers (treated Collapse (spelled_number numbers (label_of value))) ≡ Ok value
read_number-again numbers text value e =
    let known = is_number numbers (whole_number text) value e in
    let same : treated Collapse (spelled_number numbers (label_of value)) ≡ signed_decimal known.z = ap (treated Collapse) known.spelled_is ∙ word_treated Collapse (signed_decimal known.z) (decimal_word known.z known.bits) in
    ap (λ t. number_from numbers (whole_number t)) same ∙ ap (number_from numbers) (decimal_number known.z known.bits) ∙ known.given

pub read_number-word : (numbers : List ℤ) (text : List ℕ) (value : Rose ValueLabel) → read_number numbers text ≡ Ok value → IsWord (spelled_number numbers (label_of value))
read_number-word numbers text value e =
    let known = is_number numbers (whole_number text) value e in
    rw known.spelled_is (decimal_word known.z known.bits)

-- a word's spelling is the text
pub word_spelled : (words : List (List ℕ)) (text : List ℕ) (value : Rose ValueLabel) → read_word words text ≡ Ok value → spelled_word words (label_of value) ≡ text
word_spelled words text value e =
    let item = is_item (position (λ w. bytes_eq w text) words) value e in
    let found = position-Some (λ w. bytes_eq w text) words item.0 [] item.1 in
    ap (λ v. spelled_word words (label_of v)) item.2 ∙ (bytes_eq-Decides (get_or words item.0 []) text).0 found.1

pub read_word-again : (how : WhiteSpace) (words : List (List ℕ)) (text : List ℕ) (value : Rose ValueLabel) → read_word words (treated how text) ≡ Ok value
    → read_word words (treated how (spelled_word words (label_of value))) ≡ Ok value
read_word-again how words text value e =
    ap (λ t. read_word words (treated how t)) (word_spelled words (treated how text) value e) ∙ ap (read_word words) (treated-treated how text) ∙ e

-- and so is that of characters
pub characters_spelled : (least : ℕ) (most : Option ℕ) (class : Class) (text : List ℕ) (value : Rose ValueLabel) → read_characters least most class text ≡ Ok value → spelled_text (label_of value) ≡ text
characters_spelled least most class text value e = by (has_characters least most class text) refl
  where
    by : (has : Bool) → has_characters least most class text ≡ has → spelled_text (label_of value) ≡ text
    by false refused = absurd (let f = rw refused at e in cc)
    by true holds = let f : Ok (leaf (label.Utf8 text)) ≡ Ok value = rw holds at e in let same : leaf (label.Utf8 text) ≡ value = cc in ap (λ v. spelled_text (label_of v)) (sym same)

pub read_characters-again : (how : WhiteSpace) (least : ℕ) (most : Option ℕ) (class : Class) (text : List ℕ) (value : Rose ValueLabel) → read_characters least most class (treated how text) ≡ Ok value
    → read_characters least most class (treated how (spelled_text (label_of value))) ≡ Ok value
read_characters-again how least most class text value e =
    ap (λ t. read_characters least most class (treated how t)) (characters_spelled least most class (treated how text) value e)
    ∙ ap (read_characters least most class) (treated-treated how text) ∙ e

-- items of a list
pub record IsRead (read : List ℕ → Reading) (text : List ℕ) (texts : List (List ℕ)) (values : List (Rose ValueLabel)) : Type 0 where
  pub value : Rose ValueLabel
  pub further : List (Rose ValueLabel)
  pub first : read text ≡ Ok value
  pub rest : read_each read texts ≡ Ok further
  pub is : values ≡ value ∷ further

pub is_read : (read : List ℕ → Reading) (text : List ℕ) (texts : List (List ℕ)) (values : List (Rose ValueLabel)) → read_each read (text ∷ texts) ≡ Ok values → IsRead read text texts values
is_read read text texts values e = by (read text) refl (read_each read texts) refl
  where
    by : (r : Reading) → read text ≡ r → (rs : Result (List (Rose ValueLabel)) Refusal) → read_each read texts ≡ rs → IsRead read text texts values
    by (Err why) first rs rest = absurd (let f = rw (read_each, first) at e in cc)
    by (Ok value) first (Err why) rest = absurd (let f = rw (read_each, first, rest) at e in cc)
    by (Ok value) first (Ok further) rest = record { value = value; further = further; first = first; rest = rest; is = (let f = rw (read_each, first, rest) at e in cc) }

module _ (read : List ℕ → Reading) (spell : Rose ValueLabel → List ℕ) where
  each_again : ((text : List ℕ) (value : Rose ValueLabel) → read text ≡ Ok value → read (spell value) ≡ Ok value)
      → (texts : List (List ℕ)) (values : List (Rose ValueLabel)) → read_each read texts ≡ Ok values → read_each read (map spell values) ≡ Ok values
  each_again again [] values e = let none : [] ≡ values = cc in rw (sym none) refl
  each_again again (text ∷ texts) values e =
      let known = is_read read text texts values e in
      rw known.is (rw (again text known.value known.first, each_again again texts known.further known.rest) refl)

  each_word : ((text : List ℕ) (value : Rose ValueLabel) → IsWord text → read text ≡ Ok value → IsWord (spell value))
      → (texts : List (List ℕ)) (values : List (Rose ValueLabel)) → All IsWord texts → read_each read texts ≡ Ok values → All IsWord (map spell values)
  each_word word [] values each e = let none : [] ≡ values = cc in rw (sym none) (All-nil IsWord)
  each_word word (text ∷ texts) values each e =
      let known = is_read read text texts values e in
      rw known.is (All-cons IsWord (spell known.value) (map spell known.further) (word text known.value (All-head IsWord text texts each) known.first)
      (each_word word texts known.further (All-tail IsWord text texts each) known.rest))

pub record IsList (least : ℕ) (most : Option ℕ) (read_items : Result (List (Rose ValueLabel)) Refusal) (value : Rose ValueLabel) : Type 0 where
  pub values : List (Rose ValueLabel)
  pub read : read_items ≡ Ok values
  pub is : value ≡ node label.SequenceOf (roses_of values)
  pub given : list_within least most (Ok values) ≡ Ok value

pub is_list : (least : ℕ) (most : Option ℕ) (r : Result (List (Rose ValueLabel)) Refusal) (value : Rose ValueLabel) → list_within least most r ≡ Ok value → IsList least most r value
is_list least most (Err why) value e = absurd (cc)
is_list least most (Ok values) value e = by (nat_le least (length values) && is_at_most (length values) most) refl
  where
    by : (within : Bool) → (nat_le least (length values) && is_at_most (length values) most) ≡ within → IsList least most (Ok values) value
    by false refused = absurd (let f = rw refused at e in cc)
    by true holds = record { values = values; read = refl; is = (let f = rw holds at e in cc); given = e }

pub list_again : (read : List ℕ → Reading) (spell : Rose ValueLabel → List ℕ) (least : ℕ) (most : Option ℕ)
    → ((text : List ℕ) (value : Rose ValueLabel) → read text ≡ Ok value → read (spell value) ≡ Ok value)
    → ((text : List ℕ) (value : Rose ValueLabel) → IsWord text → read text ≡ Ok value → IsWord (spell value))
    → (texts : List (List ℕ)) (value : Rose ValueLabel) → All IsWord texts → list_within least most (read_each read texts) ≡ Ok value
    → list_within least most (read_each read (words_of (join_with_byte 0x20 (map spell (kids_of value))))) ≡ Ok value
list_again read spell least most again word texts value each e =
    let known = is_list least most (read_each read texts) value e in
    let kids : kids_of value ≡ known.values = ap kids_of known.is ∙ kids_of-node label.SequenceOf known.values in
    let words : words_of (join_with_byte 0x20 (map spell (kids_of value))) ≡ map spell known.values =
    ap (λ ks. words_of (join_with_byte 0x20 (map spell ks))) kids ∙ words_of-join (map spell known.values) (each_word read spell word texts known.values each known.read) in
    ap (λ ws. list_within least most (read_each read ws)) words ∙ ap (list_within least most) (each_again read spell again texts known.values known.read) ∙ known.given
