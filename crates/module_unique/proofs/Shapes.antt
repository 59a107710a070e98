-- What the values of simple types are made of.
use Rattle.std.proofs.Common.{◌≡◌, ℕ, zero, suc, ◌-◌, Bool, Option, true, false, List, [], ◌∷◌, refl, sym, ap, ◌∙◌, subst, Some, None, Ok, Err, get_or, inl, inr, arith}
use Rattle.std.specs.Prelude.{ℤ, ◌==◌, ◌&&◌, nat_le, chars, length, position, bytes_eq, slice_get, if◌then◌else◌}
use Rattle.std.specs.List.{list_all}
use Rattle.std.specs.Ordering.{int_eq}
use Rattle.std.proofs.lemmas.Bool.Decides.{Decides-int_eq}
use Rattle.std.proofs.lemmas.List.Quantifiers.{position-Some}
use Rattle.std.proofs.lemmas.Option.{slice_get-get_or}
use Rattle.base_trees.specs.Rose.{Rose, node, label_of, roses_of}
use Rattle.base_trees.specs.Rose as rose
use Rattle.base_texts.specs.Characters.{is_xml_char}
use Rattle.base_texts.specs.WhiteSpace.{words_of, treated}
use Rattle.base_texts.specs.declared.white_space.WhiteSpace.TheVariants.{Collapse}
use Rattle.simple_types.specs.declared.simples.Class.{Class}
use Rattle.simple_types.specs.declared.labels.ValueLabel.{ValueLabel}
use Rattle.simple_types.specs.declared.labels.ValueLabel.TheVariants as label
use Rattle.simple_types.specs.Space.{Space, Spaces, none, more, Booleans, Wholes, Numbers, Words, Characters, ListOf, UnionOf, count_members}
use Rattle.simple_types.specs.Lexical.{boolean_of, whole_number, is_128_bits, is_at_most, in_class}
use Rattle.simple_types.specs.Chains.{choice_of}
use Rattle.simple_types.specs.Reading.{Bad, Taking, leaf, reads, taken_by, spelled_by, goes_on, settled, item_at, number_from, read_each, has_characters}
use Rattle.simple_types.proofs.Again.{is_boolean, is_whole, is_item, is_read, is_list}
use Rattle.simple_types.proofs.Readings.{turn_refused, turn_same, turn_further, reads-ListOf, reads-UnionOf, settled_from}
use Rattle.simple_types.proofs.OwnSpellings.{which}
use Rattle.module_text.proofs.PrintedBounds.{and-first}

abbrev pub EachShaped : (Rose ValueLabel → Type 0) → List (Rose ValueLabel) → Type 0
EachShaped P [] = Unit {0}
EachShaped P (v ∷ vs) = P v × EachShaped P vs

abbrev mutual
  pub Shaped : Space → Rose ValueLabel → Type 0
  Shaped Booleans v = (b : Bool) × (v ≡ leaf (label.Bool b))
  Shaped (Wholes least greatest) v = (z : ℤ) × (is_128_bits z ≡ true) × (v ≡ leaf (label.Int z))
  Shaped (Numbers numbers) v = (i : ℕ) × (z : ℤ) × (slice_get numbers i ≡ Some z) × (v ≡ leaf (label.Enum i)) × (is_128_bits z ≡ true)
  Shaped (Words how words) v = (i : ℕ) × (word : List ℕ) × (slice_get words i ≡ Some word) × (v ≡ leaf (label.Enum i))
  Shaped (Characters how least most class) v = (text : List ℕ) × (list_all is_xml_char (chars text) ≡ true) × (v ≡ leaf (label.Utf8 text))
  Shaped (ListOf item least most) v = (vs : List (Rose ValueLabel)) × EachShaped (Shaped item) vs × (v ≡ node label.SequenceOf (roses_of vs))
  Shaped (UnionOf members) v = (i : ℕ) × (w : Rose ValueLabel) × ShapedBy members i w × (v ≡ node (label.Choice i) (rose.more w rose.none))

  pub ShapedBy : Spaces → ℕ → Rose ValueLabel → Type 0
  ShapedBy none i v = ⊥
  ShapedBy (more s ss) zero v = Shaped s v
  ShapedBy (more s ss) (suc i) v = ShapedBy ss i v

abbrev Reads : Space → Type 0
Reads s = (text : List ℕ) (v : Rose ValueLabel) → reads s text ≡ Ok v → Shaped s v

abbrev Takes : Spaces → Type 0
Takes ss = (text : List ℕ) (i : ℕ) (v : Rose ValueLabel) → taken_by ss text ≡ Ok (i, v) → ShapedBy ss i v

booleans : Reads Booleans
unfolding reads
booleans text v e = is_boolean (boolean_of (treated Collapse text)) v e

wholes : (least greatest : _) → Reads (Wholes least greatest)
unfolding reads
wholes least greatest text v e = let is = is_whole least greatest (whole_number (treated Collapse text)) v e in (is.z, is.bits, is.is)

number_at : (numbers : List ℤ) (z : ℤ) (v : Rose ValueLabel) (bits : Bool) → is_128_bits z ≡ bits → (if bits then item_at (position (λ n. int_eq n z) numbers) else Err Bad) ≡ Ok v → Shaped (Numbers numbers) v
number_at numbers z v false wide e = absurd (cc)
number_at numbers z v true wide e =
    let item = is_item (position (λ n. int_eq n z) numbers) v e in
    let found = position-Some (λ n. int_eq n z) numbers item.0 z item.1 in
    let same : get_or numbers item.0 z ≡ z = (Decides-int_eq (get_or numbers item.0 z) z).0 found.1 in
    (item.0, get_or numbers item.0 z, slice_get-get_or numbers item.0 z found.0, item.2, ap is_128_bits same ∙ wide)

number_in : (numbers : List ℤ) (o : Option ℤ) (v : Rose ValueLabel) → number_from numbers o ≡ Ok v → Shaped (Numbers numbers) v
number_in numbers None v e = absurd (cc)
number_in numbers (Some z) v e = number_at numbers z v (is_128_bits z) refl e

numbers_in : (numbers : List ℤ) → Reads (Numbers numbers)
unfolding reads
numbers_in numbers text v e = number_in numbers (whole_number (treated Collapse text)) v e

words_in : (how : _) (words : List (List ℕ)) → Reads (Words how words)
unfolding reads
words_in how words text v e =
    let item = is_item (position (λ w. bytes_eq w (treated how text)) words) v e in
    let found = position-Some (λ w. bytes_eq w (treated how text)) words item.0 [] item.1 in
    (item.0, get_or words item.0 [], slice_get-get_or words item.0 [] found.0, item.2)

characters_at : (how : _) (least : ℕ) (most : _) (class : Class) (text : List ℕ) (v : Rose ValueLabel) (has : Bool) → has_characters least most class text ≡ has
    → (if has then Ok (leaf (label.Utf8 text)) else Err Bad) ≡ Ok v → Shaped (Characters how least most class) v
characters_at how least most class text v false is e = absurd (cc)
characters_at how least most class text v true is e =
    let given : Ok (leaf (label.Utf8 text)) ≡ Ok v = e in
    let same : leaf (label.Utf8 text) ≡ v = cc in
    let characters = list_all is_xml_char (chars text) in
    let enough = nat_le least (length (chars text)) in
    let few = is_at_most (length (chars text)) most in
    (text, and-first characters enough (and-first (characters && enough) few (and-first (characters && enough && few) (in_class class text) is)), sym same)

characters_in : (how : _) (least : ℕ) (most : _) (class : Class) → Reads (Characters how least most class)
unfolding reads
characters_in how least most class text v e = characters_at how least most class (treated how text) v (has_characters least most class (treated how text)) refl e

each_in : (s : Space) → Reads s → (texts : List (List ℕ)) (vs : List (Rose ValueLabel)) → read_each (reads s) texts ≡ Ok vs → EachShaped (Shaped s) vs
each_in s one [] vs e = let none : [] ≡ vs = cc in subst (EachShaped (Shaped s)) none tt
each_in s one (text ∷ texts) vs e =
    let is = is_read (reads s) text texts vs e in
    subst (EachShaped (Shaped s)) (sym is.is) (one text is.value is.first, each_in s one texts is.further is.rest)

list_in : (item : Space) (least : ℕ) (most : _) → Reads item → Reads (ListOf item least most)
list_in item least most one text v e =
    let is = is_list least most (read_each (reads item) (words_of text)) v (sym (reads-ListOf item least most text) ∙ e) in
    (is.values, each_in item one (words_of text) is.values is.read, is.is)

-- ---- unions

module _ (members : Spaces) (take : List ℕ → Taking) (spell : ℕ → Rose ValueLabel → List ℕ)
    (each : (text : List ℕ) (i : ℕ) (v : Rose ValueLabel) → take text ≡ Ok (i, v) → ShapedBy members i v) where
  abbrev Further : ℕ → Type 0
  Further turns = (taken : ℕ × Rose ValueLabel) → ShapedBy members taken.0 taken.1 → (v : Rose ValueLabel) → goes_on take spell turns taken ≡ Ok v → Shaped (UnionOf members) v

  one_more : (turns : ℕ) → Further turns → Further (suc turns)
  one_more turns rest taken is v e = by (take (spell taken.0 taken.1)) refl
    where
      goes : (next : ℕ × Rose ValueLabel) → take (spell taken.0 taken.1) ≡ Ok next → (same : Bool) → (next.0 == taken.0) ≡ same → Shaped (UnionOf members) v
      goes next took true same =
          let given : Ok (choice_of taken) ≡ Ok v = sym (turn_same take spell taken (suc turns) next (omega arith) took same) ∙ e in
          let value_is : v ≡ choice_of taken = cc in
          (taken.0, taken.1, is, value_is)
      goes next took false other =
          let one_less : suc turns - 1 ≡ turns = omega arith in
          rest next (each (spell taken.0 taken.1) next.0 next.1 took) v
          (sym (turn_further take spell taken (suc turns) next (omega arith) took other ∙ ap (λ n. goes_on take spell n next) one_less) ∙ e)

      by : (t : Taking) → take (spell taken.0 taken.1) ≡ t → Shaped (UnionOf members) v
      by (Err why) took = absurd (let f : Err why ≡ Ok v = sym (turn_refused take spell taken (suc turns) why (omega arith) took) ∙ e in cc)
      by (Ok next) took = goes next took (next.0 == taken.0) refl

  further : (turns : ℕ) → Further turns
  further zero taken is v e = absurd (cc)
  further (suc turns) taken is v e = one_more turns (further turns) taken is v e

  settles : (turns : ℕ) (text : List ℕ) (v : Rose ValueLabel) → settled take spell turns text ≡ Ok v → Shaped (UnionOf members) v
  settles turns text v e = by (take text) refl
    where
      by : (t : Taking) → take text ≡ t → Shaped (UnionOf members) v
      by (Err why) took = absurd (let f = rw (settled, took) at e in cc)
      by (Ok taken) took = further turns taken (each text taken.0 taken.1 took) v (sym (settled_from take spell turns text taken took) ∙ e)

union_in : (members : Spaces) → Takes members → Reads (UnionOf members)
union_in members each text v e =
    settles members (taken_by members) (spelled_by members) each (count_members members) text v (sym (reads-UnionOf members text) ∙ e)

none_in : Takes none
unfolding taken_by
none_in text i v e = absurd (cc)

more_in : (s : Space) (ss : Spaces) → Reads s → Takes ss → Takes (more s ss)
unfolding taken_by
more_in s ss one others text i v e = elim (which (reads s text) (taken_by ss text) i v e) [
  | inl first ↦ subst (λ n. ShapedBy (more s ss) n v) (sym first.0) (one text v first.1)
  | inr later ↦ subst (λ n. ShapedBy (more s ss) n v) (sym later.1) (others text later.0 v later.2)
]

mutual
  pub shaped : (s : Space) → Reads s
  shaped Booleans = booleans
  shaped (Wholes least greatest) = wholes least greatest
  shaped (Numbers numbers) = numbers_in numbers
  shaped (Words how words) = words_in how words
  shaped (Characters how least most class) = characters_in how least most class
  shaped (ListOf item least most) = list_in item least most (shaped item)
  shaped (UnionOf members) = union_in members (all_shaped members)

  all_shaped : (ss : Spaces) → Takes ss
  all_shaped none = none_in
  all_shaped (more s ss) = more_in s ss (shaped s) (all_shaped ss)
