-- What a simple type accepts of a text in UTF-8 fits the type that it is mapped to.
use Rattle.std.proofs.Common.{◌≡◌, ℕ, zero, suc, ◌-◌, ◌<◌, ◌≤◌, nat_lt, nat_le, ◌&&◌, ◌||◌, ◌==◌, Bool, true, false, Option, Some, None, List, [], ◌∷◌, ◌++◌, length, replicate, All, Ok, Err, inl, inr, refl, sym, ap, subst, ◌∙◌, arith}
use Rattle.std.specs.Prelude.{ℤ, IsUtf8, slice_get, position, bytes_eq, MatchBool, if◌then◌else◌}
use Rattle.std.specs.Ordering.{int_eq}
use Rattle.std.proofs.lemmas.Bool.Decides.{Decides-ltb}
use Rattle.std.proofs.lemmas.List.Elements.{All-head, All-tail}
use Rattle.std.proofs.lemmas.List.Quantifiers.{position-Some}
use Rattle.base_trees.specs.Rose.{Rose, node, Roses, list_of, roses_of, label_of, length_all}
use Rattle.base_trees.specs.Rose as rose
use Rattle.base_trees.proofs.Roses.{length_all-roses_of}
use Rattle.base_texts.specs.declared.white_space.WhiteSpace.{WhiteSpace}
use Rattle.base_texts.specs.declared.white_space.WhiteSpace.TheVariants.{Preserve, Replace, Collapse}
use Rattle.base_texts.specs.WhiteSpace.{words_of, treated, IsTreated}
use Rattle.base_texts.proofs.Collapsing.{treated-treated}
use Rattle.simple_types.specs.declared.standards.Standard.TheVariants.{Free}
use Rattle.simple_types.specs.declared.simples.Class.{Class}
use Rattle.simple_types.specs.declared.labels.ValueLabel.{ValueLabel}
use Rattle.simple_types.specs.declared.labels.ValueLabel.TheVariants as value
use Rattle.simple_types.specs.Space.{Space, Spaces, none, more, Booleans, Wholes, Numbers, Words, Characters, ListOf, UnionOf, count_members}
use Rattle.simple_types.specs.Sound.{Sound, AreSound}
use Rattle.simple_types.specs.Lexical.{boolean_of, whole_number, is_128_bits, is_from, is_to, is_at_most}
use Rattle.simple_types.specs.Reading.{Taking, leaf, whole_within, item_at, number_from, read_characters, has_characters, read_each, list_within, goes_on, settled, reads, taken_by, spelled_by, Holds}
use Rattle.simple_types.proofs.Again.{is_whole, is_item, is_read, is_list, is_boolean}
use Rattle.simple_types.proofs.OwnSpellings.{which, holds_again}
use Rattle.simple_types.proofs.Readings.{reads-ListOf, reads-UnionOf, turn_refused, turn_same, turn_further, settled_from}
use Rattle.asn_types.specs.declared.marks.Instruction.{Instruction}
use Rattle.asn_types.specs.declared.marks.Instruction.TheVariants as mark
use Rattle.asn_types.specs.declared.modules.Assignment.{Assignment}
use Rattle.asn_types.specs.declared.roles.Role.TheVariants as role
use Rattle.asn_types.specs.declared.types.Component.{Component}
use Rattle.asn_types.specs.declared.types.Form.{Form}
use Rattle.asn_types.specs.declared.types.Form.TheVariants as form
use Rattle.asn_types.specs.declared.types.TypeLabel.{TypeLabel}
use Rattle.asn_types.specs.Marks.{is_embed_values, is_use_order, has_attribute, has_untagged, has_embed_values, has_use_order, has_list, has_use_union, white_space_of}
use Rattle.asn_types.specs.Refs.{target}
use Rattle.asn_types.specs.Roles.{role_of}
use Rattle.asn_types.specs.Simples.{counting, white_space_marks, MapsTo}
use Rattle.asn_values.specs.Values.{ComponentPlace, place_of, place_at, alone, repeated, none_if, places_in, places, below, FitsAt, FitEach, IsTextOf, IsSpelled, HasTextCount, HasOrder, OwnAt}
use Rattle.map_assignments.specs.Naming.{type_label, text_marks, list_item, IsSimpleType, AreMembers}
use Rattle.map_assignments.proofs.Simples.{simple-maps}
use Rattle.map_assignments.proofs.Resolving.{follow-none}
use Rattle.map_laws.proofs.Frees.{kept-free}
use Rattle.value_laws.proofs.Encoded.{words_utf8, treated_utf8, taken_utf8}

-- ---- marks

embed-counted : (ms : List Instruction) → has_embed_values ms ≡ has_embed_values (counting ms)
embed-counted [] = refl
embed-counted (mark.Name n ∷ ms) = embed-counted ms
embed-counted (mark.Text item text ∷ ms) = embed-counted ms
embed-counted (m ∷ ms) = ap (λ b. is_embed_values m || b) (embed-counted ms)

space-marks : (how : WhiteSpace) → has_embed_values (white_space_marks how) ≡ false
space-marks Preserve = refl
space-marks Replace = refl
space-marks Collapse = refl

no-embed : (s : Space) (l : TypeLabel) (us : Roses TypeLabel) → MapsTo s (node l us) → has_embed_values l.marks ≡ false
no-embed Booleans l us h = embed-counted l.marks ∙ ap has_embed_values h.1
no-embed (Wholes least greatest) l us h = embed-counted l.marks ∙ ap has_embed_values h.1
no-embed (Numbers numbers) l us h = embed-counted l.marks ∙ ap has_embed_values h.1
no-embed (Words how words) l us h = embed-counted l.marks ∙ ap has_embed_values h.1.1 ∙ space-marks how
no-embed (Characters how least most class) l us h = embed-counted l.marks ∙ ap has_embed_values h.1 ∙ space-marks how
no-embed (ListOf item least most) l us h = embed-counted l.marks ∙ ap has_embed_values h.1.1
no-embed (UnionOf members) l us h = embed-counted l.marks ∙ ap has_embed_values h.1.1

space-is : (how : WhiteSpace) → white_space_of (white_space_marks how) ≡ how
space-is Preserve = refl
space-is Replace = refl
space-is Collapse = refl

order-counted : (ms : List Instruction) → has_use_order ms ≡ has_use_order (counting ms)
order-counted [] = refl
order-counted (mark.Name n ∷ ms) = order-counted ms
order-counted (mark.Text item text ∷ ms) = order-counted ms
order-counted (m ∷ ms) = ap (λ b. is_use_order m || b) (order-counted ms)

space-unordered : (how : WhiteSpace) → has_use_order (white_space_marks how) ≡ false
space-unordered Preserve = refl
space-unordered Replace = refl
space-unordered Collapse = refl

no-order : (s : Space) (l : TypeLabel) (us : Roses TypeLabel) → MapsTo s (node l us) → has_use_order l.marks ≡ false
no-order Booleans l us h = order-counted l.marks ∙ ap has_use_order h.1
no-order (Wholes least greatest) l us h = order-counted l.marks ∙ ap has_use_order h.1
no-order (Numbers numbers) l us h = order-counted l.marks ∙ ap has_use_order h.1
no-order (Words how words) l us h = order-counted l.marks ∙ ap has_use_order h.1.1 ∙ space-unordered how
no-order (Characters how least most class) l us h = order-counted l.marks ∙ ap has_use_order h.1 ∙ space-unordered how
no-order (ListOf item least most) l us h = order-counted l.marks ∙ ap has_use_order h.1.1
no-order (UnionOf members) l us h = order-counted l.marks ∙ ap has_use_order h.1.1

-- a member of a union stands for a part of its own
alternative : (parts : List Component) (i : ℕ) (c : Component) → c.marks ≡ [] → role_of (type_label (form.Choice parts) (mark.UseUnion ∷ [])) i c ≡ role.Alternative
alternative parts i c e =
    ap (λ ms. if has_attribute ms then role.Attribute else (if has_untagged ms then role.Group else (if (i == 0) && false then role.Embed else (if (i == 0) && false then role.Order else role.Alternative)))) e
    ∙ by (i == 0)
  where
    by : (b : Bool) → (if b && false then role.Embed else (if b && false then role.Order else role.Alternative)) ≡ role.Alternative
    by true = refl
    by false = refl

-- ---- values without parts

three : (a b c : Bool) → a ≡ true → (b && c) ≡ true → (a && b && c) ≡ true
three true true true e f = refl
three true true false e f = absurd (cc)
three true false c e f = absurd (cc)
three false b c e f = absurd (cc)

within-bounds : (least greatest : Option ℤ) (z : ℤ) (v : Rose ValueLabel) → is_128_bits z ≡ true → whole_within least greatest z ≡ Ok v → (is_from least z && is_to greatest z) ≡ true
within-bounds least greatest z v bits h = by (is_from least z && is_to greatest z) refl
  where
    by : (b : Bool) → (is_from least z && is_to greatest z) ≡ b → (is_from least z && is_to greatest z) ≡ true
    by true e = e
    by false e = absurd (let f = rw (bits, e) at h in cc)

below-length : (i n : ℕ) → i < n → nat_lt i n ≡ true
below-length i n h = (Decides-ltb i n).1 h

record IsItem {X : Type 0} (xs : List X) (v : Rose ValueLabel) : Type 0 where
  pub number : ℕ
  pub is : v ≡ leaf (value.Enum number)
  pub within : nat_lt number (length xs) ≡ true

item-within : {X : Type 0} (test : X → Bool) (xs : List X) (d : X) (v : Rose ValueLabel) → item_at (position test xs) ≡ Ok v → IsItem xs v
item-within test xs d v e =
    let item = is_item (position test xs) v e in
    record { number = item.0; is = item.2; within = below-length item.0 (length xs) (position-Some test xs item.0 d item.1).0 }

number-within : (numbers : List ℤ) (o : Option ℤ) (v : Rose ValueLabel) → number_from numbers o ≡ Ok v → IsItem numbers v
number-within numbers None v e = absurd (cc)
number-within numbers (Some z) v e = by (is_128_bits z) refl
  where
    by : (bits : Bool) → is_128_bits z ≡ bits → IsItem numbers v
    by false wide = absurd (let f = rw wide at e in cc)
    by true fits = let f : item_at (position (λ n. int_eq n z) numbers) ≡ Ok v = rw fits at e in item-within (λ n. int_eq n z) numbers z v f

text-within : (least : ℕ) (most : Option ℕ) (class : Class) (text : List ℕ) (v : Rose ValueLabel) → read_characters least most class text ≡ Ok v
    → (has_characters least most class text ≡ true) × (v ≡ leaf (value.Utf8 text))
text-within least most class text v e = by (has_characters least most class text) refl
  where
    by : (has : Bool) → has_characters least most class text ≡ has → (has_characters least most class text ≡ true) × (v ≡ leaf (value.Utf8 text))
    by false refused = absurd (let f = rw refused at e in cc)
    by true holds = let f : Ok (leaf (value.Utf8 text)) ≡ Ok v = rw holds at e in (holds, cc)

sizes-within : (least : ℕ) (most : Option ℕ) (values : List (Rose ValueLabel)) (v : Rose ValueLabel) → list_within least most (Ok values) ≡ Ok v
    → (nat_le least (length values) && is_at_most (length values) most) ≡ true
sizes-within least most values v e = by (nat_le least (length values) && is_at_most (length values) most) refl
  where
    by : (b : Bool) → (nat_le least (length values) && is_at_most (length values) most) ≡ b → (nat_le least (length values) && is_at_most (length values) most) ≡ true
    by true f = f
    by false f = absurd (let g = rw f at e in cc)

-- ---- unions: what is so of each value that a member takes of a text in UTF-8 is so of the one that is settled

module _ (take : List ℕ → Taking) (spell : ℕ → Rose ValueLabel → List ℕ) (So : ℕ → Rose ValueLabel → Type 0)
    (encoded : (text : List ℕ) (i : ℕ) (v : Rose ValueLabel) → IsUtf8 text → take text ≡ Ok (i, v) → IsUtf8 (spell i v))
    (each : (text : List ℕ) (i : ℕ) (v : Rose ValueLabel) → IsUtf8 text → take text ≡ Ok (i, v) → So i v) where
  abbrev Settles : Rose ValueLabel → Type 0
  Settles v = (i : ℕ) × (inner : Rose ValueLabel) × (v ≡ node (value.Choice i) (rose.more inner rose.none)) × So i inner

  abbrev Taken : ℕ × Rose ValueLabel → Type 0
  Taken taken = (text : List ℕ) × IsUtf8 text × (take text ≡ Ok taken)

  settles-more : (turns : ℕ) → ((next : ℕ × Rose ValueLabel) → Taken next → (v : Rose ValueLabel) → goes_on take spell turns next ≡ Ok v → Settles v)
      → (taken : ℕ × Rose ValueLabel) → Taken taken → (v : Rose ValueLabel) → goes_on take spell (suc turns) taken ≡ Ok v → Settles v
  settles-more turns rest taken from v e = by (take (spell taken.0 taken.1)) refl
    where
      goes : (next : ℕ × Rose ValueLabel) → take (spell taken.0 taken.1) ≡ Ok next → (same : Bool) → (next.0 == taken.0) ≡ same → Settles v
      goes next took true same =
          let given : Ok (node (value.Choice taken.0) (rose.more taken.1 rose.none)) ≡ Ok v = sym (turn_same take spell taken (suc turns) next (omega arith) took same) ∙ e in
          let is : v ≡ node (value.Choice taken.0) (rose.more taken.1 rose.none) = cc in
          (taken.0, taken.1, is, each from.0 taken.0 taken.1 from.1 from.2)
      goes next took false other =
          let one_less : suc turns - 1 ≡ turns = omega arith in
          rest next (spell taken.0 taken.1, encoded from.0 taken.0 taken.1 from.1 from.2, took) v
          (sym (turn_further take spell taken (suc turns) next (omega arith) took other ∙ ap (λ n. goes_on take spell n next) one_less) ∙ e)

      by : (t : Taking) → take (spell taken.0 taken.1) ≡ t → Settles v
      by (Err why) took = absurd (let f : Err why ≡ Ok v = sym (turn_refused take spell taken (suc turns) why (omega arith) took) ∙ e in cc)
      by (Ok next) took = goes next took (next.0 == taken.0) refl

  settles-at : (turns : ℕ) (taken : ℕ × Rose ValueLabel) → Taken taken → (v : Rose ValueLabel) → goes_on take spell turns taken ≡ Ok v → Settles v
  settles-at zero taken from v e = absurd (cc)
  settles-at (suc turns) taken from v e = settles-more turns (settles-at turns) taken from v e

  settles : (turns : ℕ) (text : List ℕ) (v : Rose ValueLabel) → IsUtf8 text → settled take spell turns text ≡ Ok v → Settles v
  settles turns text v u e = by (take text) refl
    where
      by : (t : Taking) → take text ≡ t → Settles v
      by (Err why) took = absurd (let f = rw (settled, took) at e in cc)
      by (Ok taken) took = settles-at turns taken (text, u, took) v (sym (settled_from take spell turns text taken took) ∙ e)

-- ---- values of simple types

match-either : (b : Bool) (A : Type 0) → A → MatchBool b A (Unit {0})
match-either true A a = a
match-either false A a = tt

match-false : (b : Bool) (A : Type 0) → b ≡ false → MatchBool b A (Unit {0})
match-false true A e = absurd (cc)
match-false false A e = tt

module _ (M : List Assignment) (depth : ℕ) (small : depth ≤ 64) where
  abbrev EachFits : Option (List ComponentPlace) → Roses ValueLabel → Type 0
  EachFits o vs = elim o [ None ↦ ⊥ | Some ps ↦ FitEach M depth ps vs ]

  -- a value of a type that is no reference
  here-fits : (t : Rose TypeLabel) (w : ValueLabel) (vs : Roses ValueLabel) → target (label_of t).form ≡ None → EachFits (places t w (length_all vs)) vs → OwnAt M (label_of t) t (node w vs)
      → FitsAt M depth t (node w vs)
  unfolding FitsAt FitEach
  here-fits t w vs none_is fit own =
      subst (λ x. (depth ≤ 64) × EachFits (places x w (length_all vs)) vs × OwnAt M (label_of x) x (node w vs)) (sym (follow-none M 4 t none_is)) (small, fit, own)

  own-at : (s : Space) → Sound s → (l : TypeLabel) (us : Roses TypeLabel) (v : Rose ValueLabel) → MapsTo s (node l us) → Holds s v → IsTextOf l.form l.marks (label_of v) → OwnAt M l (node l us) v
  own-at s sound l us v maps holds text = (
    text,
    match-either (has_list l.marks || has_use_union l.marks) (IsSpelled (node l us) v) (s, sound, maps, holds),
    match-false (has_embed_values l.marks) (HasTextCount M l (node l us) v) (no-embed s l us maps),
    match-false (has_use_order l.marks) (HasOrder M l (node l us) v) (no-order s l us maps),
  )

  no-places : (o : Option (List ComponentPlace)) → o ≡ Some [] → EachFits o rose.none
  unfolding FitEach
  no-places o e = subst (λ x. EachFits x rose.none) (sym e) tt

  leaf-fits : (s : Space) → Sound s → (f : Form) (marks : List Instruction) (t : Rose TypeLabel) → t ≡ node (type_label f marks) rose.none → IsSimpleType s t → target f ≡ None
      → (w : ValueLabel) (v : Rose ValueLabel) → v ≡ leaf w → places_in (type_label f marks) [] f w 0 ≡ Some [] → IsTextOf f marks w → Holds s v → FitsAt M depth t v
  leaf-fits s sound f marks t is simple none_is w v value_is at text holds =
      let l = type_label f marks in
      let maps : MapsTo s (node l rose.none) = subst (MapsTo s) is (simple-maps s t simple) in
      let fits : FitsAt M depth (node l rose.none) (leaf w) =
      here-fits (node l rose.none) w rose.none none_is (no-places (places_in l [] f w 0) at) (own-at s sound l rose.none (leaf w) maps (subst (Holds s) value_is holds) text) in
      subst (λ x. FitsAt M depth x v) (sym is) (subst (FitsAt M depth (node l rose.none)) (sym value_is) fits)

  -- values that are accepted fit each type of the simple type
  abbrev Fitting : Space → Type 0
  Fitting s = (text : List ℕ) (v : Rose ValueLabel) → IsUtf8 text → reads s text ≡ Ok v → (t : Rose TypeLabel) → IsSimpleType s t → FitsAt M depth t v

  booleans-fit : Fitting Booleans
  unfolding reads
  booleans-fit text v u e t is =
      let known = is_boolean (boolean_of (treated Collapse text)) v e in
      leaf-fits Booleans tt form.Bool [] t is is refl (value.Bool known.0) v known.1 refl tt (holds_again Booleans tt text v e)

  wholes-fit : (least greatest : Option ℤ) → Sound (Wholes least greatest) → Fitting (Wholes least greatest)
  unfolding reads
  wholes-fit least greatest sound text v u e t is =
      let known = is_whole least greatest (whole_number (treated Collapse text)) v e in
      let bounds = three (is_128_bits known.z) (is_from least known.z) (is_to greatest known.z) known.bits (within-bounds least greatest known.z v known.bits known.within) in
      leaf-fits (Wholes least greatest) sound (form.Int least greatest) [] t is is refl (value.Int known.z) v known.is (ap none_if bounds) tt (holds_again (Wholes least greatest) sound text v e)

  numbers-fit : (numbers : List ℤ) → Sound (Numbers numbers) → Fitting (Numbers numbers)
  unfolding reads
  numbers-fit numbers sound text v u e t is =
      let known = number-within numbers (whole_number (treated Collapse text)) v e in
      leaf-fits (Numbers numbers) sound (form.Numbers numbers) (mark.UseNumber ∷ []) t is is refl (value.Enum known.number) v known.is (ap none_if known.within) tt (holds_again (Numbers numbers) sound text v e)

  words-fit : (how : WhiteSpace) (words : List (List ℕ)) → Sound (Words how words) → Fitting (Words how words)
  unfolding reads
  words-fit how words sound text v u e t is =
      let known = item-within (λ w. bytes_eq w (treated how text)) words [] v e in
      leaf-fits (Words how words) sound (form.Words is.identifiers words) (white_space_marks how ++ text_marks 0 is.identifiers words) t is.type is refl (value.Enum known.number) v known.is (ap none_if known.within) tt (holds_again (Words how words) sound text v e)

  characters-fit : (how : WhiteSpace) (least : ℕ) (most : Option ℕ) (class : Class) → Sound (Characters how least most class) → Fitting (Characters how least most class)
  unfolding reads
  characters-fit how least most class sound text v u e t is =
      let known = text-within least most class (treated how text) v e in
      leaf-fits (Characters how least most class) sound (form.Utf8 least most class) (white_space_marks how) t is is refl (value.Utf8 (treated how text)) v known.1 refl
      (treated_utf8 how text u, known.0, subst (λ x. IsTreated x (treated how text)) (sym (space-is how)) (treated-treated how text))
      (holds_again (Characters how least most class) sound text v e)

  -- ---- lists

  items-fit : (s : Space) → Fitting s → (u : Rose TypeLabel) → IsSimpleType s u → (least : ℕ) (most : Option ℕ) (texts : List (List ℕ)) (values : List (Rose ValueLabel)) → All IsUtf8 texts
      → read_each (reads s) texts ≡ Ok values
      → FitEach M depth (replicate (length_all (roses_of values)) (place_of (type_label (form.SequenceOf list_item least most) (mark.List ∷ [])) 0 list_item u)) (roses_of values)
  unfolding FitEach
  items-fit s f u is least most [] values each e =
      let l = type_label (form.SequenceOf list_item least most) (mark.List ∷ []) in
      let none_read : [] ≡ values = cc in
      subst (λ vs. FitEach M depth (replicate (length_all (roses_of vs)) (place_of l 0 list_item u)) (roses_of vs)) none_read tt
  items-fit s f u is least most (text ∷ texts) values each e =
      let l = type_label (form.SequenceOf list_item least most) (mark.List ∷ []) in
      let known = is_read (reads s) text texts values e in
      subst (λ vs. FitEach M depth (replicate (length_all (roses_of vs)) (place_of l 0 list_item u)) (roses_of vs)) (sym known.is)
      ((f text known.value (All-head IsUtf8 text texts each) known.first u is, tt), items-fit s f u is least most texts known.further (All-tail IsUtf8 text texts each) known.rest)

  sizes-fit : (b : Bool) (o : Option (List ComponentPlace)) (vs : Roses ValueLabel) → b ≡ true → EachFits o vs → EachFits (if b then o else None) vs
  sizes-fit true o vs e h = h
  sizes-fit false o vs e h = absurd (cc)

  lists-fit : (s : Space) → Fitting s → (least : ℕ) (most : Option ℕ) → Sound (ListOf s least most) → Fitting (ListOf s least most)
  lists-fit s f least most sound text v u e t is =
      let known = is_list least most (read_each (reads s) (words_of text)) v (sym (reads-ListOf s least most text) ∙ e) in
      let l = type_label (form.SequenceOf list_item least most) (mark.List ∷ []) in
      let item = is.0 in
      let vs = roses_of known.values in
      let whole = node l (rose.more item rose.none) in
      let maps : MapsTo (ListOf s least most) whole = subst (MapsTo (ListOf s least most)) is.1 (simple-maps (ListOf s least most) t is) in
      let holds : Holds (ListOf s least most) (node value.SequenceOf vs) = subst (Holds (ListOf s least most)) known.is (holds_again (ListOf s least most) sound text v e) in
      let sizes : (nat_le least (length_all vs) && is_at_most (length_all vs) most) ≡ true =
      subst (λ n. (nat_le least n && is_at_most n most) ≡ true) (sym (length_all-roses_of known.values)) (sizes-within least most known.values v known.given) in
      let fits : FitsAt M depth whole (node value.SequenceOf vs) =
      here-fits whole value.SequenceOf vs refl
      (sizes-fit (nat_le least (length_all vs) && is_at_most (length_all vs) most) (repeated (length_all vs) (Some (place_of l 0 list_item item))) vs sizes
      (items-fit s f item is.2 least most (words_of text) known.values (words_utf8 text u) known.read))
      (own-at (ListOf s least most) sound l (rose.more item rose.none) (node value.SequenceOf vs) maps holds tt) in
      subst (λ x. FitsAt M depth x v) (sym is.1) (subst (FitsAt M depth whole) (sym known.is) fits)

  -- ---- unions

  -- the value fits the part with number i
  record FitsMember (parts : List Component) (ts : Roses TypeLabel) (i : ℕ) (v : Rose ValueLabel) : Type 0 where
    pub part : Component
    pub type : Rose TypeLabel
    pub at : slice_get parts i ≡ Some part
    pub type_at : slice_get (list_of ts) i ≡ Some type
    pub plain : part.marks ≡ []
    pub free : part.standard ≡ Free
    pub fit : FitsAt M depth type v

  abbrev FittingEach : Spaces → Type 0
  FittingEach ss =
      (text : List ℕ) (i : ℕ) (v : Rose ValueLabel) → IsUtf8 text → taken_by ss text ≡ Ok (i, v) → (before : List (List ℕ)) (parts : List Component) (ts : Roses TypeLabel) → AreMembers before ss parts ts
      → FitsMember parts ts i v

  none-fit : FittingEach none
  unfolding taken_by
  none-fit text i v u e before parts ts are = absurd (cc)

  more-fit : (s : Space) (ss : Spaces) → Fitting s → FittingEach ss → FittingEach (more s ss)
  unfolding reads taken_by
  more-fit s ss one others text i v u e before parts ts are =
      let identifier = are.0 in
      let part : Component = record { identifier = identifier; optional = false; standard = Free; marks = [] } in
      subst (λ ps. FitsMember ps ts i v) (sym are.5) (subst (λ us. FitsMember (part ∷ are.1) us i v) (sym are.6)
      (elim (which (reads s text) (taken_by ss text) i v e) [
        | inl first ↦
            subst (λ n. FitsMember (part ∷ are.1) (rose.more are.2 are.3) n v) (sym first.0)
            (record { part = part; type = are.2; at = refl; type_at = refl; plain = refl; free = refl; fit = one text v u first.1 are.2 are.7 })
        | inr later ↦
            let rest = others text later.0 v u later.2 (before ++ identifier ∷ []) are.1 are.3 are.8 in
            subst (λ n. FitsMember (part ∷ are.1) (rose.more are.2 are.3) n v) (sym later.1)
            (record { part = rest.part; type = rest.type; at = rest.at; type_at = rest.type_at; plain = rest.plain; free = rest.free; fit = rest.fit })
      ]))

  chosen-fits : (parts : List Component) (ts : Roses TypeLabel) (i : ℕ) (v : Rose ValueLabel) → FitsMember parts ts i v
      → EachFits (places_in (type_label (form.Choice parts) (mark.UseUnion ∷ [])) (list_of ts) (form.Choice parts) (value.Choice i) 1) (rose.more v rose.none)
  unfolding FitEach
  chosen-fits parts ts i v m =
      let l = type_label (form.Choice parts) (mark.UseUnion ∷ []) in
      let vs = rose.more v rose.none in
      let fit : FitsAt M (below (role_of l i m.part) depth) m.type v = subst (λ r. FitsAt M (below r depth) m.type v) (sym (alternative parts i m.part m.plain)) m.fit in
      subst (λ o. EachFits (alone (place_at l i o (slice_get (list_of ts) i))) vs) (sym m.at) (subst (λ o. EachFits (alone (place_at l i (Some m.part) o)) vs) (sym m.type_at) ((fit, kept-free M m.part m.type v m.free), tt))

  unions-fit : (members : Spaces) → FittingEach members → Sound (UnionOf members) → Fitting (UnionOf members)
  unions-fit members f sound text v u e t is =
      let parts = is.0 in
      let ts = is.1 in
      let l = type_label (form.Choice parts) (mark.UseUnion ∷ []) in
      let whole = node l ts in
      let known = settles (taken_by members) (spelled_by members) (FitsMember parts ts) (taken_utf8 members)
      (λ text i w encoded taken. f text i w encoded taken [] parts ts is.3) (count_members members) text v u (sym (reads-UnionOf members text) ∙ e) in
      let own = node (value.Choice known.0) (rose.more known.1 rose.none) in
      let maps : MapsTo (UnionOf members) whole = subst (MapsTo (UnionOf members)) is.2 (simple-maps (UnionOf members) t is) in
      let holds : Holds (UnionOf members) own = subst (Holds (UnionOf members)) known.2 (holds_again (UnionOf members) sound text v e) in
      let fits : FitsAt M depth whole own =
      here-fits whole (value.Choice known.0) (rose.more known.1 rose.none) refl (chosen-fits parts ts known.0 known.1 known.3) (own-at (UnionOf members) sound l ts own maps holds tt) in
      subst (λ x. FitsAt M depth x v) (sym is.2) (subst (FitsAt M depth whole) (sym known.2) fits)

  mutual
    pub accepted-fits : (s : Space) → Sound s → Fitting s
    accepted-fits Booleans sound = booleans-fit
    accepted-fits (Wholes least greatest) sound = wholes-fit least greatest sound
    accepted-fits (Numbers numbers) sound = numbers-fit numbers sound
    accepted-fits (Words how words) sound = words-fit how words sound
    accepted-fits (Characters how least most class) sound = characters-fit how least most class sound
    accepted-fits (ListOf item least most) sound = lists-fit item (accepted-fits item sound.0) least most sound
    accepted-fits (UnionOf members) sound = unions-fit members (taken-fits members sound.1) sound

    taken-fits : (ss : Spaces) → AreSound ss → FittingEach ss
    taken-fits none sound = none-fit
    taken-fits (more s ss) sound = more-fit s ss (accepted-fits s sound.0) (taken-fits ss sound.2)
