-- The simple type for which a plain type stands is sound, and mapped to the type that is meant.
use Rattle.std.proofs.Common.{◌≡◌, ℕ, suc, ◌+◌, Bool, true, false, ◌&&◌, not, Option, Some, None, List, [], ◌∷◌, ◌++◌, length, All, refl, sym, ap, ◌∙◌, subst, arith, append-nil}
use Rattle.std.specs.Prelude.{ℤ, bytes_eq, chars, unwrap_or, if◌then◌else◌}
use Rattle.std.specs.List.{list_all}
use Rattle.std.specs.Str.{is_utf8}
use Rattle.std.proofs.lemmas.Bool.{true≢false}
use Rattle.base_trees.specs.Rose.{Rose, node, Roses, length_all}
use Rattle.base_trees.specs.Rose as rose
use Rattle.base_texts.specs.Characters.{is_xml_char}
use Rattle.base_texts.specs.WhiteSpace.{treated}
use Rattle.base_texts.specs.declared.white_space.WhiteSpace.{WhiteSpace}
use Rattle.base_texts.specs.declared.white_space.WhiteSpace.TheVariants.{Preserve, Replace, Collapse}
use Rattle.simple_types.specs.declared.simples.Class.{Class}
use Rattle.simple_types.specs.Sound.{Sound, AreSound, AreWords, IsWord, has_list, is_union}
use Rattle.simple_types.specs.Space.{Space, Spaces, none, more, Booleans, Wholes, Numbers, Words, Characters, ListOf, UnionOf, count_members}
use Rattle.asn_types.specs.declared.marks.Instruction.{Instruction}
use Rattle.asn_types.specs.declared.marks.Instruction.TheVariants as mark
use Rattle.asn_types.specs.declared.roles.Role.TheVariants.{Attribute, Element, Group, Content, Embed, Order, Item, Alternative}
use Rattle.asn_types.specs.declared.types.Component.{Component}
use Rattle.asn_types.specs.declared.types.Form.{Form}
use Rattle.asn_types.specs.declared.types.Form.TheVariants as meant
use Rattle.asn_types.specs.declared.types.TypeLabel.{TypeLabel}
use Rattle.asn_types.specs.Simples.{counting, white_space_marks, ArePlain, MapsTo, MapToEach}
use Rattle.asn_types.specs.Simples as simples
use Rattle.module_text.specs.declared.marks.PartMark.{PartMark}
use Rattle.module_text.specs.declared.marks.PartMarkKind.{PartMarkKind}
use Rattle.module_text.specs.declared.marks.PartMarkKind.TheVariants as part_mark
use Rattle.module_text.specs.declared.marks.TypeMark.{TypeMark}
use Rattle.module_text.specs.declared.marks.TypeMarkKind.{TypeMarkKind}
use Rattle.module_text.specs.declared.marks.TypeMarkKind.TheVariants as type_mark
use Rattle.module_text.specs.declared.types.PlainName.{PlainName}
use Rattle.module_text.specs.declared.types.PlainPart.{PlainPart}
use Rattle.module_text.specs.declared.types.PlainForm.{PlainForm}
use Rattle.module_text.specs.declared.types.PlainForm.TheVariants as form
use Rattle.module_text.specs.declared.types.PlainLabel.{PlainLabel}
use Rattle.module_text.specs.declared.modules.PlainAssignment.{PlainAssignment}
use Rattle.module_text.specs.Plain.{IsAlternative, IsItem, IsType, AreTypes}
use Rattle.module_text.specs.declared.spots.Spot.{Spot}
use Rattle.module_text.specs.declared.spots.Spot.TheVariants.{Elsewhere, OrderItem}
use Rattle.module_text.specs.declared.spots.Spot.TheVariants as spot_
use Rattle.module_text.specs.declared.spots.Alone.{Alone}
use Rattle.module_text.specs.declared.spots.Alone.TheVariants as alone
use Rattle.module_text.specs.Told.{Bounds, Sizes, range_of, sizes_of, is_xml_text, have_names_alone, has_use_order, beside, alone_behind, told_alone, is_nothing, is_number_alone, is_list_alone, is_union_alone, white_space_alone, words_of}
use Rattle.module_text.specs.Resolving.{role_of}
use Rattle.module_text.specs.Simple.{if_so, is_counted, are_bounds, are_sizes, ascend, texts_ascend, is_word, numbers_of, whole_space, number_space, word_space, text_space, list_space, union_space, with_member, are_plain, item_spot, is_order_item, simple_told, members_told, item_told}
use Rattle.module_text.specs.Orders.{may_be_absent}
use Rattle.module_text.specs.Orders as orders
use Rattle.module_text.specs.Faults.{part_spot}
use Rattle.module_text.specs.Meaning.{part_marks_meant, type_marks_meant, names_of, words_meant, int_meant, utf8_meant, list_meant, components_meant, item_meant, type_meant, types_meant}
use Rattle.module_text.proofs.PrintedBounds.{and-first, and-second}
use Rattle.module_laws.proofs.Sounding.{counted, bounds, sizes, numbers_ascend, words_ascend}
use Rattle.module_laws.proofs.Firsts.{same_bytes}
use Rattle.module_laws.proofs.WordLaws.{not-true}

-- ---- what the instructions say

-- the instructions that say just this
abbrev pub marks_of : Alone → List Instruction
marks_of alone.UseNumber = mark.UseNumber ∷ []
marks_of alone.List = mark.List ∷ []
marks_of alone.UseUnion = mark.UseUnion ∷ []
marks_of (alone.WhiteSpace how) = white_space_marks how
marks_of _ = []

abbrev pub is_other : Alone → Bool
is_other alone.Other = true
is_other _ = false

stays_more : (at : ℕ) (k : TypeMarkKind) (ms : List TypeMark) → alone_behind alone.Other ms ≡ alone.Other → alone_behind alone.Other (record { at = at; kind = k } ∷ ms) ≡ alone.Other
stays_more at (type_mark.Text identifier text) ms rest = rest
stays_more at type_mark.UseNil ms rest = rest
stays_more at type_mark.EmbedValues ms rest = rest
stays_more at type_mark.UseOrder ms rest = rest
stays_more at type_mark.List ms rest = rest
stays_more at type_mark.UseUnion ms rest = rest
stays_more at type_mark.UseNumber ms rest = rest
stays_more at type_mark.Replace ms rest = rest
stays_more at type_mark.Collapse ms rest = rest

other_stays : (ms : List TypeMark) → alone_behind alone.Other ms ≡ alone.Other
other_stays [] = refl
other_stays (m ∷ ms) = stays_more m.at m.kind ms (other_stays ms)

module _ (spot : Spot) (f : PlainForm) where
  -- what stands here and in the rest is what is told of both
  abbrev Tells : Alone → List TypeMark → Type 0
  Tells seen ms = is_other (alone_behind seen ms) ≡ false → marks_of seen ++ counting (type_marks_meant spot f ms) ≡ marks_of (alone_behind seen ms)

  no_tell : (ms : List TypeMark) → is_other (alone_behind alone.Other ms) ≡ false → ⊥
  no_tell ms e = true≢false (sym (ap is_other (other_stays ms)) ∙ e)

  tells_more : (at : ℕ) (seen : Alone) (k : TypeMarkKind) (ms : List TypeMark) → ((a : Alone) → Tells a ms) → Tells seen (record { at = at; kind = k } ∷ ms)
  tells_more at seen (type_mark.Text identifier text) ms rest e = rest seen e
  tells_more at alone.Nothing type_mark.UseNil ms rest e = absurd (no_tell ms e)
  tells_more at alone.Nothing type_mark.EmbedValues ms rest e = absurd (no_tell ms e)
  tells_more at alone.Nothing type_mark.UseOrder ms rest e = absurd (no_tell ms e)
  tells_more at alone.Nothing type_mark.List ms rest e = rest alone.List e
  tells_more at alone.Nothing type_mark.UseUnion ms rest e = rest alone.UseUnion e
  tells_more at alone.Nothing type_mark.UseNumber ms rest e = rest alone.UseNumber e
  tells_more at alone.Nothing type_mark.Replace ms rest e = rest (alone.WhiteSpace Replace) e
  tells_more at alone.Nothing type_mark.Collapse ms rest e = rest (alone.WhiteSpace Collapse) e
  tells_more at alone.UseNumber k ms rest e = absurd (no_tell ms e)
  tells_more at alone.List k ms rest e = absurd (no_tell ms e)
  tells_more at alone.UseUnion k ms rest e = absurd (no_tell ms e)
  tells_more at (alone.WhiteSpace how) k ms rest e = absurd (no_tell ms e)
  tells_more at alone.Other k ms rest e = absurd (no_tell ms e)

  tells : (seen : Alone) (ms : List TypeMark) → Tells seen ms
  tells seen [] e = append-nil (marks_of seen)
  tells seen (m ∷ ms) e = tells_more m.at seen m.kind ms (λ a. tells a ms) e

  -- what stands where this is told
  counts_as : (ms : List TypeMark) (a : Alone) (marks : List Instruction) → told_alone ms ≡ a → (is_other a ≡ false) × (marks_of a ≡ marks)
      → counting (type_marks_meant spot f ms) ≡ marks
  counts_as ms a marks is h = tells alone.Nothing ms (ap is_other is ∙ h.0) ∙ ap marks_of is ∙ h.1

nothing_by : (a : Alone) → is_nothing a ≡ true → (is_other a ≡ false) × (marks_of a ≡ [])
nothing_by alone.Nothing e = (refl, refl)
nothing_by alone.UseNumber e = absurd (true≢false (sym e))
nothing_by alone.List e = absurd (true≢false (sym e))
nothing_by alone.UseUnion e = absurd (true≢false (sym e))
nothing_by (alone.WhiteSpace how) e = absurd (true≢false (sym e))
nothing_by alone.Other e = absurd (true≢false (sym e))

number_by : (a : Alone) → is_number_alone a ≡ true → (is_other a ≡ false) × (marks_of a ≡ mark.UseNumber ∷ [])
number_by alone.Nothing e = absurd (true≢false (sym e))
number_by alone.UseNumber e = (refl, refl)
number_by alone.List e = absurd (true≢false (sym e))
number_by alone.UseUnion e = absurd (true≢false (sym e))
number_by (alone.WhiteSpace how) e = absurd (true≢false (sym e))
number_by alone.Other e = absurd (true≢false (sym e))

list_by : (a : Alone) → is_list_alone a ≡ true → (is_other a ≡ false) × (marks_of a ≡ mark.List ∷ [])
list_by alone.Nothing e = absurd (true≢false (sym e))
list_by alone.UseNumber e = absurd (true≢false (sym e))
list_by alone.List e = (refl, refl)
list_by alone.UseUnion e = absurd (true≢false (sym e))
list_by (alone.WhiteSpace how) e = absurd (true≢false (sym e))
list_by alone.Other e = absurd (true≢false (sym e))

pub union_by : (a : Alone) → is_union_alone a ≡ true → (is_other a ≡ false) × (marks_of a ≡ mark.UseUnion ∷ [])
union_by alone.Nothing e = absurd (true≢false (sym e))
union_by alone.UseNumber e = absurd (true≢false (sym e))
union_by alone.List e = absurd (true≢false (sym e))
union_by alone.UseUnion e = (refl, refl)
union_by (alone.WhiteSpace how) e = absurd (true≢false (sym e))
union_by alone.Other e = absurd (true≢false (sym e))

white_by : (a : Alone) (how : WhiteSpace) → white_space_alone a ≡ Some how → (is_other a ≡ false) × (marks_of a ≡ white_space_marks how)
white_by alone.Nothing how e = let same : Preserve ≡ how = cc in (refl, ap white_space_marks same)
white_by alone.UseNumber how e = absurd (cc)
white_by alone.List how e = absurd (cc)
white_by alone.UseUnion how e = absurd (cc)
white_by (alone.WhiteSpace other) how e = let same : other ≡ how = cc in (refl, ap white_space_marks same)
white_by alone.Other how e = absurd (cc)

-- no USE-ORDER stands where a simple type is told
order_more : (at : ℕ) (seen : Alone) (k : TypeMarkKind) (ms : List TypeMark) → ((a : Alone) → is_other (alone_behind a ms) ≡ false → has_use_order ms ≡ false)
    → is_other (alone_behind seen (record { at = at; kind = k } ∷ ms)) ≡ false → has_use_order (record { at = at; kind = k } ∷ ms) ≡ false
order_more at seen (type_mark.Text identifier text) ms rest e = rest seen e
order_more at seen type_mark.UseNil ms rest e = rest (beside seen type_mark.UseNil) e
order_more at seen type_mark.EmbedValues ms rest e = rest (beside seen type_mark.EmbedValues) e
order_more at seen type_mark.List ms rest e = rest (beside seen type_mark.List) e
order_more at seen type_mark.UseUnion ms rest e = rest (beside seen type_mark.UseUnion) e
order_more at seen type_mark.UseNumber ms rest e = rest (beside seen type_mark.UseNumber) e
order_more at seen type_mark.Replace ms rest e = rest (beside seen type_mark.Replace) e
order_more at seen type_mark.Collapse ms rest e = rest (beside seen type_mark.Collapse) e
order_more at alone.Nothing type_mark.UseOrder ms rest e = absurd (true≢false (sym (ap is_other (other_stays ms)) ∙ e))
order_more at alone.UseNumber type_mark.UseOrder ms rest e = absurd (true≢false (sym (ap is_other (other_stays ms)) ∙ e))
order_more at alone.List type_mark.UseOrder ms rest e = absurd (true≢false (sym (ap is_other (other_stays ms)) ∙ e))
order_more at alone.UseUnion type_mark.UseOrder ms rest e = absurd (true≢false (sym (ap is_other (other_stays ms)) ∙ e))
order_more at (alone.WhiteSpace how) type_mark.UseOrder ms rest e = absurd (true≢false (sym (ap is_other (other_stays ms)) ∙ e))
order_more at alone.Other type_mark.UseOrder ms rest e = absurd (true≢false (sym (ap is_other (other_stays ms)) ∙ e))

pub no_order : (seen : Alone) (ms : List TypeMark) → is_other (alone_behind seen ms) ≡ false → has_use_order ms ≡ false
no_order seen [] e = refl
no_order seen (m ∷ ms) e = order_more m.at seen m.kind ms (λ a. no_order a ms) e

-- ---- roles

role_by : (a b c d e f g : Bool)
    → orders.is_order (if a then Attribute else (if b then Group else (if c then Content else (if d then Embed else (if e then Order else (if f then Item else (if g then Alternative else Element))))))) ≡ true
    → e ≡ true
role_by true b c d e f g h = absurd (true≢false (sym h))
role_by false true c d e f g h = absurd (true≢false (sym h))
role_by false false true d e f g h = absurd (true≢false (sym h))
role_by false false false true e f g h = absurd (true≢false (sym h))
role_by false false false false true f g h = refl
role_by false false false false false true g h = absurd (true≢false (sym h))
role_by false false false false false false true h = absurd (true≢false (sym h))
role_by false false false false false false false h = absurd (true≢false (sym h))

-- only a part of a USE-ORDER type has the order
pub order_asks : (l : PlainLabel) (i : ℕ) (part : PlainPart) → orders.is_order (role_of l i part) ≡ true → has_use_order l.marks ≡ true
order_asks l i part h = and-second _ (has_use_order l.marks) (role_by _ _ _ _ _ _ _ h)

bool_is : (b : Bool) → (b ≡ true → ⊥) → b ≡ false
bool_is true h = absurd (h refl)
bool_is false h = refl

-- the parts of a CHOICE without USE-ORDER have no spot
pub elsewhere : (at : ℕ) (ms : List TypeMark) (alternatives : List PlainPart) (spot : Spot) (i : ℕ) (part : PlainPart) → has_use_order ms ≡ false
    → part_spot spot (record { at = at; marks = ms; form = form.Choice alternatives }) i part ≡ Elsewhere
elsewhere at ms alternatives spot i part free =
    let l : PlainLabel = record { at = at; marks = ms; form = form.Choice alternatives } in
    let other : orders.is_order (role_of l i part) ≡ false = bool_is (orders.is_order (role_of l i part)) (λ h. true≢false (sym (order_asks l i part h) ∙ free)) in
    ap (λ b. if b then spot_.Order else Elsewhere) other

-- ---- parts

names_count : (at : ℕ) (g : List ℕ) (k : PartMarkKind) (ms : List PartMark) → have_names_alone (record { at = at; kind = k } ∷ ms) ≡ true
    → (have_names_alone ms ≡ true → counting (part_marks_meant g ms) ≡ []) → counting (part_marks_meant g (record { at = at; kind = k } ∷ ms)) ≡ []
names_count at g part_mark.Attribute ms e rest = absurd (true≢false (sym e))
names_count at g part_mark.Untagged ms e rest = absurd (true≢false (sym e))
names_count at g (part_mark.Name name) ms e rest = rest e
names_count at g (part_mark.Namespace space) ms e rest = absurd (true≢false (sym e))

names_alone : (g : List ℕ) (ms : List PartMark) → have_names_alone ms ≡ true → counting (part_marks_meant g ms) ≡ []
names_alone g [] e = refl
names_alone g (m ∷ ms) e = names_count m.at g m.kind ms e (names_alone g ms)

pub all_head : {A : Type 0} (P : A → Type 0) (x : A) (xs : List A) → All P (x ∷ xs) → P x
all_head P x xs h = h 0 x (omega arith)

pub all_tail : {A : Type 0} (P : A → Type 0) (x : A) (xs : List A) → All P (x ∷ xs) → All P xs
all_tail P x xs h = λ k d lt. h (suc k) d (omega (arith, lt))

-- ---- what is told, and what is meant

pub record Meant (s : Space) (u : Rose TypeLabel) : Type 0 where
  pub sound : Sound s
  pub maps : MapsTo s u

pub so : {A : Type 0} (b : Bool) (o : Option A) (x : A) → if_so b o ≡ Some x → (b ≡ true) × (o ≡ Some x)
so true o x e = (refl, e)
so false o x e = absurd (cc)

abbrev of_form : Form → List Instruction → Roses TypeLabel → Rose TypeLabel
of_form f marks us = node (record { form = f; marks = marks }) us

whole_is : (o : Option Bounds) (s : Space) (marks : List Instruction) (us : Roses TypeLabel) → counting marks ≡ [] → whole_space o ≡ Some s → Meant s (of_form (int_meant o) marks us)
whole_is None s marks us c e = absurd (cc)
whole_is (Some b) s marks us c e =
    let h = so (are_bounds b) (Some (Wholes b.0 b.1)) s e in
    let found = h.1 in
    let same : Wholes b.0 b.1 ≡ s = cc in
    let P : Space → Type 0 = λ x. Meant x (of_form (int_meant (Some b)) marks us) in
    subst P same (record { sound = bounds b h.0; maps = (refl, c) })

number_is : (o : Option (List ℤ)) (s : Space) (marks : List Instruction) (us : Roses TypeLabel) → counting marks ≡ mark.UseNumber ∷ [] → number_space o ≡ Some s
    → Meant s (of_form (meant.Numbers (unwrap_or o [])) marks us)
number_is None s marks us c e = absurd (cc)
number_is (Some zs) s marks us c e =
    let h = so (is_counted (length zs) && ascend zs) (Some (Numbers zs)) s e in
    let found = h.1 in
    let same : Numbers zs ≡ s = cc in
    let P : Space → Type 0 = λ x. Meant x (of_form (meant.Numbers zs) marks us) in
    subst P same (record {
      sound = (counted (length zs) (and-first (is_counted (length zs)) (ascend zs) h.0), numbers_ascend zs (and-second (is_counted (length zs)) (ascend zs) h.0));
      maps = (refl, c);
    })

one_word : (how : WhiteSpace) (word : List ℕ) → is_word how word ≡ true → IsWord how word
one_word how word e =
    let xml = and-first (is_xml_text word) (bytes_eq (treated how word) word) e in
    (and-second (is_utf8 word) (list_all is_xml_char (chars word)) xml, same_bytes (treated how word) word (and-second (is_xml_text word) (bytes_eq (treated how word) word) e))

are_words : (how : WhiteSpace) (words : List (List ℕ)) → list_all (is_word how) words ≡ true → AreWords how words
are_words how [] e = tt
are_words how (word ∷ words) e =
    (one_word how word (and-first (is_word how word) (list_all (is_word how) words) e), are_words how words (and-second (is_word how word) (list_all (is_word how) words) e))

word_is : (order : Bool) (ms : List TypeMark) (identifiers : List PlainName) (a : Option WhiteSpace) (s : Space) (marks : List Instruction) (us : Roses TypeLabel)
    → ((how : WhiteSpace) → a ≡ Some how → counting marks ≡ white_space_marks how)
    → if_so (not order) (word_space (words_of ms identifiers) a) ≡ Some s → Meant s (of_form (words_meant order ms identifiers) marks us)
word_is true ms identifiers a s marks us c e = absurd (cc)
word_is false ms identifiers None s marks us c e = absurd (cc)
word_is false ms identifiers (Some how) s marks us c e =
    let words = words_of ms identifiers in
    let many = is_counted (length words) in
    let up = texts_ascend words in
    let fine = list_all (is_word how) words in
    let h = so (many && up && fine) (Some (Words how words)) s e in
    let found = h.1 in
    let same : Words how words ≡ s = cc in
    let P : Space → Type 0 = λ x. Meant x (of_form (meant.Words (names_of identifiers) words) marks us) in
    let both = and-first (many && up) fine h.0 in
    subst P same (record {
      sound = (counted (length words) (and-first many up both), words_ascend words (and-second many up both), are_words how words (and-second (many && up) fine h.0));
      maps = (names_of identifiers, (refl, c how refl));
    })

text_is : (o : Option Sizes) (class : Class) (a : Option WhiteSpace) (s : Space) (marks : List Instruction) (us : Roses TypeLabel)
    → ((how : WhiteSpace) → a ≡ Some how → counting marks ≡ white_space_marks how)
    → text_space o class a ≡ Some s → Meant s (of_form (utf8_meant o class) marks us)
text_is None class a s marks us c e = absurd (cc)
text_is (Some b) class None s marks us c e = absurd (cc)
text_is (Some b) class (Some how) s marks us c e =
    let h = so (are_sizes b) (Some (Characters how b.0 b.1 class)) s e in
    let found = h.1 in
    let same : Characters how b.0 b.1 class ≡ s = cc in
    let P : Space → Type 0 = λ x. Meant x (of_form (meant.Utf8 b.0 b.1 class) marks us) in
    subst P same (record { sound = sizes b h.0; maps = (refl, c how refl) })

abbrev MapsFirst : Space → Roses TypeLabel → Type 0
MapsFirst s us = elim us [ rose.none ↦ ⊥ | rose.more u others ↦ MapsTo s u ]

list_is : (o : Option Sizes) (item : Option Space) (part : Component) (s : Space) (marks : List Instruction) (us : Roses TypeLabel)
    → counting marks ≡ mark.List ∷ [] → simples.IsPlain part → ((x : Space) → item ≡ Some x → Sound x × MapsFirst x us)
    → list_space o item ≡ Some s → Meant s (of_form (list_meant o part) marks us)
list_is None item part s marks us c plain inner e = absurd (cc)
list_is (Some b) None part s marks us c plain inner e = absurd (cc)
list_is (Some b) (Some x) part s marks us c plain inner e =
    let h = so (are_sizes b && not (has_list x)) (Some (ListOf x b.0 b.1)) s e in
    let found = h.1 in
    let same : ListOf x b.0 b.1 ≡ s = cc in
    let P : Space → Type 0 = λ y. Meant y (of_form (meant.SequenceOf part b.0 b.1) marks us) in
    let i = inner x refl in
    subst P same (record {
      sound = (i.0, not-true (has_list x) (and-second (are_sizes b) (not (has_list x)) h.0), sizes b (and-first (are_sizes b) (not (has_list x)) h.0));
      maps = (part, (refl, c), plain, i.1);
    })

union_is : (o : Option Spaces) (parts : List Component) (s : Space) (marks : List Instruction) (us : Roses TypeLabel)
    → counting marks ≡ mark.UseUnion ∷ [] → ArePlain parts → ((ss : Spaces) → o ≡ Some ss → AreSound ss × MapToEach ss us)
    → union_space o ≡ Some s → Meant s (of_form (meant.Choice parts) marks us)
union_is None parts s marks us c plain inner e = absurd (cc)
union_is (Some ss) parts s marks us c plain inner e =
    let h = so (is_counted (count_members ss)) (Some (UnionOf ss)) s e in
    let found = h.1 in
    let same : UnionOf ss ≡ s = cc in
    let P : Space → Type 0 = λ y. Meant y (of_form (meant.Choice parts) marks us) in
    let i = inner ss refl in
    subst P same (record { sound = (counted (count_members ss) h.0, i.0); maps = (parts, (refl, c), plain, i.1) })

member_is : (o : Option Space) (others : Option Spaces) (ss : Spaces) (u : Rose TypeLabel) (us : Roses TypeLabel)
    → ((s : Space) → o ≡ Some s → Meant s u) → ((rest : Spaces) → others ≡ Some rest → AreSound rest × MapToEach rest us)
    → with_member o others ≡ Some ss → AreSound ss × MapToEach ss (rose.more u us)
member_is None others ss u us first rest e = absurd (cc)
member_is (Some s) None ss u us first rest e = absurd (cc)
member_is (Some s) (Some behind) ss u us first rest e =
    let h = so (not (is_union s)) (Some (more s behind)) ss e in
    let found = h.1 in
    let same : more s behind ≡ ss = cc in
    let P : Spaces → Type 0 = λ x. AreSound x × MapToEach x (rose.more u us) in
    let f = first s refl in
    let r = rest behind refl in
    subst P same ((f.sound, not-true (is_union s) h.0, r.0), (f.maps, r.1))

module _ (P : List PlainAssignment) where
  abbrev pub Simply : Rose PlainLabel → Type 0
  Simply t = (spot : Spot) (s : Space) → IsType t → simple_told spot t ≡ Some s → Meant s (type_meant P spot t)

  abbrev SimplyFirst : Roses PlainLabel → Type 0
  SimplyFirst ts = elim ts [ rose.none ↦ Unit {0} | rose.more t others ↦ Simply t ]

  abbrev SimplyAll : Roses PlainLabel → Type 0
  SimplyAll ts = (spot : Spot) (l : PlainLabel) (i : ℕ) (parts : List PlainPart) (ss : Spaces) → ((j : ℕ) (part : PlainPart) → part_spot spot l j part ≡ Elsewhere)
      → length_all ts ≡ length parts → AreTypes ts → members_told ts ≡ Some ss → AreSound ss × MapToEach ss (types_meant P spot l i parts ts)

  plain_parts : (spot : Spot) (l : PlainLabel) (i : ℕ) (parts : List PlainPart) (ts : Roses PlainLabel) → All IsAlternative parts → are_plain parts ≡ true
      → ArePlain (components_meant P spot l i parts ts)
  plain_parts spot l i [] ts h e = tt
  plain_parts spot l i (part ∷ parts) rose.none h e = tt
  plain_parts spot l i (part ∷ parts) (rose.more t ts) h e = (
    (
      ap may_be_absent (all_head IsAlternative part parts h).bare.1,
      names_alone part.identifier part.marks (and-first (have_names_alone part.marks) (are_plain parts) e),
    ),
    plain_parts spot l (i + 1) parts ts (all_tail IsAlternative part parts h) (and-second (have_names_alone part.marks) (are_plain parts) e),
  )

  first_is : (at : ℕ) (ms : List TypeMark) (size : _) (item : PlainPart) (ts : Roses PlainLabel) (spot : Spot) → SimplyFirst ts → AreTypes ts → (x : Space)
      → item_told (item_spot spot) ts ≡ Some x → Sound x × MapsFirst x (types_meant P spot (record { at = at; marks = ms; form = form.SequenceOf size item }) 0 (item ∷ []) ts)
  unfolding simple_told
  first_is at ms size item rose.none spot first types x e = absurd (cc)
  first_is at ms size item (rose.more t ts) spot first types x e = let m = first (item_spot spot) x types.0 e in (m.sound, m.maps)

  item_plain : (spot : Spot) (item : PlainPart) (ts : Roses PlainLabel) → IsItem item → have_names_alone item.marks ≡ true → simples.IsPlain (item_meant P spot item ts)
  item_plain spot item rose.none is e = (refl, names_alone item.identifier item.marks e)
  item_plain spot item (rose.more t ts) is e = (ap may_be_absent is.bare.1, names_alone item.identifier item.marks e)

  simple_by : (at : ℕ) (ms : List TypeMark) (f : PlainForm) (ts : Roses PlainLabel) → SimplyFirst ts → SimplyAll ts → Simply (node (record { at = at; marks = ms; form = f }) ts)
  unfolding simple_told
  simple_by at ms form.Bool ts first all spot s is e =
      let h = so (is_nothing (told_alone ms)) (Some Booleans) s e in
      let found = h.1 in
      let same : Booleans ≡ s = cc in
      let Q : Space → Type 0 = λ x. Meant x (of_form meant.Bool (type_marks_meant spot form.Bool ms) (types_meant P spot (record { at = at; marks = ms; form = form.Bool }) 0 [] ts)) in
      subst Q same (record { sound = tt; maps = (refl, counts_as spot form.Bool ms (told_alone ms) [] refl (nothing_by (told_alone ms) h.0)) })
  simple_by at ms (form.Int r) ts first all spot s is e =
      let h = so (is_nothing (told_alone ms)) (whole_space (range_of r)) s e in
      whole_is (range_of r) s _ _ (counts_as spot (form.Int r) ms (told_alone ms) [] refl (nothing_by (told_alone ms) h.0)) h.1
  simple_by at ms (form.Numbers items) ts first all spot s is e =
      let h = so (is_number_alone (told_alone ms)) (number_space (numbers_of items)) s e in
      number_is (numbers_of items) s _ _ (counts_as spot (form.Numbers items) ms (told_alone ms) (mark.UseNumber ∷ []) refl (number_by (told_alone ms) h.0)) h.1
  simple_by at ms (form.Words identifiers) ts first all spot s is e =
      word_is (is_order_item spot) ms identifiers (white_space_alone (told_alone ms)) s _ _
      (λ how w. counts_as spot (form.Words identifiers) ms (told_alone ms) (white_space_marks how) refl (white_by (told_alone ms) how w)) e
  simple_by at ms (form.Utf8 size class) ts first all spot s is e =
      text_is (sizes_of size) class (white_space_alone (told_alone ms)) s _ _
      (λ how w. counts_as spot (form.Utf8 size class) ms (told_alone ms) (white_space_marks how) refl (white_by (told_alone ms) how w)) e
  simple_by at ms (form.Sequence components) ts first all spot s is e = absurd (cc)
  simple_by at ms (form.Choice alternatives) ts first all spot s is e =
      let l : PlainLabel = record { at = at; marks = ms; form = form.Choice alternatives } in
      let h = so (is_union_alone (told_alone ms) && are_plain alternatives) (union_space (members_told ts)) s e in
      let union = union_by (told_alone ms) (and-first (is_union_alone (told_alone ms)) (are_plain alternatives) h.0) in
      let free = no_order alone.Nothing ms union.0 in
      union_is (members_told ts) (components_meant P spot l 0 alternatives ts) s _ _
      (counts_as spot (form.Choice alternatives) ms (told_alone ms) (mark.UseUnion ∷ []) refl union)
      (plain_parts spot l 0 alternatives ts is.1.1 (and-second (is_union_alone (told_alone ms)) (are_plain alternatives) h.0))
      (λ ss found. all spot l 0 alternatives ss (λ j part. elsewhere at ms alternatives spot j part free) is.2 is.3 found)
      h.1
  simple_by at ms (form.SequenceOf size item) ts first all spot s is e =
      let h = so (is_list_alone (told_alone ms) && have_names_alone item.marks) (list_space (sizes_of size) (item_told (item_spot spot) ts)) s e in
      list_is (sizes_of size) (item_told (item_spot spot) ts) (item_meant P (item_spot spot) item ts) s _ _
      (counts_as spot (form.SequenceOf size item) ms (told_alone ms) (mark.List ∷ []) refl (list_by (told_alone ms) (and-first (is_list_alone (told_alone ms)) (have_names_alone item.marks) h.0)))
      (item_plain (item_spot spot) item ts is.1.1 (and-second (is_list_alone (told_alone ms)) (have_names_alone item.marks) h.0))
      (λ x found. first_is at ms size item ts spot first is.3 x found)
      h.1
  simple_by at ms (form.Ref reference) ts first all spot s is e = absurd (cc)

  all_none : SimplyAll rose.none
  unfolding simple_told
  all_none spot l i parts ss spots long types e =
      let same : none ≡ ss = cc in
      let Q : Spaces → Type 0 = λ x. AreSound x × MapToEach x rose.none in
      subst Q same (tt, tt)

  all_more : (t : Rose PlainLabel) (ts : Roses PlainLabel) → Simply t → SimplyAll ts → SimplyAll (rose.more t ts)
  unfolding simple_told
  all_more t ts first rest spot l i [] ss spots long types e = absurd (omega (arith, long))
  all_more t ts first rest spot l i (part ∷ parts) ss spots long types e =
      let Q : Spot → Type 0 = λ where_. AreSound ss × MapToEach ss (rose.more (type_meant P where_ t) (types_meant P spot l (i + 1) parts ts)) in
      subst Q (sym (spots i part))
      (member_is (simple_told Elsewhere t) (members_told ts) ss _ _ (λ s f. first Elsewhere s types.0 f)
      (λ others f. rest spot l (i + 1) parts others spots (omega (arith, long)) types.1 f) e)

  mutual
    pub simply : (t : Rose PlainLabel) → Simply t
    simply (node l ts) = simple_by l.at l.marks l.form ts (simply-first ts) (simply-all ts)

    pub simply-first : (ts : Roses PlainLabel) → SimplyFirst ts
    simply-first rose.none = tt
    simply-first (rose.more t ts) = simply t

    pub simply-all : (ts : Roses PlainLabel) → SimplyAll ts
    simply-all rose.none = all_none
    simply-all (rose.more t ts) = all_more t ts (simply t) (simply-all ts)
