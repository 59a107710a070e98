-- What is read behind a word, as it is said of a tree.
use Rattle.std.proofs.Common.{◌≡◌, ℕ, suc, ◌+◌, ◌⊎◌, inl, inr, List, [], ◌∷◌, ◌++◌, length, map, refl, sym, ap, ap₂, ◌∙◌, subst, arith, codes, Option, None, option_map, append_assoc, append-nil, length-append, All}
use Rattle.std.proofs.lemmas.List.Elements.{All-nil, All-cons, All-head, All-tail}
use Rattle.simple_types.specs.declared.simples.Class.{Class}
use Rattle.base_trees.specs.Rose.{Roses, none, more, list_of, length_all}
use Rattle.module_print.specs.Notation.{new_line, enumerated, class_range}
use Rattle.module_grammar.specs.Shapes.{Sunk, moved, BothFine, both_written, both_deep, EachFine, BehindFine, behind_word}
use Rattle.module_grammar.proofs.As.{Renames}
use Rattle.module_text.specs.Names.{is_reference, is_type_word}
use Rattle.module_text.specs.Plain.{HasParts, IsNumbered, IsName, IsForm, AreTypes, IsComponent, IsAlternative, IsItem}
use Rattle.module_text.specs.Texts
use Rattle.module_text.specs.Texts.{item_text, number_range_text, size_text, form_text, part_texts, level_of_parts}
use Rattle.module_text.specs.Places.{placed_number, placed_name, placed_item, placed_items, placed_names, placed_form, placed_types, parts_at, type_texts, placed_number_range, placed_size}
use Rattle.module_text.specs.declared.bounds.PlainNumber.{PlainNumber}
use Rattle.module_text.specs.declared.bounds.PlainEnds.{PlainEnds}
use Rattle.module_text.specs.declared.bounds.PlainRange.{PlainRange}
use Rattle.module_text.specs.declared.types.NumberedItem.{NumberedItem}
use Rattle.module_text.specs.declared.types.PlainName.{PlainName}
use Rattle.module_text.specs.declared.types.PlainPart.{PlainPart}
use Rattle.module_text.specs.declared.types.PlainForm.{PlainForm}
use Rattle.module_text.specs.declared.types.PlainForm.TheVariants as form
use Rattle.module_text.specs.declared.types.PlainLabel.{PlainLabel}
use Rattle.module_grammar.specs.NameReading.{name_here, number_here}
use Rattle.module_grammar.specs.TypeReading.{Typed, TypedPart, opening, Form, kids_of, parts_of, form_of}
use Rattle.module_grammar.specs.TypeDepth.{paired, typed_part_text, tail_deep, form_deep}
use Rattle.module_grammar.proofs.NameLaws.{IsIdentifierHere, IsReferenceHere, name_text}
use Rattle.module_grammar.proofs.BoundLaws.{IsNumberRangeHere, IsSizeHere}
use Rattle.module_grammar.proofs.OptionLaws.{ListedFine}
use Rattle.module_grammar.proofs.ValueLaws.{joined_items}
use Rattle.module_grammar.proofs.PartLaws.{PartHere}
use Rattle.module_grammar.proofs.BlockLaws.{parts_back, kids_back, as_many, texts_paired, block_text, block_is, BlockFine, PartsHere, listed_fine, fine_listed}
use Rattle.module_grammar.proofs.FormLaws.{IsNumberedHere, EnumeratedFine, enumerated_text, TailFine, items_text, tail_text}

-- ---- lists of things that have places

cons_are : {A : Type 0} (a b : A) (xs ys : List A) → (a ∷ xs) ≡ (b ∷ ys) → (a ≡ b) × (xs ≡ ys)
cons_are a b xs ys e = ((cc), (cc))

module _ {A : Type 0} (P : A → Type 0) (put : ℕ → A → A) (placed : ℕ → List A → List A) (text : A → List ℕ) (placed_none : (place : ℕ) → placed place [] ≡ [])
    (placed_more : (place : ℕ) (a : A) (xs : List A) → placed place (a ∷ xs) ≡ put place a ∷ placed (place + length (text a ++ codes ", ")) xs) where
  abbrev Here : ℕ → A → Type 0
  Here place a = P a × (put place a ≡ a)

  abbrev AllHere : ℕ → List A → Type 0
  AllHere place xs = All P xs × (placed place xs ≡ xs)

  none_here : (place : ℕ) → AllHere place []
  none_here place = (All-nil P, placed_none place)

  with_one : (place : ℕ) (a : A) (xs : List A) → Here place a → AllHere (place + length (text a ++ codes ", ")) xs → AllHere place (a ∷ xs)
  with_one place a xs f g = (All-cons P a xs f.0 g.0, placed_more place a xs ∙ ap₂ (λ b ys. b ∷ ys) f.1 g.1)

  one_then : (place : ℕ) (a : A) (xs : List A) → AllHere place (a ∷ xs) → Here place a × AllHere (place + length (text a ++ codes ", ")) xs
  one_then place a xs f =
      let h = cons_are (put place a) a (placed (place + length (text a ++ codes ", ")) xs) xs (sym (placed_more place a xs) ∙ f.1) in
      ((All-head P a xs f.0, h.0), (All-tail P a xs f.0, h.1))

  next_is : (q : ℕ) (l : List ℕ) → (q + 2) + length (l ++ codes ", ") ≡ (q + length (codes ", " ++ l)) + 2
  next_is q l = omega (arith, length-append l (codes ", "))

  first_is : (place : ℕ) (l : List ℕ) → place + length (l ++ codes ", ") ≡ (place + length l) + 2
  first_is place l = omega (arith, length-append l (codes ", "))

  others_here : (q : ℕ) (xs : List A) → EachFine (BehindFine (codes ", ") Here) (behind_word (codes ", ") text) q xs → AllHere (q + 2) xs
  others_here q [] f = none_here (q + 2)
  others_here q (a ∷ xs) f = with_one (q + 2) a xs f.0 (subst (λ p. AllHere p xs) (sym (next_is q (text a))) (others_here (q + length (codes ", " ++ text a)) xs f.1))

  here_others : (q : ℕ) (xs : List A) → AllHere (q + 2) xs → EachFine (BehindFine (codes ", ") Here) (behind_word (codes ", ") text) q xs
  here_others q [] f = tt
  here_others q (a ∷ xs) f = let h = one_then (q + 2) a xs f in (h.0, here_others (q + length (codes ", " ++ text a)) xs (subst (λ p. AllHere p xs) (next_is q (text a)) h.1))

  pub listed_here : (place : ℕ) (xs : List A) → ListedFine (codes ", ") Here text place xs → HasParts xs × AllHere place xs
  listed_here place [] f = absurd f
  listed_here place (a ∷ xs) f = (tt, with_one place a xs f.0 (subst (λ p. AllHere p xs) (sym (first_is place (text a))) (others_here (place + length (text a)) xs f.1)))

  pub here_listed : (place : ℕ) (xs : List A) → HasParts xs → AllHere place xs → ListedFine (codes ", ") Here text place xs
  here_listed place [] n f = absurd n
  here_listed place (a ∷ xs) n f = let h = one_then place a xs f in (h.0, here_others (place + length (text a)) xs (subst (λ p. AllHere p xs) (first_is place (text a)) h.1))

-- ---- the items of an ENUMERATED

-- one statement of an item in place of another
listed_as : {A : Type 0} (F G : ℕ → A → Type 0) (text : A → List ℕ) → ((place : ℕ) (a : A) → F place a → G place a) → (place : ℕ) (xs : List A) → ListedFine (codes ", ") F text place xs → ListedFine (codes ", ") G text place xs
listed_as F G text h place [] f = f
listed_as {A = A} F G text h place (a ∷ xs) f = (h place a f.0, each (place + length (text a)) xs f.1)
  where
    each : (q : ℕ) (xs : List A) → EachFine (BehindFine (codes ", ") F) (behind_word (codes ", ") text) q xs → EachFine (BehindFine (codes ", ") G) (behind_word (codes ", ") text) q xs
    each q [] f = tt
    each q (a ∷ xs) f = (h (q + 2) a f.0, each (q + length (codes ", " ++ text a)) xs f.1)

name_put : (place : ℕ) (i : PlainName) → i.at ≡ place → placed_name place i ≡ i
name_put place i e = ap (λ p. name_here p i.name) (sym e)

number_put : (place : ℕ) (n : PlainNumber) → n.at ≡ place → placed_number place n ≡ n
number_put place n e = ap (λ p. number_here p n.written) (sym e)

abbrev item_of : PlainName → PlainNumber → NumberedItem
item_of identifier number = record { identifier = identifier; number = number }

item_here : (place : ℕ) (item : NumberedItem) → IsNumberedHere place item → IsNumbered item × (placed_item place item ≡ item)
item_here place item f = ((f.0.0, f.1.0), ap₂ item_of (name_put place item.identifier f.0.1) (number_put (place + length (item.identifier.name ++ codes "(")) item.number f.1.1))

here_item : (place : ℕ) (item : NumberedItem) → IsNumbered item × (placed_item place item ≡ item) → IsNumberedHere place item
here_item place item f =
    ((f.0.0, sym (ap (λ (i : NumberedItem). i.identifier.at) f.1)), (f.0.1, sym (ap (λ (i : NumberedItem). i.number.at) f.1)))

name_here_of : (place : ℕ) (i : PlainName) → IsIdentifierHere place i → IsName i × (placed_name place i ≡ i)
name_here_of place i f = (f.0, name_put place i f.1)

here_name : (place : ℕ) (i : PlainName) → IsName i × (placed_name place i ≡ i) → IsIdentifierHere place i
here_name place i f = (f.0, sym (ap (λ (k : PlainName). k.at) f.1))

abbrev ItemsHere : ℕ → List NumberedItem → Type 0
ItemsHere place items = HasParts items × All IsNumbered items × (placed_items place items ≡ items)

numbers_here : (place : ℕ) (items : List NumberedItem) → ListedFine (codes ", ") IsNumberedHere item_text place items → ItemsHere place items
numbers_here place items f =
    let h = listed_here IsNumbered placed_item placed_items item_text (λ p. refl) (λ p a xs. refl) place items (listed_as IsNumberedHere (λ p a. IsNumbered a × (placed_item p a ≡ a)) item_text item_here place items f) in
    (h.0, h.1.0, h.1.1)

here_numbers : (place : ℕ) (items : List NumberedItem) → ItemsHere place items → ListedFine (codes ", ") IsNumberedHere item_text place items
here_numbers place items f = listed_as (λ p a. IsNumbered a × (placed_item p a ≡ a)) IsNumberedHere item_text here_item place items (here_listed IsNumbered placed_item placed_items item_text (λ p. refl) (λ p a xs. refl) place items f.0 (f.1, f.2))

abbrev NamesHere : ℕ → List PlainName → Type 0
NamesHere place names = HasParts names × All IsName names × (placed_names place names ≡ names)

names_here : (place : ℕ) (names : List PlainName) → ListedFine (codes ", ") IsIdentifierHere name_text place names → NamesHere place names
names_here place names f =
    let h = listed_here IsName placed_name placed_names name_text (λ p. refl) (λ p a xs. refl) place names (listed_as IsIdentifierHere (λ p a. IsName a × (placed_name p a ≡ a)) name_text name_here_of place names f) in
    (h.0, h.1.0, h.1.1)

here_names : (place : ℕ) (names : List PlainName) → NamesHere place names → ListedFine (codes ", ") IsIdentifierHere name_text place names
here_names place names f = listed_as (λ p a. IsName a × (placed_name p a ≡ a)) IsIdentifierHere name_text here_name place names (here_listed IsName placed_name placed_names name_text (λ p. refl) (λ p a xs. refl) place names f.0 (f.1, f.2))

-- ---- forms where they stand

pub record FormHere (levels place : ℕ) (x : Form) : Type 0 where
  pub form_fine : IsForm x.0
  pub kids : length_all x.1 ≡ length (Texts.parts_of x.0)
  pub types : AreTypes x.1
  pub places : placed_form levels place x.0 (type_texts (level_of_parts levels x.0) x.1) ≡ x.0
  pub kids_places : placed_types (level_of_parts levels x.0) (parts_at levels place x.0) (Texts.parts_of x.0) x.1 ≡ x.1

abbrev pub whole_text : ℕ → Form → List ℕ
whole_text levels x = form_text levels x.0 (part_texts (level_of_parts levels x.0) (Texts.parts_of x.0) x.1)

-- where a form has no parts
lone : (levels place : ℕ) (f : PlainForm) → IsForm f → length (Texts.parts_of f) ≡ 0 → placed_form levels place f [] ≡ f → (ts : Roses PlainLabel) → none ≡ ts → FormHere levels place (f, ts)
lone levels place f g n e ts h = subst (λ k. FormHere levels place (f, k)) h (record { form_fine = g; kids = sym n; types = tt; places = e; kids_places = refl })

no_kids : (ts : Roses PlainLabel) → length_all ts ≡ 0 → none ≡ ts
no_kids none e = refl
no_kids (more t ts) e = absurd (omega (arith, e))

-- the parts of a block, from the first on
module _ (P : PlainPart → Type 0) (levels place : ℕ) (word : List ℕ) (start : ℕ) (start_is : start ≡ (place + length word) + length (opening levels)) where
  parts_there : (xs : List TypedPart) → BlockFine levels (PartHere P (suc levels)) (place + length word) xs → PartsHere P (suc levels) start (parts_of xs) (kids_of xs)
  parts_there xs f = subst (λ p. PartsHere P (suc levels) p (parts_of xs) (kids_of xs)) (sym start_is) (listed_fine P (suc levels) ((place + length word) + length (opening levels)) xs f)

  there_parts : (parts : List PlainPart) (ts : Roses PlainLabel) → length_all ts ≡ length parts → HasParts parts → PartsHere P (suc levels) start parts ts → BlockFine levels (PartHere P (suc levels)) (place + length word) (paired parts (list_of ts))
  there_parts [] ts e n h = absurd n
  there_parts (p ∷ parts) none e n h = absurd (omega (arith, e))
  there_parts (p ∷ parts) (more t ts) e n h =
      let g = subst (λ q. PartsHere P (suc levels) q (p ∷ parts) (more t ts)) start_is h in
      fine_listed P (suc levels) ((place + length word) + length (opening levels)) (p, t) (paired parts (list_of ts))
      (subst (λ ps. PartsHere P (suc levels) ((place + length word) + length (opening levels)) (p ∷ ps) (more t (kids_of (paired parts (list_of ts))))) (sym (parts_back parts ts (omega (arith, e))))
      (subst (λ us. PartsHere P (suc levels) ((place + length word) + length (opening levels)) (p ∷ parts) (more t us)) (sym (kids_back parts ts (omega (arith, e)))) g))

pub sequence_start : (place levels : ℕ) → place + length (codes "SEQUENCE {" ++ new_line (suc levels)) ≡ (place + length (codes "SEQUENCE")) + length (opening levels)
sequence_start place levels = omega arith

pub choice_start : (place levels : ℕ) → place + length (codes "CHOICE {" ++ new_line (suc levels)) ≡ (place + length (codes "CHOICE")) + length (opening levels)
choice_start place levels = omega arith

pub items_start : (place : ℕ) (size : Option PlainEnds) → place + length (((codes "SEQUENCE" ++ size_text size) ++ codes " OF ") ++ []) ≡ ((place + length (codes "SEQUENCE")) + length (size_text size)) + 4
items_start place size = omega (arith, length-append ((codes "SEQUENCE" ++ size_text size) ++ codes " OF ") [], length-append (codes "SEQUENCE" ++ size_text size) (codes " OF "), length-append (codes "SEQUENCE") (size_text size))

braces : (place : ℕ) → (place + length (codes "ENUMERATED")) + 3 ≡ place + length (codes "ENUMERATED { ")
braces place = omega arith

has_parts : (Fine : ℕ → TypedPart → Type 0) (levels place : ℕ) (xs : List TypedPart) → BlockFine levels Fine place xs → HasParts (parts_of xs)
has_parts Fine levels place [] f = absurd f
has_parts Fine levels place (x ∷ xs) f = tt

abbrev pub WordFine : ℕ → ℕ → PlainName × Form → Type 0
WordFine levels = BothFine IsReferenceHere name_text (λ w. TailFine levels w)

sequence_here : (levels place : ℕ) (xs : List TypedPart) → PartsHere IsComponent (suc levels) (place + length (codes "SEQUENCE {" ++ new_line (suc levels))) (parts_of xs) (kids_of xs) → FormHere levels place (form.Sequence (parts_of xs), kids_of xs)
sequence_here levels place xs h = record { form_fine = h.parts_fine; kids = as_many xs; types = h.types_fine; places = ap (λ k. form.Sequence k) h.parts_places; kids_places = h.types_places }

choice_here : (levels place : ℕ) (xs : List TypedPart) → HasParts (parts_of xs) → PartsHere IsAlternative (suc levels) (place + length (codes "CHOICE {" ++ new_line (suc levels))) (parts_of xs) (kids_of xs) → FormHere levels place (form.Choice (parts_of xs), kids_of xs)
choice_here levels place xs n h = record { form_fine = (n, h.parts_fine); kids = as_many xs; types = h.types_fine; places = ap (λ k. form.Choice k) h.parts_places; kids_places = h.types_places }

form_fine_of : (levels place : ℕ) (w : PlainName) (f : PlainForm) (ts : Roses PlainLabel) → WordFine levels place (w, (f, ts)) → FormHere levels place (f, ts)
form_fine_of levels place w form.Bool ts h = lone levels place form.Bool tt refl refl ts h.1.1
form_fine_of levels place w (form.Int r) ts h =
    let g = subst (λ l. IsNumberRangeHere (place + length l) r) h.1.0 h.1.1 in
    lone levels place (form.Int r) g.0 refl (ap (λ k. form.Int k) g.1) ts h.1.2
form_fine_of levels place w (form.Numbers items) ts h =
    let g = numbers_here (place + length (codes "ENUMERATED { ")) items (subst (λ p. ListedFine (codes ", ") IsNumberedHere item_text p items) (braces place) (subst (λ l. EnumeratedFine IsNumberedHere item_text (place + length l) items) h.1.0 h.1.1)) in
    lone levels place (form.Numbers items) (g.0, g.1) refl (ap (λ k. form.Numbers k) g.2) ts h.1.2
form_fine_of levels place w (form.Words names) ts h =
    let g = names_here (place + length (codes "ENUMERATED { ")) names (subst (λ p. ListedFine (codes ", ") IsIdentifierHere name_text p names) (braces place) (subst (λ l. EnumeratedFine IsIdentifierHere name_text (place + length l) names) h.1.0 h.1.1)) in
    lone levels place (form.Words names) (g.0, g.1) refl (ap (λ k. form.Words k) g.2) ts h.1.2
form_fine_of levels place w (form.Utf8 size class) ts h =
    let g = subst (λ l. IsSizeHere (place + length l) size) h.1.0 h.1.1 in
    lone levels place (form.Utf8 size class) g.0 refl (ap (λ k. form.Utf8 k class) g.1) ts h.1.2
form_fine_of levels place w (form.Sequence parts) ts h = by h.1.1.0 h.1.1.1 h.1.1.2 h.1.1.3
  where
    by : (xs : List TypedPart) → BlockFine levels (PartHere IsComponent (suc levels)) (place + length w.name) xs ⊎ (xs ≡ []) → parts_of xs ≡ parts → kids_of xs ≡ ts → FormHere levels place (form.Sequence parts, ts)
    by xs (inl b) p q =
        let g = sequence_here levels place xs (parts_there IsComponent levels place (codes "SEQUENCE") (place + length (codes "SEQUENCE {" ++ new_line (suc levels))) (sequence_start place levels) xs (subst (λ l. BlockFine levels (PartHere IsComponent (suc levels)) (place + length l) xs) h.1.0 b)) in
        subst (λ k. FormHere levels place (form.Sequence parts, k)) q (subst (λ k. FormHere levels place (form.Sequence k, kids_of xs)) p g)
    by xs (inr n) p q = subst (λ k. FormHere levels place (form.Sequence k, ts)) (ap parts_of (sym n) ∙ p) (lone levels place (form.Sequence []) (All-nil IsComponent) refl refl ts (ap kids_of (sym n) ∙ q))
form_fine_of levels place w (form.Choice parts) ts h =
    let xs = h.1.1.0 in
    let b = subst (λ l. BlockFine levels (PartHere IsAlternative (suc levels)) (place + length l) h.1.1.0) h.1.0 h.1.1.1 in
    let g = choice_here levels place h.1.1.0 (has_parts (PartHere IsAlternative (suc levels)) levels (place + length (codes "CHOICE")) h.1.1.0 b) (parts_there IsAlternative levels place (codes "CHOICE") (place + length (codes "CHOICE {" ++ new_line (suc levels))) (choice_start place levels) h.1.1.0 b) in
    subst (λ k. FormHere levels place (form.Choice parts, k)) h.1.1.3 (subst (λ k. FormHere levels place (form.Choice k, kids_of h.1.1.0)) h.1.1.2 g)
form_fine_of levels place w (form.SequenceOf size part) ts h =
    let s = subst (λ l. IsSizeHere (place + length l) size) h.1.0 h.1.1.1 in
    let p = subst (λ q. PartHere IsItem levels q (part, h.1.1.0)) (sym (items_start place size)) (subst (λ l. PartHere IsItem levels (((place + length l) + length (size_text size)) + 4) (part, h.1.1.0)) h.1.0 h.1.1.2) in
    subst (λ k. FormHere levels place (form.SequenceOf size part, k)) h.1.1.3 (record {
      form_fine = (s.0, p.0);
      kids = refl;
      types = (p.1, tt);
      places = ap₂ (λ k l. form.SequenceOf k l) s.1 p.2;
      kids_places = ap (λ t. more t none) p.3;
    })
form_fine_of levels place w (form.Ref r) ts h =
    lone levels place (form.Ref r) (ap (λ (k : PlainName). is_reference k.name) h.1.0 ∙ h.0.0, ap (λ (k : PlainName). is_type_word k.name) h.1.0 ∙ h.1.1) refl (ap (λ k. form.Ref k) (name_put place r (ap (λ (k : PlainName). k.at) h.1.0 ∙ h.0.1))) ts h.1.2

-- ---- and back

abbrev word_at : ℕ → List ℕ → PlainName
word_at place name = name_here place name

abbrev Onto : ℕ → ℕ → Form → Type 0
Onto levels place c = (x : PlainName × Form) × WordFine levels place x × (x.1 ≡ c)

int_is : (r s : Option PlainRange) → form.Int r ≡ form.Int s → r ≡ s
int_is r s e = cc

numbers_are : (r s : List NumberedItem) → form.Numbers r ≡ form.Numbers s → r ≡ s
numbers_are r s e = cc

words_are : (r s : List PlainName) → form.Words r ≡ form.Words s → r ≡ s
words_are r s e = cc

size_is : (r s : Option PlainEnds) (c d : Class) → form.Utf8 r c ≡ form.Utf8 s d → r ≡ s
size_is r s c d e = cc

pub sequence_is : (r s : List PlainPart) → form.Sequence r ≡ form.Sequence s → r ≡ s
sequence_is r s e = cc

pub choice_is : (r s : List PlainPart) → form.Choice r ≡ form.Choice s → r ≡ s
choice_is r s e = cc

pub items_are : (r s : Option PlainEnds) (p q : PlainPart) → form.SequenceOf r p ≡ form.SequenceOf s q → (r ≡ s) × (p ≡ q)
items_are r s p q e = ((cc), (cc))

ref_is : (r s : PlainName) → form.Ref r ≡ form.Ref s → r ≡ s
ref_is r s e = cc

pub more_is : (t u : Typed) → more t none ≡ more u none → t ≡ u
more_is t u e = cc

onto_form : (levels place : ℕ) (f : PlainForm) (ts : Roses PlainLabel) → FormHere levels place (f, ts) → Onto levels place (f, ts)
onto_form levels place form.Bool ts h = ((word_at place (codes "BOOLEAN"), (form.Bool, ts)), ((refl, refl), (refl, no_kids ts h.kids)), refl)
onto_form levels place (form.Int r) ts h =
    ((word_at place (codes "INTEGER"), (form.Int r, ts)), ((refl, refl), (refl, (h.form_fine, int_is (placed_number_range (place + length (codes "INTEGER")) r) r h.places), no_kids ts h.kids)), refl)
onto_form levels place (form.Numbers items) ts h = (
  (word_at place (codes "ENUMERATED"), (form.Numbers items, ts)),
  ((refl, refl), (refl, subst (λ p. ListedFine (codes ", ") IsNumberedHere item_text p items) (sym (braces place)) (here_numbers (place + length (codes "ENUMERATED { ")) items (h.form_fine.0, h.form_fine.1, numbers_are (placed_items (place + length (codes "ENUMERATED { ")) items) items h.places)), no_kids ts h.kids)),
  refl,
)
onto_form levels place (form.Words names) ts h = (
  (word_at place (codes "ENUMERATED"), (form.Words names, ts)),
  ((refl, refl), (refl, subst (λ p. ListedFine (codes ", ") IsIdentifierHere name_text p names) (sym (braces place)) (here_names (place + length (codes "ENUMERATED { ")) names (h.form_fine.0, h.form_fine.1, words_are (placed_names (place + length (codes "ENUMERATED { ")) names) names h.places)), no_kids ts h.kids)),
  refl,
)
onto_form levels place (form.Utf8 size class) ts h =
    ((word_at place (codes "UTF8String"), (form.Utf8 size class, ts)), ((refl, refl), (refl, (h.form_fine, size_is (placed_size (place + length (codes "UTF8String")) size) size class class h.places), no_kids ts h.kids)), refl)
onto_form levels place (form.Sequence []) ts h = ((word_at place (codes "SEQUENCE"), (form.Sequence [], ts)), ((refl, refl), (refl, ([], inr refl, refl, no_kids ts h.kids))), refl)
onto_form levels place (form.Sequence (p ∷ parts)) ts h =
    let k : PartsHere IsComponent (suc levels) (place + length (codes "SEQUENCE {" ++ new_line (suc levels))) (p ∷ parts) ts = record { parts_fine = h.form_fine; types_fine = h.types; parts_places = sequence_is _ (p ∷ parts) h.places; types_places = h.kids_places } in (
      (word_at place (codes "SEQUENCE"), (form.Sequence (p ∷ parts), ts)),
      ((refl, refl), (refl, (paired (p ∷ parts) (list_of ts), inl (there_parts IsComponent levels place (codes "SEQUENCE") (place + length (codes "SEQUENCE {" ++ new_line (suc levels))) (sequence_start place levels) (p ∷ parts) ts h.kids tt k), parts_back (p ∷ parts) ts h.kids, kids_back (p ∷ parts) ts h.kids))),
      refl,
    )
onto_form levels place (form.Choice parts) ts h =
    let k : PartsHere IsAlternative (suc levels) (place + length (codes "CHOICE {" ++ new_line (suc levels))) parts ts = record { parts_fine = h.form_fine.1; types_fine = h.types; parts_places = choice_is _ parts h.places; types_places = h.kids_places } in (
      (word_at place (codes "CHOICE"), (form.Choice parts, ts)),
      ((refl, refl), (refl, (paired parts (list_of ts), there_parts IsAlternative levels place (codes "CHOICE") (place + length (codes "CHOICE {" ++ new_line (suc levels))) (choice_start place levels) parts ts h.kids h.form_fine.0 k, parts_back parts ts h.kids, kids_back parts ts h.kids))),
      refl,
    )
onto_form levels place (form.SequenceOf size part) none h = absurd (omega (arith, h.kids))
onto_form levels place (form.SequenceOf size part) (more t none) h =
    let e = items_are (placed_size (place + length (codes "SEQUENCE")) size) size _ part h.places in (
      (word_at place (codes "SEQUENCE"), (form.SequenceOf size part, more t none)),
      ((refl, refl), (refl, (t, (h.form_fine.0, e.0), subst (λ q. PartHere IsItem levels q (part, t)) (items_start place size) (h.form_fine.1, h.types.0, e.1, more_is _ t h.kids_places), refl))),
      refl,
    )
onto_form levels place (form.SequenceOf size part) (more t (more u ts)) h = absurd (omega (arith, h.kids))
onto_form levels place (form.Ref r) ts h =
    ((r, (form.Ref r, ts)), ((h.form_fine.0, sym (ap (λ (k : PlainName). k.at) (ref_is (placed_name place r) r h.places))), (refl, h.form_fine.1, no_kids ts h.kids)), refl)

-- ---- texts

enumerated_is : {A : Type 0} (text : A → List ℕ) (xs : List A) → HasParts xs → enumerated (map text xs) ≡ codes "ENUMERATED" ++ enumerated_text text xs
enumerated_is text [] n = absurd n
enumerated_is text (x ∷ xs) n = ap (λ l. (codes "ENUMERATED {" ++ l) ++ codes " }") (joined_items (codes " ") text x xs)

form_text_is : (levels place : ℕ) (w : PlainName) (f : PlainForm) (ts : Roses PlainLabel) → WordFine levels place (w, (f, ts)) → whole_text levels (f, ts) ≡ w.name ++ tail_text levels (f, ts)
form_text_is levels place w form.Bool ts h = ap (λ l. l ++ []) (sym h.1.0)
form_text_is levels place w (form.Int r) ts h = ap (λ l. l ++ number_range_text r) (sym h.1.0)
form_text_is levels place w (form.Numbers items) ts h = enumerated_is item_text items (numbers_here _ items h.1.1).0 ∙ ap (λ l. l ++ enumerated_text item_text items) (sym h.1.0)
form_text_is levels place w (form.Words names) ts h = enumerated_is name_text names (names_here _ names h.1.1).0 ∙ ap (λ l. l ++ enumerated_text name_text names) (sym h.1.0)
form_text_is levels place w (form.Utf8 size class) ts h = append_assoc (codes "UTF8String") (size_text size) (class_range class) ∙ ap (λ l. l ++ (size_text size ++ class_range class)) (sym h.1.0)
form_text_is levels place w (form.Sequence parts) ts h =
    ap (λ l. codes "SEQUENCE " ++ Rattle.module_print.specs.Notation.block levels l) (texts_paired (suc levels) parts ts)
    ∙ block_is (codes "SEQUENCE") levels (paired parts (list_of ts)) ∙ ap (λ l. l ++ block_text levels (paired parts (list_of ts))) (sym h.1.0)
form_text_is levels place w (form.Choice parts) ts h =
    ap (λ l. codes "CHOICE " ++ Rattle.module_print.specs.Notation.block levels l) (texts_paired (suc levels) parts ts)
    ∙ block_is (codes "CHOICE") levels (paired parts (list_of ts)) ∙ ap (λ l. l ++ block_text levels (paired parts (list_of ts))) (sym h.1.0)
form_text_is levels place w (form.SequenceOf size part) ts h =
    items_is (codes "SEQUENCE") (size_text size) (codes " OF ") ts h.1.1.0 h.1.1.3 ∙ ap (λ l. l ++ (size_text size ++ (codes " OF " ++ items_text levels part ts))) (sym h.1.0)
  where
    four : (a b c d : List ℕ) → ((a ++ b) ++ c) ++ (d ++ []) ≡ a ++ (b ++ (c ++ d))
    four a b c d = ap (λ l. ((a ++ b) ++ c) ++ l) (append-nil d) ∙ append_assoc (a ++ b) c d ∙ append_assoc a b (c ++ d)

    items_is : (a b c : List ℕ) (ts : Roses PlainLabel) (t : Typed) → more t none ≡ ts → ((a ++ b) ++ c) ++ Texts.all_of (part_texts levels (part ∷ []) ts) ≡ a ++ (b ++ (c ++ items_text levels part ts))
    items_is a b c ts t e = subst (λ k. ((a ++ b) ++ c) ++ Texts.all_of (part_texts levels (part ∷ []) k) ≡ a ++ (b ++ (c ++ items_text levels part k))) e (four a b c (typed_part_text levels (part, t)))
form_text_is levels place w (form.Ref r) ts h = ap (λ (k : PlainName). k.name) h.1.0 ∙ sym (append-nil w.name)

-- ---- depth

form_deep_is : (most levels : ℕ) (here inside : Typed → Option Sunk) (place : ℕ) (w : PlainName) (f : PlainForm) (ts : Roses PlainLabel) → WordFine levels place (w, (f, ts)) → form_deep most levels here inside f ts ≡ option_map (moved (length w.name)) (tail_deep most levels here inside f ts)
form_deep_is most levels here inside place w form.Bool ts h = refl
form_deep_is most levels here inside place w (form.Int r) ts h = refl
form_deep_is most levels here inside place w (form.Numbers items) ts h = refl
form_deep_is most levels here inside place w (form.Words names) ts h = refl
form_deep_is most levels here inside place w (form.Utf8 size class) ts h = refl
form_deep_is most levels here inside place w (form.Sequence parts) ts h = ap (λ l. option_map (moved (length l)) (tail_deep most levels here inside (form.Sequence parts) ts)) (sym h.1.0)
form_deep_is most levels here inside place w (form.Choice parts) ts h = ap (λ l. option_map (moved (length l)) (tail_deep most levels here inside (form.Choice parts) ts)) (sym h.1.0)
form_deep_is most levels here inside place w (form.SequenceOf size part) ts h = ap (λ l. option_map (moved (length l)) (tail_deep most levels here inside (form.SequenceOf size part) ts)) (sym h.1.0)
form_deep_is most levels here inside place w (form.Ref r) ts h = refl

pub form_renames : (most levels : ℕ) (here inside : Typed → Option Sunk)
    → Renames (WordFine levels) (both_deep name_text (λ w. None) (λ w x. tail_deep most levels here inside x.0 x.1)) (both_written name_text (λ w. tail_text levels)) (FormHere levels) (λ x. form_deep most levels here inside x.0 x.1) (whole_text levels) form_of
form_renames most levels here inside = record {
  fine = λ place x h. form_fine_of levels place x.0 x.1.0 x.1.1 h;
  deep = λ place x h. form_deep_is most levels here inside place x.0 x.1.0 x.1.1 h;
  write = λ place x h. form_text_is levels place x.0 x.1.0 x.1.1 h;
  onto = λ place c h. onto_form levels place c.0 c.1 h;
}
