-- The laws of blocks of parts, each on a line of its own, and what they say of a tree.
use Rattle.std.proofs.Common.{◌≡◌, ℕ, suc, ◌+◌, ◌<◌, List, [], ◌∷◌, ◌++◌, length, map, refl, sym, ap, ap₂, ◌∙◌, subst, arith, codes, Option, append_assoc, length-append, All}
use Rattle.std.proofs.lemmas.List.Elements.{All-nil, All-cons, All-head, All-tail}
use Rattle.base_trees.specs.Rose.{Roses, none, more, list_of, length_all}
use Rattle.module_print.specs.Notation.{new_line, block}
use Rattle.module_grammar.specs.Reading.{Reader, word_at, behind_at, before_at}
use Rattle.module_grammar.specs.Shapes.{Sunk, AnyRest, IsFailed, EachFine, BehindFine, shifted, behind_word, before_word}
use Rattle.module_grammar.specs.Laws.{Law, Early}
use Rattle.module_grammar.proofs.Fixed.{behind_law, before_law}
use Rattle.module_grammar.proofs.Early.{behind_early, before_early}
use Rattle.module_text.specs.Plain.{AreTypes}
use Rattle.module_text.specs.Texts.{part_texts, type_text}
use Rattle.module_text.specs.Places.{type_at, placed_part, placed_type, placed_parts, placed_types, type_texts}
use Rattle.module_text.specs.declared.types.PlainPart.{PlainPart}
use Rattle.module_text.specs.declared.types.PlainLabel.{PlainLabel}
use Rattle.module_grammar.specs.ValueReading.{listed_at}
use Rattle.module_grammar.specs.TypeReading.{Typed, TypedPart, opening, between, closing, block_at, kids_of, parts_of}
use Rattle.module_grammar.specs.Depth.{listed_deep}
use Rattle.module_grammar.specs.TypeDepth.{paired, typed_part_text}
use Rattle.module_grammar.proofs.Unread.{behind_fails}
use Rattle.module_grammar.proofs.OptionLaws.{ListedFine, listed_written, ListStops, listed_law, listed_early}
use Rattle.module_grammar.proofs.ValueLaws.{joined_items}
use Rattle.module_grammar.proofs.PartLaws.{PartHere}

-- ---- parts and their types, as one list and as two

pub pair_back : (xs : List TypedPart) → paired (parts_of xs) (list_of (kids_of xs)) ≡ xs
pair_back [] = refl
pair_back (x ∷ xs) = ap (λ l. x ∷ l) (pair_back xs)

pub parts_back : (parts : List PlainPart) (ts : Roses PlainLabel) → length_all ts ≡ length parts → parts_of (paired parts (list_of ts)) ≡ parts
parts_back [] none e = refl
parts_back [] (more t ts) e = absurd (omega (arith, e))
parts_back (p ∷ parts) none e = absurd (omega (arith, e))
parts_back (p ∷ parts) (more t ts) e = ap (λ l. p ∷ l) (parts_back parts ts (omega (arith, e)))

pub kids_back : (parts : List PlainPart) (ts : Roses PlainLabel) → length_all ts ≡ length parts → kids_of (paired parts (list_of ts)) ≡ ts
kids_back [] none e = refl
kids_back [] (more t ts) e = absurd (omega (arith, e))
kids_back (p ∷ parts) none e = absurd (omega (arith, e))
kids_back (p ∷ parts) (more t ts) e = ap (λ l. more t l) (kids_back parts ts (omega (arith, e)))

pub as_many : (xs : List TypedPart) → length_all (kids_of xs) ≡ length (parts_of xs)
as_many [] = refl
as_many (x ∷ xs) = ap suc (as_many xs)

pub texts_paired : (levels : ℕ) (parts : List PlainPart) (ts : Roses PlainLabel) → part_texts levels parts ts ≡ map (typed_part_text levels) (paired parts (list_of ts))
texts_paired levels [] none = refl
texts_paired levels [] (more t ts) = refl
texts_paired levels (p ∷ parts) none = refl
texts_paired levels (p ∷ parts) (more t ts) = ap (λ l. typed_part_text levels (p, t) ∷ l) (texts_paired levels parts ts)

-- ---- a block as it is written

abbrev pub block_text : ℕ → List TypedPart → List ℕ
block_text levels [] = codes " {}"
block_text levels (x ∷ xs) = opening levels ++ (listed_written (between levels) (typed_part_text (suc levels)) (x ∷ xs) ++ closing levels)

-- behind a word
pub block_is : (word : List ℕ) (levels : ℕ) (xs : List TypedPart) → (word ++ codes " ") ++ block levels (map (typed_part_text (suc levels)) xs) ≡ word ++ block_text levels xs
block_is word levels [] = append_assoc word (codes " ") (codes "{}")
block_is word levels (x ∷ xs) =
    append_assoc word (codes " ") (block levels (map (typed_part_text (suc levels)) (x ∷ xs)))
    ∙ ap (λ l. word ++ (32 ∷ (((123 ∷ l) ++ new_line levels) ++ codes "}"))) (joined_items (new_line (suc levels)) (typed_part_text (suc levels)) x xs)
    ∙ ap (λ l. word ++ (32 ∷ 123 ∷ l)) (four (new_line (suc levels)) (listed_written (44 ∷ new_line (suc levels)) (typed_part_text (suc levels)) (x ∷ xs)) (new_line levels) (codes "}"))
  where
    four : (a b c d : List ℕ) → ((a ++ b) ++ c) ++ d ≡ a ++ (b ++ (c ++ d))
    four a b c d = simp append_assoc

-- ---- parts where they stand

module _ (P : PlainPart → Type 0) (levels : ℕ) where
  abbrev Here : ℕ → TypedPart → Type 0
  Here = PartHere P levels

  -- the parts from here on, with their types
  pub record PartsHere (place : ℕ) (parts : List PlainPart) (ts : Roses PlainLabel) : Type 0 where
    pub parts_fine : All P parts
    pub types_fine : AreTypes ts
    pub parts_places : placed_parts levels place parts (type_texts levels ts) ≡ parts
    pub types_places : placed_types levels place parts ts ≡ ts

  abbrev between_parts : List ℕ
  between_parts = codes "," ++ new_line levels

  cons_parts : (p q : PlainPart) (ps qs : List PlainPart) → (p ∷ ps) ≡ (q ∷ qs) → (p ≡ q) × (ps ≡ qs)
  cons_parts p q ps qs e = ((cc), (cc))

  more_are : (t u : Typed) (ts us : Roses PlainLabel) → more t ts ≡ more u us → (t ≡ u) × (ts ≡ us)
  more_are t u ts us e = ((cc), (cc))

  abbrev next_place : ℕ → List ℕ → ℕ
  next_place place part = place + length ((part ++ codes ",") ++ new_line levels)

  with_part : (place : ℕ) (x : TypedPart) (parts : List PlainPart) (ts : Roses PlainLabel) → Here place x → PartsHere (next_place place (typed_part_text levels x)) parts ts → PartsHere place (x.0 ∷ parts) (more x.1 ts)
  with_part place x parts ts f h = record {
    parts_fine = All-cons P x.0 parts f.0 h.parts_fine;
    types_fine = (f.1, h.types_fine);
    parts_places = ap₂ (λ p ps. p ∷ ps) f.2 h.parts_places;
    types_places = ap₂ (λ t ts. more t ts) f.3 h.types_places;
  }

  pub part_then : (place : ℕ) (x : TypedPart) (parts : List PlainPart) (ts : Roses PlainLabel) → PartsHere place (x.0 ∷ parts) (more x.1 ts) → Here place x × PartsHere (next_place place (typed_part_text levels x)) parts ts
  part_then place x parts ts h =
      let p = cons_parts (placed_part place x.0 (type_text levels x.1)) x.0 (placed_parts levels (next_place place (typed_part_text levels x)) parts (type_texts levels ts)) parts h.parts_places in
      let t = more_are (placed_type levels (type_at place x.0) x.1) x.1 (placed_types levels (next_place place (typed_part_text levels x)) parts ts) ts h.types_places in
      ((All-head P x.0 parts h.parts_fine, h.types_fine.0, p.0, t.0), record { parts_fine = All-tail P x.0 parts h.parts_fine; types_fine = h.types_fine.1; parts_places = p.1; types_places = t.1 })

  no_parts : (place : ℕ) → PartsHere place [] none
  no_parts place = record { parts_fine = All-nil P; types_fine = tt; parts_places = refl; types_places = refl }

  pub next_is : (q : ℕ) (part : List ℕ) → next_place (q + length between_parts) part ≡ (q + length (between_parts ++ part)) + length between_parts
  next_is q part = omega (arith, length-append (part ++ codes ",") (new_line levels), length-append part (codes ","), length-append between_parts part, length-append (codes ",") (new_line levels))

  pub first_is : (place : ℕ) (part : List ℕ) → next_place place part ≡ (place + length part) + length between_parts
  first_is place part = omega (arith, length-append (part ++ codes ",") (new_line levels), length-append part (codes ","), length-append (codes ",") (new_line levels))

  abbrev Others : ℕ → List TypedPart → Type 0
  Others = EachFine (BehindFine between_parts Here) (behind_word between_parts (typed_part_text levels))

  others_fine : (q : ℕ) (xs : List TypedPart) → Others q xs → PartsHere (q + length between_parts) (parts_of xs) (kids_of xs)
  others_fine q [] f = no_parts (q + length between_parts)
  others_fine q (x ∷ xs) f =
      with_part (q + length between_parts) x (parts_of xs) (kids_of xs) f.0
      (subst (λ p. PartsHere p (parts_of xs) (kids_of xs)) (sym (next_is q (typed_part_text levels x))) (others_fine (q + length (between_parts ++ typed_part_text levels x)) xs f.1))

  fine_others : (q : ℕ) (xs : List TypedPart) → PartsHere (q + length between_parts) (parts_of xs) (kids_of xs) → Others q xs
  fine_others q [] h = tt
  fine_others q (x ∷ xs) h =
      let g = part_then (q + length between_parts) x (parts_of xs) (kids_of xs) h in
      (g.0, fine_others (q + length (between_parts ++ typed_part_text levels x)) xs (subst (λ p. PartsHere p (parts_of xs) (kids_of xs)) (next_is q (typed_part_text levels x)) g.1))

  pub listed_fine : (place : ℕ) (xs : List TypedPart) → ListedFine between_parts Here (typed_part_text levels) place xs → PartsHere place (parts_of xs) (kids_of xs)
  listed_fine place [] f = absurd f
  listed_fine place (x ∷ xs) f =
      with_part place x (parts_of xs) (kids_of xs) f.0
      (subst (λ p. PartsHere p (parts_of xs) (kids_of xs)) (sym (first_is place (typed_part_text levels x))) (others_fine (place + length (typed_part_text levels x)) xs f.1))

  pub fine_listed : (place : ℕ) (x : TypedPart) (xs : List TypedPart) → PartsHere place (parts_of (x ∷ xs)) (kids_of (x ∷ xs)) → ListedFine between_parts Here (typed_part_text levels) place (x ∷ xs)
  fine_listed place x xs h =
      let g = part_then place x (parts_of xs) (kids_of xs) h in
      (g.0, fine_others (place + length (typed_part_text levels x)) xs (subst (λ p. PartsHere p (parts_of xs) (kids_of xs)) (first_is place (typed_part_text levels x)) g.1))

-- ---- the law of a block

abbrev pub BlockFine : ℕ → (ℕ → TypedPart → Type 0) → ℕ → List TypedPart → Type 0
BlockFine levels Fine = BehindFine (opening levels) (ListedFine (between levels) Fine (typed_part_text (suc levels)))

abbrev pub block_written : ℕ → List TypedPart → List ℕ
block_written levels = behind_word (opening levels) (before_word (listed_written (between levels) (typed_part_text (suc levels))) (closing levels))

abbrev pub block_sunk : ℕ → (TypedPart → Option Sunk) → List TypedPart → Option Sunk
block_sunk levels deep = shifted (opening levels) (listed_deep (between levels) (typed_part_text (suc levels)) deep)

module _ (levels : ℕ) {Fine : ℕ → TypedPart → Type 0} {deep : TypedPart → Option Sunk} {Follow : List ℕ → Type 0} {read : Reader TypedPart} (law : Law Fine deep (typed_part_text (suc levels)) Follow read)
    (some : (place : ℕ) → (x : TypedPart) × Fine place x) (comma : (beyond : List ℕ) → Follow (codes "," ++ beyond)) (line : (beyond : List ℕ) → Follow (codes "\n" ++ beyond)) where
  some_between : 0 < length (between levels)
  some_between = omega arith

  between_ends : (beyond : List ℕ) → Follow (between levels ++ beyond)
  between_ends beyond = subst Follow (sym (append_assoc (codes ",") (new_line (suc levels)) beyond)) (comma (new_line (suc levels) ++ beyond))

  closing_ends : (rest : List ℕ) → Follow (closing levels ++ rest)
  closing_ends rest = line _

  fails : (place : ℕ) (rest : List ℕ) → IsFailed (word_at (between levels) place rest) → IsFailed (behind_at (between levels) read place rest)
  fails place rest h = behind_fails (between levels) read place rest h

  parts_law : Law (ListedFine (between levels) Fine (typed_part_text (suc levels))) (listed_deep (between levels) (typed_part_text (suc levels)) deep) (listed_written (between levels) (typed_part_text (suc levels))) (ListStops (between levels) Follow read) (listed_at (between levels) read)
  parts_law = listed_law (between levels) some_between law some between_ends fails

  closed_law : Law (ListedFine (between levels) Fine (typed_part_text (suc levels))) (listed_deep (between levels) (typed_part_text (suc levels)) deep) (before_word (listed_written (between levels) (typed_part_text (suc levels))) (closing levels)) AnyRest (before_at (listed_at (between levels) read) (closing levels))
  closed_law = before_law (closing levels) {Follow = AnyRest} parts_law (λ place xs rest f h. record { item = closing_ends rest; end = λ here. tt })

  pub block_law : Law (BlockFine levels Fine) (block_sunk levels deep) (block_written levels) AnyRest (block_at levels read)
  block_law = behind_law (opening levels) closed_law (λ place. let x = some place in (x.0 ∷ [], (x.1, tt)))

  module _ (early : Early Fine deep (typed_part_text (suc levels)) read) (begun : (l q m x : List ℕ) → between levels ++ l ≡ q ++ m → 0 < length q → Follow (q ++ x)) where
    pub block_early : Early (BlockFine levels Fine) (block_sunk levels deep) (block_written levels) (block_at levels read)
    block_early = behind_early (opening levels) closed_law (before_early (closing levels) parts_law (listed_early (between levels) some_between law early some between_ends fails begun))
