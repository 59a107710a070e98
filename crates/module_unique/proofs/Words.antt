-- The words of an ENUMERATED are told by its items and by TEXT.
use Rattle.std.proofs.Common.{◌≡◌, ℕ, zero, suc, ◌+◌, Bool, true, false, not, Some, None, List, [], ◌∷◌, map, length, refl, sym, ap, ap₂, subst, ◌∙◌, arith, option_map, position}
use Rattle.std.specs.Prelude.{All, bytes_eq, slice_get, unwrap_or, filter, if◌then◌else◌}
use Rattle.std.specs.List.{filter_map, AllByRecursion, IsDistinct}
use Rattle.base_texts.specs.declared.white_space.WhiteSpace.TheVariants.{Preserve, Replace, Collapse}
use Rattle.asn_types.specs.declared.marks.Instruction.{Instruction}
use Rattle.asn_types.specs.declared.marks.Instruction.TheVariants as mark
use Rattle.asn_types.specs.declared.types.Form.{Form}
use Rattle.asn_types.specs.declared.types.Form.TheVariants as form
use Rattle.module_print.specs.Instructions.{item_identifier}
use Rattle.module_text.specs.declared.marks.NameAs.{NameAs}
use Rattle.module_text.specs.declared.marks.NameAs.TheVariants as as_
use Rattle.module_text.specs.declared.marks.TypeMark.{TypeMark}
use Rattle.module_text.specs.declared.types.PlainName.{PlainName}
use Rattle.module_text.specs.declared.types.PlainForm.{PlainForm}
use Rattle.module_text.specs.declared.types.PlainForm.TheVariants as plain
use Rattle.module_text.specs.Plain.{IsTypeMark}
use Rattle.module_text.specs.declared.spots.Spot.{Spot}
use Rattle.module_text.specs.Told.{Said, said, told_name, words_said, words_of}
use Rattle.module_text.specs.Simple.{is_order_item}
use Rattle.module_text.specs.Marks.{item_number}
use Rattle.module_text.specs.Meaning.{type_mark_meant, type_marks_meant}
use Rattle.module_text.specs.Printable.{is_of_part, is_text, text_marks, texts_due, MayBe, IsIdentifier}
use Rattle.module_text.proofs.PrintedBounds.{and-first, and-second}
use Rattle.module_laws.proofs.Firsts.{bytes-self, bytes-turned, same_bytes, all-at, only-at}
use Rattle.module_unique.proofs.Telling.{name_told, type_kind, type_marks_told, name_at}
use Rattle.module_unique.proofs.Marked.{name_back, of_types}

abbrev pub one_said : List ℕ → NameAs → Said
one_said identifier text = record { identifier = identifier; text = text }

-- what TEXT says of such words
abbrev pub saids : List (List ℕ) → List (List ℕ) → List Said
saids (identifier ∷ identifiers) (word ∷ words) =
    if bytes_eq identifier word then saids identifiers words
    else (one_said identifier (name_told identifier word) ∷ saids identifiers words)
saids identifiers words = []

abbrev said_text : Form → Instruction → Said
said_text f (mark.Text item text) = one_said (unwrap_or (item_identifier f item) []) (name_told (unwrap_or (item_identifier f item) []) text)
said_text f m = one_said [] as_.Capitalized

said_all : (f : Form) (marks : List Instruction) → filter_map said (type_marks_told f marks) ≡ map (said_text f) (filter is_text marks)
said_all f [] = refl
said_all f (mark.Text item text ∷ ms) = ap (λ xs. said_text f (mark.Text item text) ∷ xs) (said_all f ms)
said_all f (mark.WhiteSpace Preserve ∷ ms) = said_all f ms
said_all f (mark.WhiteSpace Replace ∷ ms) = said_all f ms
said_all f (mark.WhiteSpace Collapse ∷ ms) = said_all f ms
said_all f (m ∷ ms) = said_all f ms

-- these stand in all of them from the one with number k on
abbrev pub Behind : List (List ℕ) → ℕ → List (List ℕ) → Type 0
Behind all k names = (j : ℕ) (name : List ℕ) → slice_get names j ≡ Some name → slice_get all (k + j) ≡ Some name

pub behind_first : (all : List (List ℕ)) (k : ℕ) (name : List ℕ) (names : List (List ℕ)) → Behind all k (name ∷ names) → slice_get all k ≡ Some name
behind_first all k name names h = let same : k + 0 ≡ k = omega arith in subst (λ n. slice_get all n ≡ Some name) same (h 0 name refl)

pub behind_rest : (all : List (List ℕ)) (k : ℕ) (name : List ℕ) (names : List (List ℕ)) → Behind all k (name ∷ names) → Behind all (k + 1) names
behind_rest all k name names h j other e =
    let same : k + suc j ≡ (k + 1) + j = omega arith in subst (λ n. slice_get all n ≡ Some other) same (h (suc j) other e)

pub behind_all : (all : List (List ℕ)) → Behind all 0 all
behind_all all j name e = let same : j ≡ 0 + j = omega arith in subst (λ n. slice_get all n ≡ Some name) same e

module _ (all words : List (List ℕ)) where
  said_words : (k : ℕ) (names texts : List (List ℕ)) → Behind all k names → map (said_text (form.Words all words)) (text_marks k names texts) ≡ saids names texts
  said_words k [] texts h = refl
  said_words k (name ∷ names) [] h = refl
  said_words k (name ∷ names) (text ∷ texts) h = by (bytes_eq name text) (said_words (k + 1) names texts (behind_rest all k name names h))
    where
      by : (same : Bool) → map (said_text (form.Words all words)) (text_marks (k + 1) names texts) ≡ saids names texts
          → map (said_text (form.Words all words)) (if same then text_marks (k + 1) names texts else (mark.Text k text ∷ text_marks (k + 1) names texts))
          ≡ (if same then saids names texts else (one_said name (name_told name text) ∷ saids names texts))
      by true rest = rest
      by false rest =
          ap₂ (λ (x : Said) xs. x ∷ xs)
          (ap (λ o. one_said (unwrap_or o []) (name_told (unwrap_or o []) text)) (behind_first all k name names h))
          rest

-- ---- the words

abbrev HeadApart : List ℕ → List Said → Type 0
HeadApart name [] = Unit {0}
HeadApart name (s ∷ ss) = bytes_eq s.identifier name ≡ false

heads_apart : (name : List ℕ) (names texts : List (List ℕ)) → AllByRecursion (λ y. bytes_eq name y ≡ false) names → HeadApart name (saids names texts)
heads_apart name [] texts h = tt
heads_apart name (y ∷ names) [] h = tt
heads_apart name (y ∷ names) (text ∷ texts) h = by (bytes_eq y text) (heads_apart name names texts h.1)
  where
    by : (same : Bool) → HeadApart name (saids names texts) → HeadApart name (if same then saids names texts else (one_said y (name_told y text) ∷ saids names texts))
    by true rest = rest
    by false rest = bytes-turned name y h.0

passed : (name : List ℕ) (names : List (List ℕ)) (ss : List Said) → HeadApart name ss
    → words_said ss (name_at name ∷ map name_at names) ≡ name ∷ words_said ss (map name_at names)
passed name names [] h = refl
passed name names (s ∷ ss) h =
    ap (λ same. if same then told_name name s.text ∷ words_said ss (map name_at names) else (name ∷ words_said (s ∷ ss) (map name_at names))) h

words_back : (names texts : List (List ℕ)) → length names ≡ length texts → IsDistinct bytes_eq names → words_said (saids names texts) (map name_at names) ≡ texts
unfolding IsDistinct
words_back [] [] long apart = refl
words_back [] (text ∷ texts) long apart = absurd (omega (arith, long))
words_back (name ∷ names) [] long apart = absurd (omega (arith, long))
words_back (name ∷ names) (text ∷ texts) long apart = by (bytes_eq name text) refl (words_back names texts (omega (arith, long)) apart.1)
  where
    by : (same : Bool) → bytes_eq name text ≡ same → words_said (saids names texts) (map name_at names) ≡ texts
        → words_said (if same then saids names texts else (one_said name (name_told name text) ∷ saids names texts)) (name_at name ∷ map name_at names) ≡ text ∷ texts
    by true e rest = passed name names (saids names texts) (heads_apart name names texts apart.0) ∙ ap₂ (λ (x : List ℕ) xs. x ∷ xs) (same_bytes name text e) rest
    by false e rest =
        ap (λ same. if same then told_name name (name_told name text) ∷ words_said (saids names texts) (map name_at names)
        else (name ∷ words_said (one_said name (name_told name text) ∷ saids names texts) (map name_at names)))
        (bytes-self name)
        ∙ ap₂ (λ (x : List ℕ) xs. x ∷ xs) (name_back name text) rest

pub words_are : (all words : List (List ℕ)) (marks : List Instruction) → length all ≡ length words → IsDistinct bytes_eq all
    → filter is_text marks ≡ text_marks 0 all words → words_of (type_marks_told (form.Words all words) marks) (map name_at all) ≡ words
words_are all words marks long apart e =
    ap (λ ss. words_said ss (map name_at all))
    (said_all (form.Words all words) marks ∙ ap (map (said_text (form.Words all words))) e ∙ said_words all words 0 all words (behind_all all))
    ∙ words_back all words long apart

-- ---- TEXT

abbrev pub identifiers_in : Form → List (List ℕ)
identifiers_in (form.Words identifiers words) = identifiers
identifiers_in f = []

abbrev IsFound : List (List ℕ) → Instruction → Type 0
IsFound all (mark.Text item text) = (name : List ℕ) × (slice_get all item ≡ Some name)
IsFound all m = Unit {0}

abbrev pub AreFound : List (List ℕ) → List Instruction → Type 0
AreFound all [] = Unit {0}
AreFound all (m ∷ ms) = IsFound all m × AreFound all ms

due_found : (all : List (List ℕ)) (k : ℕ) (names texts : List (List ℕ)) → Behind all k names → AreFound all (text_marks k names texts)
due_found all k [] texts h = tt
due_found all k (name ∷ names) [] h = tt
due_found all k (name ∷ names) (text ∷ texts) h = by (bytes_eq name text) (due_found all (k + 1) names texts (behind_rest all k name names h))
  where
    by : (same : Bool) → AreFound all (text_marks (k + 1) names texts) → AreFound all (if same then text_marks (k + 1) names texts else (mark.Text k text ∷ text_marks (k + 1) names texts))
    by true rest = rest
    by false rest = ((name, behind_first all k name names h), rest)

all_found : (all : List (List ℕ)) (marks : List Instruction) → AreFound all (filter is_text marks) → AreFound all marks
all_found all [] h = tt
all_found all (mark.Text item text ∷ ms) h = (h.0, all_found all ms h.1)
all_found all (mark.Attribute ∷ ms) h = (tt, all_found all ms h)
all_found all (mark.Untagged ∷ ms) h = (tt, all_found all ms h)
all_found all (mark.Name name ∷ ms) h = (tt, all_found all ms h)
all_found all (mark.Namespace space ∷ ms) h = (tt, all_found all ms h)
all_found all (mark.UseNil ∷ ms) h = (tt, all_found all ms h)
all_found all (mark.EmbedValues ∷ ms) h = (tt, all_found all ms h)
all_found all (mark.UseOrder ∷ ms) h = (tt, all_found all ms h)
all_found all (mark.List ∷ ms) h = (tt, all_found all ms h)
all_found all (mark.UseUnion ∷ ms) h = (tt, all_found all ms h)
all_found all (mark.UseNumber ∷ ms) h = (tt, all_found all ms h)
all_found all (mark.WhiteSpace how ∷ ms) h = (tt, all_found all ms h)

found_due : (f : Form) → AreFound (identifiers_in f) (texts_due f)
found_due (form.Words identifiers words) = due_found identifiers 0 identifiers words (behind_all identifiers)
found_due f = tt

pub texts_found : (f : Form) (marks : List Instruction) → filter is_text marks ≡ texts_due f → AreFound (identifiers_in f) marks
texts_found f marks e = all_found (identifiers_in f) marks (subst (AreFound (identifiers_in f)) (sym e) (found_due f))

pub identifier_at : (f : Form) (item : ℕ) (name : List ℕ) → slice_get (identifiers_in f) item ≡ Some name → item_identifier f item ≡ Some name
identifier_at (form.Words identifiers words) item name e = e
identifier_at f item name e = absurd (cc)

type_mark_plain : (f : Form) (m : Instruction) → All IsIdentifier (identifiers_in f) → IsFound (identifiers_in f) m → IsTypeMark (type_kind f m)
type_mark_plain f (mark.Text item text) names found =
    subst (λ o. IsIdentifier (unwrap_or o [])) (sym (identifier_at f item found.0 found.1)) (all-at IsIdentifier (identifiers_in f) item found.0 names found.1)
type_mark_plain f (mark.WhiteSpace Preserve) names found = tt
type_mark_plain f (mark.WhiteSpace Replace) names found = tt
type_mark_plain f (mark.WhiteSpace Collapse) names found = tt
type_mark_plain f m names found = tt

pub type_marks_plain : (f : Form) (marks : List Instruction) → All IsIdentifier (identifiers_in f) → AreFound (identifiers_in f) marks
    → All (λ (m : TypeMark). IsTypeMark m.kind) (type_marks_told f marks)
type_marks_plain f [] names found k d lt = absurd (omega (arith, lt))
type_marks_plain f (m ∷ ms) names found zero d lt = type_mark_plain f m names found.0
type_marks_plain f (m ∷ ms) names found (suc k) d lt = type_marks_plain f ms names found.1 k d (omega (arith, lt))

-- ---- TEXT told back

-- a form whose items have these names, where they stand for words
abbrev pub Lists : Spot → List (List ℕ) → PlainForm → Type 0
Lists spot names g = (item : ℕ) (name : List ℕ) → slice_get names item ≡ Some name → item_number spot g 0 name ≡ Some item

pub words_listed : (spot : Spot) (names : List (List ℕ)) → is_order_item spot ≡ false → IsDistinct bytes_eq names → Lists spot names (plain.Words (map name_at names))
words_listed spot names other apart item name e =
    let told = only-at (λ (i : PlainName). i.name) name (map name_at names) item (subst (IsDistinct bytes_eq) (sym (named names)) apart) (ap (λ ns. slice_get ns item) (named names) ∙ e) in
    ap (λ is. if is then None else option_map (λ i. 0 + i) (position (λ (i : PlainName). bytes_eq i.name name) (map name_at names))) other
    ∙ ap (option_map (λ i. 0 + i)) told
    ∙ ap Some none_more
  where
    none_more : 0 + item ≡ item
    none_more = omega arith

    named : (names : List (List ℕ)) → map (λ (i : PlainName). i.name) (map name_at names) ≡ names
    named [] = refl
    named (name ∷ names) = ap (λ ns. name ∷ ns) (named names)

pub none_listed : (spot : Spot) (g : PlainForm) → Lists spot [] g
none_listed spot g item name e = absurd (cc)

module _ (spot : Spot) (f : Form) (g : PlainForm) (lists : Lists spot (identifiers_in f) g) where
  type_mark_back : (m : Instruction) → not (is_of_part m) ≡ true → MayBe m → IsFound (identifiers_in f) m → type_mark_meant spot g (type_kind f m) ≡ m
  type_mark_back mark.UseNil e may found = refl
  type_mark_back mark.EmbedValues e may found = refl
  type_mark_back mark.UseOrder e may found = refl
  type_mark_back mark.List e may found = refl
  type_mark_back mark.UseUnion e may found = refl
  type_mark_back mark.UseNumber e may found = refl
  type_mark_back (mark.WhiteSpace Preserve) e may found = absurd (may refl)
  type_mark_back (mark.WhiteSpace Replace) e may found = refl
  type_mark_back (mark.WhiteSpace Collapse) e may found = refl
  type_mark_back (mark.Text item text) e may found =
      let name = found.0 in
      ap (λ o. mark.Text (unwrap_or (item_number spot g 0 (unwrap_or o [])) 0) (told_name (unwrap_or o []) (name_told (unwrap_or o []) text))) (identifier_at f item name found.1)
      ∙ ap (λ o. mark.Text (unwrap_or o 0) (told_name name (name_told name text))) (lists item name found.1)
      ∙ ap (mark.Text item) (name_back name text)
  type_mark_back m e may found = absurd (cc)

  pub type_marks_back : (marks : List Instruction) → of_types marks ≡ true → All MayBe marks → AreFound (identifiers_in f) marks
      → type_marks_meant spot g (type_marks_told f marks) ≡ marks
  type_marks_back [] e may found = refl
  type_marks_back (m ∷ ms) e may found =
      ap₂ (λ (x : Instruction) xs. x ∷ xs)
      (type_mark_back m (and-first (not (is_of_part m)) (of_types ms) e) (may zero m (omega arith)) found.0)
      (type_marks_back ms (and-second (not (is_of_part m)) (of_types ms) e) (λ k d lt. may (suc k) d (omega (arith, lt))) found.1)
