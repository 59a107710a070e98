-- Encoding instructions of types have no fault as they are told, where the type has what each asks.
use Rattle.std.proofs.Common.{◌≡◌, ℕ, zero, suc, ◌<◌, ◌≤◌, ◌+◌, ◌-◌, Bool, true, false, ◌&&◌, ◌||◌, not, Option, Some, None, List, [], ◌∷◌, map, refl, sym, ap, subst, ◌∙◌, arith, option_map, position}
use Rattle.std.specs.Prelude.{◌≢◌, All, IsUtf8, bytes_eq, chars, drop, filter, is_some, slice_get, unwrap_or, if◌then◌else◌}
use Rattle.std.specs.List.{list_all, IsDistinct}
use Rattle.std.proofs.lemmas.Bool.{true≢false, ltb-true}
use Rattle.base_trees.specs.Rose.{Roses}
use Rattle.base_texts.specs.Characters.{is_xml_char}
use Rattle.base_texts.specs.declared.white_space.WhiteSpace.TheVariants.{Preserve, Replace, Collapse}
use Rattle.asn_names.specs.declared.restoration.NameForm.TheVariants as name_form
use Rattle.asn_names.specs.Restoring.{form_of, capitalized, uncapitalized}
use Rattle.asn_types.specs.declared.marks.Instruction.{Instruction}
use Rattle.asn_types.specs.declared.marks.Instruction.TheVariants as mark
use Rattle.asn_types.specs.declared.types.Form.{Form}
use Rattle.asn_types.specs.declared.types.Form.TheVariants as form
use Rattle.module_print.specs.Instructions.{rank}
use Rattle.module_text.specs.Ranks.{rank_of_type_mark}
use Rattle.module_text.specs.declared.types.PlainName.{PlainName}
use Rattle.module_text.specs.declared.types.PlainForm.{PlainForm}
use Rattle.module_text.specs.declared.types.PlainForm.TheVariants as plain
use Rattle.module_text.specs.declared.types.PlainLabel.{PlainLabel}
use Rattle.module_text.specs.declared.modules.PlainAssignment.{PlainAssignment}
use Rattle.module_text.specs.declared.spots.Spot.{Spot}
use Rattle.module_text.specs.declared.reasons.ModuleWhy.TheVariants as why
use Rattle.module_text.specs.Listed.{unless}
use Rattle.module_text.specs.Told.{is_told_so}
use Rattle.module_text.specs.Simple.{is_order_item}
use Rattle.module_text.specs.Marks as may
use Rattle.module_text.specs.Faults as rule
use Rattle.module_text.specs.Printable.{comes_before, are_in_order, is_of_part, is_text, text_marks, texts_due, MayBe}
use Rattle.module_text.proofs.PrintedBounds.{and-first, and-second}
use Rattle.module_laws.proofs.Firsts.{only-at}
use Rattle.module_unique.specs.Utf8Texts.{MarkIsUtf8}
use Rattle.module_unique.proofs.Telling.{name_told, name_at, type_kind, type_marks_told}
use Rattle.module_unique.proofs.Values.{named_back}
use Rattle.module_unique.proofs.Words.{Behind, behind_first, behind_rest, behind_all, identifiers_in, identifier_at}
use Rattle.module_unique.proofs.Marked.{of_types, type_rank}
use Rattle.module_unique.proofs.Printing.{rank_most}
use Rattle.module_unique.proofs.CleanForms.{stands-so, no-more, both-so}
use Rattle.module_unique.proofs.CleanMarks.{xml_text, told_so, apart_ranks, order_rest}

-- ---- the item of a TEXT

-- a form whose items have these names, where they stand for words: each is found from any number on that isn't over its own
abbrev pub ListsFrom : Spot → List (List ℕ) → PlainForm → Type 0
ListsFrom spot names g = (least item : ℕ) (name : List ℕ) → least ≤ item → slice_get names item ≡ Some name → may.item_number spot g least name ≡ Some item

got_drop : (names : List (List ℕ)) (least j item : ℕ) (name : List ℕ) → least + j ≡ item → slice_get names item ≡ Some name → slice_get (drop least names) j ≡ Some name
got_drop [] least j item name is e = absurd (cc)
got_drop (x ∷ xs) zero j item name is e = let same : item ≡ j = omega (arith, is) in subst (λ n. slice_get (x ∷ xs) n ≡ Some name) same e
got_drop (x ∷ xs) (suc least) j zero name is e = absurd (omega (arith, is))
got_drop (x ∷ xs) (suc least) j (suc item) name is e = got_drop xs least j item name (omega (arith, is)) e

distinct_drop : (least : ℕ) (names : List (List ℕ)) → IsDistinct bytes_eq names → IsDistinct bytes_eq (drop least names)
unfolding IsDistinct
distinct_drop zero names apart = apart
distinct_drop (suc least) [] apart = tt
distinct_drop (suc least) (x ∷ xs) apart = distinct_drop least xs apart.1

drop_told : (least : ℕ) (names : List (List ℕ)) → drop least (map name_at names) ≡ map name_at (drop least names)
drop_told zero names = refl
drop_told (suc least) [] = refl
drop_told (suc least) (x ∷ xs) = drop_told least xs

pub words_from : (spot : Spot) (names : List (List ℕ)) → is_order_item spot ≡ false → IsDistinct bytes_eq names → ListsFrom spot names (plain.Words (map name_at names))
words_from spot names other apart least item name le got =
    let j = item - least in
    let sum : least + j ≡ item = omega (arith, le) in
    let rest = drop least names in
    let found = only-at (λ (i : PlainName). i.name) name (map name_at rest) j (subst (IsDistinct bytes_eq) (sym (named_back rest)) (distinct_drop least names apart))
    (ap (λ ns. slice_get ns j) (named_back rest) ∙ got_drop names least j item name sum got) in
    ap (λ is. if is then None else option_map (λ i. least + i) (position (λ (i : PlainName). bytes_eq i.name name) (drop least (map name_at names)))) other
    ∙ ap (λ is. option_map (λ i. least + i) (position (λ (i : PlainName). bytes_eq i.name name) is)) (drop_told least names)
    ∙ ap (option_map (λ i. least + i)) found
    ∙ ap (λ n. Some n) sum

pub none_from : (spot : Spot) (g : PlainForm) → ListsFrom spot [] g
none_from spot g least item name le got = absurd (cc)

-- ---- TEXT is of words that differ from their identifiers

abbrev pub IsDue : List (List ℕ) → Instruction → Type 0
IsDue all (mark.Text item text) = (name : List ℕ) × (slice_get all item ≡ Some name) × (bytes_eq name text ≡ false)
IsDue all m = Unit {0}

abbrev pub AreDue : List (List ℕ) → List Instruction → Type 0
AreDue all [] = Unit {0}
AreDue all (m ∷ ms) = IsDue all m × AreDue all ms

marks_due : (all : List (List ℕ)) (k : ℕ) (names texts : List (List ℕ)) → Behind all k names → AreDue all (text_marks k names texts)
marks_due all k [] texts h = tt
marks_due all k (name ∷ names) [] h = tt
marks_due all k (name ∷ names) (text ∷ texts) h = by (bytes_eq name text) refl (marks_due all (k + 1) names texts (behind_rest all k name names h))
  where
    by : (same : Bool) → bytes_eq name text ≡ same → AreDue all (text_marks (k + 1) names texts)
        → AreDue all (if same then text_marks (k + 1) names texts else (mark.Text k text ∷ text_marks (k + 1) names texts))
    by true e rest = rest
    by false e rest = ((name, behind_first all k name names h, e), rest)

all_due : (all : List (List ℕ)) (marks : List Instruction) → AreDue all (filter is_text marks) → AreDue all marks
all_due all [] h = tt
all_due all (mark.Text item text ∷ ms) h = (h.0, all_due all ms h.1)
all_due all (m ∷ ms) h = (tt, all_due all ms h)

form_due : (f : Form) → AreDue (identifiers_in f) (texts_due f)
form_due (form.Words identifiers words) = marks_due identifiers 0 identifiers words (behind_all identifiers)
form_due f = tt

pub texts_are_due : (f : Form) (marks : List Instruction) → filter is_text marks ≡ texts_due f → AreDue (identifiers_in f) marks
texts_are_due f marks e = all_due (identifiers_in f) marks (subst (AreDue (identifiers_in f)) (sym e) (form_due f))

other_form : (generated name : List ℕ) (same first second : Bool) → same ≡ false
    → (if same then None else if first then Some name_form.Capitalized else if second then Some name_form.Uncapitalized else Some name_form.Quoted) ≢ None
other_form generated name true first second e = absurd (true≢false e)
other_form generated name false true second e = λ f. absurd (cc)
other_form generated name false false true e = λ f. absurd (cc)
other_form generated name false false false e = λ f. absurd (cc)

some_form : (generated name : List ℕ) → bytes_eq generated name ≡ false → form_of generated name ≢ None
some_form generated name e = other_form generated name (bytes_eq generated name) (bytes_eq (capitalized generated) name) (bytes_eq (uncapitalized generated) name) e

-- ---- their order

abbrev Once : Option ℕ → List Instruction → Type 0
Once before [] = Unit {0}
Once before (m ∷ ms) = may.stands_once before (rank m) ≡ true

once_none : (ms : List Instruction) → Once None ms
once_none [] = tt
once_none (m ∷ ms) = or_true (may.is_text_rank (rank m))
  where
    or_true : (b : Bool) → (b || true) ≡ true
    or_true true = refl
    or_true false = refl

once_over : (r s : ℕ) → r < s → may.stands_once (Some r) s ≡ true
once_over r s lt = ap (λ b. may.is_text_rank s || not b) (apart_ranks r s lt) ∙ or_true (may.is_text_rank s)
  where
    or_true : (b : Bool) → (b || true) ≡ true
    or_true true = refl
    or_true false = refl

once_by : (m n : Instruction) → comes_before m n ≡ true → may.stands_once (Some (rank m)) (rank n) ≡ true
once_by (mark.Text item text) (mark.Text other word) e = refl
once_by m n e = once_over (rank m) (rank n) (ltb-true (rank m) (rank n) e)

once_next : (m : Instruction) (ms : List Instruction) → are_in_order (m ∷ ms) ≡ true → Once (Some (rank m)) ms
once_next m [] e = tt
once_next m (n ∷ ms) e = once_by m n (and-first (comes_before m n) (are_in_order (n ∷ ms)) e)

-- the least number that the item of the next may have
abbrev LeastAt : ℕ → Instruction → Type 0
LeastAt least (mark.Text item text) = least ≤ item
LeastAt least m = least ≡ 0

abbrev Least : ℕ → List Instruction → Type 0
Least least [] = Unit {0}
Least least (m ∷ ms) = LeastAt least m

least_at : (m : Instruction) → LeastAt 0 m
least_at (mark.Text item text) = omega arith
least_at m = refl

least_none : (ms : List Instruction) → Least 0 ms
least_none [] = tt
least_none (m ∷ ms) = least_at m

module _ (P : List PlainAssignment) (spot : Spot) (l : PlainLabel) (ts : Roses PlainLabel) (f : Form) (found : ListsFrom spot (identifiers_in f) l.form) where
  -- the type has what an instruction asks that is no TEXT
  abbrev pub Asks : Instruction → Type 0
  Asks (mark.Text item text) = Unit {0}
  Asks m = (least : ℕ) → may.type_mark_may P spot l ts least (type_kind f m) ≡ true

  text_may : (least item : ℕ) (name text : List ℕ) → slice_get (identifiers_in f) item ≡ Some name → bytes_eq name text ≡ false → least ≤ item
      → IsUtf8 text → list_all is_xml_char (chars text) ≡ true → may.type_mark_may P spot l ts least (type_kind f (mark.Text item text)) ≡ true
  text_may least item name text got apart le utf8 xml =
      ap (λ o. is_some (may.item_number spot l.form least (unwrap_or o [])) && is_told_so (unwrap_or o []) (name_told (unwrap_or o []) text)) (identifier_at f item name got)
      ∙ both-so (is_some (may.item_number spot l.form least name)) (is_told_so name (name_told name text))
      (ap is_some (found least item name le got))
      (told_so name text (some_form name text apart) (xml_text text utf8 xml))

  may_by : (m : Instruction) (least : ℕ) → LeastAt least m → IsDue (identifiers_in f) m → MarkIsUtf8 m → MayBe m → Asks m → may.type_mark_may P spot l ts least (type_kind f m) ≡ true
  may_by (mark.Text item text) least le due utf8 xml asks = text_may least item due.0 text due.1 due.2 le utf8 xml
  may_by m least le due utf8 xml asks = asks least

  next_text : (least item : ℕ) (name text : List ℕ) → slice_get (identifiers_in f) item ≡ Some name → least ≤ item
      → may.next_item spot l.form least (type_kind f (mark.Text item text)) ≡ suc item
  next_text least item name text got le =
      ap (λ o. elim (may.item_number spot l.form least (unwrap_or o [])) as (λ _. ℕ) [ None ↦ least | Some i ↦ suc i ]) (identifier_at f item name got)
      ∙ ap (λ o. elim o as (λ _. ℕ) [ None ↦ least | Some i ↦ suc i ]) (found least item name le got)

  least_next : (m n : Instruction) (least : ℕ) → LeastAt least m → IsDue (identifiers_in f) m → comes_before m n ≡ true
      → LeastAt (may.next_item spot l.form least (type_kind f m)) n
  least_next (mark.Text item text) (mark.Text other word) least le due e =
      let lt : item < other = ltb-true item other e in
      let next = next_text least item due.0 text due.1 le in
      omega (arith, lt, next)
  least_next (mark.Text item text) n least le due e =
      let lt : 11 < rank n = ltb-true 11 (rank n) e in
      let most = rank_most n in
      absurd (omega (arith, lt, most))
  least_next (mark.WhiteSpace Preserve) n least le due e = subst (λ k. LeastAt k n) (sym le) (least_at n)
  least_next (mark.WhiteSpace Replace) n least le due e = subst (λ k. LeastAt k n) (sym le) (least_at n)
  least_next (mark.WhiteSpace Collapse) n least le due e = subst (λ k. LeastAt k n) (sym le) (least_at n)
  least_next m n least le due e = subst (λ k. LeastAt k n) (sym le) (least_at n)

  least_rest : (m : Instruction) (ms : List Instruction) (least : ℕ) → LeastAt least m → IsDue (identifiers_in f) m → are_in_order (m ∷ ms) ≡ true
      → Least (may.next_item spot l.form least (type_kind f m)) ms
  least_rest m [] least le due e = tt
  least_rest m (n ∷ ms) least le due e = least_next m n least le due (and-first (comes_before m n) (are_in_order (n ∷ ms)) e)

  type_marks_by : (ms : List Instruction) (before : Option ℕ) (least : ℕ) → are_in_order ms ≡ true → of_types ms ≡ true → All MayBe ms → All MarkIsUtf8 ms
      → AreDue (identifiers_in f) ms → All Asks ms → Once before ms → Least least ms → rule.type_mark_faults P spot l ts before least (type_marks_told f ms) ≡ []
  type_marks_by [] before least order of may_be utf8 due asks once le = refl
  type_marks_by (m ∷ ms) before least order of may_be utf8 due asks once le =
      let k = type_kind f m in
      let same = type_rank f m (and-first (not (is_of_part m)) (of_types ms) of) (may_be zero m (omega arith)) in
      let stands = may.stands_once before (rank_of_type_mark k) in
      let fits = may.type_mark_may P spot l ts least k in
      let next = may.next_item spot l.form least k in
      no-more (unless (stands && fits) 0 why.Spelling) (rule.type_mark_faults P spot l ts (Some (rank_of_type_mark k)) next (type_marks_told f ms))
      (stands-so (stands && fits) 0 why.Spelling
      (both-so stands fits (ap (may.stands_once before) same ∙ once)
      (may_by m least le due.0 (utf8 zero m (omega arith)) (may_be zero m (omega arith)) (asks zero m (omega arith)))))
      (ap (λ r. rule.type_mark_faults P spot l ts (Some r) next (type_marks_told f ms)) same
      ∙ type_marks_by ms (Some (rank m)) next (order_rest m ms order) (and-second (not (is_of_part m)) (of_types ms) of)
      (λ i d lt. may_be (suc i) d (omega (arith, lt))) (λ i d lt. utf8 (suc i) d (omega (arith, lt))) due.1 (λ i d lt. asks (suc i) d (omega (arith, lt)))
      (once_next m ms order) (least_rest m ms least le due.0 order))

  pub type_marks_clean : (ms : List Instruction) → are_in_order ms ≡ true → of_types ms ≡ true → All MayBe ms → All MarkIsUtf8 ms → filter is_text ms ≡ texts_due f → All Asks ms
      → rule.type_mark_faults P spot l ts None 0 (type_marks_told f ms) ≡ []
  type_marks_clean ms order of may_be utf8 due asks = type_marks_by ms None 0 order of may_be utf8 (texts_are_due f ms due) asks (once_none ms) (least_none ms)
