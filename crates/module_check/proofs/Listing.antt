-- Steps of the loops over lists whose first fault is sought.
use Rattle.std.proofs.Common.{◌≡◌, ℕ, zero, suc, ◌+◌, ◌-◌, ◌<◌, ◌≤◌, Bool, true, false, ◌&&◌, ◌||◌, not, Option, Some, None, List, [], ◌∷◌, ◌++◌, length, drop, take, get_or, min, refl, sym, ap, ◌∙◌, subst, append_assoc, arith}
use Rattle.std.specs.Prelude.{bytes_eq, slice_get, is_some, MatchOption, nat_lt, nat_le, if◌then◌else◌}
use Rattle.std.specs.Option.{option_map}
use Rattle.std.proofs.lemmas.Bool.{ltb-true, ltb-false, lt-ltb, le-ltb, leb-true, leb-false}
use Rattle.std.proofs.lemmas.List.{at_drop_more, at_drop_all, take_more}
use Rattle.std.proofs.lemmas.List.Folds.{list_any-append}
use Rattle.std.proofs.lemmas.Option.{slice_get_read, none-some, same_Some}
use Rattle.base_texts.specs.Limits.{is_empty}
use Rattle.base_trees.specs.Rose.{Rose, node, Roses, none, more, label_of, kids_of, roses_of}
use Rattle.base_trees.proofs.Kids.{roses_of-drop}
use Rattle.simple_types.specs.declared.simples.Simple.{Simple}
use Rattle.simple_types.specs.Space.{Space}
use Rattle.asn_names.specs.ReservedWords.{reserved_words}
use Rattle.module_text.specs.declared.marks.PartMark.{PartMark}
use Rattle.module_text.specs.declared.marks.TypeMark.{TypeMark}
use Rattle.module_text.specs.declared.types.PlainName.{PlainName}
use Rattle.module_text.specs.declared.types.PlainForm.{PlainForm}
use Rattle.module_text.specs.declared.types.PlainForm.TheVariants as form
use Rattle.module_text.specs.declared.types.PlainPart.{PlainPart}
use Rattle.module_text.specs.declared.types.PlainLabel.{PlainLabel}
use Rattle.module_text.specs.declared.modules.PlainAssignment.{PlainAssignment}
use Rattle.module_text.specs.Ranks.{rank_of_type_mark}
use Rattle.module_text.specs.Texts.{parts_of}
use Rattle.module_text.specs.declared.reasons.TextFault.{TextFault}
use Rattle.module_text.specs.declared.reasons.ModuleWhy.{ModuleWhy}
use Rattle.module_text.specs.declared.reasons.ModuleWhy.TheVariants.{Duplicate, LongChain, Spelling}
use Rattle.module_text.specs.declared.spots.Spot.{Spot}
use Rattle.module_text.specs.declared.spots.Spot.TheVariants.{Elsewhere}
use Rattle.module_text.specs.Listed.{fault, first, unless}
use Rattle.module_text.specs.Told.{has_list, has_attribute}
use Rattle.module_text.specs.Resolving.{resolve, body_at, chains_end}
use Rattle.module_text.specs.Simple.{simple_told}
use Rattle.module_text.specs.Marks.{type_mark_may, stands_once, next_item}
use Rattle.module_text.specs.Faults.{has_text, is_listed, type_mark_faults, form_faults, part_faults, type_faults, nameless_parts, reference_faults, is_bare, is_named_so, part_mark_faults, fixed_faults, absence_faults, space_at, part_spot, space_through, faults_from, assignment_faults}
use Rattle.module_simple.specs.Made.{Makes, made_space}
use Rattle.module_check.specs.Known.{AreSimples}
use Rattle.module_check.specs.Judging.{body_faults, front_faults, value_faults, faults_there, own_faults}
use Rattle.module_check.proofs.Firsts.{first-front, first-behind}
use Rattle.module_check.proofs.Chaining.{roses_of-list_of}

-- where no fault is the first, none is that of the lists before
pub none-front : (xs ys : List TextFault) → None ≡ first (xs ++ ys) → None ≡ first xs
unfolding first
none-front [] ys e = refl
none-front (x ∷ xs) ys e = absurd (cc)

pub unless-none : (b : Bool) (at : ℕ) (why : ModuleWhy) → None ≡ first (unless b at why) → b ≡ true
unfolding first
unless-none true at why e = refl
unless-none false at why e = absurd (cc)

pub none-when : {A : Type 0} (o : Option A) → ((x : A) → o ≡ Some x → ⊥) → None ≡ o
none-when None never = refl
none-when (Some x) never = absurd (never x refl)

-- a type is its label and its parts
pub whole : (t : Rose PlainLabel) → node (label_of t) (roses_of (kids_of t)) ≡ t
whole (node l ts) = ap (node l) (roses_of-list_of ts)

-- ---- instructions of types

module _ (P : List PlainAssignment) (spot : Spot) (t : Rose PlainLabel) where
  abbrev pub marks_left : Option ℕ → ℕ → List TypeMark → Option TextFault
  marks_left before least ms = first (type_mark_faults P spot (label_of t) (roses_of (kids_of t)) before least ms)

  abbrev pub stands : Option ℕ → ℕ → TypeMark → Bool
  stands before least m = stands_once before (rank_of_type_mark m.kind) && type_mark_may P spot (label_of t) (roses_of (kids_of t)) least m.kind

  module _ (marks : List TypeMark) (i : ℕ) (m : TypeMark) (at : i < length marks) (here : m ≡ get_or marks i m) (before : Option ℕ) (least : ℕ)
      (b : Bool) (is : b ≡ stands before least m) (due : Option TextFault) (left : marks_left before least (drop i marks) ≡ due) where
    mark_here : marks_left before least (m ∷ drop (i + 1) marks) ≡ due
    mark_here =
        ap (λ (k : TypeMark). marks_left before least (k ∷ drop (i + 1) marks)) here
        ∙ sym (at_drop_more (λ ms. marks_left before least ms) marks i m at)
        ∙ left

    pub mark-stopped : (f : TextFault) → Some f ≡ first (unless b m.at Spelling) → Some f ≡ due
    mark-stopped f e =
        first-front (unless (stands before least m) m.at Spelling) _ f (e ∙ ap (λ b. first (unless b m.at Spelling)) is) ∙ mark_here

    pub mark-passed : (l : PlainLabel) (r n : ℕ) → l ≡ label_of t → r ≡ rank_of_type_mark m.kind → n ≡ next_item spot l.form least m.kind
        → None ≡ first (unless b m.at Spelling) → marks_left (Some r) n (drop (i + 1) marks) ≡ due
    mark-passed l r n e er en quiet =
        ap (λ k. marks_left (Some k) n (drop (i + 1) marks)) er
        ∙ ap (λ k. marks_left (Some (rank_of_type_mark m.kind)) k (drop (i + 1) marks)) (en ∙ ap (λ (k : PlainLabel). next_item spot k.form least m.kind) e)
        ∙ first-behind (unless (stands before least m) m.at Spelling) _ _ (quiet ∙ ap (λ b. first (unless b m.at Spelling)) is) refl
        ∙ mark_here

-- ---- the parts of a type

pub type-split : (P : List PlainAssignment) (spot : Spot) (nameless : Bool) (t : Rose PlainLabel)
    → type_faults P spot nameless t
    ≡ type_mark_faults P spot (label_of t) (roses_of (kids_of t)) None 0 (label_of t).marks
    ++ form_faults P spot (label_of t).marks (label_of t).form
    ++ part_faults P spot (has_list (label_of t).marks || nameless) (label_of t) 0 [] (nameless_parts (label_of t).marks) (parts_of (label_of t).form) (roses_of (kids_of t))
unfolding type_faults
type-split P spot nameless (node l ts) =
    ap (λ us. type_mark_faults P spot l us None 0 l.marks ++ form_faults P spot l.marks l.form
    ++ part_faults P spot (has_list l.marks || nameless) l 0 [] (nameless_parts l.marks) (parts_of l.form) us) (sym (roses_of-list_of ts))

grouped : (U R N M T F A Z : List TextFault)
    → (((((((U ++ R) ++ N) ++ M) ++ T) ++ F) ++ A) ++ Z) ≡ U ++ ((((R ++ N) ++ M) ++ (T ++ (F ++ A))) ++ Z)
grouped U R N M T F A Z = simp append_assoc

module _ (P : List PlainAssignment) (spot : Spot) (nameless : Bool) (l : PlainLabel) (i : ℕ) (before : List (List ℕ)) (front : ℕ) where
  pub part-one : (part : PlainPart) (parts : List PlainPart) (t : Rose PlainLabel) (ts : Roses PlainLabel)
      → part_faults P spot nameless l i before front (part ∷ parts) (more t ts)
      ≡ unless (not (is_listed before part.identifier)) part.at Duplicate
      ++ (own_faults P spot nameless l i (nat_lt 0 front) part t
      ++ part_faults P spot nameless l (i + 1) (before ++ part.identifier ∷ []) (front - 1) parts ts)
  unfolding part_faults
  part-one part parts t ts =
      grouped (unless (not (is_listed before part.identifier)) part.at Duplicate)
      (if is_bare part (label_of t) then reference_faults P (label_of t).form else [])
      (unless (is_named_so nameless l.form part) part.at Spelling)
      (part_mark_faults (is_some (space_at P (part_spot spot l i part) part.marks t)) part.identifier None part.marks)
      (type_faults P (part_spot spot l i part) (nat_lt 0 front) t)
      (fixed_faults (space_at P (part_spot spot l i part) part.marks t) part.fixed)
      (absence_faults (space_at P (part_spot spot l i part) part.marks t) part.fixed (resolve P t) part.absence)
      (part_faults P spot nameless l (i + 1) (before ++ part.identifier ∷ []) (front - 1) parts ts)

  pub no-parts : (ts : Roses PlainLabel) → part_faults P spot nameless l i before front [] ts ≡ []
  unfolding part_faults
  no-parts none = refl
  no-parts (more t ts) = refl

  pub no-kids : (parts : List PlainPart) → part_faults P spot nameless l i before front parts none ≡ []
  unfolding part_faults
  no-kids parts = refl

-- ---- identifiers that stood before

last_text : (xs : List (List ℕ)) (x t : List ℕ) → has_text (xs ++ x ∷ []) t ≡ (has_text xs t || bytes_eq t x)
last_text xs x t = list_any-append (bytes_eq t) xs (x ∷ []) ∙ ap (λ b. has_text xs t || b) (or_false (bytes_eq t x))
  where
    or_false : (b : Bool) → (b || false) ≡ b
    or_false true = refl
    or_false false = refl

abbrev pub with_identifier : List (List ℕ) → List ℕ → List (List ℕ)
with_identifier seen x = if is_empty x then seen else seen ++ x ∷ []

or_nothing : (b : Bool) → b ≡ (b || false)
or_nothing true = refl
or_nothing false = refl

pub same-noted : (seen before : List (List ℕ)) (x : List ℕ) → ((t : List ℕ) → is_listed seen t ≡ is_listed before t)
    → (t : List ℕ) → is_listed (with_identifier seen x) t ≡ is_listed (before ++ x ∷ []) t
same-noted seen before [] same [] = refl
same-noted seen before (b ∷ x) same [] = refl
same-noted seen before [] same (c ∷ t) = same (c ∷ t) ∙ or_nothing (has_text before (c ∷ t)) ∙ sym (last_text before [] (c ∷ t))
same-noted seen before (b ∷ x) same (c ∷ t) =
    last_text seen (b ∷ x) (c ∷ t)
    ∙ ap (λ k. k || bytes_eq (c ∷ t) (b ∷ x)) (same (c ∷ t))
    ∙ sym (last_text before (b ∷ x) (c ∷ t))

-- what is left of the parts of a type, of which these identifiers were noted
pub record PartsLeft (P : List PlainAssignment) (spot : Spot) (nameless : Bool) (l : PlainLabel) (seen : List (List ℕ)) (i front : ℕ) (parts : List PlainPart) (ts : Roses PlainLabel) (due : Option TextFault) : Type 0 where
  pub before : List (List ℕ)
  pub same : (t : List ℕ) → is_listed seen t ≡ is_listed before t
  pub rest : first (part_faults P spot nameless l i before front parts ts) ≡ due

-- how the parts that are left are taken
front-now : (i f : ℕ) → nat_lt 0 (f - i) ≡ nat_lt i f
front-now i f = by (nat_lt i f) refl
  where
    by : (b : Bool) → nat_lt i f ≡ b → nat_lt 0 (f - i) ≡ b
    by true e = let below : i < f = ltb-true i f e in lt-ltb 0 (f - i) (omega arith)
    by false e = let above : f ≤ i = ltb-false i f e in le-ltb 0 (f - i) (omega arith)

all_left : (n : ℕ) → n - 0 ≡ n
all_left n = omega arith

module _ (P : List PlainAssignment) (spot : Spot) (nameless : Bool) (l : PlainLabel) where
  pub parts-begun : (seen : List (List ℕ)) (parts : List PlainPart) (ts : Roses PlainLabel) → seen ≡ [] → parts ≡ parts_of l.form
      → PartsLeft P spot nameless l seen 0 (nameless_parts l.marks - 0) parts ts
      (first (part_faults P spot nameless l 0 [] (nameless_parts l.marks) (parts_of l.form) ts))
  parts-begun seen parts ts fresh all = record {
    before = [];
    same = λ t. ap (λ s. is_listed s t) fresh;
    rest =
        ap (λ ps. first (part_faults P spot nameless l 0 [] (nameless_parts l.marks - 0) ps ts)) all
        ∙ ap (λ n. first (part_faults P spot nameless l 0 [] n (parts_of l.form) ts)) (all_left (nameless_parts l.marks));
  }

  module _ (seen : List (List ℕ)) (i f : ℕ) (parts : List PlainPart) (kids : List (Rose PlainLabel)) (due : Option TextFault)
      (left : PartsLeft P spot nameless l seen i (f - i) (drop i parts) (roses_of (drop i kids)) due)
      (part : PlainPart) (kid : Rose PlainLabel) (at : i < length parts) (within : i < length kids)
      (here : part ≡ get_or parts i part) (there : kid ≡ get_or kids i kid) where
    abbrev behind : List TextFault
    behind = part_faults P spot nameless l (i + 1) (left.before ++ part.identifier ∷ []) (f - i - 1) (drop (i + 1) parts) (roses_of (drop (i + 1) kids))

    one_left : first (unless (not (is_listed seen part.identifier)) part.at Duplicate ++ (own_faults P spot nameless l i (nat_lt i f) part kid ++ behind)) ≡ due
    one_left =
        ap (λ b. first (unless (not b) part.at Duplicate ++ (own_faults P spot nameless l i (nat_lt i f) part kid ++ behind))) (left.same part.identifier)
        ∙ ap (λ b. first (unless (not (is_listed left.before part.identifier)) part.at Duplicate ++ (own_faults P spot nameless l i b part kid ++ behind))) (sym (front-now i f))
        ∙ ap first (sym (part-one P spot nameless l i left.before (f - i) part (drop (i + 1) parts) kid (roses_of (drop (i + 1) kids))))
        ∙ ap (λ ts. first (part_faults P spot nameless l i left.before (f - i) (part ∷ drop (i + 1) parts) ts)) (sym (roses_of-drop kids i kid within there))
        ∙ ap (λ (p : PlainPart). first (part_faults P spot nameless l i left.before (f - i) (p ∷ drop (i + 1) parts) (roses_of (drop i kids)))) here
        ∙ sym (at_drop_more (λ ps. first (part_faults P spot nameless l i left.before (f - i) ps (roses_of (drop i kids)))) parts i part at)
        ∙ left.rest

    pub parts-again : is_listed seen part.identifier ≡ true → Some (fault part.at Duplicate) ≡ due
    unfolding first
    parts-again e =
        sym (ap (λ b. first (unless (not b) part.at Duplicate ++ (own_faults P spot nameless l i (nat_lt i f) part kid ++ behind))) e) ∙ one_left

    fresh_left : is_listed seen part.identifier ≡ false → first (own_faults P spot nameless l i (nat_lt i f) part kid ++ behind) ≡ due
    fresh_left e =
        sym (ap (λ b. first (unless (not b) part.at Duplicate ++ (own_faults P spot nameless l i (nat_lt i f) part kid ++ behind))) e) ∙ one_left

    pub parts-faulty : (b : Bool) (g : TextFault) → is_listed seen part.identifier ≡ false → b ≡ nat_lt i f
        → Some g ≡ first (own_faults P spot nameless l i b part kid) → Some g ≡ due
    parts-faulty b g e so found =
        first-front (own_faults P spot nameless l i (nat_lt i f) part kid) behind g (found ∙ ap (λ k. first (own_faults P spot nameless l i k part kid)) so)
        ∙ fresh_left e

    pub parts-passed : (b : Bool) (now : List (List ℕ)) → is_listed seen part.identifier ≡ false → b ≡ nat_lt i f
        → None ≡ first (own_faults P spot nameless l i b part kid) → now ≡ with_identifier seen part.identifier
        → PartsLeft P spot nameless l now (i + 1) (f - (i + 1)) (drop (i + 1) parts) (roses_of (drop (i + 1) kids)) due
    parts-passed b now e so quiet noted = record {
      before = left.before ++ part.identifier ∷ [];
      same = λ t. ap (λ s. is_listed s t) noted ∙ same-noted seen left.before part.identifier left.same t;
      rest = ap (λ n. first (part_faults P spot nameless l (i + 1) (left.before ++ part.identifier ∷ []) n (drop (i + 1) parts) (roses_of (drop (i + 1) kids)))) less
          ∙ first-behind (own_faults P spot nameless l i (nat_lt i f) part kid) behind _ (quiet ∙ ap (λ k. first (own_faults P spot nameless l i k part kid)) so) refl
          ∙ fresh_left e;
    }
      where
        less : f - (i + 1) ≡ f - i - 1
        less = omega arith

  module _ (seen : List (List ℕ)) (i f : ℕ) (parts : List PlainPart) (kids : List (Rose PlainLabel)) (due : Option TextFault)
      (left : PartsLeft P spot nameless l seen i f (drop i parts) (roses_of (drop i kids)) due) where
    past_by : (short : Bool) → nat_le (length parts) i ≡ short → min (length parts) (length kids) ≤ i
        → part_faults P spot nameless l i left.before f (drop i parts) (roses_of (drop i kids)) ≡ []
    past_by true e le =
        at_drop_all (λ ps. part_faults P spot nameless l i left.before f ps (roses_of (drop i kids))) parts i (leb-true (length parts) i e)
        ∙ no-parts P spot nameless l i left.before f (roses_of (drop i kids))
    past_by false e le =
        let over : i < length parts = leb-false (length parts) i e in
        at_drop_all (λ ks. part_faults P spot nameless l i left.before f (drop i parts) (roses_of ks)) kids i (omega (arith, over, le))
        ∙ no-kids P spot nameless l i left.before f (drop i parts)

    pub parts-past : min (length parts) (length kids) ≤ i → None ≡ due
    unfolding first
    parts-past le = sym (ap first (past_by (nat_le (length parts) i) refl le)) ∙ left.rest

-- ---- the simple type of a type

pub made-some : (found : Option Simple) (due : Option Space) → Makes found due → is_some found ≡ is_some due
made-some None due h = ap is_some (sym h.0)
made-some (Some s) due h = ap is_some (sym h.0)

pub simples-length : (simples : List (Option Simple)) (P : List PlainAssignment) → AreSimples simples P → length simples ≡ length P
simples-length [] [] h = refl
simples-length [] (a ∷ P) h = absurd h
simples-length (found ∷ simples) [] h = absurd h
simples-length (found ∷ simples) (a ∷ P) h = ap suc (simples-length simples P h.1)

pub simples-push : (simples : List (Option Simple)) (P : List PlainAssignment) (found : Option Simple) (a : PlainAssignment) → AreSimples simples P
    → Makes found (simple_told Elsewhere a.body) → AreSimples (simples ++ found ∷ []) (P ++ a ∷ [])
simples-push [] [] found a h made = (made, tt)
simples-push [] (b ∷ P) found a h made = absurd h
simples-push (x ∷ simples) [] found a h made = absurd h
simples-push (x ∷ simples) (b ∷ P) found a h made = (h.0, simples-push simples P found a h.1 made)

pub simples-more : (simples now : List (Option Simple)) (P : List PlainAssignment) (i : ℕ) (found : Option Simple) (a : PlainAssignment)
    → i < length P → a ≡ get_or P i a → AreSimples simples (take i P) → Makes found (simple_told Elsewhere a.body) → now ≡ simples ++ found ∷ []
    → AreSimples now (take (i + 1) P)
simples-more simples now P i found a at here h made noted =
    subst (λ ss. AreSimples ss (take (i + 1) P)) (sym noted)
    (subst (AreSimples (simples ++ found ∷ [])) (sym (take_more P i a at ∙ ap (λ (x : PlainAssignment). take i P ++ x ∷ []) (sym here)))
    (simples-push simples (take i P) found a h made))

simple_each : (simples : List (Option Simple)) (P : List PlainAssignment) → AreSimples simples P → (k : ℕ) (found : Option Simple) (a : PlainAssignment)
    → slice_get simples k ≡ Some found → slice_get P k ≡ Some a → Makes found (simple_told Elsewhere a.body)
simple_each [] [] h k found a e here = absurd (none-some a here)
simple_each [] (b ∷ P) h k found a e here = absurd h
simple_each (x ∷ simples) [] h k found a e here = absurd h
simple_each (x ∷ simples) (b ∷ P) h zero found a e here =
    subst (λ (c : PlainAssignment). Makes found (simple_told Elsewhere c.body)) (same_Some b a here)
    (subst (λ s. Makes s (simple_told Elsewhere b.body)) (same_Some x found e) h.0)
simple_each (x ∷ simples) (b ∷ P) h (suc k) found a e here = simple_each simples P h.1 k found a e here

simple_body : (P : List PlainAssignment) (simples : List (Option Simple)) → AreSimples simples P → (k : ℕ) (found : Option Simple) (t : Rose PlainLabel) (o : Option PlainAssignment)
    → slice_get P k ≡ o → slice_get simples k ≡ Some found → option_map (λ (a : PlainAssignment). a.body) o ≡ Some t → Makes found (simple_told Elsewhere t)
simple_body P simples h k found t None at e is = absurd (none-some t is)
simple_body P simples h k found t (Some a) at e is =
    subst (λ u. Makes found (simple_told Elsewhere u)) (same_Some a.body t is) (simple_each simples P h k found a e at)

pub simple-at : (P : List PlainAssignment) (simples : List (Option Simple)) → AreSimples simples P → (k : ℕ) (found : Option Simple) (t : Rose PlainLabel)
    → k < length P → found ≡ get_or simples k found → body_at P k ≡ Some t → Makes found (simple_told Elsewhere t)
simple-at P simples h k found t at here is =
    let long = simples-length simples P h in
    simple_body P simples h k found t (slice_get P k) refl (slice_get_read simples (length P) k found (sym long) at here) is

-- of a part that has ATTRIBUTE or not
pub made-there : (P : List PlainAssignment) (spot : Spot) (part : PlainPart) (t : Rose PlainLabel) (b : Bool) (found : Option Simple)
    → b ≡ has_attribute part.marks → Makes found (if b then space_through P spot t else None) → Makes found (space_at P spot part.marks t)
made-there P spot part t b found e h = subst (λ k. Makes found (if k then space_through P spot t else None)) e h

-- where nothing is shared
pub made-own : (P : List PlainAssignment) (spot : Spot) (part : PlainPart) (t : Rose PlainLabel) (b : Bool) (found : Option Simple)
    → b ≡ has_attribute part.marks → (if b then space_through P spot t else None) ≡ (if b then simple_told spot t else None)
    → Makes found (if b then simple_told spot t else None) → Makes found (space_at P spot part.marks t)
made-own P spot part t b found e same h = made-there P spot part t b found e (subst (λ due. Makes found due) (sym same) h)

-- a reference
reference_none : (l : PlainLabel) (ts : Roses PlainLabel) (spot : Spot) (name : PlainName) → l.form ≡ form.Ref name → simple_told spot (node l ts) ≡ None
unfolding simple_told
reference_none l ts spot name e = rw e refl

told_none : (t : Rose PlainLabel) (spot : Spot) (name : PlainName) → (label_of t).form ≡ form.Ref name → simple_told spot t ≡ None
told_none (node l ts) spot name e = reference_none l ts spot name e

module _ (P : List PlainAssignment) (spot : Spot) (t : Rose PlainLabel) where
  abbrev through_as : PlainForm → Option Space
  through_as f = elim f [ form.Ref reference ↦ simple_told Elsewhere (resolve P t) | _ ↦ simple_told spot t ]

  other_by : (f : PlainForm) → ((name : PlainName) → f ≡ form.Ref name → ⊥) → through_as f ≡ simple_told spot t
  other_by form.Bool never = refl
  other_by (form.Int r) never = refl
  other_by (form.Numbers items) never = refl
  other_by (form.Words items) never = refl
  other_by (form.Utf8 size class) never = refl
  other_by (form.Sequence parts) never = refl
  other_by (form.Choice parts) never = refl
  other_by (form.SequenceOf size part) never = refl
  other_by (form.Ref name) never = absurd (never name refl)

  -- a type that is none
  pub shared-other : (b : Bool) → ((name : PlainName) → (label_of t).form ≡ form.Ref name → ⊥)
      → (if b then space_through P spot t else None) ≡ (if b then simple_told spot t else None)
  shared-other true never = other_by (label_of t).form never
  shared-other false never = refl

  pub shared-none : (b : Bool) → b ≡ false → (if b then space_through P spot t else None) ≡ (if b then simple_told spot t else None)
  shared-none b e = ap (λ k. if k then space_through P spot t else None) e ∙ sym (ap (λ k. if k then simple_told spot t else None) e)

  module _ (name : PlainName) (is : (label_of t).form ≡ form.Ref name) where
    through_is : space_through P spot t ≡ simple_told Elsewhere (resolve P t)
    through_is = ap through_as is

    pub shared-reference : {A : Type 0} (v : A → Option Simple) (o : Option A) (b : Bool) → b ≡ true
        → MatchOption o (resolve P t ≡ t) (λ found. Makes (v found) (simple_told Elsewhere (resolve P t)))
        → MatchOption o ((if b then space_through P spot t else None) ≡ (if b then simple_told spot t else None)) (λ found. Makes (v found) (if b then space_through P spot t else None))
    shared-reference v None b e same =
        ap (λ k. if k then space_through P spot t else None) e
        ∙ through_is ∙ ap (simple_told Elsewhere) same ∙ told_none t Elsewhere name is ∙ sym (told_none t spot name is)
        ∙ sym (ap (λ k. if k then simple_told spot t else None) e)
    shared-reference v (Some found) b e made =
        subst (λ k. Makes (v found) (if k then space_through P spot t else None)) (sym e) (subst (Makes (v found)) (sym through_is) made)

-- ---- all faults of a part but for Duplicate

module _ (P : List PlainAssignment) (spot : Spot) (nameless : Bool) (f : PlainForm) (front : Bool) (part : PlainPart) (t : Rose PlainLabel)
    (simple : Option Simple) (made : Makes simple (space_at P spot part.marks t)) (l : PlainLabel) (b : Bool) (e : l ≡ label_of t) (is : b ≡ is_some simple) where
  front_so : front_faults P nameless f part b l ≡ front_faults P nameless f part (is_some (space_at P spot part.marks t)) (label_of t)
  front_so =
      ap (λ (k : PlainLabel). front_faults P nameless f part b k) e
      ∙ ap (λ b. front_faults P nameless f part b (label_of t)) (is ∙ made-some simple _ made)

  pub there-front : (g : TextFault) → Some g ≡ first (front_faults P nameless f part b l) → Some g ≡ first (faults_there P spot nameless f front part t)
  there-front g found = first-front _ (type_faults P spot front t ++ value_faults P (space_at P spot part.marks t) part t) g (found ∙ ap first front_so)

  pub there-behind : (found : Option TextFault) → None ≡ first (front_faults P nameless f part b l)
      → found ≡ first (type_faults P spot front t ++ value_faults P (made_space simple) part t)
      → found ≡ first (faults_there P spot nameless f front part t)
  there-behind found quiet is_found =
      first-behind (front_faults P nameless f part (is_some (space_at P spot part.marks t)) (label_of t)) _ found (quiet ∙ ap first front_so)
      (is_found ∙ ap (λ space. first (type_faults P spot front t ++ value_faults P space part t)) (sym made.0))

-- ---- a type

module _ (P : List PlainAssignment) (spot : Spot) (nameless : Bool) (t : Rose PlainLabel) where
  abbrev pub own : List TextFault
  own = type_mark_faults P spot (label_of t) (roses_of (kids_of t)) None 0 (label_of t).marks ++ form_faults P spot (label_of t).marks (label_of t).form

  own_split : type_faults P spot nameless t
      ≡ own ++ part_faults P spot (has_list (label_of t).marks || nameless) (label_of t) 0 [] (nameless_parts (label_of t).marks) (parts_of (label_of t).form) (roses_of (kids_of t))
  own_split = type-split P spot nameless t

  pub type-own : (g : TextFault) → Some g ≡ first own → Some g ≡ first (type_faults P spot nameless t)
  type-own g found = first-front own _ g found ∙ ap first (sym own_split)

  pub type-parts : (l : PlainLabel) (b : Bool) (kids : List (Rose PlainLabel)) → l ≡ label_of t → b ≡ (has_list l.marks || nameless) → kids ≡ kids_of t
      → None ≡ first own → (found : Option TextFault)
      → found ≡ first (part_faults P spot b l 0 [] (nameless_parts l.marks) (parts_of l.form) (roses_of kids))
      → found ≡ first (type_faults P spot nameless t)
  type-parts l b kids e eb ek quiet found is =
      first-behind own _ found quiet
      (is ∙ ap (λ k. first (part_faults P spot k l 0 [] (nameless_parts l.marks) (parts_of l.form) (roses_of kids))) eb
      ∙ ap (λ ks. first (part_faults P spot (has_list l.marks || nameless) l 0 [] (nameless_parts l.marks) (parts_of l.form) (roses_of ks))) ek
      ∙ ap (λ (k : PlainLabel). first (part_faults P spot (has_list k.marks || nameless) k 0 [] (nameless_parts k.marks) (parts_of k.form) (roses_of (kids_of t)))) e)
      ∙ ap first (sym own_split)

-- what stands behind the instructions of a type
pub form-behind : (P : List PlainAssignment) (spot : Spot) (t : Rose PlainLabel) (l : PlainLabel) (ms : List TypeMark) → l ≡ label_of t → ms ≡ l.marks
    → None ≡ first (type_mark_faults P spot (label_of t) (roses_of (kids_of t)) None 0 (label_of t).marks)
    → (found : Option TextFault) → found ≡ first (form_faults P spot ms l.form) → found ≡ first (own P spot false t)
form-behind P spot t l ms e em quiet found is =
    first-behind (type_mark_faults P spot (label_of t) (roses_of (kids_of t)) None 0 (label_of t).marks) _ found quiet
    (is ∙ ap (λ ks. first (form_faults P spot ks l.form)) em ∙ ap (λ (k : PlainLabel). first (form_faults P spot k.marks k.form)) e)

-- ---- assignments

module _ (P : List PlainAssignment) (seen : List (List ℕ)) (i : ℕ) (a : PlainAssignment) (at : i < length P) (here : a ≡ get_or P i a) (due : Option TextFault)
    (left : first (faults_from P seen (drop i P)) ≡ due) where
  a_left : first (assignment_faults P seen a ++ faults_from P (seen ++ a.reference ∷ []) (drop (i + 1) P)) ≡ due
  a_left =
      ap (λ (x : PlainAssignment). first (faults_from P seen (x ∷ drop (i + 1) P))) here
      ∙ sym (at_drop_more (λ Q. first (faults_from P seen Q)) P i a at)
      ∙ left

  pub assignment-faulty : (g : TextFault) → Some g ≡ first (assignment_faults P seen a) → Some g ≡ due
  assignment-faulty g found = first-front (assignment_faults P seen a) _ g found ∙ a_left

  pub assignment-passed : (now : List (List ℕ)) (reference : List ℕ) → None ≡ first (assignment_faults P seen a) → reference ≡ a.reference
      → now ≡ seen ++ reference ∷ [] → first (faults_from P now (drop (i + 1) P)) ≡ due
  assignment-passed now reference quiet er en =
      ap (λ s. first (faults_from P s (drop (i + 1) P))) (en ∙ ap (λ r. seen ++ r ∷ []) er)
      ∙ first-behind (assignment_faults P seen a) (faults_from P (seen ++ a.reference ∷ []) (drop (i + 1) P)) _ quiet refl ∙ a_left

pub assignment-grouped : (P : List PlainAssignment) (seen : List (List ℕ)) (a : PlainAssignment)
    → assignment_faults P seen a
    ≡ unless (not (has_text seen a.reference) && not (has_text reserved_words a.reference)) a.at Duplicate
    ++ (unless (chains_end P a.body) a.at LongChain ++ body_faults P a)
assignment-grouped P seen a = simp append_assoc

module _ (P : List PlainAssignment) (seen : List (List ℕ)) (a : PlainAssignment) (b : Bool)
    (is : b ≡ (not (has_text seen a.reference) && not (has_text reserved_words a.reference))) where
  pub assignment-taken : (g : TextFault) → Some g ≡ first (unless b a.at Duplicate) → Some g ≡ first (assignment_faults P seen a)
  assignment-taken g found =
      first-front (unless (not (has_text seen a.reference) && not (has_text reserved_words a.reference)) a.at Duplicate)
      (unless (chains_end P a.body) a.at LongChain ++ body_faults P a) g (found ∙ ap (λ k. first (unless k a.at Duplicate)) is)
      ∙ ap first (sym (assignment-grouped P seen a))

  module _ (ends : Bool) (so : ends ≡ chains_end P a.body) (free : None ≡ first (unless b a.at Duplicate)) where
    behind_name : (found : Option TextFault) → found ≡ first (unless (chains_end P a.body) a.at LongChain ++ body_faults P a)
        → found ≡ first (assignment_faults P seen a)
    behind_name found due =
        first-behind (unless (not (has_text seen a.reference) && not (has_text reserved_words a.reference)) a.at Duplicate)
        (unless (chains_end P a.body) a.at LongChain ++ body_faults P a) found (free ∙ ap (λ k. first (unless k a.at Duplicate)) is) due
        ∙ ap first (sym (assignment-grouped P seen a))

    pub assignment-long : (g : TextFault) → Some g ≡ first (unless ends a.at LongChain) → Some g ≡ first (assignment_faults P seen a)
    assignment-long g found =
        behind_name (Some g)
        (first-front (unless (chains_end P a.body) a.at LongChain) (body_faults P a) g (found ∙ ap (λ k. first (unless k a.at LongChain)) so))

    pub assignment-behind : None ≡ first (unless ends a.at LongChain) → (found : Option TextFault) → found ≡ first (body_faults P a)
        → found ≡ first (assignment_faults P seen a)
    assignment-behind quiet found due =
        behind_name found
        (first-behind (unless (chains_end P a.body) a.at LongChain) (body_faults P a) found (quiet ∙ ap (λ k. first (unless k a.at LongChain)) so) due)

module _ (P : List PlainAssignment) (a : PlainAssignment) (b : Bool) (is : b ≡ is_some (space_at P Elsewhere a.marks a.body))
    (name : List ℕ) (named : name ≡ a.reference) (ms : List PartMark) (own : ms ≡ a.marks) where
  marks_so : part_mark_faults b name None ms ≡ part_mark_faults (is_some (space_at P Elsewhere a.marks a.body)) a.reference None a.marks
  marks_so =
      ap (λ k. part_mark_faults k name None ms) is
      ∙ ap (λ r. part_mark_faults (is_some (space_at P Elsewhere a.marks a.body)) r None ms) named
      ∙ ap (λ xs. part_mark_faults (is_some (space_at P Elsewhere a.marks a.body)) a.reference None xs) own

  pub body-marks : (g : TextFault) → Some g ≡ first (part_mark_faults b name None ms) → Some g ≡ first (body_faults P a)
  body-marks g found =
      first-front (part_mark_faults (is_some (space_at P Elsewhere a.marks a.body)) a.reference None a.marks) (type_faults P Elsewhere false a.body) g
      (found ∙ ap first marks_so)

  pub body-behind : None ≡ first (part_mark_faults b name None ms) → (found : Option TextFault) → found ≡ first (type_faults P Elsewhere false a.body)
      → found ≡ first (body_faults P a)
  body-behind quiet found due =
      first-behind (part_mark_faults (is_some (space_at P Elsewhere a.marks a.body)) a.reference None a.marks) (type_faults P Elsewhere false a.body) found
      (quiet ∙ ap first marks_so) due

free_by : (b c : Bool) → (not b && c) ≡ true → b ≡ false
free_by true c e = absurd (cc)
free_by false c e = refl

pub assignment-free : (P : List PlainAssignment) (seen : List (List ℕ)) (a : PlainAssignment) (reference : List ℕ) → None ≡ first (assignment_faults P seen a)
    → reference ≡ a.reference → has_text seen reference ≡ false
assignment-free P seen a reference quiet er =
    let all = none-front (unless (not (has_text seen a.reference) && not (has_text reserved_words a.reference)) a.at Duplicate)
    (unless (chains_end P a.body) a.at LongChain ++ body_faults P a) (quiet ∙ ap first (assignment-grouped P seen a)) in
    ap (has_text seen) er
    ∙ free_by (has_text seen a.reference) (not (has_text reserved_words a.reference))
    (unless-none (not (has_text seen a.reference) && not (has_text reserved_words a.reference)) a.at Duplicate all)
