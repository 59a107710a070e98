-- The encoding instructions of types: without a fault they are printed as they are written, and TEXT stands just where it is due.
use Rattle.std.proofs.Common.{◌≡◌, ℕ, zero, suc, ◌<◌, ◌≤◌, ◌+◌, Bool, true, false, ◌&&◌, ◌||◌, not, Option, Some, None, List, [], ◌∷◌, ◌++◌, map, filter, All, refl, sym, ap, ◌∙◌, subst, arith, codes, drop, position, option_map, is_some, drop-drop}
use Rattle.std.specs.Prelude.{nat_le, nat_lt, ◌==◌, bytes_eq, slice_get, unwrap_or, if◌then◌else◌}
use Rattle.std.specs.List.{list_all, flat_map, filter_map, AllByRecursion, IsDistinct}
use Rattle.std.proofs.lemmas.Bool.{true≢false, leb-true}
use Rattle.std.proofs.lemmas.Bool.Decides.{nat_tests}
use Rattle.std.proofs.lemmas.List.Elements.{All-nil, All-cons}
use Rattle.base_trees.specs.Rose.{Roses}
use Rattle.asn_names.specs.declared.restoration.NameForm.TheVariants as name_form
use Rattle.asn_names.specs.Restoring.{capitalized, uncapitalized, form_of}
use Rattle.asn_types.specs.declared.marks.Instruction.{Instruction}
use Rattle.asn_types.specs.declared.marks.Instruction.TheVariants as mark
use Rattle.asn_types.specs.declared.types.Form.{Form}
use Rattle.asn_types.specs.declared.types.Form.TheVariants as meant
use Rattle.module_print.specs.Instructions.{instruction, instructions, item_identifier, as_item, bracketed, rank}
use Rattle.module_text.specs.declared.marks.NameAs.{NameAs}
use Rattle.module_text.specs.declared.marks.TypeMark.{TypeMark}
use Rattle.module_text.specs.declared.marks.TypeMarkKind.{TypeMarkKind}
use Rattle.module_text.specs.declared.marks.TypeMarkKind.TheVariants as type_mark
use Rattle.module_text.specs.declared.types.PlainName.{PlainName}
use Rattle.module_text.specs.declared.types.PlainForm.{PlainForm}
use Rattle.module_text.specs.declared.types.PlainForm.TheVariants as form
use Rattle.module_text.specs.declared.types.PlainLabel.{PlainLabel}
use Rattle.module_text.specs.declared.modules.PlainAssignment.{PlainAssignment}
use Rattle.module_text.specs.Ranks.{rank_of_type_mark, type_marks_from}
use Rattle.module_text.specs.Texts.{type_mark_text, type_marks_text}
use Rattle.module_text.specs.Plain.{IsTypeMark, AreTypeMarks}
use Rattle.module_text.specs.declared.spots.Spot.{Spot}
use Rattle.module_text.specs.Simple.{is_order_item}
use Rattle.module_text.specs.Marks.{is_text_rank, stands_once, item_number, type_mark_may, next_item}
use Rattle.module_text.specs.Told.{Said, said, told_name, is_told_so, words_said, words_of}
use Rattle.module_text.specs.Faults.{type_mark_faults}
use Rattle.module_text.specs.Meaning.{type_mark_meant, type_marks_meant, names_of}
use Rattle.module_text.specs.Printable.{comes_before, are_in_order, is_of_part, is_text, text_marks, texts_due, MayBe, HasTypeMarks}
use Rattle.module_text.proofs.PrintedBounds.{unless-none, front-none, behind-none, and-first, and-second}
use Rattle.module_text.proofs.Ranking.{AreFrom, AreBelow, listed}
use Rattle.module_laws.proofs.NameLaws.{and-both, identifier-bytes, told-xml, told-other, told-same}
use Rattle.module_laws.proofs.SimpleLaws.{all_head, all_tail}
use Rattle.module_laws.proofs.Firsts.{same_bytes, bytes_same, bytes-self, bytes_apart, apart_bytes, mapped, place-here, place-further}

-- ---- items by their identifiers

abbrev is_named : List ℕ → PlainName → Bool
is_named identifier i = bytes_eq i.name identifier

some-of : {A : Type 0} (o : Option A) → is_some o ≡ true → (x : A) × (o ≡ Some x)
some-of None e = absurd (true≢false (sym e))
some-of (Some x) e = (x, refl)

found_here : (identifier : List ℕ) (x : PlainName) (xs : List PlainName) (i : ℕ) (b : Bool) → bytes_eq x.name identifier ≡ b → position (is_named identifier) (x ∷ xs) ≡ Some i
    → ((k : ℕ) → position (is_named identifier) xs ≡ Some k → slice_get (names_of xs) k ≡ Some identifier) → slice_get (names_of (x ∷ xs)) i ≡ Some identifier
found_here identifier x xs i true is e rest =
    let first = sym (place-here (is_named identifier) x xs is) ∙ e in
    let same : 0 ≡ i = cc in
    let P : ℕ → Type 0 = λ k. slice_get (names_of (x ∷ xs)) k ≡ Some identifier in
    subst P same (ap (λ n. Some n) (same_bytes x.name identifier is))
found_here identifier x xs i false is e rest =
    let m = mapped suc (position (is_named identifier) xs) i (sym (place-further (is_named identifier) x xs is) ∙ e) in
    let P : ℕ → Type 0 = λ k. slice_get (names_of (x ∷ xs)) k ≡ Some identifier in
    subst P m.2 (rest m.0 m.1)

found : (identifier : List ℕ) (is : List PlainName) (i : ℕ) → position (is_named identifier) is ≡ Some i → slice_get (names_of is) i ≡ Some identifier
found identifier [] i e = absurd (cc)
found identifier (x ∷ xs) i e = found_here identifier x xs i (bytes_eq x.name identifier) refl e (λ k f. found identifier xs k f)

found_behind : (identifier : List ℕ) (is : List PlainName) (least i : ℕ) → position (is_named identifier) (drop least is) ≡ Some i → slice_get (names_of is) (least + i) ≡ Some identifier
found_behind identifier is zero i e =
    let P : ℕ → Type 0 = λ k. slice_get (names_of is) k ≡ Some identifier in
    let same : i ≡ 0 + i = omega arith in
    subst P same (found identifier is i e)
found_behind identifier [] (suc k) i e = absurd (cc)
found_behind identifier (x ∷ xs) (suc k) i e =
    let P : ℕ → Type 0 = λ k. slice_get (names_of (x ∷ xs)) k ≡ Some identifier in
    let same : suc (k + i) ≡ suc k + i = omega arith in
    subst P same (found_behind identifier xs k i e)

apart_at : (x identifier : List ℕ) (ys : List (List ℕ)) (j : ℕ) → AllByRecursion (λ y. bytes_eq x y ≡ false) ys → slice_get ys j ≡ Some identifier → bytes_eq x identifier ≡ false
apart_at x identifier [] j h e = absurd (cc)
apart_at x identifier (y ∷ ys) zero h e =
    let same : y ≡ identifier = cc in
    let P : List ℕ → Type 0 = λ z. bytes_eq x z ≡ false in
    subst P same h.0
apart_at x identifier (y ∷ ys) (suc j) h e = apart_at x identifier ys j h.1 e

only : (identifier : List ℕ) (is : List PlainName) (j : ℕ) → IsDistinct bytes_eq (names_of is) → slice_get (names_of is) j ≡ Some identifier
    → position (is_named identifier) is ≡ Some j
unfolding IsDistinct
only identifier [] j h e = absurd (cc)
only identifier (x ∷ xs) zero h e =
    let same : x.name ≡ identifier = cc in
    place-here (is_named identifier) x xs (bytes_same x.name identifier same)
only identifier (x ∷ xs) (suc j) h e =
    place-further (is_named identifier) x xs (apart_at x.name identifier (names_of xs) j h.0 e) ∙ ap (λ o. option_map suc o) (only identifier xs j h.1 e)

-- what is found by an identifier from a number on
pub record Finds (spot : Spot) (f : PlainForm) (to : Form) : Type 0 where
  pub above : (least : ℕ) (identifier : List ℕ) (j : ℕ) → item_number spot f least identifier ≡ Some j → least ≤ j
  pub again : (least : ℕ) (identifier : List ℕ) (j : ℕ) → item_number spot f least identifier ≡ Some j → item_number spot f 0 identifier ≡ Some j
  pub named : (least : ℕ) (identifier : List ℕ) (j : ℕ) → item_number spot f least identifier ≡ Some j → item_identifier to j ≡ Some identifier

pub finds-none : (spot : Spot) (f : PlainForm) (to : Form) → ((least : ℕ) (identifier : List ℕ) → item_number spot f least identifier ≡ None) → Finds spot f to
finds-none spot f to lacks = record {
  above = λ least identifier j e. let h = lacks least identifier in absurd (cc);
  again = λ least identifier j e. let h = lacks least identifier in absurd (cc);
  named = λ least identifier j e. let h = lacks least identifier in absurd (cc);
}

-- where the item lies behind the least number
numbered : (spot : Spot) (is : List PlainName) (least : ℕ) (identifier : List ℕ) (j : ℕ) → is_order_item spot ≡ false
    → item_number spot (form.Words is) least identifier ≡ Some j → (i : ℕ) × (position (is_named identifier) (drop least is) ≡ Some i) × (least + i ≡ j)
numbered spot is least identifier j words_ e =
    let found = option_map (λ i. least + i) (position (is_named identifier) (drop least is)) in
    mapped (λ i. least + i) (position (is_named identifier) (drop least is)) j (sym (ap (λ b. if b then None else found) words_) ∙ e)

number_first : (spot : Spot) (is : List PlainName) (identifier : List ℕ) (j : ℕ) → is_order_item spot ≡ false → position (is_named identifier) is ≡ Some j
    → item_number spot (form.Words is) 0 identifier ≡ Some j
number_first spot is identifier j words_ e =
    let found = option_map (λ i. 0 + i) (position (is_named identifier) is) in
    let same : 0 + j ≡ j = omega arith in
    ap (λ b. if b then None else found) words_ ∙ ap (λ o. option_map (λ i. 0 + i) o) e ∙ ap (λ k. Some k) same

pub finds-words : (spot : Spot) (is : List PlainName) (words : List (List ℕ)) → is_order_item spot ≡ false → IsDistinct bytes_eq (names_of is)
    → Finds spot (form.Words is) (meant.Words (names_of is) words)
finds-words spot is words words_ apart = record {
  above = λ least identifier j e. let n = numbered spot is least identifier j words_ e in omega (arith, n.2);
  again = λ least identifier j e.
      let n = numbered spot is least identifier j words_ e in
      let P : ℕ → Type 0 = λ k. item_number spot (form.Words is) 0 identifier ≡ Some k in
      subst P n.2 (number_first spot is identifier (least + n.0) words_ (only identifier is (least + n.0) apart (found_behind identifier is least n.0 n.1)));
  named = λ least identifier j e.
      let n = numbered spot is least identifier j words_ e in
      let P : ℕ → Type 0 = λ k. slice_get (names_of is) k ≡ Some identifier in
      subst P n.2 (found_behind identifier is least n.0 n.1);
}

-- ---- one instruction

rank-same : (spot : Spot) (f : PlainForm) (k : TypeMarkKind) → rank (type_mark_meant spot f k) ≡ rank_of_type_mark k
rank-same spot f type_mark.UseNil = refl
rank-same spot f type_mark.EmbedValues = refl
rank-same spot f type_mark.UseOrder = refl
rank-same spot f type_mark.List = refl
rank-same spot f type_mark.UseUnion = refl
rank-same spot f type_mark.UseNumber = refl
rank-same spot f type_mark.Replace = refl
rank-same spot f type_mark.Collapse = refl
rank-same spot f (type_mark.Text identifier text) = refl

rank-low : (spot : Spot) (f : PlainForm) (k : TypeMarkKind) → rank (type_mark_meant spot f k) < 12
rank-low spot f type_mark.UseNil = omega arith
rank-low spot f type_mark.EmbedValues = omega arith
rank-low spot f type_mark.UseOrder = omega arith
rank-low spot f type_mark.List = omega arith
rank-low spot f type_mark.UseUnion = omega arith
rank-low spot f type_mark.UseNumber = omega arith
rank-low spot f type_mark.Replace = omega arith
rank-low spot f type_mark.Collapse = omega arith
rank-low spot f (type_mark.Text identifier text) = omega arith

of_type : (spot : Spot) (f : PlainForm) (k : TypeMarkKind) → not (is_of_part (type_mark_meant spot f k)) ≡ true
of_type spot f type_mark.UseNil = refl
of_type spot f type_mark.EmbedValues = refl
of_type spot f type_mark.UseOrder = refl
of_type spot f type_mark.List = refl
of_type spot f type_mark.UseUnion = refl
of_type spot f type_mark.UseNumber = refl
of_type spot f type_mark.Replace = refl
of_type spot f type_mark.Collapse = refl
of_type spot f (type_mark.Text identifier text) = refl

rank_over : (r s : ℕ) → nat_le r s ≡ true → (is_text_rank s || not (r == s)) ≡ true → r < 11 → nat_lt r s ≡ true
rank_over r s le once lt = grind (arith, nat_tests)

item_below : (i j : ℕ) → i < j → nat_lt i j ≡ true
item_below i j lt = grind (arith, nat_tests)

module _ (P : List PlainAssignment) (spot : Spot) (l : PlainLabel) (ts : Roses PlainLabel) (to : Form) (finds : Finds spot l.form to) where
  -- what TEXT tells here
  text_tells : (least : ℕ) (identifier : List ℕ) (text : NameAs) → type_mark_may P spot l ts least (type_mark.Text identifier text) ≡ true
      → (j : ℕ) × (item_number spot l.form least identifier ≡ Some j) × (unwrap_or (item_number spot l.form 0 identifier) 0 ≡ j) × (is_told_so identifier text ≡ true)
  text_tells least identifier text e =
      let s = some-of (item_number spot l.form least identifier) (and-first (is_some (item_number spot l.form least identifier)) (is_told_so identifier text) e) in
      (s.0, s.1, ap (λ o. unwrap_or o 0) (finds.again least identifier s.0 s.1), and-second (is_some (item_number spot l.form least identifier)) (is_told_so identifier text) e)

  text-same : (g : List ℕ) (least : ℕ) (k : TypeMarkKind) → type_mark_may P spot l ts least k ≡ true → instruction g to (type_mark_meant spot l.form k) ≡ type_mark_text k
  text-same g least type_mark.UseNil e = refl
  text-same g least type_mark.EmbedValues e = refl
  text-same g least type_mark.UseOrder e = refl
  text-same g least type_mark.List e = refl
  text-same g least type_mark.UseUnion e = refl
  text-same g least type_mark.UseNumber e = refl
  text-same g least type_mark.Replace e = refl
  text-same g least type_mark.Collapse e = refl
  text-same g least (type_mark.Text identifier text) e =
      let t = text_tells least identifier text e in
      ap (λ i. bracketed (codes "TEXT:" ++ as_item (unwrap_or (item_identifier to i) []) (told_name identifier text))) t.2
      ∙ ap (λ o. bracketed (codes "TEXT:" ++ as_item (unwrap_or o []) (told_name identifier text))) (finds.named least identifier t.0 t.1)
      ∙ ap (λ a. bracketed (codes "TEXT:" ++ (identifier ++ a))) (told-same identifier text t.3)

  may_be : (least : ℕ) (k : TypeMarkKind) → IsTypeMark k → type_mark_may P spot l ts least k ≡ true → MayBe (type_mark_meant spot l.form k)
  may_be least type_mark.UseNil is e = tt
  may_be least type_mark.EmbedValues is e = tt
  may_be least type_mark.UseOrder is e = tt
  may_be least type_mark.List is e = tt
  may_be least type_mark.UseUnion is e = tt
  may_be least type_mark.UseNumber is e = tt
  may_be least type_mark.Replace is e = λ same. absurd (cc)
  may_be least type_mark.Collapse is e = λ same. absurd (cc)
  may_be least (type_mark.Text identifier text) is e =
      told-xml identifier text (identifier-bytes identifier is) (text_tells least identifier text e).3

  -- one instruction and the next
  comes : (least : ℕ) (k q : TypeMarkKind) → type_mark_may P spot l ts least k ≡ true → nat_le (rank_of_type_mark k) (rank_of_type_mark q) ≡ true
      → stands_once (Some (rank_of_type_mark k)) (rank_of_type_mark q) ≡ true → type_mark_may P spot l ts (next_item spot l.form least k) q ≡ true
      → comes_before (type_mark_meant spot l.form k) (type_mark_meant spot l.form q) ≡ true
  comes least (type_mark.Text identifier text) (type_mark.Text other word) e le once f =
      let t = text_tells least identifier text e in
      let next : next_item spot l.form least (type_mark.Text identifier text) ≡ suc t.0 = ap (λ o. elim o [ None ↦ least | Some i ↦ suc i ]) t.1 in
      let u = text_tells (next_item spot l.form least (type_mark.Text identifier text)) other word f in
      let above = finds.above (next_item spot l.form least (type_mark.Text identifier text)) other u.0 u.1 in
      item_below (unwrap_or (item_number spot l.form 0 identifier) 0) (unwrap_or (item_number spot l.form 0 other) 0) (omega (arith, t.2, u.2, next, above))
  comes least (type_mark.Text identifier text) type_mark.UseNil e le once f = absurd (true≢false (sym le))
  comes least (type_mark.Text identifier text) type_mark.EmbedValues e le once f = absurd (true≢false (sym le))
  comes least (type_mark.Text identifier text) type_mark.UseOrder e le once f = absurd (true≢false (sym le))
  comes least (type_mark.Text identifier text) type_mark.List e le once f = absurd (true≢false (sym le))
  comes least (type_mark.Text identifier text) type_mark.UseUnion e le once f = absurd (true≢false (sym le))
  comes least (type_mark.Text identifier text) type_mark.UseNumber e le once f = absurd (true≢false (sym le))
  comes least (type_mark.Text identifier text) type_mark.Replace e le once f = absurd (true≢false (sym le))
  comes least (type_mark.Text identifier text) type_mark.Collapse e le once f = absurd (true≢false (sym le))
  comes least type_mark.UseNil q e le once f = ap (λ s. nat_lt 4 s) (rank-same spot l.form q) ∙ rank_over 4 (rank_of_type_mark q) le once (omega arith)
  comes least type_mark.EmbedValues q e le once f = ap (λ s. nat_lt 5 s) (rank-same spot l.form q) ∙ rank_over 5 (rank_of_type_mark q) le once (omega arith)
  comes least type_mark.UseOrder q e le once f = ap (λ s. nat_lt 6 s) (rank-same spot l.form q) ∙ rank_over 6 (rank_of_type_mark q) le once (omega arith)
  comes least type_mark.List q e le once f = ap (λ s. nat_lt 7 s) (rank-same spot l.form q) ∙ rank_over 7 (rank_of_type_mark q) le once (omega arith)
  comes least type_mark.UseUnion q e le once f = ap (λ s. nat_lt 8 s) (rank-same spot l.form q) ∙ rank_over 8 (rank_of_type_mark q) le once (omega arith)
  comes least type_mark.UseNumber q e le once f = ap (λ s. nat_lt 9 s) (rank-same spot l.form q) ∙ rank_over 9 (rank_of_type_mark q) le once (omega arith)
  comes least type_mark.Replace q e le once f = ap (λ s. nat_lt 10 s) (rank-same spot l.form q) ∙ rank_over 10 (rank_of_type_mark q) le once (omega arith)
  comes least type_mark.Collapse q e le once f = ap (λ s. nat_lt 10 s) (rank-same spot l.form q) ∙ rank_over 10 (rank_of_type_mark q) le once (omega arith)

  -- ---- all

  abbrev Stands : Option ℕ → ℕ → TypeMark → List TypeMark → Type 0
  Stands before least m ms =
      (stands_once before (rank_of_type_mark m.kind) ≡ true) × (type_mark_may P spot l ts least m.kind ≡ true)
      × (type_mark_faults P spot l ts (Some (rank_of_type_mark m.kind)) (next_item spot l.form least m.kind) ms ≡ [])

  stands : (before : Option ℕ) (least : ℕ) (m : TypeMark) (ms : List TypeMark) → type_mark_faults P spot l ts before least (m ∷ ms) ≡ [] → Stands before least m ms
  stands before least m ms e =
      let others = type_mark_faults P spot l ts (Some (rank_of_type_mark m.kind)) (next_item spot l.form least m.kind) ms in
      let once = stands_once before (rank_of_type_mark m.kind) in
      let may = type_mark_may P spot l ts least m.kind in
      let ok = unless-none (once && may) m.at _ (front-none _ others e) in
      (and-first once may ok, and-second once may ok, behind-none _ others e)

  from_rank : (text : Instruction → List ℕ) (k : ℕ) (ms : List TypeMark) → type_marks_from k ms ≡ true → AreFrom rank text k (type_marks_meant spot l.form ms)
  from_rank text k [] e = tt
  from_rank text k (m ∷ ms) e =
      let r = rank_of_type_mark m.kind in (
        rw (rank-same spot l.form m.kind) (leb-true k r (and-first (nat_le k r) (type_marks_from r ms) e)),
        rw (rank-same spot l.form m.kind) (from_rank text r ms (and-second (nat_le k r) (type_marks_from r ms) e)),
      )

  below_rank : (text : Instruction → List ℕ) (ms : List TypeMark) → AreBelow rank text 12 (type_marks_meant spot l.form ms)
  below_rank text [] = tt
  below_rank text (m ∷ ms) = (rank-low spot l.form m.kind, below_rank text ms)

  texts-same : (g : List ℕ) (before : Option ℕ) (least : ℕ) (ms : List TypeMark) → type_mark_faults P spot l ts before least ms ≡ []
      → flat_map (instruction g to) (type_marks_meant spot l.form ms) ≡ type_marks_text ms
  texts-same g before least [] e = refl
  texts-same g before least (m ∷ ms) e =
      let s = stands before least m ms e in
      ap (λ text. text ++ flat_map (instruction g to) (type_marks_meant spot l.form ms)) (text-same g least m.kind s.1)
      ∙ ap (λ text. type_mark_text m.kind ++ text) (texts-same g (Some (rank_of_type_mark m.kind)) (next_item spot l.form least m.kind) ms s.2)

  in_order : (rank_least : ℕ) (before : Option ℕ) (least : ℕ) (ms : List TypeMark) → type_marks_from rank_least ms ≡ true → type_mark_faults P spot l ts before least ms ≡ []
      → are_in_order (type_marks_meant spot l.form ms) ≡ true
  in_order rank_least before least [] ranked e = refl
  in_order rank_least before least (m ∷ []) ranked e = refl
  in_order rank_least before least (m ∷ n ∷ ms) ranked e =
      let r = rank_of_type_mark m.kind in
      let q = rank_of_type_mark n.kind in
      let next = next_item spot l.form least m.kind in
      let s = stands before least m (n ∷ ms) e in
      let t = stands (Some r) next n ms s.2 in
      let others = and-second (nat_le rank_least r) (type_marks_from r (n ∷ ms)) ranked in
      and-both (comes_before (type_mark_meant spot l.form m.kind) (type_mark_meant spot l.form n.kind)) (are_in_order (type_marks_meant spot l.form (n ∷ ms)))
      (comes least m.kind n.kind s.1 (and-first (nat_le r q) (type_marks_from q ms) others) t.0 t.1)
      (in_order r (Some r) next (n ∷ ms) others s.2)

  all_of_type : (ms : List TypeMark) → list_all (λ m. not (is_of_part m)) (type_marks_meant spot l.form ms) ≡ true
  all_of_type [] = refl
  all_of_type (m ∷ ms) =
      and-both (not (is_of_part (type_mark_meant spot l.form m.kind))) (list_all (λ m. not (is_of_part m)) (type_marks_meant spot l.form ms)) (of_type spot l.form m.kind) (all_of_type ms)

  all_may : (before : Option ℕ) (least : ℕ) (ms : List TypeMark) → All (λ m. IsTypeMark m.kind) ms → type_mark_faults P spot l ts before least ms ≡ []
      → All MayBe (type_marks_meant spot l.form ms)
  all_may before least [] is e = All-nil MayBe
  all_may before least (m ∷ ms) is e =
      let s = stands before least m ms e in
      All-cons MayBe (type_mark_meant spot l.form m.kind) (type_marks_meant spot l.form ms) (may_be least m.kind (all_head (λ m. IsTypeMark m.kind) m ms is) s.1)
      (all_may (Some (rank_of_type_mark m.kind)) (next_item spot l.form least m.kind) ms (all_tail (λ m. IsTypeMark m.kind) m ms is) s.2)

  pub type_marks-printed : (g : List ℕ) → AreTypeMarks l.marks → type_mark_faults P spot l ts None 0 l.marks ≡ []
      → instructions g to (type_marks_meant spot l.form l.marks) ≡ type_marks_text l.marks
  type_marks-printed g are e =
      listed rank (instruction g to) 12 0 (type_marks_meant spot l.form l.marks) (from_rank (instruction g to) 0 l.marks are.0) (below_rank (instruction g to) l.marks)
      ∙ texts-same g None 0 l.marks e

  pub type_marks-printable : AreTypeMarks l.marks → type_mark_faults P spot l ts None 0 l.marks ≡ []
      → filter is_text (type_marks_meant spot l.form l.marks) ≡ texts_due to → HasTypeMarks (record { form = to; marks = type_marks_meant spot l.form l.marks })
  type_marks-printable are e due = record {
    order = in_order 0 None 0 l.marks are.0 e;
    type = all_of_type l.marks;
    texts = due;
    each = all_may None 0 l.marks are.1 e;
  }

-- ---- TEXT stands where it is due

mk : Spot → PlainForm → Said → Instruction
mk spot f s = mark.Text (unwrap_or (item_number spot f 0 s.identifier) 0) (told_name s.identifier s.text)

texts_more : (spot : Spot) (f : PlainForm) (at : ℕ) (k : TypeMarkKind) (ms : List TypeMark)
    → filter is_text (type_marks_meant spot f ms) ≡ map (mk spot f) (filter_map said ms)
    → filter is_text (type_marks_meant spot f (record { at = at; kind = k } ∷ ms)) ≡ map (mk spot f) (filter_map said (record { at = at; kind = k } ∷ ms))
unfolding mk
texts_more spot f at type_mark.UseNil ms rest = rest
texts_more spot f at type_mark.EmbedValues ms rest = rest
texts_more spot f at type_mark.UseOrder ms rest = rest
texts_more spot f at type_mark.List ms rest = rest
texts_more spot f at type_mark.UseUnion ms rest = rest
texts_more spot f at type_mark.UseNumber ms rest = rest
texts_more spot f at type_mark.Replace ms rest = rest
texts_more spot f at type_mark.Collapse ms rest = rest
texts_more spot f at (type_mark.Text identifier text) ms rest = ap (λ l. mark.Text (unwrap_or (item_number spot f 0 identifier) 0) (told_name identifier text) ∷ l) rest

texts_listed : (spot : Spot) (f : PlainForm) (ms : List TypeMark) → filter is_text (type_marks_meant spot f ms) ≡ map (mk spot f) (filter_map said ms)
texts_listed spot f [] = refl
texts_listed spot f (m ∷ ms) = texts_more spot f m.at m.kind ms (texts_listed spot f ms)

-- these stand for items in this order from one number on
abbrev Due : Spot → PlainForm → ℕ → List PlainName → List Said → Type 0
Due spot f k is [] = Unit {0}
Due spot f k is (t ∷ ts) =
    (i : ℕ) × (position (is_named t.identifier) is ≡ Some i) × (bytes_eq t.identifier (told_name t.identifier t.text) ≡ false)
    × (unwrap_or (item_number spot f 0 t.identifier) 0 ≡ k + i) × Due spot f (k + suc i) (drop (suc i) is) ts

-- an item that has one
here_due : (spot : Spot) (f : PlainForm) (k : ℕ) (n : List ℕ) (text : NameAs) (x : PlainName) (xs : List PlainName) (ts : List Said) → x.name ≡ n
    → bytes_eq n (told_name n text) ≡ false → unwrap_or (item_number spot f 0 n) 0 ≡ k
    → text_marks (k + 1) (names_of xs) (words_said ts xs) ≡ map (mk spot f) ts
    → text_marks k (names_of (x ∷ xs)) (words_said (record { identifier = n; text = text } ∷ ts) (x ∷ xs)) ≡ map (mk spot f) (record { identifier = n; text = text } ∷ ts)
unfolding mk
here_due spot f k n text x xs ts same other number rest =
    let word = told_name n text in
    let t : Said = record { identifier = n; text = text } in
    let passed = words_said (t ∷ ts) xs in
    ap (λ b. text_marks k (x.name ∷ names_of xs) (if b then told_name x.name text ∷ words_said ts xs else x.name ∷ passed)) (bytes_same n x.name (sym same))
    ∙ ap (λ m. text_marks k (m ∷ names_of xs) (told_name m text ∷ words_said ts xs)) same
    ∙ ap (λ b. if b then text_marks (k + 1) (names_of xs) (words_said ts xs) else mark.Text k word ∷ text_marks (k + 1) (names_of xs) (words_said ts xs)) other
    ∙ ap (λ i. mark.Text i word ∷ text_marks (k + 1) (names_of xs) (words_said ts xs)) (sym number)
    ∙ ap (λ l. mark.Text (unwrap_or (item_number spot f 0 n) 0) word ∷ l) rest

-- an item that has none
passed_due : (spot : Spot) (f : PlainForm) (k : ℕ) (t : Said) (x : PlainName) (xs : List PlainName) (ts : List Said) → bytes_eq t.identifier x.name ≡ false
    → text_marks (k + 1) (names_of xs) (words_said (t ∷ ts) xs) ≡ map (mk spot f) (t ∷ ts)
    → text_marks k (names_of (x ∷ xs)) (words_said (t ∷ ts) (x ∷ xs)) ≡ map (mk spot f) (t ∷ ts)
passed_due spot f k t x xs ts apart rest =
    let words = words_said (t ∷ ts) xs in
    ap (λ b. text_marks k (x.name ∷ names_of xs) (if b then told_name x.name t.text ∷ words_said ts xs else x.name ∷ words)) apart
    ∙ ap (λ b. if b then text_marks (k + 1) (names_of xs) words else mark.Text k x.name ∷ text_marks (k + 1) (names_of xs) words) (bytes-self x.name)
    ∙ rest

due_is : (spot : Spot) (f : PlainForm) (k : ℕ) (is : List PlainName) (ts : List Said) → Due spot f k is ts → text_marks k (names_of is) (words_said ts is) ≡ map (mk spot f) ts
due_is spot f k [] [] d = refl
due_is spot f k [] (t ∷ ts) d = let words_ = d.1 in absurd (cc)
due_is spot f k (x ∷ xs) [] d =
    ap (λ b. if b then text_marks (k + 1) (names_of xs) (words_said [] xs) else mark.Text k x.name ∷ text_marks (k + 1) (names_of xs) (words_said [] xs)) (bytes-self x.name)
    ∙ due_is spot f (k + 1) xs [] tt
due_is spot f k (x ∷ xs) (t ∷ ts) d = by (bytes_eq x.name t.identifier) refl (λ ts d. due_is spot f (k + 1) xs ts d)
  where
    by : (b : Bool) → bytes_eq x.name t.identifier ≡ b
        → ((ts : List Said) → Due spot f (k + 1) xs ts → text_marks (k + 1) (names_of xs) (words_said ts xs) ≡ map (mk spot f) ts)
        → text_marks k (names_of (x ∷ xs)) (words_said (t ∷ ts) (x ∷ xs)) ≡ map (mk spot f) (t ∷ ts)
    by true is rest =
        let first = sym (place-here (is_named t.identifier) x xs is) ∙ d.1 in
        let start : d.0 ≡ 0 = cc in
        let P : ℕ → Type 0 = λ i. Due spot f (k + suc i) (drop (suc i) (x ∷ xs)) ts in
        let number : unwrap_or (item_number spot f 0 t.identifier) 0 ≡ k = omega (arith, d.3, start) in
        here_due spot f k t.identifier t.text x xs ts (same_bytes x.name t.identifier is) d.2 number (rest ts (subst P start d.4))
    by false is rest =
        let m = mapped suc (position (is_named t.identifier) xs) d.0 (sym (place-further (is_named t.identifier) x xs is) ∙ d.1) in
        let P : ℕ → Type 0 = λ n. Due spot f n (drop m.0 xs) ts in
        let Q : ℕ → Type 0 = λ i. Due spot f (k + suc i) (drop (suc i) (x ∷ xs)) ts in
        let number : unwrap_or (item_number spot f 0 t.identifier) 0 ≡ (k + 1) + m.0 = omega (arith, d.3, m.2) in
        let far : k + suc (suc m.0) ≡ (k + 1) + suc m.0 = omega arith in
        let R : ℕ → Type 0 = λ n. Due spot f n (drop (suc m.0) xs) ts in
        passed_due spot f k t x xs ts (bytes_apart t.identifier x.name (λ same. apart_bytes x.name t.identifier is (sym same)))
        (rest (t ∷ ts) (m.0, m.1, d.2, number, subst R far (subst Q (sym m.2) d.4)))

module _ (P : List PlainAssignment) (spot : Spot) (l : PlainLabel) (ts : Roses PlainLabel) (is : List PlainName) (words : List (List ℕ)) (words_ : is_order_item spot ≡ false)
    (finds : Finds spot (form.Words is) (meant.Words (names_of is) words)) where
  abbrev Placed : PlainLabel
  Placed = record { at = l.at; marks = l.marks; form = form.Words is }

  other_word : (identifier : List ℕ) (text : NameAs) → is_told_so identifier text ≡ true → bytes_eq identifier (told_name identifier text) ≡ false
  other_word identifier text e = bytes_apart identifier (told_name identifier text) (λ same. told-other identifier text e (none_where same))
    where
      none_where : identifier ≡ told_name identifier text → form_of identifier (told_name identifier text) ≡ None
      none_where same =
          let other = told_name identifier text in
          let rest = if bytes_eq (capitalized identifier) other then Some name_form.Capitalized else (if bytes_eq (uncapitalized identifier) other then Some name_form.Uncapitalized else Some name_form.Quoted) in
          ap (λ b. if b then None else rest) (bytes_same identifier other same)

  due_text : (at : ℕ) (k : TypeMarkKind) (before : Option ℕ) (least : ℕ) (ms : List TypeMark) → type_mark_faults P spot Placed ts before least (record { at = at; kind = k } ∷ ms) ≡ []
      → ((before : Option ℕ) (least : ℕ) → type_mark_faults P spot Placed ts before least ms ≡ [] → Due spot (form.Words is) least (drop least is) (filter_map said ms))
      → Due spot (form.Words is) least (drop least is) (filter_map said (record { at = at; kind = k } ∷ ms))
  due_text at (type_mark.Text identifier text) before least ms e rest =
      let s = stands P spot Placed ts (meant.Words (names_of is) words) finds before least (record { at = at; kind = type_mark.Text identifier text }) ms e in
      let t = text_tells P spot Placed ts (meant.Words (names_of is) words) finds least identifier text s.1 in
      let n = numbered spot is least identifier t.0 words_ t.1 in
      let next : next_item spot (form.Words is) least (type_mark.Text identifier text) ≡ least + suc n.0 =
      ap (λ o. elim o [ None ↦ least | Some i ↦ suc i ]) t.1 ∙ omega (arith, n.2) in
      let D : ℕ → Type 0 = λ k. Due spot (form.Words is) k (drop k is) (filter_map said ms) in
      let E : List PlainName → Type 0 = λ rest. Due spot (form.Words is) (least + suc n.0) rest (filter_map said ms) in (
        n.0,
        n.1,
        other_word identifier text t.3,
        t.2 ∙ sym n.2,
        subst E (sym (drop-drop (suc n.0) least is)) (subst D next (rest (Some 11) (next_item spot (form.Words is) least (type_mark.Text identifier text)) s.2)),
      )
  due_text at type_mark.UseNil before least ms e rest = rest _ least (behind-none _ _ e)
  due_text at type_mark.EmbedValues before least ms e rest = rest _ least (behind-none _ _ e)
  due_text at type_mark.UseOrder before least ms e rest = rest _ least (behind-none _ _ e)
  due_text at type_mark.List before least ms e rest = rest _ least (behind-none _ _ e)
  due_text at type_mark.UseUnion before least ms e rest = rest _ least (behind-none _ _ e)
  due_text at type_mark.UseNumber before least ms e rest = rest _ least (behind-none _ _ e)
  due_text at type_mark.Replace before least ms e rest = rest _ least (behind-none _ _ e)
  due_text at type_mark.Collapse before least ms e rest = rest _ least (behind-none _ _ e)

  all_due : (before : Option ℕ) (least : ℕ) (ms : List TypeMark) → type_mark_faults P spot Placed ts before least ms ≡ []
      → Due spot (form.Words is) least (drop least is) (filter_map said ms)
  all_due before least [] e = tt
  all_due before least (m ∷ ms) e = due_text m.at m.kind before least ms e (λ before least f. all_due before least ms f)

  pub texts-due : type_mark_faults P spot Placed ts None 0 l.marks ≡ []
      → filter is_text (type_marks_meant spot (form.Words is) l.marks) ≡ texts_due (meant.Words (names_of is) (words_of l.marks is))
  texts-due e = texts_listed spot (form.Words is) l.marks ∙ sym (due_is spot (form.Words is) 0 is (filter_map said l.marks) (all_due None 0 l.marks e))

-- where no item is found no TEXT stands
module _ (P : List PlainAssignment) (spot : Spot) (l : PlainLabel) (ts : Roses PlainLabel) (lacks : (least : ℕ) (identifier : List ℕ) → item_number spot l.form least identifier ≡ None) where
  no_text : (at : ℕ) (k : TypeMarkKind) (before : Option ℕ) (least : ℕ) (ms : List TypeMark) → type_mark_faults P spot l ts before least (record { at = at; kind = k } ∷ ms) ≡ []
      → ((before : Option ℕ) (least : ℕ) → type_mark_faults P spot l ts before least ms ≡ [] → filter is_text (type_marks_meant spot l.form ms) ≡ [])
      → filter is_text (type_marks_meant spot l.form (record { at = at; kind = k } ∷ ms)) ≡ []
  no_text at (type_mark.Text identifier text) before least ms e rest =
      let s = stands P spot l ts meant.Bool (finds-none spot l.form meant.Bool lacks) before least (record { at = at; kind = type_mark.Text identifier text }) ms e in
      let found = and-first (is_some (item_number spot l.form least identifier)) (is_told_so identifier text) s.1 in
      absurd (true≢false (sym found ∙ ap is_some (lacks least identifier)))
  no_text at type_mark.UseNil before least ms e rest = rest _ least (behind-none _ _ e)
  no_text at type_mark.EmbedValues before least ms e rest = rest _ least (behind-none _ _ e)
  no_text at type_mark.UseOrder before least ms e rest = rest _ least (behind-none _ _ e)
  no_text at type_mark.List before least ms e rest = rest _ least (behind-none _ _ e)
  no_text at type_mark.UseUnion before least ms e rest = rest _ least (behind-none _ _ e)
  no_text at type_mark.UseNumber before least ms e rest = rest _ least (behind-none _ _ e)
  no_text at type_mark.Replace before least ms e rest = rest _ least (behind-none _ _ e)
  no_text at type_mark.Collapse before least ms e rest = rest _ least (behind-none _ _ e)

  no_texts : (before : Option ℕ) (least : ℕ) (ms : List TypeMark) → type_mark_faults P spot l ts before least ms ≡ [] → filter is_text (type_marks_meant spot l.form ms) ≡ []
  no_texts before least [] e = refl
  no_texts before least (m ∷ ms) e = no_text m.at m.kind before least ms e (λ before least f. no_texts before least ms f)

  pub texts-none : type_mark_faults P spot l ts None 0 l.marks ≡ [] → filter is_text (type_marks_meant spot l.form l.marks) ≡ []
  texts-none e = no_texts None 0 l.marks e
