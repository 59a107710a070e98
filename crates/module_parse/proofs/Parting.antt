-- Parts, and blocks of them.
use Rattle.std.proofs.Common.{◌≡◌, ℕ, suc, ◌+◌, ◌<◌, ◌≤◌, Option, None, List, [], ◌∷◌, ◌++◌, length, Result, Ok, Err, refl, sym, ap, ap₂, subst, ◌∙◌, arith, append_assoc, append-nil}
use Rattle.std.specs.Prelude.{map, codes}
use Rattle.module_grammar.specs.declared.reach.Reach.{Reach}
use Rattle.module_grammar.specs.declared.reach.Stop.{Stop}
use Rattle.module_grammar.specs.declared.reach.Stop.TheVariants as stop
use Rattle.module_grammar.specs.Reading.{Reader, word_at, then_at, many_at, behind_at, before_at}
use Rattle.module_grammar.specs.Reached.{reading, IsFinal}
use Rattle.module_grammar.proofs.Stepping.{in_form, and_then, with_first, reading_as, reading_then}
use Rattle.module_print.specs.Notation.{new_line}
use Rattle.module_text.specs.declared.marks.PartMark.{PartMark}
use Rattle.module_text.specs.declared.values.PlainOctets.{PlainOctets}
use Rattle.module_text.specs.declared.values.Absence.{Absence}
use Rattle.module_text.specs.declared.values.Absence.TheVariants as absence
use Rattle.module_text.specs.declared.types.PlainPart.{PlainPart}
use Rattle.module_grammar.specs.MarkReading.{part_marks_at}
use Rattle.module_grammar.specs.ValueReading.{listed_of, listed_at}
use Rattle.module_grammar.specs.TypeReading.{Typed, TypedPart, label_at, component_of, ending_at, bare_of, alternative_at, opening, between, closing, block_at, parts_of, type_at}
use Rattle.module_text.specs.declared.made.PartHead.{PartHead}
use Rattle.module_parse.specs.declared.forms.Sort.{Sort}
use Rattle.module_parse.specs.declared.forms.Sort.TheVariants as sort
use Rattle.module_parse.specs.Reads.{IsRead, IsStopped, IsAgain, IsReadAs}
use Rattle.module_parse.specs.Readers.{sorted_at, ReadsEnding, block_of}
use Rattle.module_parse.specs.Ended.{EndsPart}
use Rattle.module_parse.proofs.Chaining.{Going, as_read, as_stops, then_read, then_stops, then_next_stops, behind_read, behind_next_stops, before_read, before_stops, before_word_stops, going_none, going_next, going_ends, going_again, no_memory}

-- ---- a part

abbrev made : ℕ → List ℕ → List PartMark → Option PlainOctets → Absence → PlainPart
made at identifier marks fixed absence = record { at = at; identifier = identifier; marks = marks; fixed = fixed; absence = absence }

abbrev behind_marks : ℕ → Reader Typed → List PartMark → Reader (Typed × (Option PlainOctets × Absence))
behind_marks most type marks = then_at type (λ t. ending_at most)

abbrev behind_label : ℕ → Reader Typed → List ℕ → Reader (List PartMark × (Typed × (Option PlainOctets × Absence)))
behind_label most type name = then_at part_marks_at (behind_marks most type)

pub label_stops : (most : ℕ) (x : Sort) (type : Reader Typed) (bytes : List ℕ) (s : Reach) (e : Stop) → IsStopped label_at bytes s e → IsStopped (sorted_at most x type) bytes s e
label_stops most sort.Component type bytes s e h = as_stops component_of (then_stops (behind_label most type) h)
label_stops most sort.Alternative type bytes s e h = as_stops bare_of (then_stops (λ name. then_at part_marks_at (λ marks. type)) h)

pub marks_stop : (most : ℕ) (x : Sort) (type : Reader Typed) (bytes : List ℕ) (s p : Reach) (name : List ℕ) (e : Stop) → IsRead label_at bytes s name p → IsStopped part_marks_at bytes p e → IsStopped (sorted_at most x type) bytes s e
marks_stop most sort.Component type bytes s p name e h g = as_stops component_of (then_next_stops (behind_label most type) h (then_stops (behind_marks most type) g))
marks_stop most sort.Alternative type bytes s p name e h g = as_stops bare_of (then_next_stops (λ name. then_at part_marks_at (λ marks. type)) h (then_stops (λ marks. type) g))

pub type_stops : (most : ℕ) (x : Sort) (type : Reader Typed) (bytes : List ℕ) (s p q : Reach) (name : List ℕ) (ms : List PartMark) (e : Stop) → IsRead label_at bytes s name p → IsRead part_marks_at bytes p ms q → IsStopped type bytes q e → IsStopped (sorted_at most x type) bytes s e
type_stops most sort.Component type bytes s p q name ms e h g f = as_stops component_of (then_next_stops (behind_label most type) h (then_next_stops (behind_marks most type) g (then_stops (λ t. ending_at most) f)))
type_stops most sort.Alternative type bytes s p q name ms e h g f = as_stops bare_of (then_next_stops (λ name. then_at part_marks_at (λ marks. type)) h (then_next_stops (λ marks. type) g f))

no_stop : {A : Type 0} (e : Stop) (x : A × Reach) → Err e ≡ Ok x → ⊥
no_stop e x h = cc

pub ends_memory : (most : ℕ) (x : Sort) (head : PartHead) (bytes : List ℕ) (s : Reach) → EndsPart most x head bytes s (Err stop.Memory)
ends_memory most sort.Component head bytes s = no_memory
ends_memory most sort.Alternative head bytes s = refl

pub ends_stops : (most : ℕ) (x : Sort) (head : PartHead) (bytes : List ℕ) (s : Reach) (e : Stop) → ReadsEnding most x bytes s (Err e) → EndsPart most x head bytes s (Err e)
ends_stops most sort.Component head bytes s e h = h
ends_stops most sort.Alternative head bytes s e h = absurd (no_stop e ((None, absence.Never), s) h)

pub ending_stops : (most : ℕ) (x : Sort) (type : Reader Typed) (bytes : List ℕ) (s p q r : Reach) (head : PartHead) (name : List ℕ) (ms : List PartMark) (t : Typed) (e : Stop) → IsRead label_at bytes s name p → IsRead part_marks_at bytes p ms q → IsRead type bytes q t r → EndsPart most x head bytes r (Err e) → IsStopped (sorted_at most x type) bytes s e
ending_stops most sort.Component type bytes s p q r head name ms t e h g f n = as_stops component_of (then_next_stops (behind_label most type) h (then_next_stops (behind_marks most type) g (then_next_stops (λ t. ending_at most) f n)))
ending_stops most sort.Alternative type bytes s p q r head name ms t e h g f n = subst (λ k. IsStopped (alternative_at type) bytes s k) (sym n) no_memory

abbrev ended : Option PlainOctets × Absence → Reach → Result ((Option PlainOctets × Absence) × Reach) Stop
ended x q = Ok (x, q)

ending_of : Option PlainOctets × Absence → Result ((Option PlainOctets × Absence) × Reach) Stop → Option PlainOctets × Absence
ending_of other (Ok x) = x.0
ending_of other (Err e) = other

place_of : Reach → Result ((Option PlainOctets × Absence) × Reach) Stop → Reach
place_of other (Ok x) = x.1
place_of other (Err e) = other

same_ending : (x y : Option PlainOctets × Absence) (p q : Reach) → ended x p ≡ ended y q → x ≡ y
unfolding ending_of
same_ending x y p q h = ap (ending_of x) h

same_place : (x y : Option PlainOctets × Absence) (p q : Reach) → ended x p ≡ ended y q → p ≡ q
unfolding place_of
same_place x y p q h = ap (place_of p) h

part_read : (most : ℕ) (x : Sort) (type : Reader Typed) (bytes : List ℕ) (s p q r n : Reach) (name : List ℕ) (ms : List PartMark) (t : Typed) (fixed : Option PlainOctets) (left : Absence) → IsRead label_at bytes s name p → IsRead part_marks_at bytes p ms q → IsRead type bytes q t r → ReadsEnding most x bytes r (Ok ((fixed, left), n)) → IsRead (sorted_at most x type) bytes s (made s.at name ms fixed left, t) n
part_read most sort.Component type bytes s p q r n name ms t fixed left h g f e = as_read component_of (then_read (behind_label most type) h (then_read (behind_marks most type) g (then_read (λ t. ending_at most) f e)))
part_read most sort.Alternative type bytes s p q r n name ms t fixed left h g f e =
    subst (λ k. IsRead (alternative_at type) bytes s (made s.at name ms fixed left, t) k) (sym (same_place (fixed, left) (None, absence.Never) n r e))
    (subst (λ (k : Option PlainOctets × Absence). IsRead (alternative_at type) bytes s (made s.at name ms k.0 k.1, t) r) (sym (same_ending (fixed, left) (None, absence.Never) n r e))
    (as_read bare_of (then_read (λ name. then_at part_marks_at (λ marks. type)) h (then_read (λ marks. type) g f))))

pub part_ends : (most : ℕ) (x : Sort) (type : Reader Typed) (bytes : List ℕ) (s p q r n : Reach) (name : List ℕ) (ms : List PartMark) (t : Typed) (part : PlainPart) → IsRead label_at bytes s name p → IsRead part_marks_at bytes p ms q → IsRead type bytes q t r → EndsPart most x (record { at = s.at; identifier = name; marks = ms }) bytes r (Ok (part, n)) → IsRead (sorted_at most x type) bytes s (part, t) n
part_ends most x type bytes s p q r n name ms t part h g f d =
    subst (λ (k : PlainPart). IsRead (sorted_at most x type) bytes s (k, t) n) (sym d.1) (part_read most x type bytes s p q r n name ms t part.fixed part.absence h g f d.0)

-- ---- what is read behind a word, taken apart

pub record Inside {A : Type 0} (word : List ℕ) (read : Reader A) (bytes : List ℕ) (s : Reach) (a : A) (t : Reach) : Type 0 where
  pub start : Reach
  pub word_is : IsRead (word_at word) bytes s tt start
  pub read_is : IsRead read bytes start a t

reading_behind : {A : Type 0} (word : List ℕ) (read : Reader A) (bytes : List ℕ) (s : Reach) → reading (behind_at word read) bytes s ≡ in_form {A = Unit {0} × A} {B = A} (λ x. x.1) (and_then (reading (word_at word) bytes s) (λ x q. reading read bytes q))
reading_behind {A} word read bytes s = reading_as {A = Unit {0} × A} {B = A} (λ place x. x.1) (then_at (word_at word) (λ x. read)) bytes s ∙ ap (λ r. in_form {A = Unit {0} × A} {B = A} (λ x. x.1) r) (reading_then (word_at word) (λ x. read) bytes s)

no_value : {A : Type 0} (e : Stop) (x : A × Reach) → Err e ≡ Ok x → ⊥
no_value e x h = cc

form_of : {A : Type 0} (w : Unit {0}) (r : Result (A × Reach) Stop) → in_form {A = Unit {0} × A} {B = A} (λ x. x.1) (with_first w r) ≡ r
form_of w (Ok x) = refl
form_of w (Err e) = refl

pub inside : {A : Type 0} (word : List ℕ) (read : Reader A) (bytes : List ℕ) (s t : Reach) (a : A) → IsRead (behind_at word read) bytes s a t → Inside word read bytes s a t
inside {A} word read bytes s t a h = by (reading (word_at word) bytes s) refl (sym (reading_behind word read bytes s) ∙ h.is)
  where
    by : (r : Result (Unit {0} × Reach) Stop) → reading (word_at word) bytes s ≡ r → in_form {A = Unit {0} × A} {B = A} (λ x. x.1) (and_then r (λ x q. reading read bytes q)) ≡ Ok (a, t) → Inside word read bytes s a t
    by (Ok x) e g = record { start = x.1; word_is = record { is = e }; read_is = record { is = sym (form_of x.0 (reading read bytes x.1)) ∙ g } }
    by (Err d) e g = absurd (no_value d (a, t) g)

abbrev failed : {A : Type 0} → Stop → Result (A × Reach) Stop
failed e = Err e

same_stop : {A : Type 0} (k d : Stop) → failed {A = A} k ≡ failed d → k ≡ d
same_stop k d g = cc

-- what stops behind a word, stops with more behind it
pub stops_more : {A B : Type 0} (word : List ℕ) (read : Reader A) (longer : Reader B) (bytes : List ℕ) (s : Reach) (e : Stop) → ((q : Reach) (d : Stop) → reading read bytes q ≡ Err d → reading longer bytes q ≡ Err d) → IsStopped (behind_at word read) bytes s e → IsStopped (behind_at word longer) bytes s e
stops_more {A} {B} word read longer bytes s e strict h = all e h
  where
    by : (d : Stop) (r : Result (Unit {0} × Reach) Stop) → reading (word_at word) bytes s ≡ r → in_form {A = Unit {0} × A} {B = A} (λ x. x.1) (and_then r (λ x q. reading read bytes q)) ≡ Err d → in_form {A = Unit {0} × B} {B = B} (λ x. x.1) (and_then r (λ x q. reading longer bytes q)) ≡ Err d
    by d (Ok x) f g = form_of x.0 (reading longer bytes x.1) ∙ strict x.1 d (sym (form_of x.0 (reading read bytes x.1)) ∙ g)
    by d (Err k) f g = ap (λ m. Err m) (same_stop {A = A} k d g)

    one : (d : Stop) → reading (behind_at word read) bytes s ≡ Err d → reading (behind_at word longer) bytes s ≡ Err d
    one d g = reading_behind word longer bytes s ∙ by d (reading (word_at word) bytes s) refl (sym (reading_behind word read bytes s) ∙ g)

    all : (e : Stop) → IsStopped (behind_at word read) bytes s e → IsStopped (behind_at word longer) bytes s e
    all (stop.Fails far) h = record { is = one (stop.Fails far) h.is }
    all (stop.Deep at far) h = record { is = one (stop.Deep at far) h.is }
    all stop.Memory h = no_memory

-- ---- a block

abbrev as_pair : List PlainPart → List Typed → List PlainPart × List Typed
as_pair parts kids = (parts, kids)

-- what a loop has so far, behind the first part
pub record Parts (part : Reader TypedPart) (bytes : List ℕ) (s : Reach) (before parts : List PlainPart) (kids_before kids : List Typed) (q : Reach) : Type 0 where
  pub values : List TypedPart
  pub going : Going part bytes s values q
  pub parts_are : parts ≡ before ++ parts_of values
  pub kids_are : kids ≡ kids_before ++ map (λ (x : TypedPart). x.1) values

map_more : {A B : Type 0} (form : A → B) (xs : List A) (a : A) → map form (xs ++ a ∷ []) ≡ map form xs ++ form a ∷ []
map_more form [] a = refl
map_more form (x ∷ xs) a = ap (λ l. form x ∷ l) (map_more form xs a)

pub parts_none : (part : Reader TypedPart) (bytes : List ℕ) (s : Reach) (parts : List PlainPart) (kids : List Typed) → s.at ≤ length bytes → Parts part bytes s parts parts kids kids s
parts_none part bytes s parts kids le = record { values = []; going = going_none part bytes s le; parts_are = sym (append-nil parts); kids_are = sym (append-nil kids) }

pub parts_next : {part : Reader TypedPart} {bytes : List ℕ} {s q t : Reach} {before parts others : List PlainPart} {kids_before kids trees : List Typed} {x : TypedPart} → Parts part bytes s before parts kids_before kids q → IsRead part bytes q x t → (q.at < t.at) × (t.at ≤ length bytes) → others ≡ parts ++ x.0 ∷ [] → trees ≡ kids ++ x.1 ∷ [] → Parts part bytes s before others kids_before trees t
parts_next {part} {bytes} {s} {q} {t} {before} {parts} {others} {kids_before} {kids} {trees} {x} h g m e f = record {
  values = h.values ++ x ∷ [];
  going = going_next h.going g m;
  parts_are = e ∙ ap (λ l. l ++ x.0 ∷ []) h.parts_are ∙ append_assoc before (parts_of h.values) (x.0 ∷ []) ∙ ap (λ l. before ++ l) (sym (map_more (λ (y : TypedPart). y.0) h.values x));
  kids_are = f ∙ ap (λ l. l ++ x.1 ∷ []) h.kids_are ∙ append_assoc kids_before (map (λ (y : TypedPart). y.1) h.values) (x.1 ∷ []) ∙ ap (λ l. kids_before ++ l) (sym (map_more (λ (y : TypedPart). y.1) h.values x));
}

module _ (levels : ℕ) (part : Reader TypedPart) where
  abbrev rest : Reader TypedPart
  rest = behind_at (between levels) part

  abbrev all : TypedPart → Reader (List TypedPart)
  all first = many_at rest

  strict : (bytes : List ℕ) (q : Reach) (d : Stop) → reading part bytes q ≡ Err d → reading (before_at (listed_at (between levels) part) (closing levels)) bytes q ≡ Err d
  strict bytes q d h =
      reading_as {A = List TypedPart × Unit {0}} {B = List TypedPart} (λ place x. x.0) (then_at (listed_at (between levels) part) (λ x. word_at (closing levels))) bytes q
      ∙ ap (λ r. in_form {A = List TypedPart × Unit {0}} {B = List TypedPart} (λ x. x.0) r) (reading_then (listed_at (between levels) part) (λ x. word_at (closing levels)) bytes q)
      ∙ ap (λ r. in_form {A = List TypedPart × Unit {0}} {B = List TypedPart} (λ x. x.0) (and_then r (λ x p. reading (word_at (closing levels)) bytes p)))
      (reading_as listed_of (then_at part all) bytes q ∙ ap (λ r. in_form (listed_of q.at) r) (reading_then part all bytes q ∙ ap (λ r. and_then r (λ x p. reading (all x) bytes p)) h))

  pub first_stops : (bytes : List ℕ) (s : Reach) (e : Stop) → IsStopped (behind_at (opening levels) part) bytes s e → IsStopped (block_at levels part) bytes s e
  first_stops bytes s e h = stops_more (opening levels) part (before_at (listed_at (between levels) part) (closing levels)) bytes s e (strict bytes) h

  module _ {bytes : List ℕ} {s p q : Reach} {first : TypedPart} {before parts : List PlainPart} {kids_before kids : List Typed} (w : Inside (opening levels) part bytes s first p) (h : Parts rest bytes p before parts kids_before kids q) {e : Stop} (g : IsStopped rest bytes q e) where
    pub others_stop : {d : Stop} → (d ≡ e) × IsFinal d → IsStopped (block_at levels part) bytes s d
    others_stop a = behind_next_stops (opening levels) w.word_is (before_stops (closing levels) (as_stops listed_of (then_next_stops all w.read_is (going_again h.going g a))))

    pub closing_stops : {t : Reach} {d : Stop} → IsAgain q e t → IsStopped (word_at (closing levels)) bytes t d → IsStopped (block_at levels part) bytes s d
    closing_stops a f = behind_next_stops (opening levels) w.word_is (before_word_stops (closing levels) (as_read listed_of (then_read all w.read_is (going_ends h.going g a))) f)

    pub block_read : {t n : Reach} → IsAgain q e t → IsRead (word_at (closing levels)) bytes t tt n → before ≡ first.0 ∷ [] → kids_before ≡ first.1 ∷ [] → IsReadAs block_of (block_at levels part) bytes s (parts, kids) n
    block_read a f i j = record {
      value = first ∷ h.values;
      read = behind_read (opening levels) w.word_is (before_read (closing levels) (as_read listed_of (then_read all w.read_is (going_ends h.going g a))) f);
      same = sym (ap₂ as_pair (h.parts_are ∙ ap (λ l. l ++ parts_of h.values) i) (h.kids_are ∙ ap (λ l. l ++ map (λ (y : TypedPart). y.1) h.values) j));
    }

-- the code counts levels by adding one
module _ (most depth levels : ℕ) (x : Sort) where
  abbrev inner : ℕ → Reader TypedPart
  inner k = sorted_at most x (type_at most depth k)

  one_more : levels + 1 ≡ suc levels
  one_more = omega arith

  pub opened : {bytes : List ℕ} {s p : Reach} {first : TypedPart} → IsRead (behind_at (codes " {" ++ new_line (levels + 1)) (inner (levels + 1))) bytes s first p → Inside (opening levels) (inner (suc levels)) bytes s first p
  opened {bytes} {s} {p} {first} h = inside (opening levels) (inner (suc levels)) bytes s p first (subst (λ k. IsRead (behind_at (codes " {" ++ new_line k) (inner k)) bytes s first p) one_more h)

  pub unopened : {bytes : List ℕ} {s : Reach} {e : Stop} → IsStopped (behind_at (codes " {" ++ new_line (levels + 1)) (inner (levels + 1))) bytes s e → IsStopped (block_at levels (inner (suc levels))) bytes s e
  unopened {bytes} {s} {e} h = first_stops levels (inner (suc levels)) bytes s e (subst (λ k. IsStopped (behind_at (codes " {" ++ new_line k) (inner k)) bytes s e) one_more h)

  pub next_read : {bytes : List ℕ} {s p : Reach} {part : TypedPart} → IsRead (behind_at (codes "," ++ new_line (levels + 1)) (inner (levels + 1))) bytes s part p → IsRead (behind_at (between levels) (inner (suc levels))) bytes s part p
  next_read {bytes} {s} {p} {part} h = subst (λ k. IsRead (behind_at (codes "," ++ new_line k) (inner k)) bytes s part p) one_more h

  pub next_stopped : {bytes : List ℕ} {s : Reach} {e : Stop} → IsStopped (behind_at (codes "," ++ new_line (levels + 1)) (inner (levels + 1))) bytes s e → IsStopped (behind_at (between levels) (inner (suc levels))) bytes s e
  next_stopped {bytes} {s} {e} h = subst (λ k. IsStopped (behind_at (codes "," ++ new_line k) (inner k)) bytes s e) one_more h
