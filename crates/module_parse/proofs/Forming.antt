-- What stands behind the word of a type.
use mathlib.Core.Logic.{inl, inr}
use Rattle.std.proofs.Common.{◌≡◌, ◌⊎◌, ℕ, suc, List, [], Result, Ok, Err, refl, sym, ap, subst, ◌∙◌}
use Rattle.base_trees.specs.Rose.{Roses, node, none, roses_of}
use Rattle.module_grammar.specs.declared.reach.Reach.{Reach}
use Rattle.module_grammar.specs.declared.reach.Stop.{Stop}
use Rattle.module_grammar.specs.declared.reach.Stop.TheVariants as stop
use Rattle.module_grammar.specs.Reading.{Reader, nothing_at, then_at, or_at, as_at}
use Rattle.module_grammar.specs.Reached.{reading}
use Rattle.module_grammar.proofs.Stepping.{in_form, reading_as}
use Rattle.module_text.specs.declared.marks.TypeMark.{TypeMark}
use Rattle.module_text.specs.declared.types.PlainName.{PlainName}
use Rattle.module_text.specs.declared.types.NumberedItem.{NumberedItem}
use Rattle.module_text.specs.declared.types.PlainPart.{PlainPart}
use Rattle.module_text.specs.declared.types.PlainForm.{PlainForm}
use Rattle.module_text.specs.declared.types.PlainForm.TheVariants as form
use Rattle.module_text.specs.declared.types.PlainLabel.{PlainLabel}
use Rattle.module_grammar.specs.NameReading.{plain_identifier_at}
use Rattle.module_grammar.specs.BoundReading.{number_range_at, size_at, class_at}
use Rattle.module_grammar.specs.MarkReading.{type_marks_at}
use Rattle.module_grammar.specs.TypeReading as type
use Rattle.module_parse.specs.declared.forms.Word.{Word}
use Rattle.module_parse.specs.declared.forms.Word.TheVariants as word
use Rattle.module_parse.specs.Reads.{IsRead, IsReadAs, IsStopped}
use Rattle.module_parse.specs.Readers.{block_of, word_seen, simple_form_at, bool_form, int_form, text_form, ref_form, enumerated_form_of}
use Rattle.module_parse.proofs.Chaining.{as_read, as_stops, then_read, then_next_stops, no_memory}

-- a type without types in it
abbrev alone : PlainForm → type.Form
alone f = (f, none)

form_twice : {A B C : Type 0} (f : B → C) (g : A → B) (h : A → C) (r : Result (A × Reach) Stop) → ((a : A) → f (g a) ≡ h a) → in_form f (in_form g r) ≡ in_form h r
form_twice f g h (Ok x) same = ap (λ k. Ok (k, x.1)) (same x.0)
form_twice f g h (Err e) same = refl

both_forms : {A : Type 0} (to : ℕ → A → type.Form) (form : ℕ → A → PlainForm) (read : Reader A) (bytes : List ℕ) (s : Reach) → ((a : A) → alone (form s.at a) ≡ to s.at a) → reading (as_at to read) bytes s ≡ in_form alone (reading (as_at form read) bytes s)
both_forms to form read bytes s same =
    reading_as to read bytes s
    ∙ sym (form_twice alone (form s.at) (to s.at) (reading read bytes s) same)
    ∙ ap (λ r. in_form alone r) (sym (reading_as form read bytes s))

enumerated_alone : (name : PlainName) (place : ℕ) (x : List NumberedItem ⊎ (List PlainName ⊎ Unit {0})) → alone (enumerated_form_of name place x) ≡ type.enumerated_of name place x
enumerated_alone name place (inl items) = refl
enumerated_alone name place (inr (inl names)) = refl
enumerated_alone name place (inr (inr x)) = refl

-- that has types in it
abbrev IsBlock : Word → Type 0
IsBlock word.Sequence = Unit {0}
IsBlock word.Choice = Unit {0}
IsBlock _ = ⊥

simple_tail : (most levels : ℕ) (here inside : Reader type.Typed) (name : PlainName) (w : Word) (bytes : List ℕ) (s : Reach) → (IsBlock w → ⊥) → reading (type.tail_at most levels here inside name (word_seen w)) bytes s ≡ in_form alone (reading (simple_form_at name w) bytes s)
simple_tail most levels here inside name word.Boolean bytes s n = both_forms type.bool_of bool_form nothing_at bytes s (λ a. refl)
simple_tail most levels here inside name word.Integer bytes s n = both_forms type.int_of int_form number_range_at bytes s (λ a. refl)
simple_tail most levels here inside name word.Utf8String bytes s n = both_forms type.text_of text_form (then_at size_at (λ size. class_at)) bytes s (λ a. refl)
simple_tail most levels here inside name word.Enumerated bytes s n =
    both_forms (type.enumerated_of name) (enumerated_form_of name) (or_at (type.enumerated_at type.numbered_at) (or_at (type.enumerated_at plain_identifier_at) nothing_at)) bytes s (enumerated_alone name s.at)
simple_tail most levels here inside name word.Sequence bytes s n = absurd (n tt)
simple_tail most levels here inside name word.Choice bytes s n = absurd (n tt)
simple_tail most levels here inside name word.Other bytes s n = both_forms (type.reference_of name) (ref_form name) nothing_at bytes s (λ a. refl)

no_block : (w : Word) → (w ≡ word.Sequence → ⊥) → (w ≡ word.Choice → ⊥) → IsBlock w → ⊥
no_block word.Boolean f g h = h
no_block word.Integer f g h = h
no_block word.Utf8String f g h = h
no_block word.Enumerated f g h = h
no_block word.Sequence f g h = f refl
no_block word.Choice f g h = g refl
no_block word.Other f g h = h

pub simple_read : (most levels : ℕ) (here inside : Reader type.Typed) (name : PlainName) (w : Word) (bytes : List ℕ) (s q : Reach) (f : PlainForm) (kids : List type.Typed) → (w ≡ word.Sequence → ⊥) → (w ≡ word.Choice → ⊥) → kids ≡ [] → IsRead (simple_form_at name w) bytes s f q → IsRead (type.tail_at most levels here inside name (word_seen w)) bytes s (f, roses_of kids) q
simple_read most levels here inside name w bytes s q f kids a b e h = record {
  is = simple_tail most levels here inside name w bytes s (no_block w a b)
      ∙ ap (λ r. in_form alone r) h.is
      ∙ ap (λ l. Ok ((f, roses_of l), q)) (sym e);
}

stops_alone : (read : Reader type.Form) (simple : Reader PlainForm) (bytes : List ℕ) (s : Reach) (e : Stop) → reading read bytes s ≡ in_form alone (reading simple bytes s) → IsStopped simple bytes s e → IsStopped read bytes s e
stops_alone read simple bytes s (stop.Fails far) h g = record { is = h ∙ ap (λ r. in_form alone r) g.is }
stops_alone read simple bytes s (stop.Deep at far) h g = record { is = h ∙ ap (λ r. in_form alone r) g.is }
stops_alone read simple bytes s stop.Memory h g = no_memory

pub simple_stops : (most levels : ℕ) (here inside : Reader type.Typed) (name : PlainName) (w : Word) (bytes : List ℕ) (s : Reach) (e : Stop) → (w ≡ word.Sequence → ⊥) → (w ≡ word.Choice → ⊥) → IsStopped (simple_form_at name w) bytes s e → IsStopped (type.tail_at most levels here inside name (word_seen w)) bytes s e
simple_stops most levels here inside name w bytes s e a b h = stops_alone (type.tail_at most levels here inside name (word_seen w)) (simple_form_at name w) bytes s e (simple_tail most levels here inside name w bytes s (no_block w a b)) h

-- a word that has nothing behind it is a reference
pub other_form : (name : PlainName) (w : Word) (bytes : List ℕ) (s q : Reach) → (w ≡ word.Boolean → ⊥) → (w ≡ word.Integer → ⊥) → (w ≡ word.Utf8String → ⊥) → (w ≡ word.Enumerated → ⊥) → IsRead nothing_at bytes s tt q → IsRead (simple_form_at name w) bytes s (form.Ref name) q
other_form name word.Boolean bytes s q a b c d h = absurd (a refl)
other_form name word.Integer bytes s q a b c d h = absurd (b refl)
other_form name word.Utf8String bytes s q a b c d h = absurd (c refl)
other_form name word.Enumerated bytes s q a b c d h = absurd (d refl)
other_form name word.Sequence bytes s q a b c d h = as_read (ref_form name) h
other_form name word.Choice bytes s q a b c d h = as_read (ref_form name) h
other_form name word.Other bytes s q a b c d h = as_read (ref_form name) h

-- a type, behind its marks and its word, where the depth is counted down
pub typed_read : {bytes : List ℕ} {s p q n : Reach} {marks : List TypeMark} {name : PlainName} {f : PlainForm} {kids : Roses PlainLabel} (most levels d e : ℕ) (w : type.Word) → suc d ≡ e → w ≡ type.word_of name.name → IsRead type_marks_at bytes s marks p → IsRead type.plain_reference_at bytes p name q → IsRead (type.tail_at most levels (type.type_at most d levels) (type.type_at most d (suc levels)) name w) bytes q (f, kids) n → IsRead (type.type_at most e levels) bytes s (node (record { at = s.at; marks = marks; form = f }) kids) n
typed_read {bytes} {s} {p} {q} {n} {marks} {name} {f} {kids} most levels d e w deeper same h g i =
    subst (λ k. IsRead (type.type_at most k levels) bytes s (node (record { at = s.at; marks = marks; form = f }) kids) n) deeper
    (as_read type.typed_of (then_read (λ marks. type.form_at most levels (type.type_at most d levels) (type.type_at most d (suc levels))) h
    (as_read type.form_of (then_read (λ word. type.tail_at most levels (type.type_at most d levels) (type.type_at most d (suc levels)) word (type.word_of word.name)) g
    (subst (λ v. IsRead (type.tail_at most levels (type.type_at most d levels) (type.type_at most d (suc levels)) name v) bytes q (f, kids) n) same i)))))

pub typed_stops : {bytes : List ℕ} {s p q : Reach} {marks : List TypeMark} {name : PlainName} {stopped : Stop} (most levels d e : ℕ) (w : type.Word) → suc d ≡ e → w ≡ type.word_of name.name → IsRead type_marks_at bytes s marks p → IsRead type.plain_reference_at bytes p name q → IsStopped (type.tail_at most levels (type.type_at most d levels) (type.type_at most d (suc levels)) name w) bytes q stopped → IsStopped (type.type_at most e levels) bytes s stopped
typed_stops {bytes} {s} {p} {q} {marks} {name} {stopped} most levels d e w deeper same h g i =
    subst (λ k. IsStopped (type.type_at most k levels) bytes s stopped) deeper
    (as_stops type.typed_of (then_next_stops (λ marks. type.form_at most levels (type.type_at most d levels) (type.type_at most d (suc levels))) h
    (as_stops type.form_of (then_next_stops (λ word. type.tail_at most levels (type.type_at most d levels) (type.type_at most d (suc levels)) word (type.word_of word.name)) g
    (subst (λ v. IsStopped (type.tail_at most levels (type.type_at most d levels) (type.type_at most d (suc levels)) name v) bytes q stopped) same i)))))

-- a form with a block of parts
pub as_block : (read : Reader type.Form) (f : List PlainPart → PlainForm) {block : Reader (List type.TypedPart)} {bytes : List ℕ} {s p q : Reach} {parts : List PlainPart} {kids : List type.Typed} (h : IsReadAs block_of block bytes p (parts, kids) q) → IsRead read bytes s (f (type.parts_of h.value), type.kids_of h.value) q → IsRead read bytes s (f parts, roses_of kids) q
as_block read f {block} {bytes} {s} {p} {q} {parts} {kids} h g = subst (λ (y : List PlainPart × List type.Typed). IsRead read bytes s (f y.0, roses_of y.1) q) h.same g
