-- What is said of absence, with a fixed value before it or without.
use mathlib.Core.Logic.{inl, inr}
use Rattle.std.proofs.Common.{◌≡◌, ◌⊎◌, ℕ, Bool, true, false, Option, Some, None, is_some, List, Result, Ok, Err, refl, sym, ap, ◌∙◌}
use Rattle.std.specs.Prelude.{codes}
use Rattle.base_trees.specs.Rose.{Rose}
use Rattle.module_grammar.specs.declared.reach.Reach.{Reach}
use Rattle.module_grammar.specs.declared.reach.Stop.{Stop}
use Rattle.module_grammar.specs.Reading.{Reader, word_at, nothing_at, or_at, as_at}
use Rattle.module_grammar.specs.Reached.{reading, IsFinal}
use Rattle.module_grammar.proofs.Stepping.{in_form, reading_as}
use Rattle.module_text.specs.declared.values.PlainValueLabel.{PlainValueLabel}
use Rattle.module_text.specs.declared.values.PlainOctets.{PlainOctets}
use Rattle.module_text.specs.declared.values.Absence.{Absence}
use Rattle.module_text.specs.declared.values.Absence.TheVariants as absence
use Rattle.module_grammar.specs.ValueReading.{default_at, fixed_absence, free_absence, absence_at}
use Rattle.module_parse.specs.Reads.{IsRead, IsStopped, Reads, IsAgain}
use Rattle.module_parse.specs.Readers.{fixed_absence_at}
use Rattle.module_parse.proofs.Chaining.{as_read, as_stops, or_first, or_again}
use Rattle.module_parse.proofs.Valuing.{or_step, reads_so}

none_not : false ≡ true → ⊥
none_not e = cc

some_not : true ≡ false → ⊥
some_not e = cc

pub absence_fixed : (most : ℕ) (octets : Option PlainOctets) (bytes : List ℕ) (s : Reach) (r : Result (Absence × Reach) Stop) → is_some octets ≡ true → Reads (fixed_absence_at most) bytes s r → Reads (absence_at most octets) bytes s r
absence_fixed most (Some octets) bytes s r e h = h
absence_fixed most None bytes s r e h = absurd (none_not e)

abbrev other : ℕ → Reader (Rose PlainValueLabel ⊎ Unit {0})
other most = or_at (default_at most) nothing_at

pub absence_optional : (most : ℕ) (octets : Option PlainOctets) (bytes : List ℕ) (s q : Reach) → is_some octets ≡ false → IsRead (word_at (codes " OPTIONAL")) bytes s tt q → IsRead (absence_at most octets) bytes s absence.Optional q
absence_optional most (Some octets) bytes s q e h = absurd (some_not e)
absence_optional most None bytes s q e h = as_read free_absence (or_first (other most) h)

pub absence_stops : (most : ℕ) (octets : Option PlainOctets) (bytes : List ℕ) (s : Reach) (e d : Stop) → is_some octets ≡ false → IsStopped (word_at (codes " OPTIONAL")) bytes s e → (d ≡ e) × IsFinal d → IsStopped (absence_at most octets) bytes s d
absence_stops most (Some octets) bytes s e d f h a = absurd (some_not f)
absence_stops most None bytes s e d f h a = as_stops free_absence (or_again (other most) h a)

form_like : {A B : Type 0} (f g : A → B) (r : Result (A × Reach) Stop) → ((a : A) → f a ≡ g a) → in_form f r ≡ in_form g r
form_like f g (Ok x) same = ap (λ k. Ok (k, x.1)) (same x.0)
form_like f g (Err e) same = refl

same_absence : (p q : ℕ) (x : Rose PlainValueLabel ⊎ Unit {0}) → free_absence p (inr x) ≡ fixed_absence q x
same_absence p q (inl v) = refl
same_absence p q (inr x) = refl

pub absence_other : (most : ℕ) (octets : Option PlainOctets) (bytes : List ℕ) (s q : Reach) (e : Stop) (r : Result (Absence × Reach) Stop) → is_some octets ≡ false → IsStopped (word_at (codes " OPTIONAL")) bytes s e → IsAgain s e q → Reads (fixed_absence_at most) bytes q r → Reads (absence_at most octets) bytes s r
absence_other most (Some octets) bytes s q e r f h a g = absurd (some_not f)
absence_other most None bytes s q e r f h a g =
    reads_so (absence_at most None) (fixed_absence_at most) bytes s q r
    (or_step free_absence (word_at (codes " OPTIONAL")) (other most) bytes s q e h a
    ∙ reading_as (λ place x. free_absence s.at (inr x)) (other most) bytes q
    ∙ form_like (λ x. free_absence s.at (inr x)) (fixed_absence q.at) (reading (other most) bytes q) (λ x. same_absence s.at q.at x)
    ∙ sym (reading_as fixed_absence (other most) bytes q))
    g
