-- Loops that read as many as there are: what they have so far, in the form in which the code keeps it.
use mathlib.Core.Logic.{inl, inr}
use Rattle.std.proofs.Common.{◌≡◌, get_or, ℕ, ◌+◌, ◌-◌, ◌<◌, ◌≤◌, List, [], ◌∷◌, ◌++◌, length, take, drop, refl, sym, ap, ap₂, subst, ◌∙◌, arith, append_assoc, append-nil, drop-drop, take-add}
use Rattle.std.specs.Prelude.{map, Result, Ok, Err, MatchResult}
use Rattle.module_grammar.specs.declared.reach.Reach.{Reach}
use Rattle.module_grammar.specs.declared.reach.Stop.{Stop}
use Rattle.module_grammar.specs.declared.reach.Stop.TheVariants as stop
use Rattle.module_grammar.specs.Reading.{Reader, many_at}
use Rattle.module_grammar.specs.Reached.{IsFinal}
use Rattle.module_grammar.specs.Shapes.{each_written}
use Rattle.module_text.specs.Names.{is_capital}
use Rattle.module_grammar.specs.MarkReading.{own_mark_at}
use Rattle.module_grammar.specs.TypeReading.{start_at}
use Rattle.module_parse.specs.Spans.{between}
use Rattle.module_parse.specs.Reads.{IsRead, IsStopped, IsAgain, IsSpan, IsReadAs, ReadsSpan, ReadsByte, Finds, PassesStaying, Stays, Moves, optional_of}
use Rattle.module_parse.proofs.Chaining.{Going, going_none, going_next, going_ends, going_again, or_second, or_second_stops}

-- ---- where only the bytes count

between_none : (bytes : List ℕ) (start : ℕ) → between bytes start start ≡ []
between_none bytes start = let none : start - start ≡ 0 = omega arith in ap (λ k. take k (drop start bytes)) none

pub between_both : (bytes : List ℕ) (a b c : ℕ) → a ≤ b → b ≤ c → between bytes a b ++ between bytes b c ≡ between bytes a c
between_both bytes a b c le ge =
    let there : a + (b - a) ≡ b = omega (arith, le) in
    let whole : (b - a) + (c - b) ≡ c - a = omega (arith, le, ge) in
    ap (λ l. between bytes a b ++ take (c - b) l) (ap (λ k. drop k bytes) (sym there) ∙ sym (drop-drop (b - a) a bytes))
    ∙ sym (take-add (b - a) (c - b) (drop a bytes))
    ∙ ap (λ k. take k (drop a bytes)) whole

pub each_more : {A : Type 0} (write : A → List ℕ) (xs : List A) (a : A) → each_written write (xs ++ a ∷ []) ≡ each_written write xs ++ write a
each_more write [] a = append-nil (write a)
each_more write (x ∷ xs) a = ap (λ l. write x ++ l) (each_more write xs a) ∙ sym (append_assoc (write x) (each_written write xs) (write a))

pub record Written {A : Type 0} (read : Reader A) (write : A → List ℕ) (bytes : List ℕ) (s q : Reach) : Type 0 where
  pub values : List A
  pub going : Going read bytes s values q
  pub text : each_written write values ≡ between bytes s.at q.at

pub written_none : {A : Type 0} (read : Reader A) (write : A → List ℕ) (bytes : List ℕ) (s : Reach) → s.at ≤ length bytes → Written read write bytes s s
written_none read write bytes s le = record { values = []; going = going_none read bytes s le; text = sym (between_none bytes s.at) }

pub written_next : {A : Type 0} {read : Reader A} {write : A → List ℕ} {bytes : List ℕ} {s q t : Reach} → Written read write bytes s q → IsSpan read write bytes q t → (q.at < t.at) × (t.at ≤ length bytes) → Written read write bytes s t
written_next {A} {read} {write} {bytes} {s} {q} {t} h g m = record {
  values = h.values ++ g.value ∷ [];
  going = going_next h.going g.read m;
  text = each_more write h.values g.value ∙ ap₂ (λ x y. x ++ y) h.text g.text ∙ between_both bytes s.at q.at t.at h.going.begun (omega (arith, m.0));
}

pub written_ends : {A : Type 0} {read : Reader A} {write : A → List ℕ} {bytes : List ℕ} {s q t : Reach} {e : Stop} → Written read write bytes s q → IsStopped read bytes q e → IsAgain q e t → IsSpan (many_at read) (each_written write) bytes s t
written_ends {A} {read} {write} {bytes} {s} {q} {t} {e} h g a = record {
  value = h.values;
  read = going_ends h.going g a;
  text = h.text ∙ ap (λ (k : Reach). between bytes s.at k.at) (sym a.same);
}

pub written_again : {A : Type 0} {read : Reader A} {write : A → List ℕ} {bytes : List ℕ} {s q : Reach} {e : Stop} (r : Result Reach Stop) → Written read write bytes s q → IsStopped read bytes q e → MatchResult r (λ t. IsAgain q e t) (λ d. (d ≡ e) × IsFinal d) → ReadsSpan (many_at read) (each_written write) bytes s r
written_again (Ok t) h g a = written_ends h g a
written_again (Err d) h g a = going_again h.going g a

pub stays_again : (n : ℕ) (s q : Reach) (e : Stop) (r : Result Reach Stop) → MatchResult r (λ t. IsAgain q e t) (λ d. (d ≡ e) × IsFinal d) → s.at ≤ q.at → q.at ≤ n → PassesStaying n s r
stays_again n s q e (Ok t) a le ge = (omega (arith, a.place, le), omega (arith, a.place, ge))
stays_again n s q e (Err d) a le ge = tt

pub stays_optional : {A : Type 0} (n : ℕ) (s : Reach) (r : Result (A × Reach) Stop) → Stays n s r → s.at ≤ n → Stays n s (optional_of s r)
stays_optional n s (Ok x) h le = h
stays_optional n s (Err (stop.Fails far)) h le = (omega arith, le)
stays_optional n s (Err (stop.Deep at far)) h le = tt
stays_optional n s (Err stop.Memory) h le = tt

pub stays_moving : {A : Type 0} (n : ℕ) (s : Reach) (r : Result (A × Reach) Stop) → Moves n s r → Stays n s r
stays_moving n s (Ok x) h = (omega (arith, h.0), h.1)
stays_moving n s (Err e) h = tt

-- ---- where the code keeps them in another form

map_more : {A B : Type 0} (form : A → B) (xs : List A) (a : A) → map form (xs ++ a ∷ []) ≡ map form xs ++ form a ∷ []
map_more form [] a = refl
map_more form (x ∷ xs) a = ap (λ l. form x ∷ l) (map_more form xs a)

pub record Formed {A B : Type 0} (read : Reader A) (form : A → B) (bytes : List ℕ) (s : Reach) (ys : List B) (q : Reach) : Type 0 where
  pub values : List A
  pub going : Going read bytes s values q
  pub same : map form values ≡ ys

pub formed_none : {A B : Type 0} (read : Reader A) (form : A → B) (bytes : List ℕ) (s : Reach) (ys : List B) → s.at ≤ length bytes → ys ≡ [] → Formed read form bytes s ys s
formed_none read form bytes s ys le e = record { values = []; going = going_none read bytes s le; same = sym e }

pub formed_next : {A B : Type 0} {read : Reader A} {form : A → B} {bytes : List ℕ} {s q t : Reach} {ys zs : List B} {b : B} → Formed read form bytes s ys q → IsReadAs form read bytes q b t → (q.at < t.at) × (t.at ≤ length bytes) → zs ≡ ys ++ b ∷ [] → Formed read form bytes s zs t
formed_next {A} {B} {read} {form} {bytes} {s} {q} {t} {ys} {zs} {b} h g m e = record {
  values = h.values ++ g.value ∷ [];
  going = going_next h.going g.read m;
  same = map_more form h.values g.value ∙ ap₂ (λ l y. l ++ y ∷ []) h.same g.same ∙ sym e;
}

pub formed_ends : {A B : Type 0} {read : Reader A} {form : A → B} {bytes : List ℕ} {s q t : Reach} {ys : List B} {e : Stop} → Formed read form bytes s ys q → IsStopped read bytes q e → IsAgain q e t → IsReadAs (map form) (many_at read) bytes s ys t
formed_ends {A} {B} {read} {form} {bytes} {s} {q} {t} {ys} {e} h g a = record { value = h.values; read = going_ends h.going g a; same = h.same }

-- ---- where they stand in a list, behind others

pub record More {A : Type 0} (read : Reader A) (bytes : List ℕ) (s : Reach) (before items : List A) (q : Reach) : Type 0 where
  pub values : List A
  pub going : Going read bytes s values q
  pub are : items ≡ before ++ values

pub more_none : {A : Type 0} (read : Reader A) (bytes : List ℕ) (s : Reach) (before : List A) → s.at ≤ length bytes → More read bytes s before before s
more_none read bytes s before le = record { values = []; going = going_none read bytes s le; are = sym (append-nil before) }

pub more_next : {A : Type 0} {read : Reader A} {bytes : List ℕ} {s q t : Reach} {before items others : List A} {a : A} → More read bytes s before items q → IsRead read bytes q a t → (q.at < t.at) × (t.at ≤ length bytes) → others ≡ items ++ a ∷ [] → More read bytes s before others t
more_next {A} {read} {bytes} {s} {q} {t} {before} {items} {others} {a} h g m e = record {
  values = h.values ++ a ∷ [];
  going = going_next h.going g m;
  are = e ∙ ap (λ l. l ++ a ∷ []) h.are ∙ append_assoc before h.values (a ∷ []);
}

pub more_ends : {A : Type 0} {read : Reader A} {bytes : List ℕ} {s q t : Reach} {before items : List A} {e : Stop} → (h : More read bytes s before items q) → IsStopped read bytes q e → IsAgain q e t → IsRead (many_at read) bytes s h.values t
more_ends h g a = going_ends h.going g a

-- ---- a type begins

pub start_reads : (bytes : List ℕ) (s q : Reach) (e : Stop) (r : Result Reach Stop) → IsStopped own_mark_at bytes s e → IsAgain s e q → ReadsByte is_capital bytes q r → Finds start_at bytes s r
start_reads bytes s q e (Ok t) h a g = record { value = inr (get_or bytes q.at 0); read = or_second h a g }
start_reads bytes s q e (Err d) h a g = or_second_stops h a g
