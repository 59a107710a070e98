-- Encoding instructions, rank by rank.
use mathlib.Core.Logic.{inl, inr}
use Rattle.std.proofs.Common.{◌≡◌, get_or, drop, drop-cons, add-one, ◌⊎◌, ℕ, ◌+◌, ◌<◌, ◌≤◌, List, [], ◌∷◌, ◌++◌, length, Result, Ok, Err, refl, sym, ap, subst, ◌∙◌, arith, append_assoc, append-nil}
use Rattle.module_grammar.specs.declared.reach.Reach.{Reach}
use Rattle.module_grammar.specs.declared.reach.Stop.{Stop}
use Rattle.module_grammar.specs.declared.reach.Stop.TheVariants as stop
use Rattle.module_grammar.specs.Reading.{Reader, then_at, or_at, many_at, as_at, nothing_at}
use Rattle.module_grammar.specs.Reached.{reach, reading, IsFinal}
use Rattle.module_grammar.proofs.Stepping.{in_form, and_then, or_next, with_first, reading_as, reading_then, reading_or}
use Rattle.module_text.specs.declared.marks.TypeMarkKind.{TypeMarkKind}
use Rattle.module_grammar.specs.MarkReading.{joined, ranked_at, no_marks, no_marks_at, either_kind, or_kind_at, own_mark_at}
use Rattle.module_parse.specs.declared.marks.TypeRank.{TypeRank}
use Rattle.module_parse.specs.declared.marks.TypeRank.TheVariants as type_rank
use Rattle.module_parse.specs.Reads.{IsRead, IsStopped, IsFound, IsReadAs, IsAgain, IsNothing}
use Rattle.module_parse.specs.Readers.{ranks_at, or_ranks_at, type_kind_at}
use Rattle.module_parse.proofs.Chaining.{as_read, as_stops, then_stops, or_first, or_again, nothing_read, no_memory}

form_twice : {A B C : Type 0} (f : B → C) (g : A → B) (h : A → C) (r : Result (A × Reach) Stop) → ((a : A) → f (g a) ≡ h a) → in_form f (in_form g r) ≡ in_form h r
form_twice f g h (Ok x) same = ap (λ k. Ok (k, x.1)) (same x.0)
form_twice f g h (Err e) same = refl

form_same : {A : Type 0} (f : A → A) (r : Result (A × Reach) Stop) → ((a : A) → f a ≡ a) → in_form f r ≡ r
form_same f (Ok x) same = ap (λ k. Ok (k, x.1)) (same x.0)
form_same f (Err e) same = refl

with_form : {A B : Type 0} (a : A) (r : Result (B × Reach) Stop) → with_first a r ≡ in_form (λ b. (a, b)) r
with_form a (Ok x) = refl
with_form a (Err e) = refl

-- These are read, and those of the ranks that are left are read from here on.
pub record Ranked {K M : Type 0} (one : K → Reader M) (whole : Reader (List M)) (bytes : List ℕ) (s : Reach) (marks : List M) (ranks : List K) (q : Reach) : Type 0 where
  pub same : reading whole bytes s ≡ in_form (λ ms. marks ++ ms) (reading (ranks_at one ranks) bytes q)
  pub begun : s.at ≤ q.at
  pub left : q.at ≤ length bytes

pub ranked_none : {K M : Type 0} (one : K → Reader M) (ranks : List K) (bytes : List ℕ) (s : Reach) (marks : List M) → marks ≡ [] → s.at ≤ length bytes → Ranked one (ranks_at one ranks) bytes s marks ranks s
ranked_none one ranks bytes s marks e le = record {
  same = sym (form_same (λ ms. marks ++ ms) (reading (ranks_at one ranks) bytes s) (λ ms. ap (λ l. l ++ ms) e));
  begun = omega arith;
  left = le;
}

module _ {K M : Type 0} {one : K → Reader M} {whole : Reader (List M)} {bytes : List ℕ} {s q : Reach} {marks : List M} {ranks : List K} (h : Ranked one whole bytes s marks ranks q) (rank : K) (others : List K) (e : ranks ≡ rank ∷ others) where
  now : reading whole bytes s ≡ in_form (λ ms. marks ++ ms) (in_form (joined q.at) (and_then (reading (many_at (one rank)) bytes q) (λ ms t. reading (ranks_at one others) bytes t)))
  now = h.same
      ∙ ap (λ ks. in_form (λ ms. marks ++ ms) (reading (ranks_at one ks) bytes q)) e
      ∙ ap (λ r. in_form (λ ms. marks ++ ms) r)
      (reading_as joined (then_at (many_at (one rank)) (λ ms. ranks_at one others)) bytes q
      ∙ ap (λ r. in_form (joined q.at) r) (reading_then (many_at (one rank)) (λ ms. ranks_at one others) bytes q))

  pub ranked_next : {more : List M} {t : Reach} → IsReadAs (λ ms. marks ++ ms) (many_at (one rank)) bytes q more t → (q.at ≤ t.at) × (t.at ≤ length bytes) → Ranked one whole bytes s more others t
  ranked_next {more} {t} g m = record {
    same = now
        ∙ ap (λ r. in_form (λ ms. marks ++ ms) (in_form (joined q.at) (and_then r (λ ms p. reading (ranks_at one others) bytes p)))) g.read.is
        ∙ ap (λ r. in_form (λ ms. marks ++ ms) (in_form (joined q.at) r)) (with_form g.value (reading (ranks_at one others) bytes t))
        ∙ ap (λ r. in_form (λ ms. marks ++ ms) r) (form_twice (joined q.at) (λ ms. (g.value, ms)) (λ ms. g.value ++ ms) (reading (ranks_at one others) bytes t) (λ ms. refl))
        ∙ form_twice (λ ms. marks ++ ms) (λ ms. g.value ++ ms) (λ ms. more ++ ms) (reading (ranks_at one others) bytes t) (λ ms. sym (append_assoc marks g.value ms) ∙ ap (λ l. l ++ ms) g.same);
    begun = omega (arith, h.begun, m.0);
    left = m.1;
  }

  stops_at : (d : Stop) → reading (many_at (one rank)) bytes q ≡ Err d → reading whole bytes s ≡ Err d
  stops_at d g = now ∙ ap (λ r. in_form (λ ms. marks ++ ms) (in_form (joined q.at) (and_then r (λ ms p. reading (ranks_at one others) bytes p)))) g

  pub ranked_stops : (d : Stop) → IsStopped (many_at (one rank)) bytes q d → IsStopped whole bytes s d
  ranked_stops (stop.Fails far) g = record { is = stops_at (stop.Fails far) g.is }
  ranked_stops (stop.Deep at far) g = record { is = stops_at (stop.Deep at far) g.is }
  ranked_stops stop.Memory g = no_memory

pub ranked_ends : {K M : Type 0} {one : K → Reader M} {whole : Reader (List M)} {bytes : List ℕ} {s q t : Reach} {marks : List M} {ranks : List K} → Ranked one whole bytes s marks ranks q → ranks ≡ [] → IsNothing q t → IsRead whole bytes s marks t
ranked_ends {K} {M} {one} {whole} {bytes} {s} {q} {t} {marks} {ranks} h e n = record {
  is = h.same
      ∙ ap (λ ks. in_form (λ ms. marks ++ ms) (reading (ranks_at one ks) bytes q)) e
      ∙ ap (λ r. in_form (λ ms. marks ++ ms) r) (as_read no_marks (nothing_read bytes q t n)).is
      ∙ ap (λ l. Ok (l, t)) (append-nil marks);
}

-- ---- the first mark of a type

-- None of the earlier ranks is read here.
pub record Trying (bytes : List ℕ) (s : Reach) (ranks : List TypeRank) (q : Reach) : Type 0 where
  pub same : reading own_mark_at bytes s ≡ reading (or_ranks_at ranks) bytes q
  pub place : q.at ≡ s.at

found_so : {A : Type 0} (read : Reader A) (bytes : List ℕ) (s t : Reach) (a : A) → reading read bytes s ≡ Ok (a, t) → IsFound read bytes s t
found_so read bytes s t a h = record { value = a; read = record { is = h } }

stopped_so : {A : Type 0} (read other : Reader A) (bytes : List ℕ) (s q : Reach) (e : Stop) → reading read bytes s ≡ reading other bytes q → IsStopped other bytes q e → IsStopped read bytes s e
stopped_so read other bytes s q (stop.Fails far) h g = record { is = h ∙ g.is }
stopped_so read other bytes s q (stop.Deep at far) h g = record { is = h ∙ g.is }
stopped_so read other bytes s q stop.Memory h g = no_memory

second_form : (place : ℕ) (r : Result (TypeMarkKind × Reach) Stop) → in_form (either_kind place) (in_form {A = TypeMarkKind} {B = TypeMarkKind ⊎ TypeMarkKind} (λ b. inr b) r) ≡ r
second_form place (Ok x) = refl
second_form place (Err e) = refl

failed_so : {A : Type 0} (read : Reader A) (bytes : List ℕ) (s q : Reach) (e : Stop) → IsStopped read bytes s e → IsAgain s e q → reading read bytes s ≡ Err (stop.Fails q.far)
failed_so read bytes s q e h a = (subst (λ k. IsStopped read bytes s k) a.failed h).is

module _ {bytes : List ℕ} {s q : Reach} {ranks : List TypeRank} (h : Trying bytes s ranks q) (rank : TypeRank) (others : List TypeRank) (e : ranks ≡ rank ∷ others) where
  here : reading own_mark_at bytes s ≡ reading (or_kind_at (type_kind_at rank) (or_ranks_at others)) bytes q
  here = h.same ∙ ap (λ ks. reading (or_ranks_at ks) bytes q) e

  pub trying_next : {d : Stop} {t : Reach} → IsStopped (type_kind_at rank) bytes q d → IsAgain q d t → Trying bytes s others t
  trying_next {d} {t} g a = record {
    same = here
        ∙ reading_as either_kind (or_at (type_kind_at rank) (or_ranks_at others)) bytes q
        ∙ ap (λ r. in_form (either_kind q.at) r)
        (reading_or (type_kind_at rank) (or_ranks_at others) bytes q ∙ ap (λ r. or_next r (λ far. reading (or_ranks_at others) bytes (reach q.at far))) (failed_so (type_kind_at rank) bytes q t d g a))
        ∙ second_form q.at (reading (or_ranks_at others) bytes (reach q.at t.far))
        ∙ ap (λ p. reading (or_ranks_at others) bytes p) (sym a.same);
    place = a.place ∙ h.place;
  }

  pub trying_found : {kind : TypeMarkKind} {t : Reach} → IsRead (type_kind_at rank) bytes q kind t → IsFound own_mark_at bytes s t
  trying_found {kind} {t} g = found_so own_mark_at bytes s t kind (here ∙ (as_read either_kind (or_first (or_ranks_at others) g)).is)

  pub trying_stops : {d k : Stop} → IsStopped (type_kind_at rank) bytes q d → (k ≡ d) × IsFinal k → IsStopped own_mark_at bytes s k
  trying_stops {d} {k} g a = stopped_so own_mark_at (or_kind_at (type_kind_at rank) (or_ranks_at others)) bytes s q k here (as_stops either_kind (or_again (or_ranks_at others) g a))

pub last_found : {bytes : List ℕ} {s q t : Reach} {ranks : List TypeRank} {kind : TypeMarkKind} → Trying bytes s ranks q → ranks ≡ [] → IsRead (type_kind_at type_rank.Text) bytes q kind t → IsFound own_mark_at bytes s t
last_found {bytes} {s} {q} {t} {ranks} {kind} h e g = found_so own_mark_at bytes s t kind (h.same ∙ ap (λ ks. reading (or_ranks_at ks) bytes q) e ∙ g.is)

pub last_stops : {bytes : List ℕ} {s q : Reach} {ranks : List TypeRank} {d : Stop} → Trying bytes s ranks q → ranks ≡ [] → IsStopped (type_kind_at type_rank.Text) bytes q d → IsStopped own_mark_at bytes s d
last_stops {bytes} {s} {q} {ranks} {d} h e g = stopped_so own_mark_at (type_kind_at type_rank.Text) bytes s q d (h.same ∙ ap (λ ks. reading (or_ranks_at ks) bytes q) e) g

-- the rank at which a loop over them stands
pub rank_here : {K : Type 0} (ranks : List K) (i : ℕ) (other : K) → i < length ranks → drop i ranks ≡ get_or ranks i other ∷ drop (i + 1) ranks
rank_here ranks i other lt = drop-cons ranks i other lt ∙ ap (λ (k : ℕ). get_or ranks i other ∷ drop k ranks) (sym (add-one i))
