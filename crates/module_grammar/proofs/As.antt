-- Texts of a reader whose values are mapped to another form, which may contain the place of the text.
use Rattle.std.proofs.Common.{◌≡◌, ℕ, ◌<◌, ◌≤◌, List, ◌++◌, length, drop, refl, sym, ap, ◌∙◌, subst, Option, Some}
use Rattle.module_grammar.specs.Reading.{Answer, Found, Fails, Deep, Reader, far, answer_map, as_at}
use Rattle.module_grammar.specs.Shapes.{Sunk}
use Rattle.module_grammar.specs.Laws.{Begins, Told, Again, Law}

-- each value stands for one of the other form, with the same text and the same node that is too deep, and each of those for one
pub record Renames {A C : Type 0} (FineA : ℕ → A → Type 0) (deepA : A → Option Sunk) (writeA : A → List ℕ) (FineC : ℕ → C → Type 0) (deepC : C → Option Sunk) (writeC : C → List ℕ) (to : ℕ → A → C) : Type 0 where
  pub fine : (place : ℕ) (a : A) → FineA place a → FineC place (to place a)
  pub deep : (place : ℕ) (a : A) → FineA place a → deepC (to place a) ≡ deepA a
  pub write : (place : ℕ) (a : A) → FineA place a → writeC (to place a) ≡ writeA a
  pub onto : (place : ℕ) (c : C) → FineC place c → (a : A) × FineA place a × (to place a ≡ c)

module _ {A C : Type 0} (FineA : ℕ → A → Type 0) (deepA : A → Option Sunk) (writeA : A → List ℕ) (FineC : ℕ → C → Type 0) (deepC : C → Option Sunk) (writeC : C → List ℕ) (to : ℕ → A → C) where
  module _ (Follow : List ℕ → Type 0) (read : Reader A) (law : Law FineA deepA writeA Follow read) (h : Renames FineA deepA writeA FineC deepC writeC to) where
    begins : (place : ℕ) (bs : List ℕ) (n : ℕ) → Begins FineA deepA writeA place bs n → Begins FineC deepC writeC place bs n
    begins place bs n b = record { front = b.front; rest = b.rest; more = b.more; value = to place b.value; is = b.is; long = b.long; fine = h.fine place b.value b.fine; begins = h.write place b.value b.fine ∙ b.begins }

    told_map : (place : ℕ) (bs : List ℕ) (r : Answer A) → Told FineA deepA writeA place bs r → Told FineC deepC writeC place bs (answer_map (to place) r)
    told_map place bs (Found a size n) t = (
      record {
        is = t.0.is ∙ ap (λ l. l ++ drop size bs) (sym (h.write place a t.0.fine));
        long = t.0.long ∙ ap length (sym (h.write place a t.0.fine));
        fine = h.fine place a t.0.fine;
        shallow = h.deep place a t.0.fine ∙ t.0.shallow;
        told = t.0.told;
      },
      begins place bs n t.1,
    )
    told_map place bs (Fails n) t = begins place bs n t
    told_map place bs (Deep at n) t = (
      record { front = t.0.front; rest = t.0.rest; more = t.0.more; value = to place t.0.value; sunk = t.0.sunk; is = t.0.is; at_is = t.0.at_is; first = t.0.first; long = t.0.long; fine = h.fine place t.0.value t.0.fine; deep_is = h.deep place t.0.value t.0.fine ∙ t.0.deep_is; begins = h.write place t.0.value t.0.fine ∙ t.0.begins },
      begins place bs n t.1,
    )

    again_map : (place : ℕ) (a : A) (r : Answer A) → FineA place a → Again FineA deepA writeA a r → Again FineC deepC writeC (to place a) (answer_map (to place) r)
    again_map place a (Found b size n) f t = (ap (to place) t.0, t.1 ∙ ap length (sym (h.write place a f)), h.deep place a f ∙ t.2)
    again_map place a (Fails n) f t = t
    again_map place a (Deep at n) f t = (t.0, h.deep place a f ∙ t.1, t.2)

    again_form : (place : ℕ) (rest : List ℕ) (a : A) → FineA place a → Follow rest → Again FineC deepC writeC (to place a) (answer_map (to place) (read place (writeC (to place a) ++ rest)))
    again_form place rest a f w = subst (λ l. Again FineC deepC writeC (to place a) (answer_map (to place) (read place (l ++ rest)))) (sym (h.write place a f)) (again_map place a (read place (writeA a ++ rest)) f (law.again place a rest f w))

    far_map : (place : ℕ) (r : Answer A) → far (answer_map (to place) r) ≡ far r
    far_map place (Found a size n) = refl
    far_map place (Fails n) = refl
    far_map place (Deep at n) = refl

    inside_map : (place : ℕ) (s : Sunk) (a : A) → FineA place a → deepC (to place a) ≡ Some s → (s.at < s.told) × (s.told ≤ length (writeC (to place a)))
    inside_map place s a f d = let k = law.inside place a s f (sym (h.deep place a f) ∙ d) in (k.0, subst (λ l. s.told ≤ length l) (sym (h.write place a f)) k.1)

    as_law_of : Law FineC deepC writeC Follow (as_at to read)
    as_law_of = record {
      told = λ place bs. told_map place bs (read place bs) (law.told place bs);
      again = λ place c rest f w.
          let a = h.onto place c f in
          subst (λ k. Again FineC deepC writeC k (answer_map (to place) (read place (writeC k ++ rest)))) a.2 (again_form place rest a.0 a.1 w);
      local = λ place p x y lt. ap (answer_map (to place)) (law.local place p x y (subst (λ n. n < length p) (far_map place (read place (p ++ x))) lt));
      inside = λ place c s f d.
          let a = h.onto place c f in
          subst (λ k. (s.at < s.told) × (s.told ≤ length (writeC k))) a.2 (inside_map place s a.0 a.1 (ap deepC a.2 ∙ d));
    }

pub as_law : {A C : Type 0} {FineA : ℕ → A → Type 0} {deepA : A → Option Sunk} {writeA : A → List ℕ} {FineC : ℕ → C → Type 0} {deepC : C → Option Sunk} {writeC : C → List ℕ} {to : ℕ → A → C} {Follow : List ℕ → Type 0} {read : Reader A}
    → Law FineA deepA writeA Follow read → Renames FineA deepA writeA FineC deepC writeC to → Law FineC deepC writeC Follow (as_at to read)
as_law {FineA = FineA} {deepA = deepA} {writeA = writeA} {FineC = FineC} {deepC = deepC} {writeC = writeC} {to = to} {Follow = Follow} {read = read} = as_law_of FineA deepA writeA FineC deepC writeC to Follow read

-- what may come before anything may come before these
pub any_follow : {A : Type 0} {Fine : ℕ → A → Type 0} {deep : A → Option Sunk} {write : A → List ℕ} {Before Follow : List ℕ → Type 0} {read : Reader A} → Law Fine deep write Before read → ((rest : List ℕ) → Follow rest → Before rest) → Law Fine deep write Follow read
any_follow law h = record { told = law.told; again = λ place a rest f w. law.again place a rest f (h rest w); local = law.local; inside = law.inside }

-- ---- the same values, said in other words

pub same_answer : {A : Type 0} (r : Answer A) → answer_map (λ a. a) r ≡ r
same_answer (Found a size n) = refl
same_answer (Fails n) = refl
same_answer (Deep at n) = refl

pub restated : {A : Type 0} {FineA : ℕ → A → Type 0} {deepA : A → Option Sunk} {writeA : A → List ℕ} {FineC : ℕ → A → Type 0} {deepC : A → Option Sunk} {writeC : A → List ℕ} {Follow : List ℕ → Type 0} {read : Reader A}
    → Law FineA deepA writeA Follow read → Renames FineA deepA writeA FineC deepC writeC (λ place a. a) → Law FineC deepC writeC Follow read
restated {FineC = FineC} {deepC = deepC} {writeC = writeC} {read = read} law h =
    let k = as_law law h in
    record {
      told = λ place bs. subst (λ r. Told FineC deepC writeC place bs r) (same_answer (read place bs)) (k.told place bs);
      again = λ place a rest f w. subst (λ r. Again FineC deepC writeC a r) (same_answer (read place (writeC a ++ rest))) (k.again place a rest f w);
      local = law.local;
      inside = k.inside;
    }

-- values that are the same by these facts
pub alike : {A : Type 0} {FineA : ℕ → A → Type 0} {deepA : A → Option Sunk} {writeA : A → List ℕ} {FineC : ℕ → A → Type 0} {deepC : A → Option Sunk} {writeC : A → List ℕ}
    → ((place : ℕ) (a : A) → FineA place a → FineC place a) → ((place : ℕ) (a : A) → FineC place a → FineA place a) → ((place : ℕ) (a : A) → FineA place a → deepC a ≡ deepA a) → ((place : ℕ) (a : A) → FineA place a → writeC a ≡ writeA a)
    → Renames FineA deepA writeA FineC deepC writeC (λ place a. a)
alike fine back deep write = record { fine = fine; deep = deep; write = write; onto = λ place a f. (a, back place a f, refl) }
