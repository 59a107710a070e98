-- One text or another, read in this order.
use Rattle.std.proofs.Common.{◌≡◌, ℕ, ◌<◌, ◌≤◌, ◌⊎◌, inl, inr, List, ◌++◌, length, refl, ap, ◌∙◌, arith, Option, Some}
use Rattle.module_grammar.specs.Reading.{Answer, Found, Fails, Deep, Reader, far, later, failed_before, or_else, or_at}
use Rattle.module_grammar.specs.Laws.{Begins, Told, Again, Law}
use Rattle.module_grammar.specs.Shapes.{Sunk, IsFailed, EitherFine, either_deep, either_written}
use Rattle.module_grammar.proofs.Steps.{begins_later}

module _ {A B : Type 0} (FineA : ℕ → A → Type 0) (deepA : A → Option Sunk) (writeA : A → List ℕ) (FineB : ℕ → B → Type 0) (deepB : B → Option Sunk) (writeB : B → List ℕ) where
  abbrev Either : ℕ → A ⊎ B → Type 0
  Either = EitherFine FineA FineB

  abbrev deep_either : A ⊎ B → Option Sunk
  deep_either = either_deep deepA deepB

  abbrev written_either : A ⊎ B → List ℕ
  written_either = either_written writeA writeB

  begins_left : (place : ℕ) (bs : List ℕ) (n : ℕ) → Begins FineA deepA writeA place bs n → Begins Either deep_either written_either place bs n
  begins_left place bs n h = record { front = h.front; rest = h.rest; more = h.more; value = inl h.value; is = h.is; long = h.long; fine = h.fine; begins = h.begins }

  begins_right : (place : ℕ) (bs : List ℕ) (n : ℕ) → Begins FineB deepB writeB place bs n → Begins Either deep_either written_either place bs n
  begins_right place bs n h = record { front = h.front; rest = h.rest; more = h.more; value = inr h.value; is = h.is; long = h.long; fine = h.fine; begins = h.begins }

  module _ (FollowA : List ℕ → Type 0) (FollowB : List ℕ → Type 0) (Follow : List ℕ → Type 0) (first : Reader A) (second : Reader B)
      (lawA : Law FineA deepA writeA FollowA first) (lawB : Law FineB deepB writeB FollowB second)
      (followA : (place : ℕ) (a : A) (rest : List ℕ) → FineA place a → Follow rest → FollowA rest)
      (followB : (place : ℕ) (b : B) (rest : List ℕ) → FineB place b → Follow rest → FollowB rest)
      (apart : (place : ℕ) (b : B) (rest : List ℕ) → FineB place b → Follow rest → IsFailed (first place (writeB b ++ rest))) where
    told_failed : (place : ℕ) (bs : List ℕ) (n : ℕ) (r : Answer B) → Begins FineA deepA writeA place bs n → Told FineB deepB writeB place bs r → Told Either deep_either written_either place bs (failed_before n r)
    told_failed place bs n (Found b size m) h t = (
      record { is = t.0.is; long = t.0.long; fine = t.0.fine; shallow = t.0.shallow; told = omega (arith, t.0.told) },
      begins_later place bs n m (begins_left place bs n h) (begins_right place bs m t.1),
    )
    told_failed place bs n (Fails m) h t = begins_later place bs n m (begins_left place bs n h) (begins_right place bs m t)
    told_failed place bs n (Deep at m) h t = (
      record { front = t.0.front; rest = t.0.rest; more = t.0.more; value = inr t.0.value; sunk = t.0.sunk; is = t.0.is; at_is = t.0.at_is; first = t.0.first; long = t.0.long; fine = t.0.fine; deep_is = t.0.deep_is; begins = t.0.begins },
      begins_later place bs n m (begins_left place bs n h) (begins_right place bs m t.1),
    )

    told_else : (place : ℕ) (bs : List ℕ) (r : Answer A) → Told FineA deepA writeA place bs r → Told Either deep_either written_either place bs (or_else (second place bs) r)
    told_else place bs (Found a size n) t = (
      record { is = t.0.is; long = t.0.long; fine = t.0.fine; shallow = t.0.shallow; told = t.0.told },
      begins_left place bs n t.1,
    )
    told_else place bs (Fails n) t = told_failed place bs n (second place bs) t (lawB.told place bs)
    told_else place bs (Deep at n) t = (
      record { front = t.0.front; rest = t.0.rest; more = t.0.more; value = inl t.0.value; sunk = t.0.sunk; is = t.0.is; at_is = t.0.at_is; first = t.0.first; long = t.0.long; fine = t.0.fine; deep_is = t.0.deep_is; begins = t.0.begins },
      begins_left place bs n t.1,
    )

    again_left : (a : A) (q : Answer B) (r : Answer A) → Again FineA deepA writeA a r → Again Either deep_either written_either (inl a) (or_else q r)
    again_left a q (Found c size n) t = (ap (λ k. inl k) t.0, t.1, t.2)
    again_left a q (Fails n) t = absurd t
    again_left a q (Deep at n) t = t

    again_failed : (b : B) (n : ℕ) (q : Answer B) → Again FineB deepB writeB b q → Again Either deep_either written_either (inr b) (failed_before n q)
    again_failed b n (Found c size m) t = (ap (λ k. inr k) t.0, t.1, t.2)
    again_failed b n (Fails m) t = t
    again_failed b n (Deep at m) t = t

    again_right : (b : B) (q : Answer B) (r : Answer A) → IsFailed r → Again FineB deepB writeB b q → Again Either deep_either written_either (inr b) (or_else q r)
    again_right b q (Found c size n) f t = absurd f
    again_right b q (Fails n) f t = again_failed b n q t
    again_right b q (Deep at n) f t = absurd f

    again_either : (place : ℕ) (x : A ⊎ B) (rest : List ℕ) → Either place x → Follow rest → Again Either deep_either written_either x (or_else (second place (written_either x ++ rest)) (first place (written_either x ++ rest)))
    again_either place (inl a) rest f h = again_left a (second place (writeA a ++ rest)) (first place (writeA a ++ rest)) (lawA.again place a rest f (followA place a rest f h))
    again_either place (inr b) rest f h = again_right b (second place (writeB b ++ rest)) (first place (writeB b ++ rest)) (apart place b rest f h) (lawB.again place b rest f (followB place b rest f h))

    far_failed : (n : ℕ) (q : Answer B) → far (failed_before {A = A} n q) ≡ later n (far q)
    far_failed n (Found b size m) = refl
    far_failed n (Fails m) = refl
    far_failed n (Deep at m) = refl

    far_else : (q : Answer B) (r : Answer A) → far r ≤ far (or_else q r)
    far_else q (Found a size n) = omega arith
    far_else q (Fails n) = omega (arith, far_failed n q)
    far_else q (Deep at n) = omega arith

    local_else : (place : ℕ) (p x y : List ℕ) (r : Answer A) → far (or_else (second place (p ++ x)) r) < length p → or_else (second place (p ++ y)) r ≡ or_else (second place (p ++ x)) r
    local_else place p x y (Found a size n) lt = refl
    local_else place p x y (Fails n) lt = ap (failed_before n) (lawB.local place p x y (omega (arith, lt, far_failed n (second place (p ++ x)))))
    local_else place p x y (Deep at n) lt = refl

    inside_either : (place : ℕ) (x : A ⊎ B) (s : Sunk) → Either place x → deep_either x ≡ Some s → (s.at < s.told) × (s.told ≤ length (written_either x))
    inside_either place (inl a) s f d = lawA.inside place a s f d
    inside_either place (inr b) s f d = lawB.inside place b s f d

    or_law_of : Law (EitherFine FineA FineB) (either_deep deepA deepB) (either_written writeA writeB) Follow (or_at first second)
    or_law_of = record {
      told = λ place bs. told_else place bs (first place bs) (lawA.told place bs);
      again = again_either;
      local = λ place p x y lt.
          let near : far (first place (p ++ x)) < length p = omega (arith, lt, far_else (second place (p ++ x)) (first place (p ++ x))) in
          ap (or_else (second place (p ++ y))) (lawA.local place p x y near) ∙ local_else place p x y (first place (p ++ x)) lt;
      inside = inside_either;
    }

pub or_law : {A B : Type 0} {FineA : ℕ → A → Type 0} {deepA : A → Option Sunk} {writeA : A → List ℕ} {FineB : ℕ → B → Type 0} {deepB : B → Option Sunk} {writeB : B → List ℕ}
    {FollowA : List ℕ → Type 0} {FollowB : List ℕ → Type 0} {Follow : List ℕ → Type 0} {first : Reader A} {second : Reader B}
    → Law FineA deepA writeA FollowA first
    → Law FineB deepB writeB FollowB second
    → ((place : ℕ) (a : A) (rest : List ℕ) → FineA place a → Follow rest → FollowA rest)
    → ((place : ℕ) (b : B) (rest : List ℕ) → FineB place b → Follow rest → FollowB rest)
    → ((place : ℕ) (b : B) (rest : List ℕ) → FineB place b → Follow rest → IsFailed (first place (writeB b ++ rest)))
    → Law (EitherFine FineA FineB) (either_deep deepA deepB) (either_written writeA writeB) Follow (or_at first second)
or_law {FineA = FineA} {deepA = deepA} {writeA = writeA} {FineB = FineB} {deepB = deepB} {writeB = writeB} {FollowA = FollowA} {FollowB = FollowB} {Follow = Follow} {first = first} {second = second} = or_law_of FineA deepA writeA FineB deepB writeB FollowA FollowB Follow first second
