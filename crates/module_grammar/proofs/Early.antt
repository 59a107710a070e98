-- Bytes that begin a text with a node that lies too deep are told as such, at its place, once what tells it is there.
use Rattle.std.proofs.Common.{◌≡◌, ℕ, zero, suc, ◌+◌, ◌<◌, ◌≤◌, ◌⊎◌, inl, inr, List, [], ◌∷◌, ◌++◌, length, refl, sym, ap, ◌∙◌, arith, Option, Some, None, append_assoc, append-nil, length-append, drop_at}
use Rattle.module_grammar.specs.Reading.{Answer, Found, Fails, Deep, Reader, later, behind, go_on, then_at, or_else, failed_before, or_at, answer_map, as_at, cons_at, one_more, up_to, many_at, word_at, behind_at, before_at}
use Rattle.module_grammar.specs.Shapes.{Sunk, moved, Anything, never, word_of, IsFailed, deeper, BothFine, both_written, both_deep, EitherFine, either_deep, either_written, EachFine, each_written, each_deep, BehindFine, shifted, behind_word, before_word}
use Rattle.module_grammar.specs.Laws.{Sinks, Again, Law, Early}
use Rattle.module_grammar.proofs.Steps.{none_some, deeper_cases}
use Rattle.module_grammar.proofs.As.{Renames, same_answer}
use Rattle.module_grammar.proofs.WordLaws.{word_law}

abbrev rest_of : List ℕ → List ℕ
rest_of [] = []
rest_of (b ∷ bs) = bs

abbrev head_of : List ℕ → ℕ
head_of [] = 0
head_of (b ∷ bs) = b

cons_is : (a b : ℕ) (u v : List ℕ) → a ≡ b → u ≡ v → (a ∷ u) ≡ (b ∷ v)
cons_is a b u v e f = ap (λ k. k ∷ u) e ∙ ap (λ l. b ∷ l) f

-- a front of two parts ends in the second, or in the first
pub split_front : (u v p more : List ℕ) → u ++ v ≡ p ++ more → ((q : List ℕ) × (p ≡ u ++ q) × (v ≡ q ++ more)) ⊎ ((q : List ℕ) × (u ≡ p ++ q))
split_front [] v p more e = inl (p, refl, e)
split_front (a ∷ u) v [] more e = inr (a ∷ u, refl)
split_front (a ∷ u) v (b ∷ p) more e =
    let same : a ≡ b = ap head_of e in
    elim (split_front u v p more (ap rest_of e)) [
      | inl h ↦ inl (h.0, cons_is b a p (u ++ h.0) (sym same) h.1, h.2)
      | inr h ↦ inr (h.0, cons_is a b u (p ++ h.0) same h.1)
    ]

again_found : {A : Type 0} (Fine : ℕ → A → Type 0) (deep : A → Option Sunk) (write : A → List ℕ) (a : A) (r : Answer A) → deep a ≡ None → Again Fine deep write a r → (n : ℕ) × (r ≡ Found a (length (write a)) n)
again_found Fine deep write a (Found b size n) d t = (n, ap (λ k. Found k size n) t.0 ∙ ap (λ k. Found a k n) t.1)
again_found Fine deep write a (Fails n) d t = absurd t
again_found Fine deep write a (Deep at n) d t = none_some t.0 (sym d ∙ t.1)

-- in the first of two parts
early_left : {A : Type 0} (Fine : ℕ → A → Type 0) (deep : A → Option Sunk) (write : A → List ℕ) (read : Reader A) → Early Fine deep write read → (place : ℕ) (a : A) (v p more x : List ℕ) (s : Sunk) → Fine place a → deep a ≡ Some s → s.told ≤ length (write a) → write a ++ v ≡ p ++ more → s.told ≤ length p → (n : ℕ) × (read place (p ++ x) ≡ Deep s.at n)
early_left Fine deep write read h place a v p more x s f d inside e le = elim (split_front (write a) v p more e) [
  | inl k ↦
      let g = h.early place a (write a) [] (k.0 ++ x) s f d (sym (append-nil (write a))) inside in
      (g.0, ap (read place) (ap (λ l. l ++ x) k.1 ∙ append_assoc (write a) k.0 x) ∙ g.1)
  | inr k ↦ h.early place a p k.0 x s f d k.1 le
]

pub then_early : {A B : Type 0} {FineA : ℕ → A → Type 0} {deepA : A → Option Sunk} {writeA : A → List ℕ} {FineB : A → ℕ → B → Type 0} {deepB : A → B → Option Sunk} {writeB : A → B → List ℕ}
    {FollowA : List ℕ → Type 0} {FollowB : A → List ℕ → Type 0} {first : Reader A} {next : A → Reader B}
    → Law FineA deepA writeA FollowA first
    → ((place : ℕ) (a : A) → FineA place a → Law (FineB a) (deepB a) (writeB a) (FollowB a) (next a))
    → Early FineA deepA writeA first
    → ((place : ℕ) (a : A) → FineA place a → Early (FineB a) (deepB a) (writeB a) (next a))
    → ((place here : ℕ) (a : A) (b : B) (q more x : List ℕ) (s : Sunk) → FineA place a → FineB a here b → deepB a b ≡ Some s → writeB a b ≡ q ++ more → s.told ≤ length q → 0 < length q → FollowA (q ++ x))
    → Early (BothFine FineA writeA FineB) (both_deep writeA deepA deepB) (both_written writeA writeB) (then_at first next)
then_early {A = A} {B = B} {FineA = FineA} {deepA = deepA} {writeA = writeA} {FineB = FineB} {deepB = deepB} {writeB = writeB} {FollowA = FollowA} {first = first} {next = next} law other ea eb follow = record { early = λ place x p more y s f d e le. by_case place x.0 x.1 p more y s f.0 f.1 e le (deeper_cases (length (writeA x.0)) s (deepA x.0) (deepB x.0 x.1) d) }
  where
    second : (place : ℕ) (a : A) (b : B) (q more x : List ℕ) (t : Sunk) → FineA place a → FineB a (place + length (writeA a)) b → deepA a ≡ None → deepB a b ≡ Some t → writeB a b ≡ q ++ more → t.told ≤ length q → (n : ℕ) × (then_at first next place ((writeA a ++ q) ++ x) ≡ Deep (length (writeA a) + t.at) n)
    second place a b q more x t f g none d e le =
        let some : 0 < length q = omega (arith, le, ((other place a f).inside (place + length (writeA a)) b t g d).0) in
        let r = again_found FineA deepA writeA a (first place (writeA a ++ (q ++ x))) none (law.again place a (q ++ x) f (follow place (place + length (writeA a)) a b q more x t f g d e le some)) in
        let s = (eb place a f).early (place + length (writeA a)) b q more x t g d e le in (
          later r.0 (length (writeA a) + s.0),
          ap (λ l. go_on next place l (first place l)) (append_assoc (writeA a) q x)
              ∙ ap (go_on next place (writeA a ++ (q ++ x))) r.1
              ∙ ap (λ l. behind a (length (writeA a)) r.0 (next a (place + length (writeA a)) l)) (drop_at (writeA a) (q ++ x) (length (writeA a)) refl)
              ∙ ap (behind a (length (writeA a)) r.0) s.1,
        )

    by_case : (place : ℕ) (a : A) (b : B) (p more x : List ℕ) (s : Sunk) → FineA place a → FineB a (place + length (writeA a)) b → writeA a ++ writeB a b ≡ p ++ more → s.told ≤ length p
        → (deepA a ≡ Some s) ⊎ ((deepA a ≡ None) × (t : Sunk) × (deepB a b ≡ Some t) × (moved (length (writeA a)) t ≡ s)) → (n : ℕ) × (then_at first next place (p ++ x) ≡ Deep s.at n)
    by_case place a b p more x s f g e le (inl d) =
        let r = early_left FineA deepA writeA first ea place a (writeB a b) p more x s f d (law.inside place a s f d).1 e le in
        (r.0, ap (go_on next place (p ++ x)) r.1)
    by_case place a b p more x s f g e le (inr d) =
        let told : length (writeA a) + d.1.told ≡ s.told = ap (λ (k : Sunk). k.told) d.3 in
        elim (split_front (writeA a) (writeB a b) p more e) [
          | inl h ↦
              let r = second place a b h.0 more x d.1 f g d.0 d.2 h.2 (omega (arith, le, told, ap length h.1, length-append (writeA a) h.0)) in
              (r.0, ap (λ l. then_at first next place (l ++ x)) h.1 ∙ r.1 ∙ ap (λ (k : Sunk). Deep k.at r.0) d.3)
          | inr h ↦ absurd (omega (arith, le, told, ((other place a f).inside (place + length (writeA a)) b d.1 g d.2).0, ap length h.1, length-append p h.0))
        ]

pub or_early : {A B : Type 0} {FineA : ℕ → A → Type 0} {deepA : A → Option Sunk} {writeA : A → List ℕ} {FineB : ℕ → B → Type 0} {deepB : B → Option Sunk} {writeB : B → List ℕ} {first : Reader A} {second : Reader B}
    → Early FineA deepA writeA first → Early FineB deepB writeB second
    → ((place : ℕ) (b : B) (p more x : List ℕ) (s : Sunk) → FineB place b → deepB b ≡ Some s → writeB b ≡ p ++ more → s.told ≤ length p → IsFailed (first place (p ++ x)))
    → Early (EitherFine FineA FineB) (either_deep deepA deepB) (either_written writeA writeB) (or_at first second)
or_early {A = A} {B = B} {FineA = FineA} {deepA = deepA} {writeA = writeA} {FineB = FineB} {deepB = deepB} {writeB = writeB} {first = first} {second = second} ea eb apart = record { early = go }
  where
    right : (q : Answer B) (r : Answer A) (at n : ℕ) → IsFailed r → q ≡ Deep at n → (k : ℕ) × (or_else q r ≡ Deep at k)
    right q (Found a size m) at n h e = absurd h
    right q (Fails m) at n h e = (later m n, ap (failed_before m) e)
    right q (Deep place m) at n h e = absurd h

    go : (place : ℕ) (x : A ⊎ B) (p more y : List ℕ) (s : Sunk) → EitherFine FineA FineB place x → either_deep deepA deepB x ≡ Some s → either_written writeA writeB x ≡ p ++ more → s.told ≤ length p → (n : ℕ) × (or_at first second place (p ++ y) ≡ Deep s.at n)
    go place (inl a) p more y s f d e le = let r = ea.early place a p more y s f d e le in (r.0, ap (or_else (second place (p ++ y))) r.1)
    go place (inr b) p more y s f d e le = let r = eb.early place b p more y s f d e le in right (second place (p ++ y)) (first place (p ++ y)) s.at r.0 (apart place b p more y s f d e le) r.1

pub as_early : {A C : Type 0} {FineA : ℕ → A → Type 0} {deepA : A → Option Sunk} {writeA : A → List ℕ} {FineC : ℕ → C → Type 0} {deepC : C → Option Sunk} {writeC : C → List ℕ} {to : ℕ → A → C} {read : Reader A}
    → Early FineA deepA writeA read → Renames FineA deepA writeA FineC deepC writeC to → Early FineC deepC writeC (as_at to read)
as_early {deepC = deepC} {writeC = writeC} {to = to} {read = read} ea h = record {
  early = λ place c p more x s f d e le.
      let a = h.onto place c f in
      let r = ea.early place a.0 p more x s a.1 (sym (h.deep place a.0 a.1) ∙ ap deepC a.2 ∙ d) (sym (h.write place a.0 a.1) ∙ ap writeC a.2 ∙ e) le in
      (r.0, ap (answer_map (to place)) r.1);
}

-- where no node lies too deep
pub never_early : {A : Type 0} {Fine : ℕ → A → Type 0} {deep : A → Option Sunk} {write : A → List ℕ} {read : Reader A} → ((a : A) → deep a ≡ None) → Early Fine deep write read
never_early h = record { early = λ place a p more x s f d e le. none_some s (sym (h a) ∙ d) }

pub many_early : {A : Type 0} {Fine : ℕ → A → Type 0} {deep : A → Option Sunk} {write : A → List ℕ} {FollowItem FollowAll : List ℕ → Type 0} {read : Reader A}
    → Law Fine deep write FollowItem read
    → Law (EachFine Fine write) (each_deep write deep) (each_written write) FollowAll (many_at read)
    → Early Fine deep write read
    → ((place : ℕ) (a : A) → Fine place a → 0 < length (write a))
    → ((place : ℕ) (b : A) (l q m x : List ℕ) → Fine place b → write b ++ l ≡ q ++ m → 0 < length q → FollowItem (q ++ x))
    → Early (EachFine Fine write) (each_deep write deep) (each_written write) (many_at read)
many_early {A = A} {Fine = Fine} {deep = deep} {write = write} {FollowItem = FollowItem} {read = read} law all ea some_bytes chain = record { early = λ place xs p more x s f d e le. go (suc (length (p ++ x))) xs place p more x s f d e le (omega arith) }
  where
    Goal : ℕ → List A → Type 0
    Goal k xs = (place : ℕ) (p more x : List ℕ) (s : Sunk) → EachFine Fine write place xs → each_deep write deep xs ≡ Some s → each_written write xs ≡ p ++ more → s.told ≤ length p → length (p ++ x) < k → (n : ℕ) × (up_to read k place (p ++ x) ≡ Deep s.at n)

    follows : (place : ℕ) (xs : List A) (q more x : List ℕ) (t : Sunk) → EachFine Fine write place xs → each_deep write deep xs ≡ Some t → each_written write xs ≡ q ++ more → 0 < length q → FollowItem (q ++ x)
    follows place [] q more x t f d e some = none_some t d
    follows place (b ∷ xs) q more x t f d e some = chain place b (each_written write xs) q more x f.0 e some

    second : (k place : ℕ) (a : A) (xs : List A) (q more x : List ℕ) (t : Sunk) → Fine place a → EachFine Fine write (place + length (write a)) xs → deep a ≡ None → each_deep write deep xs ≡ Some t → each_written write xs ≡ q ++ more → t.told ≤ length q
        → ((n : ℕ) × (up_to read k (place + length (write a)) (q ++ x) ≡ Deep t.at n)) → (n : ℕ) × (one_more (up_to read k) place ((write a ++ q) ++ x) (read place ((write a ++ q) ++ x)) ≡ Deep (length (write a) + t.at) n)
    second k place a xs q more x t f g none d e le s =
        let some : 0 < length q = omega (arith, le, (all.inside (place + length (write a)) xs t g d).0) in
        let r = again_found Fine deep write a (read place (write a ++ (q ++ x))) none (law.again place a (q ++ x) f (follows (place + length (write a)) xs q more x t g d e some)) in (
          later r.0 (length (write a) + s.0),
          ap (λ l. one_more (up_to read k) place l (read place l)) (append_assoc (write a) q x)
              ∙ ap (one_more (up_to read k) place (write a ++ (q ++ x))) r.1
              ∙ ap (λ l. cons_at a (length (write a)) r.0 (up_to read k (place + length (write a)) l)) (drop_at (write a) (q ++ x) (length (write a)) refl)
              ∙ ap (cons_at a (length (write a)) r.0) s.1,
        )

    by_case : (k place : ℕ) (a : A) (xs : List A) (p more x : List ℕ) (s : Sunk) → Fine place a → EachFine Fine write (place + length (write a)) xs → write a ++ each_written write xs ≡ p ++ more → s.told ≤ length p → length (p ++ x) < suc k
        → ((place : ℕ) (p more x : List ℕ) (s : Sunk) → EachFine Fine write place xs → each_deep write deep xs ≡ Some s → each_written write xs ≡ p ++ more → s.told ≤ length p → length (p ++ x) < k → (n : ℕ) × (up_to read k place (p ++ x) ≡ Deep s.at n))
        → (deep a ≡ Some s) ⊎ ((deep a ≡ None) × (t : Sunk) × (each_deep write deep xs ≡ Some t) × (moved (length (write a)) t ≡ s)) → (n : ℕ) × (up_to read (suc k) place (p ++ x) ≡ Deep s.at n)
    by_case k place a xs p more x s f g e le fits h (inl d) =
        let r = early_left Fine deep write read ea place a (each_written write xs) p more x s f d (law.inside place a s f d).1 e le in
        (r.0, ap (one_more (up_to read k) place (p ++ x)) r.1)
    by_case k place a xs p more x s f g e le fits h (inr d) =
        let told : length (write a) + d.1.told ≡ s.told = ap (λ (j : Sunk). j.told) d.3 in
        elim (split_front (write a) (each_written write xs) p more e) [
          | inl v ↦
              let near : d.1.told ≤ length v.0 = omega (arith, le, told, ap length v.1, length-append (write a) v.0) in
              let shorter : length (v.0 ++ x) < k = omega (arith, fits, some_bytes place a f, ap length v.1, length-append (write a) v.0, length-append p x, length-append v.0 x) in
              let r = second k place a xs v.0 more x d.1 f g d.0 d.2 v.2 near (h (place + length (write a)) v.0 more x d.1 g d.2 v.2 near shorter) in
              (r.0, ap (λ l. up_to read (suc k) place (l ++ x)) v.1 ∙ r.1 ∙ ap (λ (j : Sunk). Deep j.at r.0) d.3)
          | inr v ↦ absurd (omega (arith, le, told, (all.inside (place + length (write a)) xs d.1 g d.2).0, ap length v.1, length-append p v.0))
        ]

    go : (k : ℕ) (xs : List A) → Goal k xs
    go k [] place p more x s f d e le fits = none_some s d
    go zero (a ∷ xs) place p more x s f d e le fits = absurd (omega (arith, fits))
    go (suc k) (a ∷ xs) place p more x s f d e le fits = by_case k place a xs p more x s f.0 f.1 e le fits (go k xs) (deeper_cases (length (write a)) s (deep a) (each_deep write deep xs) d)

pub behind_early : {A : Type 0} {Fine : ℕ → A → Type 0} {deep : A → Option Sunk} {write : A → List ℕ} {Follow : List ℕ → Type 0} {read : Reader A} (word : List ℕ) → Law Fine deep write Follow read → Early Fine deep write read → Early (BehindFine word Fine) (shifted word deep) (behind_word word write) (behind_at word read)
behind_early {Fine = Fine} {deep = deep} {write = write} {Follow = Follow} {read = read} word law ea = as_early
    (then_early {FineB = λ x. Fine} {deepB = λ x. deep} {writeB = λ x. write} {FollowB = λ x. Follow} {next = λ x. read} (word_law word) (λ place x h. law) (never_early (λ a. refl)) (λ place x h. ea) (λ place here a b q more x s f g d e le some. tt))
    (record { fine = λ place x f. f.1; deep = λ place x f. refl; write = λ place x f. refl; onto = λ place a f. ((tt, a), (tt, f), refl) })

none_behind : (n : ℕ) (d : Option Sunk) → d ≡ deeper n d None
none_behind n None = refl
none_behind n (Some at) = refl

pub before_early : {A : Type 0} {Fine : ℕ → A → Type 0} {deep : A → Option Sunk} {write : A → List ℕ} {FollowA : List ℕ → Type 0} {read : Reader A} (word : List ℕ) → Law Fine deep write FollowA read → Early Fine deep write read → Early Fine deep (before_word write word) (before_at read word)
before_early {deep = deep} {write = write} word law ea = as_early
    (then_early {FineB = λ a. Anything} {deepB = λ a. never} {writeB = λ a. word_of word} {next = λ a. word_at word} law (λ place a h. word_law word) ea (λ place a h. never_early (λ b. refl)) (λ place here a b q more x s f g d e le some. none_some s d))
    (record { fine = λ place x f. f.0; deep = λ place x f. none_behind (length (write x.0)) (deep x.0); write = λ place x f. refl; onto = λ place a f. ((a, tt), (f, tt), refl) })

-- ---- a whole text

-- at bytes that begin a text with such a node no other answer is given
pub only_deep : {A : Type 0} {Fine : ℕ → A → Type 0} {deep : A → Option Sunk} {write : A → List ℕ} {read : Reader A} → Early Fine deep write read → (place : ℕ) (bs : List ℕ) (at : ℕ) → Sinks Fine deep write place bs at → (n : ℕ) × (read place bs ≡ Deep at n)
only_deep {read = read} ea place bs at s =
    let r = ea.early place s.value s.front s.more s.rest s.sunk s.fine s.deep_is s.begins s.long in
    (r.0, ap (read place) s.is ∙ r.1 ∙ ap (λ k. Deep k r.0) s.at_is)

pub restated_early : {A : Type 0} {FineA : ℕ → A → Type 0} {deepA : A → Option Sunk} {writeA : A → List ℕ} {FineC : ℕ → A → Type 0} {deepC : A → Option Sunk} {writeC : A → List ℕ} {read : Reader A}
    → Early FineA deepA writeA read → Renames FineA deepA writeA FineC deepC writeC (λ place a. a) → Early FineC deepC writeC read
restated_early {read = read} ea h = record {
  early = λ place a p more x s f d e le.
      let r = (as_early ea h).early place a p more x s f d e le in
      (r.0, sym (same_answer (read place (p ++ x))) ∙ r.1);
}
