-- It can be told of names whether they are those of a list of a clear content model, and whether they begin one.
use Rattle.std.proofs.Common.{◌≡◌, ℕ, zero, suc, ◌+◌, ◌<◌, ◌≤◌, ◌⊎◌, inl, inr, List, [], ◌∷◌, ◌++◌, Option, Some, None, Bool, true, false, length, refl, sym, ◌∙◌, ap, subst, append_assoc, append-nil, length-append, arith}
use Rattle.base_texts.specs.declared.texts.Name.{Name}
use Rattle.base_texts.specs.Names.{name_eq}
use Rattle.base_texts.proofs.NameLaws.{name_eq-Decides}
use Rattle.content_models.specs.Particle.{Particle, occurs, Term, element, sequence, choice, all, Particles, none, more}
use Rattle.content_models.specs.Language.{Turn, Leaf, leaf_at, names, Times, Within, Repeats, Lang, Body, InOrder, OneOf, size_of, turn_of}
use Rattle.content_models.specs.Clear.{first_in_order, first_of_term, all_empty, empties_term, and_then, follow_of_body, Rule1, Clear, ClearBelow, ClearInOrder, ClearOneOf}
use Rattle.content_models.specs.Occurring.{MayOccur, TermMayOccur, AllMayOccur}
use Rattle.content_models.specs.Laws.{Opens}
use Rattle.content_models.proofs.Opening.{names-append, body_opens}
use Rattle.content_models.proofs.Splitting.{within_one}
use Rattle.content_models.proofs.Starting.{some_list, some_body, some_order}
use Rattle.validity_rules.proofs.Orders.{prefixed, inserted, inserted_each, orders, Row, AnyRow, rows_of, rows_order}

-- ---- names

pub three : (i j : ℕ) → (i < j) ⊎ ((i ≡ j) ⊎ (j < i))
three zero zero = inr (inl refl)
three zero (suc j) = inl (omega arith)
three (suc i) zero = inr (inr (omega arith))
three (suc i) (suc j) = elim (three i j) [ inl h ↦ inl (omega arith) | inr h ↦ elim h [ inl e ↦ inr (inl (omega arith)) | inr l ↦ inr (inr (omega arith)) ] ]

pub same_name : (a b : Name) → (a ≡ b) ⊎ (a ≡ b → ⊥)
same_name a b = go (name_eq a b) refl
  where
    go : (is : Bool) → name_eq a b ≡ is → (a ≡ b) ⊎ (a ≡ b → ⊥)
    go true e = inl ((name_eq-Decides a b).0 e)
    go false e = inr (λ q. let d = (name_eq-Decides a b).1 q in cc (e, d))

-- ---- searching

-- names cut in two, where both parts can be told
abbrev Cut : (List Name → Type 0) → (List Name → Type 0) → List Name → Type 0
Cut P Q xs = (a : List Name) × (b : List Name) × (xs ≡ a ++ b) × P a × Q b

cut_or : (xs : List Name) (P Q : List Name → Type 0) → ((a : List Name) → P a ⊎ (P a → ⊥)) → ((b : List Name) → Q b ⊎ (Q b → ⊥)) → Cut P Q xs ⊎ (Cut P Q xs → ⊥)
cut_or [] P Q p q = go (p []) (q [])
  where
    parts : (a b : List Name) → [] ≡ a ++ b → (a ≡ []) × (b ≡ [])
    parts [] b e = (refl, sym e)
    parts (x ∷ a) b e = absurd (cc)

    go : P [] ⊎ (P [] → ⊥) → Q [] ⊎ (Q [] → ⊥) → Cut P Q [] ⊎ (Cut P Q [] → ⊥)
    go (inl h) (inl k) = inl ([], [], refl, h, k)
    go (inl h) (inr k) = inr (λ (c : Cut P Q []). k (subst (λ s. Q s) (parts c.0 c.1 c.2).1 c.4))
    go (inr h) k = inr (λ (c : Cut P Q []). h (subst (λ s. P s) (parts c.0 c.1 c.2).0 c.3))
cut_or (x ∷ xs) P Q p q = go (p []) (q (x ∷ xs)) (cut_or xs (λ a. P (x ∷ a)) Q (λ a. p (x ∷ a)) q)
  where
    neither : (P [] → Q (x ∷ xs) → ⊥) → (Cut (λ a. P (x ∷ a)) Q xs → ⊥) → (a b : List Name) → x ∷ xs ≡ a ++ b → P a → Q b → ⊥
    neither n m [] b e h k = n h (subst (λ s. Q s) (sym e) k)
    neither n m (y ∷ a) b e h k = let here : y ≡ x = cc in let rest : xs ≡ a ++ b = cc in m (a, b, rest, subst (λ s. P (s ∷ a)) here h, k)

    later : (P [] → Q (x ∷ xs) → ⊥) → Cut (λ a. P (x ∷ a)) Q xs ⊎ (Cut (λ a. P (x ∷ a)) Q xs → ⊥) → Cut P Q (x ∷ xs) ⊎ (Cut P Q (x ∷ xs) → ⊥)
    later n (inl c) = inl (x ∷ c.0, c.1, ap (λ s. x ∷ s) c.2, c.3, c.4)
    later n (inr m) = inr (λ (c : Cut P Q (x ∷ xs)). neither n m c.0 c.1 c.2 c.3 c.4)

    go : P [] ⊎ (P [] → ⊥) → Q (x ∷ xs) ⊎ (Q (x ∷ xs) → ⊥) → Cut (λ a. P (x ∷ a)) Q xs ⊎ (Cut (λ a. P (x ∷ a)) Q xs → ⊥) → Cut P Q (x ∷ xs) ⊎ (Cut P Q (x ∷ xs) → ⊥)
    go (inl h) (inl k) c = inl ([], x ∷ xs, refl, h, k)
    go (inl h) (inr k) c = later (λ _ f. k f) c
    go (inr h) k c = later (λ f _. h f) c

-- a number below n
abbrev Below : ℕ → (ℕ → Type 0) → Type 0
Below n P = (k : ℕ) × (k < n) × P k

below_or : (n : ℕ) (P : ℕ → Type 0) → ((k : ℕ) → P k ⊎ (P k → ⊥)) → Below n P ⊎ (Below n P → ⊥)
below_or zero P p = inr (λ (b : Below 0 P). let l = b.1 in omega arith)
below_or (suc n) P p = go (p n) (below_or n P p)
  where
    last : (P n → ⊥) → (Below n P → ⊥) → (k : ℕ) → k < suc n → P k → (k < n) ⊎ ((k ≡ n) ⊎ (n < k)) → ⊥
    last f g k l h (inl o) = g (k, o, h)
    last f g k l h (inr (inl e)) = f (subst P e h)
    last f g k l h (inr (inr o)) = omega arith

    go : P n ⊎ (P n → ⊥) → Below n P ⊎ (Below n P → ⊥) → Below (suc n) P ⊎ (Below (suc n) P → ⊥)
    go (inl h) c = inl (n, omega arith, h)
    go (inr f) (inl b) = let l = b.1 in inl (b.0, omega arith, b.2)
    go (inr f) (inr g) = inr (λ (b : Below (suc n) P). last f g b.0 b.1 b.2 (three b.0 n))

at_most_or : (k n : ℕ) → (k ≤ n) ⊎ (k ≤ n → ⊥)
at_most_or k n = elim (three k n) [ inl h ↦ inl (omega arith) | inr h ↦ elim h [ inl e ↦ inl (omega arith) | inr l ↦ inr (λ m. omega arith) ] ]

within_or : (least : ℕ) (most : Option ℕ) (k : ℕ) → Within least most k ⊎ (Within least most k → ⊥)
within_or least None k = at_most_or least k
within_or least (Some most) k = go (at_most_or least k) (at_most_or k most)
  where
    go : (least ≤ k) ⊎ (least ≤ k → ⊥) → (k ≤ most) ⊎ (k ≤ most → ⊥) → Within least (Some most) k ⊎ (Within least (Some most) k → ⊥)
    go (inl h) (inl g) = inl (h, g)
    go (inl h) (inr g) = inr (λ (w : (least ≤ k) × (k ≤ most)). g w.1)
    go (inr h) g = inr (λ (w : (least ≤ k) × (k ≤ most)). h w.0)

both_or : (P Q : Type 0) → P ⊎ (P → ⊥) → Q ⊎ (Q → ⊥) → (P × Q) ⊎ (P × Q → ⊥)
both_or P Q (inl h) (inl k) = inl (h, k)
both_or P Q (inl h) (inr k) = inr (λ (b : P × Q). k b.1)
both_or P Q (inr h) k = inr (λ (b : P × Q). h b.0)

-- ---- lists of leaves

-- some list of L has these names
abbrev pub Takes : (List Leaf → Type 0) → List Name → Type 0
Takes L xs = (w : List Leaf) × L w × (names w ≡ xs)

-- some list of L begins with these names
abbrev pub Fronts : (List Leaf → Type 0) → List Name → Type 0
Fronts L xs = (w : List Leaf) × (r : List Name) × L w × (names w ≡ xs ++ r)

pub record Told (L : List Leaf → Type 0) : Type 0 where
  pub takes : (xs : List Name) → Takes L xs ⊎ (Takes L xs → ⊥)
  pub fronts : (xs : List Name) → Fronts L xs ⊎ (Fronts L xs → ⊥)

told_nothing : Told (λ w. ⊥)
told_nothing = record {
  takes = λ xs. inr (λ (t : Takes (λ w. ⊥) xs). t.1);
  fronts = λ xs. inr (λ (t : Fronts (λ w. ⊥) xs). t.2);
}

told_none : Told (λ w. w ≡ [])
told_none = record { takes = takes; fronts = fronts }
  where
    named : (w : List Leaf) → w ≡ [] → names w ≡ []
    named w e = ap names e

    takes : (xs : List Name) → Takes (λ w. w ≡ []) xs ⊎ (Takes (λ w. w ≡ []) xs → ⊥)
    takes [] = inl ([], refl, refl)
    takes (x ∷ xs) = inr (λ (t : Takes (λ w. w ≡ []) (x ∷ xs)). let e = named t.0 t.1 in let d = t.2 in cc)

    fronts : (xs : List Name) → Fronts (λ w. w ≡ []) xs ⊎ (Fronts (λ w. w ≡ []) xs → ⊥)
    fronts [] = inl ([], [], refl, refl)
    fronts (x ∷ xs) = inr (λ (t : Fronts (λ w. w ≡ []) (x ∷ xs)). let e = named t.0 t.2 in let d = t.3 in cc)

told_leaf : (l : Leaf) → Told (λ w. w ≡ l ∷ [])
told_leaf l = record { takes = takes; fronts = fronts }
  where
    named : (w : List Leaf) → w ≡ l ∷ [] → names w ≡ l.name ∷ []
    named w e = ap names e

    one : (x : Name) (xs r : List Name) → x ∷ xs ++ r ≡ l.name ∷ [] → (l.name ≡ x) × (xs ≡ [])
    one x [] r e = (cc, refl)
    one x (y ∷ xs) r e = absurd (cc)

    takes : (xs : List Name) → Takes (λ w. w ≡ l ∷ []) xs ⊎ (Takes (λ w. w ≡ l ∷ []) xs → ⊥)
    takes [] = inr (λ (t : Takes (λ w. w ≡ l ∷ []) []). let e = named t.0 t.1 in let d = t.2 in cc)
    takes (x ∷ y ∷ xs) = inr (λ (t : Takes (λ w. w ≡ l ∷ []) (x ∷ y ∷ xs)). let e = named t.0 t.1 in let d = t.2 in cc)
    takes (x ∷ []) = go (same_name l.name x)
      where
        go : (l.name ≡ x) ⊎ (l.name ≡ x → ⊥) → Takes (λ w. w ≡ l ∷ []) (x ∷ []) ⊎ (Takes (λ w. w ≡ l ∷ []) (x ∷ []) → ⊥)
        go (inl e) = inl (l ∷ [], refl, ap (λ s. s ∷ []) e)
        go (inr f) = inr (λ (t : Takes (λ w. w ≡ l ∷ []) (x ∷ [])). f (let e = named t.0 t.1 in let d = t.2 in cc))

    fronts : (xs : List Name) → Fronts (λ w. w ≡ l ∷ []) xs ⊎ (Fronts (λ w. w ≡ l ∷ []) xs → ⊥)
    fronts [] = inl (l ∷ [], l.name ∷ [], refl, refl)
    fronts (x ∷ xs) = go (same_name l.name x) xs
      where
        go : (l.name ≡ x) ⊎ (l.name ≡ x → ⊥) → (xs : List Name) → Fronts (λ w. w ≡ l ∷ []) (x ∷ xs) ⊎ (Fronts (λ w. w ≡ l ∷ []) (x ∷ xs) → ⊥)
        go (inl e) [] = inl (l ∷ [], [], refl, ap (λ s. s ∷ []) e)
        go (inl e) (y ∷ xs) = inr (λ (t : Fronts (λ w. w ≡ l ∷ []) (x ∷ y ∷ xs)). let k = (one x (y ∷ xs) t.1 (sym t.3 ∙ named t.0 t.2)).1 in cc)
        go (inr f) xs = inr (λ (t : Fronts (λ w. w ≡ l ∷ []) (x ∷ xs)). f (one x xs t.1 (sym t.3 ∙ named t.0 t.2)).0)

module _ (L M : List Leaf → Type 0) where
  abbrev Either : List Leaf → Type 0
  Either w = L w ⊎ M w

  told_either : Told L → Told M → Told Either
  told_either l m = record { takes = λ xs. takes xs (l.takes xs) (m.takes xs); fronts = λ xs. fronts xs (l.fronts xs) (m.fronts xs) }
    where
      not_takes : (xs : List Name) → (Takes L xs → ⊥) → (Takes M xs → ⊥) → (w : List Leaf) → Either w → names w ≡ xs → ⊥
      not_takes xs f g w (inl h) e = f (w, h, e)
      not_takes xs f g w (inr h) e = g (w, h, e)

      takes : (xs : List Name) → Takes L xs ⊎ (Takes L xs → ⊥) → Takes M xs ⊎ (Takes M xs → ⊥) → Takes Either xs ⊎ (Takes Either xs → ⊥)
      takes xs (inl t) k = inl (t.0, inl t.1, t.2)
      takes xs (inr f) (inl t) = inl (t.0, inr t.1, t.2)
      takes xs (inr f) (inr g) = inr (λ (t : Takes Either xs). not_takes xs f g t.0 t.1 t.2)

      not_fronts : (xs r : List Name) → (Fronts L xs → ⊥) → (Fronts M xs → ⊥) → (w : List Leaf) → Either w → names w ≡ xs ++ r → ⊥
      not_fronts xs r f g w (inl h) e = f (w, r, h, e)
      not_fronts xs r f g w (inr h) e = g (w, r, h, e)

      fronts : (xs : List Name) → Fronts L xs ⊎ (Fronts L xs → ⊥) → Fronts M xs ⊎ (Fronts M xs → ⊥) → Fronts Either xs ⊎ (Fronts Either xs → ⊥)
      fronts xs (inl t) k = inl (t.0, t.1, inl t.2, t.3)
      fronts xs (inr f) (inl t) = inl (t.0, t.1, inr t.2, t.3)
      fronts xs (inr f) (inr g) = inr (λ (t : Fronts Either xs). not_fronts xs t.1 f g t.0 t.2 t.3)

-- of two lists that are cut in two, one front goes on with the other
pub meet : (a b c d : List Name) → a ++ b ≡ c ++ d → ((m : List Name) × (a ≡ c ++ m)) ⊎ ((m : List Name) × (c ≡ a ++ m) × (b ≡ m ++ d))
meet a b [] d e = inl (a, refl)
meet [] b (y ∷ c) d e = inr (y ∷ c, refl, e)
meet (x ∷ a) b (y ∷ c) d e =
    let here : x ≡ y = cc in
    let rest : a ++ b ≡ c ++ d = cc in
    go (meet a b c d rest) here
  where
    go : ((m : List Name) × (a ≡ c ++ m)) ⊎ ((m : List Name) × (c ≡ a ++ m) × (b ≡ m ++ d)) → x ≡ y
        → ((m : List Name) × (x ∷ a ≡ y ∷ c ++ m)) ⊎ ((m : List Name) × (y ∷ c ≡ x ∷ a ++ m) × (b ≡ m ++ d))
    go (inl (m, k)) here = inl (m, cc)
    go (inr (m, k, f)) here = inr (m, cc, f)

module _ (L M : List Leaf → Type 0) where
  abbrev Behind : List Leaf → Type 0
  Behind w = (x : List Leaf) × (y : List Leaf) × (w ≡ x ++ y) × L x × M y

  told_behind : Told L → Told M → (w : List Leaf) × M w → Told Behind
  told_behind l m some = record {
    takes = λ xs. takes xs (cut_or xs (Takes L) (Takes M) l.takes m.takes);
    fronts = λ xs. fronts xs (l.fronts xs) (cut_or xs (Takes L) (Fronts M) l.takes m.fronts);
  }
    where
      takes : (xs : List Name) → Cut (Takes L) (Takes M) xs ⊎ (Cut (Takes L) (Takes M) xs → ⊥) → Takes Behind xs ⊎ (Takes Behind xs → ⊥)
      takes xs (inl (a, b, e, (w, h, n), (v, k, o))) = inl (w ++ v, (w, v, refl, h, k), names-append w v ∙ rw (n, o) (sym e))
      takes xs (inr f) = inr (λ (t : Takes Behind xs). not_takes t.0 t.1 t.2)
        where
          not_takes : (w : List Leaf) → Behind w → names w ≡ xs → ⊥
          not_takes w (x, y, e, h, k) n = f (names x, names y, sym n ∙ ap names e ∙ names-append x y, (x, h, refl), (y, k, refl))

      fronts : (xs : List Name) → Fronts L xs ⊎ (Fronts L xs → ⊥) → Cut (Takes L) (Fronts M) xs ⊎ (Cut (Takes L) (Fronts M) xs → ⊥) → Fronts Behind xs ⊎ (Fronts Behind xs → ⊥)
      fronts xs (inl (w, r, h, n)) c =
          inl (w ++ some.0, r ++ names some.0, (w, some.0, refl, h, some.1), names-append w some.0 ∙ ap (λ s. s ++ names some.0) n ∙ append_assoc xs r (names some.0))
      fronts xs (inr f) (inl (a, b, e, (w, h, n), (v, r, k, o))) =
          inl (w ++ v, r, (w, v, refl, h, k), names-append w v ∙ rw (n, o) (sym (append_assoc a b r) ∙ ap (λ s. s ++ r) (sym e)))
      fronts xs (inr f) (inr g) = inr (λ (t : Fronts Behind xs). not_fronts t.0 t.1 t.2 t.3)
        where
          met : (x y : List Leaf) (r : List Name) → L x → M y → ((m : List Name) × (names x ≡ xs ++ m)) ⊎ ((m : List Name) × (xs ≡ names x ++ m) × (names y ≡ m ++ r)) → ⊥
          met x y r h k (inl (q, d)) = f (x, q, h, d)
          met x y r h k (inr (q, d, o)) = g (names x, q, d, (x, h, refl), (y, r, k, o))

          not_fronts : (w : List Leaf) (r : List Name) → Behind w → names w ≡ xs ++ r → ⊥
          not_fronts w r (x, y, e, h, k) n = met x y r h k (meet (names x) (names y) xs r (sym (names-append x y) ∙ ap names (sym e) ∙ n))

-- ---- occurrences

module _ (B : ℕ → List Leaf → Type 0) (told : (i : ℕ) → Told (B i)) (some : (i : ℕ) → (w : List Leaf) × B i w) where
  some_times : (k i : ℕ) → (w : List Leaf) × Times B k i w
  some_times zero i = ([], refl)
  some_times (suc k) i = let one = some i in let rest = some_times k (suc i) in (one.0 ++ rest.0, (one.0, rest.0, refl, one.1, rest.1))

  told_times : (k i : ℕ) → Told (Times B k i)
  told_times zero i = told_none
  told_times (suc k) i = told_behind (B i) (Times B k (suc i)) (told i) (told_times k (suc i)) (some_times k (suc i))

  -- so many occurrences in front
  times_cut : (j k i : ℕ) (w : List Leaf) → j ≤ k → Times B k i w → (x : List Leaf) × (y : List Leaf) × (w ≡ x ++ y) × Times B j i x
  times_cut zero k i w l h = ([], w, refl, refl)
  times_cut (suc j) zero i w l h = absurd (omega (arith, l))
  times_cut (suc j) (suc k) i w l (v, u, e, here, rest) =
      let c = times_cut j k (suc i) u (omega (arith, l)) rest in
      (v ++ c.0, c.1, e ∙ ap (λ s. v ++ s) c.2 ∙ sym (append_assoc v c.0 c.1), (v, c.0, refl, here, c.3))

  module _ (full : (i : ℕ) (w : List Leaf) → B i w → 1 ≤ length (names w)) where
    times_long : (k i : ℕ) (w : List Leaf) → Times B k i w → k ≤ length (names w)
    times_long zero i w h = omega arith
    times_long (suc k) i w (v, u, e, here, rest) =
        let n : names w ≡ names v ++ names u = ap names e ∙ names-append v u in
        rw (n, length-append (names v) (names u)) (omega (arith, full i v here, times_long k (suc i) u rest))

    -- where names begin so many occurrences, they begin a few of them
    fewer : (j k : ℕ) (xs : List Name) → j ≤ k → length xs ≤ j → Fronts (Times B k 0) xs → Fronts (Times B j 0) xs
    fewer j k xs l m (w, r, h, n) = go (times_cut j k 0 w l h)
      where
        go : (x : List Leaf) × (y : List Leaf) × (w ≡ x ++ y) × Times B j 0 x → Fronts (Times B j 0) xs
        go (x, y, e, t) = met (meet (names x) (names y) xs r (sym (names-append x y) ∙ ap names (sym e) ∙ n))
          where
            no_more : (q : List Name) → xs ≡ names x ++ q → q ≡ []
            no_more [] d = refl
            no_more (z ∷ q) d = absurd (omega (arith, m, times_long j 0 x t, ap length d ∙ length-append (names x) (z ∷ q)))

            met : ((q : List Name) × (names x ≡ xs ++ q)) ⊎ ((q : List Name) × (xs ≡ names x ++ q) × (names y ≡ q ++ r)) → Fronts (Times B j 0) xs
            met (inl (q, d)) = (x, q, t, d)
            met (inr (q, d, o)) = (x, [], t, sym (append-nil (names x)) ∙ ap (λ s. names x ++ s) (sym (no_more q d)) ∙ sym d ∙ sym (append-nil xs))

  module _ (least : ℕ) (most : Option ℕ) (bounded : ((least ≡ 1) × (most ≡ Some 1)) ⊎ ((i : ℕ) (w : List Leaf) → B i w → 1 ≤ length (names w))) where
    abbrev KTakes : List Name → ℕ → Type 0
    KTakes xs k = Within least most k × Takes (Times B k 0) xs

    abbrev KFronts : List Name → ℕ → Type 0
    KFronts xs k = Within least most k × Fronts (Times B k 0) xs

    once : (k : ℕ) → (least ≡ 1) × (most ≡ Some 1) → Within least most k → k ≡ 1
    once k one h = within_one k (rw (one.0, one.1) at h)

    takes_below : (xs : List Name) (k : ℕ) → Within least most k → Takes (Times B k 0) xs
        → ((least ≡ 1) × (most ≡ Some 1)) ⊎ ((i : ℕ) (w : List Leaf) → B i w → 1 ≤ length (names w)) → k < length xs + 2
    takes_below xs k h t (inl one) = omega (arith, once k one h)
    takes_below xs k h (w, t, n) (inr full) = omega (arith, times_long full k 0 w t, ap length n)

    fronts_below : (xs : List Name) (k : ℕ) → Within least most k → Fronts (Times B k 0) xs
        → ((least ≡ 1) × (most ≡ Some 1)) ⊎ ((i : ℕ) (w : List Leaf) → B i w → 1 ≤ length (names w)) → Below (least + length xs + 2) (KFronts xs)
    fronts_below xs k h t (inl one) = (k, omega (arith, once k one h), (h, t))
    fronts_below xs k h t (inr full) = go (at_most_or k (least + length xs))
      where
        within : (most : Option ℕ) → Within least most k → least + length xs ≤ k → Within least most (least + length xs)
        within None h l = omega arith
        within (Some most) h l = (omega arith, omega (arith, h.1))

        go : (k ≤ least + length xs) ⊎ (k ≤ least + length xs → ⊥) → Below (least + length xs + 2) (KFronts xs)
        go (inl l) = (k, omega (arith, l), (h, t))
        go (inr f) = let l : least + length xs ≤ k = elim (three k (least + length xs)) [ inl o ↦ absurd (f (omega (arith, o))) | inr o ↦ elim o [ inl e ↦ omega (arith, e) | inr g ↦ omega (arith, g) ] ] in
            (least + length xs, omega arith, (within most h l, fewer full (least + length xs) k xs l (omega arith) t))

    told_repeats : Told (Repeats B least most)
    told_repeats = record {
      takes = λ xs. takes xs (below_or (length xs + 2) (KTakes xs) (λ k. both_or (Within least most k) (Takes (Times B k 0) xs) (within_or least most k) ((told_times k 0).takes xs)));
      fronts = λ xs. fronts xs (below_or (least + length xs + 2) (KFronts xs) (λ k. both_or (Within least most k) (Fronts (Times B k 0) xs) (within_or least most k) ((told_times k 0).fronts xs)));
    }
      where
        takes : (xs : List Name) → Below (length xs + 2) (KTakes xs) ⊎ (Below (length xs + 2) (KTakes xs) → ⊥) → Takes (Repeats B least most) xs ⊎ (Takes (Repeats B least most) xs → ⊥)
        takes xs (inl (k, l, (h, (w, t, n)))) = inl (w, (k, h, t), n)
        takes xs (inr f) = inr (λ (t : Takes (Repeats B least most) xs). f (t.1.0, takes_below xs t.1.0 t.1.1 (t.0, t.1.2, t.2) bounded, (t.1.1, (t.0, t.1.2, t.2))))

        fronts : (xs : List Name) → Below (least + length xs + 2) (KFronts xs) ⊎ (Below (least + length xs + 2) (KFronts xs) → ⊥)
            → Fronts (Repeats B least most) xs ⊎ (Fronts (Repeats B least most) xs → ⊥)
        fronts xs (inl (k, l, (h, (w, r, t, n)))) = inl (w, r, (k, h, t), n)
        fronts xs (inr f) = inr (λ (t : Fronts (Repeats B least most) xs). f (fronts_below xs t.2.0 t.2.1 (t.0, t.1, t.2.2, t.3) bounded))

-- ---- any order

told_same : (L M : List Leaf → Type 0) → ((w : List Leaf) → L w → M w) → ((w : List Leaf) → M w → L w) → Told L → Told M
told_same L M there back l = record { takes = λ xs. takes xs (l.takes xs); fronts = λ xs. fronts xs (l.fronts xs) }
  where
    takes : (xs : List Name) → Takes L xs ⊎ (Takes L xs → ⊥) → Takes M xs ⊎ (Takes M xs → ⊥)
    takes xs (inl (w, h, e)) = inl (w, there w h, e)
    takes xs (inr f) = inr (λ (t : Takes M xs). f (t.0, back t.0 t.1, t.2))

    fronts : (xs : List Name) → Fronts L xs ⊎ (Fronts L xs → ⊥) → Fronts M xs ⊎ (Fronts M xs → ⊥)
    fronts xs (inl (w, r, h, e)) = inl (w, r, there w h, e)
    fronts xs (inr f) = inr (λ (t : Fronts M xs). f (t.0, t.1, back t.0 t.2, t.3))

module _ (path : List Turn) where
  -- of a particle's lists it can be told, and there is one
  abbrev Known : Particle × ℕ → Type 0
  Known q = Told (Lang q.0 q.1 path) × ((w : List Leaf) × Lang q.0 q.1 path w)

  abbrev EachKnown : Particles → ℕ → Type 0
  EachKnown none n = Unit {0}
  EachKnown (more p ps) n = Known (p, n) × EachKnown ps (n + size_of p)

  abbrev RowKnown : List (Particle × ℕ) → Type 0
  RowKnown [] = Unit {0}
  RowKnown (q ∷ qs) = Known q × RowKnown qs

  abbrev RowsKnown : List (List (Particle × ℕ)) → Type 0
  RowsKnown [] = Unit {0}
  RowsKnown (r ∷ rs) = RowKnown r × RowsKnown rs

  prefixed_known : (q : Particle × ℕ) (rs : List (List (Particle × ℕ))) → Known q → RowsKnown rs → RowsKnown (prefixed q rs)
  prefixed_known q [] k h = tt
  prefixed_known q (r ∷ rs) k h = ((k, h.0), prefixed_known q rs k h.1)

  inserted_known : (q : Particle × ℕ) (rs : List (Particle × ℕ)) → Known q → RowKnown rs → RowsKnown (inserted q rs)
  inserted_known q [] k h = ((k, tt), tt)
  inserted_known q (r ∷ rs) k h = ((k, h), prefixed_known r (inserted q rs) h.0 (inserted_known q rs k h.1))

  both_known : (fs gs : List (List (Particle × ℕ))) → RowsKnown fs → RowsKnown gs → RowsKnown (fs ++ gs)
  both_known [] gs h k = k
  both_known (f ∷ fs) gs h k = (h.0, both_known fs gs h.1 k)

  inserts_known : (q : Particle × ℕ) (rs : List (List (Particle × ℕ))) → Known q → RowsKnown rs → RowsKnown (inserted_each q rs)
  inserts_known q [] k h = tt
  inserts_known q (r ∷ rs) k h = both_known (inserted q r) (inserted_each q rs) (inserted_known q r k h.0) (inserts_known q rs k h.1)

  orders_known : (ps : Particles) (n : ℕ) → EachKnown ps n → RowsKnown (orders ps n)
  orders_known none n h = (tt, tt)
  orders_known (more p ps) n h = inserts_known (p, n) (orders ps (n + size_of p)) h.0 (orders_known ps (n + size_of p) h.1)

  some_row : (qs : List (Particle × ℕ)) → RowKnown qs → (w : List Leaf) × Row path qs w
  some_row [] h = ([], refl)
  some_row (q ∷ qs) h = let rest = some_row qs h.1 in (h.0.1.0 ++ rest.0, (h.0.1.0, rest.0, refl, h.0.1.1, rest.1))

  told_row : (qs : List (Particle × ℕ)) → RowKnown qs → Told (Row path qs)
  told_row [] h = told_none
  told_row (q ∷ qs) h = told_behind (Lang q.0 q.1 path) (Row path qs) h.0.0 (told_row qs h.1) (some_row qs h.1)

  told_rows : (rs : List (List (Particle × ℕ))) → RowsKnown rs → Told (AnyRow path rs)
  told_rows [] h = told_nothing
  told_rows (r ∷ rs) h = told_either (Row path r) (AnyRow path rs) (told_row r h.0) (told_rows rs h.1)

-- ---- particles

opens_full : (first : List Name) (e : Bool) (xs : List Name) → e ≡ false → Opens first e xs → 1 ≤ length xs
opens_full first e [] f h = absurd (cc)
opens_full first e (x ∷ xs) f h = omega arith

bounds_of : (t : Term) (n : ℕ) (path : List Turn) (least : ℕ) (most : Option ℕ) → Rule1 t least most
    → ((least ≡ 1) × (most ≡ Some 1)) ⊎ ((i : ℕ) (w : List Leaf) → Body t n (path ++ turn_of n i ∷ []) w → 1 ≤ length (names w))
bounds_of t n path least most (inl one) = inl one
bounds_of t n path least most (inr full) =
    inr (λ i w b. opens_full (first_of_term t) (empties_term t) (names w) full (body_opens t n (path ++ turn_of n i ∷ []) w b))

mutual
  pub told_list : (p : Particle) (follow : List Name) (n : ℕ) (path : List Turn) → Clear p follow → MayOccur p → Told (Lang p n path)
  told_list (occurs t least most) follow n path c s =
      told_repeats (λ i. Body t n (path ++ turn_of n i ∷ []))
      (λ i. told_body t (follow_of_body follow t most) n (path ++ turn_of n i ∷ []) c.4 s.1)
      (λ i. some_body t n (path ++ turn_of n i ∷ []) s.1) least most (bounds_of t n path least most c.0)

  told_body : (t : Term) (follow : List Name) (n : ℕ) (path : List Turn) → ClearBelow t follow → TermMayOccur t → Told (Body t n path)
  told_body (element d a) follow n path c s = told_leaf (leaf_at n d a path)
  told_body (sequence ps) follow n path c s = told_order ps follow (suc n) path c s
  told_body (choice ps) follow n path c s = told_one ps follow (suc n) path c s.1
  told_body (all ps) follow n path c s =
      told_same (AnyRow path (orders ps (suc n))) (Body (all ps) n path) (rows_order path ps (suc n)) (rows_of path ps (suc n))
      (told_rows path (orders ps (suc n)) (orders_known path ps (suc n) (each_known ps (suc n) path c s)))

  told_order : (ps : Particles) (follow : List Name) (n : ℕ) (path : List Turn) → ClearInOrder ps follow → AllMayOccur ps → Told (InOrder ps n path)
  told_order none follow n path c s = told_none
  told_order (more p ps) follow n path c s =
      told_behind (Lang p n path) (InOrder ps (n + size_of p) path)
      (told_list p (and_then (first_in_order ps) (all_empty ps) follow) n path c.0 s.0) (told_order ps follow (n + size_of p) path c.1 s.1) (some_order ps (n + size_of p) path s.1)

  told_one : (ps : Particles) (follow : List Name) (n : ℕ) (path : List Turn) → ClearOneOf ps follow → AllMayOccur ps → Told (OneOf ps n path)
  told_one none follow n path c s = told_nothing
  told_one (more p ps) follow n path c s =
      told_either (Lang p n path) (OneOf ps (n + size_of p) path) (told_list p follow n path c.0 s.0) (told_one ps follow (n + size_of p) path c.1 s.1)

  each_known : (ps : Particles) (n : ℕ) (path : List Turn) → ClearOneOf ps [] → AllMayOccur ps → EachKnown path ps n
  each_known none n path c s = tt
  each_known (more p ps) n path c s = ((told_list p [] n path c.0 s.0, some_list p n path s.0), each_known ps (n + size_of p) path c.1 s.1)
