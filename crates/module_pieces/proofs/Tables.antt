-- Tables of the first places of names.
use Rattle.std.proofs.Common.{◌≡◌, ℕ, zero, suc, ◌<◌, ◌≤◌, ◌+◌, Bool, true, false, cond, Option, Some, None, List, [], ◌∷◌, ◌++◌, length, take, get_or, refl, sym, ap, ◌∙◌, arith}
use Rattle.std.specs.Prelude.{bytes_eq, position, is_some, if◌then◌else◌}
use Rattle.std.specs.List.{position_from}
use Rattle.std.proofs.lemmas.List.{take_more, length-take-le}
use Rattle.std.proofs.lemmas.Iterator.Adapters.{position_from-zero}
use Rattle.std.proofs.lemmas.Slice.Eq.{bytes_eq-Decides}
use Rattle.module_pieces.specs.Indexed.{Notes}

-- ---- the first place in a list with one element more

abbrev pub or_last : Option ℕ → Bool → ℕ → Option ℕ
or_last (Some k) b n = Some k
or_last None b n = cond b (Some n) None

module _ {X : Type 0} (p : X → Bool) where
  here_or_behind : (b c : Bool) (i n : ℕ) (shorter longer : Option ℕ) → longer ≡ or_last shorter c (i + 1 + n)
      → cond b (Some i) longer ≡ or_last (cond b (Some i) shorter) c (i + suc n)
  here_or_behind true c i n shorter longer e = refl
  here_or_behind false c i n shorter longer e = let same : i + 1 + n ≡ i + suc n = omega arith in e ∙ ap (or_last shorter c) same

  from-push : (i : ℕ) (xs : List X) (x : X) → position_from p i (xs ++ x ∷ []) ≡ or_last (position_from p i xs) (p x) (i + length xs)
  from-push i [] x = let same : i ≡ i + 0 = omega arith in ap (λ n. cond (p x) (Some n) None) same
  from-push i (y ∷ ys) x = here_or_behind (p y) (p x) i (length ys) _ _ (from-push (i + 1) ys x)

  pub position-push : (xs : List X) (x : X) → position p (xs ++ x ∷ []) ≡ or_last (position p xs) (p x) (length xs)
  position-push xs x =
      let none_before : 0 + length xs ≡ length xs = omega arith in
      position_from-zero p (xs ++ x ∷ []) ∙ from-push 0 xs x
      ∙ ap (λ n. or_last (position_from p 0 xs) (p x) n) none_before
      ∙ ap (λ o. or_last o (p x) (length xs)) (sym (position_from-zero p xs))

last-none : (o : Option ℕ) (n : ℕ) → or_last o false n ≡ o
last-none None n = refl
last-none (Some k) n = refl

last-some : (o : Option ℕ) (b : Bool) (n : ℕ) → is_some o ≡ true → or_last o b n ≡ o
last-some None b n e = absurd (cc)
last-some (Some k) b n e = refl

last-new : (o : Option ℕ) (n : ℕ) → is_some o ≡ false → or_last o true n ≡ Some n
last-new None n e = refl
last-new (Some k) n e = absurd (cc)

same_bytes : (xs ys : List ℕ) → bytes_eq xs ys ≡ true → xs ≡ ys
same_bytes xs ys e = (bytes_eq-Decides xs ys).0 e

-- ---- places of elements by their names

module _ {X : Type 0} (name : X → List ℕ) where
  -- the place of the first element with this name
  abbrev pub place : List X → List ℕ → Option ℕ
  place xs r = position (λ x. bytes_eq (name x) r) xs

  -- one element more whose name stood before
  again_by : (xs : List X) (x : X) (r : List ℕ) (b : Bool) → bytes_eq (name x) r ≡ b → is_some (place xs (name x)) ≡ true
      → or_last (place xs r) b (length xs) ≡ place xs r
  again_by xs x r true e h = last-some (place xs r) true (length xs) (ap (λ t. is_some (place xs t)) (sym (same_bytes (name x) r e)) ∙ h)
  again_by xs x r false e h = last-none (place xs r) (length xs)

  place-again : (xs : List X) (x : X) (r : List ℕ) → is_some (place xs (name x)) ≡ true → place xs r ≡ place (xs ++ x ∷ []) r
  place-again xs x r h = sym (position-push (λ y. bytes_eq (name y) r) xs x ∙ again_by xs x r (bytes_eq (name x) r) refl h)

  -- and one whose name is new
  new_by : (xs : List X) (x : X) (r : List ℕ) (b : Bool) → bytes_eq (name x) r ≡ b → is_some (place xs (name x)) ≡ false
      → or_last (place xs r) b (length xs) ≡ cond b (Some (length xs)) (place xs r)
  new_by xs x r true e h = last-new (place xs r) (length xs) (ap (λ t. is_some (place xs t)) (sym (same_bytes (name x) r e)) ∙ h)
  new_by xs x r false e h = last-none (place xs r) (length xs)

  place-new : (xs : List X) (x : X) (r : List ℕ) → is_some (place xs (name x)) ≡ false
      → cond (bytes_eq (name x) r) (Some (length xs)) (place xs r) ≡ place (xs ++ x ∷ []) r
  place-new xs x r h = sym (position-push (λ y. bytes_eq (name y) r) xs x ∙ new_by xs x r (bytes_eq (name x) r) refl h)

  module _ (xs : List X) (i : ℕ) (x : X) (at : i < length xs) (here : x ≡ get_or xs i x) (old new : List ℕ → Option ℕ)
      (known : (r : List ℕ) → old r ≡ place (take i xs) r) (notes : Notes old (name x) i new) where
    with_one : take (i + 1) xs ≡ take i xs ++ x ∷ []
    with_one = take_more xs i x at ∙ ap (λ y. take i xs ++ y ∷ []) (sym here)

    long : length (take i xs) ≡ i
    long = length-take-le i xs (omega arith)

    noted_by : (b : Bool) → is_some (old (name x)) ≡ b → (r : List ℕ)
        → (if b then old r else (if bytes_eq (name x) r then Some i else old r)) ≡ place (take i xs ++ x ∷ []) r
    noted_by true e r = known r ∙ place-again (take i xs) x r (ap is_some (sym (known (name x))) ∙ e)
    noted_by false e r =
        ap (λ o. if bytes_eq (name x) r then Some i else o) (known r)
        ∙ ap (λ n. if bytes_eq (name x) r then Some n else place (take i xs) r) (sym long)
        ∙ place-new (take i xs) x r (ap is_some (sym (known (name x))) ∙ e)

    pub table-more : (r : List ℕ) → new r ≡ place (take (i + 1) xs) r
    table-more r = notes r ∙ noted_by (is_some (old (name x))) refl r ∙ ap (λ ys. place ys r) (sym with_one)

module _ (old : List ℕ → Option ℕ) (identifier : List ℕ) (i : ℕ) where
  pub notes-again : is_some (old identifier) ≡ true → Notes old identifier i old
  notes-again e r = ap (λ b. if b then old r else (if bytes_eq identifier r then Some i else old r)) (sym e)

  pub notes-new : (new : List ℕ → Option ℕ) → is_some (old identifier) ≡ false
      → ((r : List ℕ) → new r ≡ cond (bytes_eq identifier r) (Some i) (old r)) → Notes old identifier i new
  notes-new new e is r = is r ∙ rw e refl
