-- One list of each particle in any order: one list of each in one of finitely many orders.
use Rattle.std.proofs.Common.{◌≡◌, ℕ, ◌+◌, ◌⊎◌, inl, inr, List, [], ◌∷◌, ◌++◌, refl, sym, ◌∙◌, ap, subst}
use Rattle.content_models.specs.Particle.{Particle, Particles, none, more}
use Rattle.content_models.specs.Language.{Turn, Leaf, joined, Lang, AnyOrder, size_of}

-- ---- orders of particles, each with its number

abbrev pub prefixed : Particle × ℕ → List (List (Particle × ℕ)) → List (List (Particle × ℕ))
prefixed q [] = []
prefixed q (r ∷ rs) = (q ∷ r) ∷ prefixed q rs

-- the particle at each place among others
abbrev pub inserted : Particle × ℕ → List (Particle × ℕ) → List (List (Particle × ℕ))
inserted q [] = (q ∷ []) ∷ []
inserted q (r ∷ rs) = (q ∷ r ∷ rs) ∷ prefixed r (inserted q rs)

abbrev pub inserted_each : Particle × ℕ → List (List (Particle × ℕ)) → List (List (Particle × ℕ))
inserted_each q [] = []
inserted_each q (r ∷ rs) = inserted q r ++ inserted_each q rs

abbrev pub orders : Particles → ℕ → List (List (Particle × ℕ))
orders none n = [] ∷ []
orders (more p ps) n = inserted_each (p, n) (orders ps (n + size_of p))

module _ (path : List Turn) where
  -- a list of each, in this order
  abbrev pub Row : List (Particle × ℕ) → List Leaf → Type 0
  Row [] w = w ≡ []
  Row (q ∷ qs) w = (x : List Leaf) × (y : List Leaf) × (w ≡ x ++ y) × Lang q.0 q.1 path x × Row qs y

  abbrev pub AnyRow : List (List (Particle × ℕ)) → List Leaf → Type 0
  AnyRow [] w = ⊥
  AnyRow (r ∷ rs) w = Row r w ⊎ AnyRow rs w

  -- the same of the lists one by one
  abbrev Line : List (Particle × ℕ) → List (List Leaf) → Type 0
  Line [] xs = xs ≡ []
  Line (q ∷ qs) xs = (x : List Leaf) × (rest : List (List Leaf)) × (xs ≡ x ∷ rest) × Lang q.0 q.1 path x × Line qs rest

  abbrev AnyLine : List (List (Particle × ℕ)) → List (List Leaf) → Type 0
  AnyLine [] xs = ⊥
  AnyLine (r ∷ rs) xs = Line r xs ⊎ AnyLine rs xs

  line_row : (qs : List (Particle × ℕ)) (xs : List (List Leaf)) → Line qs xs → Row qs (joined xs)
  line_row [] xs h = ap joined h
  line_row (q ∷ qs) xs (x, rest, e, h, t) = (x, joined rest, ap joined e, h, line_row qs rest t)

  row_line : (qs : List (Particle × ℕ)) (w : List Leaf) → Row qs w → (xs : List (List Leaf)) × (w ≡ joined xs) × Line qs xs
  row_line [] w h = ([], h, refl)
  row_line (q ∷ qs) w (x, y, e, h, t) =
      let rest = row_line qs y t in
      (x ∷ rest.0, e ∙ ap (λ z. x ++ z) rest.1, (x, rest.0, refl, h, rest.2))

  lines_rows : (rs : List (List (Particle × ℕ))) (xs : List (List Leaf)) → AnyLine rs xs → AnyRow rs (joined xs)
  lines_rows [] xs h = absurd h
  lines_rows (r ∷ rs) xs (inl h) = inl (line_row r xs h)
  lines_rows (r ∷ rs) xs (inr h) = inr (lines_rows rs xs h)

  rows_lines : (rs : List (List (Particle × ℕ))) (w : List Leaf) → AnyRow rs w → (xs : List (List Leaf)) × (w ≡ joined xs) × AnyLine rs xs
  rows_lines [] w h = absurd h
  rows_lines (r ∷ rs) w (inl h) = let l = row_line r w h in (l.0, l.1, inl l.2)
  rows_lines (r ∷ rs) w (inr h) = let l = rows_lines rs w h in (l.0, l.1, inr l.2)

  front_line : (fs gs : List (List (Particle × ℕ))) (xs : List (List Leaf)) → AnyLine fs xs → AnyLine (fs ++ gs) xs
  front_line [] gs xs h = absurd h
  front_line (a ∷ fs) gs xs (inl h) = inl h
  front_line (a ∷ fs) gs xs (inr h) = inr (front_line fs gs xs h)

  later_line : (fs gs : List (List (Particle × ℕ))) (xs : List (List Leaf)) → AnyLine gs xs → AnyLine (fs ++ gs) xs
  later_line [] gs xs h = h
  later_line (a ∷ fs) gs xs h = inr (later_line fs gs xs h)

  either_line : (fs gs : List (List (Particle × ℕ))) (xs : List (List Leaf)) → AnyLine (fs ++ gs) xs → AnyLine fs xs ⊎ AnyLine gs xs
  either_line [] gs xs h = inr h
  either_line (a ∷ fs) gs xs (inl h) = inl (inl h)
  either_line (a ∷ fs) gs xs (inr h) = elim (either_line fs gs xs h) [ inl k ↦ inl (inr k) | inr k ↦ inr k ]

  prefixed_has : (q : Particle × ℕ) (x : List Leaf) (rs : List (List (Particle × ℕ))) (xs : List (List Leaf)) → Lang q.0 q.1 path x → AnyLine rs xs
      → AnyLine (prefixed q rs) (x ∷ xs)
  prefixed_has q x [] xs l h = absurd h
  prefixed_has q x (r ∷ rs) xs l (inl h) = inl (x, xs, refl, l, h)
  prefixed_has q x (r ∷ rs) xs l (inr h) = inr (prefixed_has q x rs xs l h)

  prefixed_was : (q : Particle × ℕ) (rs : List (List (Particle × ℕ))) (xs : List (List Leaf)) → AnyLine (prefixed q rs) xs
      → (x : List Leaf) × (rest : List (List Leaf)) × (xs ≡ x ∷ rest) × Lang q.0 q.1 path x × AnyLine rs rest
  prefixed_was q [] xs h = absurd h
  prefixed_was q (r ∷ rs) xs (inl (x, rest, e, l, h)) = (x, rest, e, l, inl h)
  prefixed_was q (r ∷ rs) xs (inr h) = let k = prefixed_was q rs xs h in (k.0, k.1, k.2, k.3, inr k.4)

  inserted_has : (q : Particle × ℕ) (x : List Leaf) (rs : List (Particle × ℕ)) (ys zs : List (List Leaf)) → Lang q.0 q.1 path x → Line rs (ys ++ zs)
      → AnyLine (inserted q rs) (ys ++ x ∷ zs)
  inserted_has q x [] [] zs l h = inl (x, zs, refl, l, h)
  inserted_has q x [] (y ∷ ys) zs l h = absurd (cc)
  inserted_has q x (r ∷ rs) [] zs l h = inl (x, zs, refl, l, h)
  inserted_has q x (r ∷ rs) (y ∷ ys) zs l (u, rest, e, k, t) =
      let same : u ≡ y = cc in
      let behind : rest ≡ ys ++ zs = cc in
      inr (prefixed_has r y (inserted q rs) (ys ++ x ∷ zs) (subst (Lang r.0 r.1 path) same k) (inserted_has q x rs ys zs l (subst (Line rs) behind t)))

  inserted_was : (q : Particle × ℕ) (rs : List (Particle × ℕ)) (xs : List (List Leaf)) → AnyLine (inserted q rs) xs
      → (ys : List (List Leaf)) × (x : List Leaf) × (zs : List (List Leaf)) × (xs ≡ ys ++ x ∷ zs) × Lang q.0 q.1 path x × Line rs (ys ++ zs)
  inserted_was q [] xs (inl (x, rest, e, l, h)) = ([], x, rest, e, l, h)
  inserted_was q [] xs (inr h) = absurd h
  inserted_was q (r ∷ rs) xs (inl (x, rest, e, l, h)) = ([], x, rest, e, l, h)
  inserted_was q (r ∷ rs) xs (inr h) =
      let k = prefixed_was r (inserted q rs) xs h in
      let i = inserted_was q rs k.1 k.4 in
      (k.0 ∷ i.0, i.1, i.2, k.2 ∙ ap (λ z. k.0 ∷ z) i.3, i.4, (k.0, i.0 ++ i.2, refl, k.3, i.5))

  each_has : (q : Particle × ℕ) (x : List Leaf) (rs : List (List (Particle × ℕ))) (ys zs : List (List Leaf)) → Lang q.0 q.1 path x → AnyLine rs (ys ++ zs)
      → AnyLine (inserted_each q rs) (ys ++ x ∷ zs)
  each_has q x [] ys zs l h = absurd h
  each_has q x (r ∷ rs) ys zs l (inl h) = front_line (inserted q r) (inserted_each q rs) (ys ++ x ∷ zs) (inserted_has q x r ys zs l h)
  each_has q x (r ∷ rs) ys zs l (inr h) = later_line (inserted q r) (inserted_each q rs) (ys ++ x ∷ zs) (each_has q x rs ys zs l h)

  each_was : (q : Particle × ℕ) (rs : List (List (Particle × ℕ))) (xs : List (List Leaf)) → AnyLine (inserted_each q rs) xs
      → (ys : List (List Leaf)) × (x : List Leaf) × (zs : List (List Leaf)) × (xs ≡ ys ++ x ∷ zs) × Lang q.0 q.1 path x × AnyLine rs (ys ++ zs)
  each_was q [] xs h = absurd h
  each_was q (r ∷ rs) xs h =
      elim (either_line (inserted q r) (inserted_each q rs) xs h) [
        | inl k ↦ let i = inserted_was q r xs k in (i.0, i.1, i.2, i.3, i.4, inl i.5)
        | inr k ↦ let i = each_was q rs xs k in (i.0, i.1, i.2, i.3, i.4, inr i.5)
      ]

  lines_of : (ps : Particles) (n : ℕ) (xs : List (List Leaf)) → AnyOrder ps n path xs → AnyLine (orders ps n) xs
  lines_of none n xs h = inl h
  lines_of (more p ps) n xs (ys, x, zs, e, l, h) =
      subst (AnyLine (orders (more p ps) n)) (sym e) (each_has (p, n) x (orders ps (n + size_of p)) ys zs l (lines_of ps (n + size_of p) (ys ++ zs) h))

  order_of : (ps : Particles) (n : ℕ) (xs : List (List Leaf)) → AnyLine (orders ps n) xs → AnyOrder ps n path xs
  order_of none n xs (inl h) = h
  order_of none n xs (inr h) = absurd h
  order_of (more p ps) n xs h =
      let k = each_was (p, n) (orders ps (n + size_of p)) xs h in
      (k.0, k.1, k.2, k.3, k.4, order_of ps (n + size_of p) (k.0 ++ k.2) k.5)

  pub rows_of : (ps : Particles) (n : ℕ) (w : List Leaf) → (xs : List (List Leaf)) × (w ≡ joined xs) × AnyOrder ps n path xs → AnyRow (orders ps n) w
  rows_of ps n w (xs, e, h) = subst (AnyRow (orders ps n)) (sym e) (lines_rows (orders ps n) xs (lines_of ps n xs h))

  pub rows_order : (ps : Particles) (n : ℕ) (w : List Leaf) → AnyRow (orders ps n) w → (xs : List (List Leaf)) × (w ≡ joined xs) × AnyOrder ps n path xs
  rows_order ps n w h = let k = rows_lines (orders ps n) w h in (k.0, k.1, order_of ps n k.0 k.2)
