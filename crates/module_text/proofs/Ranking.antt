-- What stands in the order of its ranks is listed rank by rank as it stands.
use Rattle.std.proofs.Common.{◌≡◌, ℕ, zero, suc, ◌<◌, ◌≤◌, ◌+◌, true, false, inl, inr, List, [], ◌∷◌, ◌++◌, refl, ap, subst, ◌∙◌, arith, append_assoc}
use Rattle.std.specs.Prelude.{◌==◌, if◌then◌else◌}
use Rattle.std.specs.List.{flat_map}
use Rattle.std.proofs.lemmas.Bool.{ne_eqb, eq-eqb, cases_eq}

module _ {A : Type 0} (rank : A → ℕ) (text : A → List ℕ) where
  abbrev pub if_at : ℕ → A → List ℕ
  if_at place m = if rank m == place then text m else []

  abbrev pub at_rank : List A → ℕ → List ℕ
  at_rank ms place = flat_map (if_at place) ms

  -- in the order of their ranks, which are no less than this one
  abbrev pub AreFrom : ℕ → List A → Type 0
  AreFrom k [] = Unit {0}
  AreFrom k (m ∷ ms) = (k ≤ rank m) × AreFrom (rank m) ms

  -- and less than that
  abbrev pub AreBelow : ℕ → List A → Type 0
  AreBelow n [] = Unit {0}
  AreBelow n (m ∷ ms) = (rank m < n) × AreBelow n ms

  -- so many ranks from one on
  abbrev pub up : ℕ → ℕ → List ℕ
  up k zero = []
  up k (suc n) = k ∷ up (suc k) n

  weaken : (j k : ℕ) (ms : List A) → j ≤ k → AreFrom k ms → AreFrom j ms
  weaken j k [] le h = tt
  weaken j k (m ∷ ms) le h = (omega (arith, h.0), h.1)

  none_below : (j k : ℕ) (ms : List A) → j < k → AreFrom k ms → at_rank ms j ≡ []
  none_below j k [] lt h = refl
  none_below j k (m ∷ ms) lt h =
      let least : k ≤ rank m = h.0 in
      let apart : (rank m == j) ≡ false = ne_eqb (rank m) j (λ e. omega (arith, e, least, lt)) in
      rw apart (none_below j (rank m) ms (omega (arith, least, lt)) h.1)

  skipped : (m : A) (ms : List A) (n k : ℕ) → rank m < k → flat_map (at_rank (m ∷ ms)) (up k n) ≡ flat_map (at_rank ms) (up k n)
  skipped m ms zero k lt = refl
  skipped m ms (suc n) k lt =
      let apart : (rank m == k) ≡ false = ne_eqb (rank m) k (λ e. omega (arith, e, lt)) in
      rw apart (ap (λ rest. at_rank ms k ++ rest) (skipped m ms n (suc k) (omega (arith, lt))))

  nothing : (n k : ℕ) → flat_map (at_rank []) (up k n) ≡ []
  nothing zero k = refl
  nothing (suc n) k = nothing n (suc k)

  -- with one rank more, where it is so with those behind it
  one_more : (n k : ℕ)
      → ((ms : List A) → AreFrom (suc k) ms → AreBelow (suc k + n) ms → flat_map (at_rank ms) (up (suc k) n) ≡ flat_map text ms)
      → (ms : List A) → AreFrom k ms → AreBelow (k + suc n) ms → flat_map (at_rank ms) (up k (suc n)) ≡ flat_map text ms
  one_more n k behind [] h b = nothing (suc n) k
  one_more n k behind (m ∷ ms) h b =
      elim (cases_eq (rank m) k) [
        | inl here ↦
            let at : (rank m == k) ≡ true = eq-eqb (rank m) k here in
            let least : k ≤ rank m = h.0 in
            rw at
            (ap (λ rest. (text m ++ at_rank ms k) ++ rest) (skipped m ms n (suc k) (omega (arith, here)))
            ∙ append_assoc (text m) (at_rank ms k) (flat_map (at_rank ms) (up (suc k) n))
            ∙ ap (λ rest. text m ++ rest) (one_more n k behind ms (weaken k (rank m) ms least h.1) b.1))
        | inr other ↦
            let least : k ≤ rank m = h.0 in
            let more : AreFrom (suc k) (m ∷ ms) = (omega (arith, least, other), h.1) in
            let size : k + suc n ≡ suc k + n = omega arith in
            rw (none_below k (suc k) (m ∷ ms) (omega arith) more) (behind (m ∷ ms) more (let P : ℕ → Type 0 = λ bound. AreBelow bound (m ∷ ms) in subst P size b))
      ]

  pub listed : (n k : ℕ) (ms : List A) → AreFrom k ms → AreBelow (k + n) ms → flat_map (at_rank ms) (up k n) ≡ flat_map text ms
  listed zero k [] h b = refl
  listed zero k (m ∷ ms) h b = let least : k ≤ rank m = h.0 in let most : rank m < k + 0 = b.0 in absurd (omega (arith, least, most))
  listed (suc n) k ms h b = one_more n k (listed n (suc k)) ms h b
