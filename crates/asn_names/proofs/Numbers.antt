-- Names are at least as many as the suffixes that are taken.
use Rattle.std.proofs.Common.{◌≡◌, ℕ, suc, ◌+◌, ◌-◌, ◌<◌, ◌≤◌, List, [], ◌∷◌, length, get_or, sym, ap, ◌∙◌, arith, inl, inr, ◌⊎◌}
use Rattle.std.specs.Prelude.{◌^◌}
use Rattle.std.proofs.lemmas.Bool.{cases_lt}
use Rattle.std.proofs.lemmas.Fmt.{decimal_injective}
use Rattle.std.proofs.lemmas.List.{append_cancel_left, get_or_default}
use Rattle.indexmap.proofs.IndexTableLemmas.Probe.{pigeonhole}
use Rattle.asn_names.specs.Taking.{AreTakenBelow, suffixed}

suffixed_injective : (name : List ℕ) (m n : ℕ) → m < 2 ^ 64 → n < 2 ^ 64 → suffixed name m ≡ suffixed name n → m ≡ n
suffixed_injective name m n small low same = decimal_injective m n small low (digits (append_cancel_left name _ _ same))
  where
    digits : {b : ℕ} {xs ys : List ℕ} → b ∷ xs ≡ b ∷ ys → xs ≡ ys
    digits e = cc

-- where the name with the suffix k + 1 stands
abbrev place : (names : List (List ℕ)) (name : List ℕ) (n : ℕ) → AreTakenBelow names name n → (k : ℕ) → (suc k < n) ⊎ (n ≤ suc k) → ℕ
place names name n taken k (inl below) = (taken (suc k) (omega arith) below).0
place names name n taken k (inr past) = 0

place-within : (names : List (List ℕ)) (name : List ℕ) (n : ℕ) (taken : AreTakenBelow names name n) (k : ℕ) (s : (suc k < n) ⊎ (n ≤ suc k)) → suc k < n
    → place names name n taken k s < length names
place-within names name n taken k (inl below) less = (taken (suc k) (omega arith) below).1
place-within names name n taken k (inr past) less = absurd (omega arith)

place-holds : (names : List (List ℕ)) (name : List ℕ) (n : ℕ) (taken : AreTakenBelow names name n) (k : ℕ) (s : (suc k < n) ⊎ (n ≤ suc k)) → suc k < n
    → get_or names (place names name n taken k s) [] ≡ suffixed name (suc k)
place-holds names name n taken k (inl below) less =
    let h = taken (suc k) (omega arith) below in
    get_or_default names h.0 [] (suffixed name (suc k)) h.1 ∙ h.2
place-holds names name n taken k (inr past) less = absurd (omega arith)

pub taken-le : (names : List (List ℕ)) (name : List ℕ) (n : ℕ) → n ≤ 2 ^ 64 → AreTakenBelow names name n → n ≤ length names + 1
taken-le names name n small taken =
    let at : ℕ → ℕ = λ k. place names name n taken k (cases_lt (suc k) n) in
    let fewer : n - 1 ≤ length names = pigeonhole (n - 1) (length names) at
    (λ k less. place-within names name n taken k (cases_lt (suc k) n) (omega arith))
    (λ i j first second same.
    let e = suffixed_injective name (suc i) (suc j) (omega arith) (omega arith)
    (sym (place-holds names name n taken i (cases_lt (suc i) n) (omega arith))
    ∙ ap (λ p. get_or names p []) same
    ∙ place-holds names name n taken j (cases_lt (suc j) n) (omega arith)) in
    omega (arith, e)) in
    omega (arith, fewer)
