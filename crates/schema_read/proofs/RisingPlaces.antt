-- Lists of places, each greater than the one before.
use Rattle.std.proofs.Common.{◌≡◌, ℕ, ◌+◌, ◌<◌, ◌≤◌, true, List, [], ◌∷◌, ◌++◌, length, refl, arith, nat_lt}
use Rattle.schema_read.proofs.Words.{lt-ltb, and_from, follow, ascend}

-- from the first number on and below the second one
abbrev pub Rise : ℕ → ℕ → List ℕ → Type 0
Rise least end [] = least ≤ end
Rise least end (p ∷ ps) = (least ≤ p) × Rise (p + 1) end ps

pub rise_le : (least end : ℕ) (ps : List ℕ) → Rise least end ps → least ≤ end
rise_le least end [] h = h
rise_le least end (p ∷ ps) h = let le = h.0 in let k = rise_le (p + 1) end ps h.1 in omega (arith, le, k)

pub rise_lower : (less least end : ℕ) (ps : List ℕ) → less ≤ least → Rise least end ps → Rise less end ps
rise_lower less least end [] le h = omega (arith, le, h)
rise_lower less least end (p ∷ ps) le h = (let k = h.0 in omega (arith, le, k), h.1)

pub rise_append : (least middle end : ℕ) (ps qs : List ℕ) → Rise least middle ps → Rise middle end qs → Rise least end (ps ++ qs)
rise_append least middle end [] qs h g = rise_lower least middle end qs h g
rise_append least middle end (p ∷ ps) qs h g = (h.0, rise_append (p + 1) middle end ps qs h.1 g)

follows : (p least end : ℕ) (ps : List ℕ) → p < least → Rise least end ps → follow p ps ≡ true
follows p least end [] lt h = refl
follows p least end (q ∷ ps) lt h =
    let le = h.0 in
    and_from (nat_lt p q) (follow q ps) (lt-ltb p q (omega (arith, lt, le))) (follows q (q + 1) end ps (omega arith) h.1)

pub rise_ascend : (least end : ℕ) (ps : List ℕ) → Rise least end ps → ascend ps ≡ true
rise_ascend least end [] h = refl
rise_ascend least end (p ∷ ps) h = follows p (p + 1) end ps (omega arith) h.1

pub rise_length : (least end : ℕ) (ps : List ℕ) → Rise least end ps → least + length ps ≤ end
rise_length least end [] h = omega (arith, h)
rise_length least end (p ∷ ps) h = let le = h.0 in let k = rise_length (p + 1) end ps h.1 in omega (arith, le, k)
