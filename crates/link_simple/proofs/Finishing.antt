-- All types are done, where as many steps as there are types do one more each.
use Rattle.std.proofs.Common.{◌≡◌, ℕ, zero, suc, ◌<◌, arith, Bool, true, false, List, [], ◌∷◌, length, replicate, refl, ap}
use Rattle.link_names.specs.Private.Searching.{mark, unseen}

pub none_unseen : (bs : List Bool) → unseen bs ≡ 0 → (n : ℕ) → n < length bs → mark bs n ≡ true
none_unseen [] none n lt = absurd (omega (arith, lt))
none_unseen (true ∷ bs) none zero lt = refl
none_unseen (true ∷ bs) none (suc n) lt = none_unseen bs none n (omega (arith, lt))
none_unseen (false ∷ bs) none n lt = absurd (omega (arith, none))

pub all_unseen : (k : ℕ) → unseen (replicate k false) ≡ k
all_unseen zero = refl
all_unseen (suc k) = ap suc (all_unseen k)
