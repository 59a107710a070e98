-- The whole of a short text.
use Rattle.std.proofs.Common.{◌≡◌, ℕ, zero, suc, ◌+◌, ◌<◌, min, List, length, drop, IsUtf8, ◌∙◌, ap, arith}

-- where nothing is left out at first, the first end is the whole
pub whole_end : (text part : List ℕ) (from cut n : ℕ) → from ≡ 0 → n ≡ min (from + cut) (length text) → part ≡ drop n text → (0 < cut → IsUtf8 (drop from text) → ⊥) → IsUtf8 text → part ≡ text
whole_end text part from zero n f k p never u = let none : n ≡ 0 = omega (arith, f, k) in p ∙ ap (λ m. drop m text) none
whole_end text part from (suc cut) n f k p never u = absurd (never (omega arith) (rw f u))
