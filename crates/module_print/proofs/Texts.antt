-- Texts that are written piece by piece.
use Rattle.std.proofs.Common.{◌≡◌, ℕ, zero, suc, ◌+◌, ◌<◌, List, ◌∷◌, ◌++◌, length, drop, get_or, codes, refl, sym, ◌∙◌, ap, append_assoc, add-one}
use Rattle.std.specs.List.{flat_map}
use Rattle.std.proofs.lemmas.List.{drop_more}
use Rattle.module_print.specs.Notation.{commented, indent}

pub drop-item : {A : Type 0} (xs : List A) (i : ℕ) (x : A) → i < length xs → x ≡ get_or xs i x → drop i xs ≡ x ∷ drop (i + 1) xs
drop-item xs i x at here = drop_more xs i x at ∙ ap (λ y. y ∷ drop (i + 1) xs) (sym here)

write-next : {A : Type 0} (f : A → List ℕ) (before after whole : List ℕ) (items others : List A) (x : A) → items ≡ x ∷ others → after ≡ before ++ f x
    → before ++ flat_map f items ≡ whole → after ++ flat_map f others ≡ whole
write-next f before after whole items others x here is so_far =
    ap (λ o. o ++ flat_map f others) is
    ∙ append_assoc before (f x) (flat_map f others)
    ∙ ap (λ ys. before ++ flat_map f ys) (sym here)
    ∙ so_far

-- one item more is written
pub write-item : {A : Type 0} (f : A → List ℕ) (before after whole : List ℕ) (xs : List A) (i : ℕ) (x : A)
    → i < length xs → x ≡ get_or xs i x → after ≡ before ++ f x
    → before ++ flat_map f (drop i xs) ≡ whole → after ++ flat_map f (drop (i + 1) xs) ≡ whole
write-item f before after whole xs i x at here is so_far =
    write-next f before after whole (drop i xs) (drop (i + 1) xs) x (drop-item xs i x at here) is so_far

-- the same, where the item is a number
pub write-number : (f : ℕ → List ℕ) (before after whole : List ℕ) (xs : List ℕ) (i : ℕ)
    → i < length xs → after ≡ before ++ f (get_or xs i 0)
    → before ++ flat_map f (drop i xs) ≡ whole → after ++ flat_map f (drop (i + 1) xs) ≡ whole
write-number f before after whole xs i at is so_far =
    write-next f before after whole (drop i xs) (drop (i + 1) xs) (get_or xs i 0) (drop_more xs i 0 at) is so_far

-- one level more
pub indent-more : (levels : ℕ) → indent levels ++ codes "    " ≡ indent (levels + 1)
indent-more levels = by levels ∙ ap indent (sym (add-one levels))
  where
    by : (n : ℕ) → indent n ++ codes "    " ≡ indent (suc n)
    by zero = refl
    by (suc n) = ap (λ t. codes "    " ++ t) (by n)

-- a fixed value in its comment
pub fixed-written : (old octets begun mid out : List ℕ) → begun ≡ old ++ codes " (CONSTRAINED BY {/* fixed " → mid ≡ begun ++ octets → out ≡ mid ++ codes " */})"
    → out ≡ old ++ commented (codes "fixed " ++ octets)
fixed-written old octets begun mid out first second third =
    third
    ∙ ap (λ o. o ++ codes " */})") (second ∙ ap (λ o. o ++ octets) first)
    ∙ regroup old (codes " (CONSTRAINED BY {/* fixed ") octets (codes " */})")
  where
    regroup : (a b c d : List ℕ) → ((a ++ b) ++ c) ++ d ≡ a ++ (b ++ (c ++ d))
    regroup a b c d = simp append_assoc
