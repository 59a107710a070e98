-- The bindings of an element, and those around it.
use Rattle.std.proofs.Common.{◌≡◌, ℕ, Bool, true, false, cond, List, [], ◌∷◌, ◌++◌, Option, Some, None, refl, ap, sym, ◌∙◌, bytes_eq}
use Rattle.std.specs.Option.{option_or}
use Rattle.base_texts.specs.Entries.{beside}

first_or : (b : Bool) (x : List ℕ) (m n : Option (List ℕ)) → option_or (cond b (Some x) m) n ≡ cond b (Some x) (option_or m n)
first_or true x m n = refl
first_or false x m n = refl

-- what the first bindings bind, or else the others
pub beside-append : (prefix : List ℕ) (xs ys : List (List ℕ × List ℕ)) → beside prefix (xs ++ ys) ≡ option_or (beside prefix xs) (beside prefix ys)
beside-append prefix [] ys = refl
beside-append prefix (x ∷ xs) ys =
    ap (λ m. cond (bytes_eq x.0 prefix) (Some x.1) m) (beside-append prefix xs ys) ∙ sym (first_or (bytes_eq x.0 prefix) x.1 (beside prefix xs) (beside prefix ys))

pub found_inside : (prefix : List ℕ) (xs ys : List (List ℕ × List ℕ)) (space : List ℕ) → Some space ≡ beside prefix xs → Some space ≡ beside prefix (xs ++ ys)
found_inside prefix xs ys space is = ap (λ m. option_or m (beside prefix ys)) is ∙ sym (beside-append prefix xs ys)

pub found_outside : (prefix : List ℕ) (xs ys : List (List ℕ × List ℕ)) → None ≡ beside prefix xs → beside prefix ys ≡ beside prefix (xs ++ ys)
found_outside prefix xs ys is = ap (λ m. option_or m (beside prefix ys)) is ∙ sym (beside-append prefix xs ys)
