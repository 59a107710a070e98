-- Lists in braces, written item by item.
use Rattle.std.proofs.Common.{◌≡◌, ℕ, suc, ◌+◌, List, [], ◌∷◌, ◌++◌, ◌<◌, length, codes, refl, sym, ◌∙◌, ap, append_assoc, add-one, arith}
use Rattle.std.proofs.lemmas.List.{append-nil}
use Rattle.module_print.specs.Notation.{comma, listed, new_line, block}

-- the items from this number on, each with the comma before it
abbrev pub listed_from : List ℕ → ℕ → List (List ℕ) → List ℕ
listed_from before i [] = []
listed_from before i (item ∷ items) = (comma i ++ before ++ item) ++ listed_from before (suc i) items

behind : (before : List ℕ) (i : ℕ) (item : List ℕ) (items : List (List ℕ)) → listed_from before (suc i) (item ∷ items) ≡ 44 ∷ listed before (item ∷ items)
behind before i item [] = ap (λ t. 44 ∷ t) (append-nil (before ++ item))
behind before i item (next ∷ items) = ap (λ t. 44 ∷ ((before ++ item) ++ t)) (behind before (suc i) next items)

pub listed_from-all : (before : List ℕ) (items : List (List ℕ)) → listed_from before 0 items ≡ listed before items
listed_from-all before [] = refl
listed_from-all before (item ∷ []) = append-nil (before ++ item)
listed_from-all before (item ∷ next ∷ items) = ap (λ t. (before ++ item) ++ t) (behind before 0 next items)

-- one item more is written
pub listed-step : (before out after whole : List ℕ) (i : ℕ) (item : List ℕ) (items others : List (List ℕ)) → items ≡ item ∷ others
    → after ≡ ((out ++ comma i) ++ before) ++ item → out ++ listed_from before i items ≡ whole → after ++ listed_from before (i + 1) others ≡ whole
listed-step before out after whole i item items others here is so_far =
    ap (λ o. o ++ listed_from before (i + 1) others) is
    ∙ ap (λ n. (((out ++ comma i) ++ before) ++ item) ++ listed_from before n others) (add-one i)
    ∙ regroup out (comma i) before item (listed_from before (suc i) others)
    ∙ ap (λ xs. out ++ listed_from before i xs) (sym here)
    ∙ so_far
  where
    regroup : (a b c d e : List ℕ) → (((a ++ b) ++ c) ++ d) ++ e ≡ a ++ ((b ++ c ++ d) ++ e)
    regroup a b c d e = simp append_assoc

-- all items are written
pub listed-end : (before old opening started out closing : List ℕ) (i : ℕ) (items left : List (List ℕ)) → left ≡ [] → started ≡ old ++ opening
    → out ++ listed_from before i left ≡ started ++ listed_from before 0 items → out ++ closing ≡ old ++ (opening ++ listed before items ++ closing)
listed-end before old opening started out closing i items left none_left begun so_far =
    let done : out ≡ (old ++ opening) ++ listed before items =
    sym (append-nil out) ∙ ap (λ xs. out ++ listed_from before i xs) (sym none_left) ∙ so_far ∙ ap (λ s. s ++ listed_from before 0 items) begun
    ∙ ap (λ t. (old ++ opening) ++ t) (listed_from-all before items) in
    ap (λ o. o ++ closing) done ∙ regroup old opening (listed before items) closing
  where
    regroup : (a b c d : List ℕ) → ((a ++ b) ++ c) ++ d ≡ a ++ ((b ++ c) ++ d)
    regroup a b c d = simp append_assoc

-- a block that isn't empty
pub block-some : (levels : ℕ) (items : List (List ℕ)) → 0 < length items
    → ((codes "{" ++ listed (new_line (suc levels)) items) ++ new_line levels) ++ codes "}" ≡ block levels items
block-some levels [] some = absurd (omega arith)
block-some levels (item ∷ items) some = refl
