-- What a loop has collapsed so far, and the words to come.
use Rattle.std.proofs.Common.{◌≡◌, ℕ, ◌<◌, true, List, [], ◌∷◌, ◌++◌, length, refl, sym, ap, ◌∙◌, arith, append_assoc}
use Rattle.std.specs.List.{join_with_byte}
use Rattle.std.proofs.lemmas.List.{append-nil}
use Rattle.std.proofs.lemmas.Bool.{true≢false}
use Rattle.base_texts.specs.WhiteSpace.{has_bytes, words_of, treated}
use Rattle.base_texts.specs.declared.white_space.WhiteSpace.TheVariants.{Collapse}
use Rattle.base_texts.proofs.Collapsing.{spaced_words, join-cons}

abbrev pub joined : List ℕ → List (List ℕ) → List ℕ
joined [] words = join_with_byte 32 words
joined (b ∷ bs) words = (b ∷ bs) ++ spaced_words words

pub joined-nil : (out : List ℕ) → joined out [] ≡ out
joined-nil [] = refl
joined-nil (b ∷ bs) = append-nil (b ∷ bs)

-- the first word is added as it is
pub joins_first : (out word : List ℕ) (words : List (List ℕ)) → length out ≡ 0 → has_bytes word ≡ true → joined (out ++ word) words ≡ joined out (word ∷ words)
joins_first [] [] words empty has = absurd (true≢false (sym has))
joins_first [] (b ∷ bs) words empty has = sym (join-cons (b ∷ bs) words)
joins_first (c ∷ out) word words empty has = absurd (omega arith)

-- a further word is added behind a space
pub joins_further : (out word : List ℕ) (words : List (List ℕ)) → 0 < length out → joined ((out ++ 32 ∷ []) ++ word) words ≡ joined out (word ∷ words)
joins_further [] word words some = absurd (omega arith)
joins_further (c ∷ out) word words some =
    let apart : joined ((c ∷ out) ++ 32 ∷ [] ++ word) words ≡ ((c ∷ out) ++ 32 ∷ [] ++ word) ++ spaced_words words = refl in
    let moved : ((c ∷ out) ++ 32 ∷ [] ++ word) ++ spaced_words words ≡ (c ∷ out) ++ (32 ∷ (word ++ spaced_words words)) = simp append_assoc in
    apart ∙ moved ∙ ap (λ l. (c ∷ out) ++ (32 ∷ l)) (sym (join-cons word words))

-- nothing is collapsed so far
pub joined-start : (out bs : List ℕ) → out ≡ [] → joined out (words_of bs) ≡ treated Collapse bs
unfolding treated
joined-start out bs empty = ap (λ l. joined l (words_of bs)) empty
