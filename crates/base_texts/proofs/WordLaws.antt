-- Laws of the words of a text, for crates that read and write lists.
use Rattle.std.proofs.Common.{◌≡◌, ℕ, Bool, true, false, List, [], ◌∷◌, ◌++◌, refl, sym, ap, ◌∙◌, arith}
use Rattle.std.specs.Prelude.{filter}
use Rattle.std.specs.List.{slice_split, onto_first, join_with_byte, All}
use Rattle.std.proofs.lemmas.List.Elements.{All-nil, All-cons, All-head, All-tail, All-same, All-filter, filter_passes}
use Rattle.std.proofs.lemmas.List.Splits.{slice_split_none, slice_split_at}
use Rattle.base_texts.specs.WhiteSpace.{is_white_space, has_bytes, words_of, IsWord}

pub words_of-nil : words_of [] ≡ []
unfolding words_of
words_of-nil = refl

-- the parts between white space have none
abbrev IsPlain : List ℕ → Type 0
IsPlain part = All (λ b. is_white_space b ≡ false) part

onto_plain : (b : ℕ) (parts : List (List ℕ)) → is_white_space b ≡ false → All IsPlain parts → All IsPlain (onto_first b parts)
onto_plain b [] e each = All-cons IsPlain (b ∷ []) [] (All-cons (λ b. is_white_space b ≡ false) b [] e (All-nil (λ b. is_white_space b ≡ false))) each
onto_plain b (part ∷ parts) e each =
    All-cons IsPlain (b ∷ part) parts (All-cons (λ b. is_white_space b ≡ false) b part e (All-head IsPlain part parts each)) (All-tail IsPlain part parts each)

plain-cons : (b : ℕ) (bs : List ℕ) (w : Bool) → is_white_space b ≡ w → All IsPlain (slice_split is_white_space bs) → All IsPlain (slice_split is_white_space (b ∷ bs))
plain-cons b bs true e each = rw e (All-cons IsPlain [] (slice_split is_white_space bs) (All-nil (λ b. is_white_space b ≡ false)) each)
plain-cons b bs false e each = rw e (onto_plain b (slice_split is_white_space bs) e each)

plain : (bs : List ℕ) → All IsPlain (slice_split is_white_space bs)
plain [] = All-cons IsPlain [] [] (All-nil (λ b. is_white_space b ≡ false)) (All-nil IsPlain)
plain (b ∷ bs) = plain-cons b bs (is_white_space b) refl (plain bs)

-- the words of a text are words
pub words_of-IsWord : (bs : List ℕ) → All IsWord (words_of bs)
unfolding words_of
words_of-IsWord bs k d inside =
    record { has = filter_passes has_bytes (slice_split is_white_space bs) k d inside; plain = All-filter has_bytes IsPlain (slice_split is_white_space bs) (plain bs) k d inside }

-- so each has bytes
pub word_has : (bs word : List ℕ) (words : List (List ℕ)) → words_of bs ≡ word ∷ words → has_bytes word ≡ true
word_has bs word words is = (All-head IsWord word words (All-same IsWord (word ∷ words) (words_of bs) (sym is) (words_of-IsWord bs))).has

-- words joined by spaces are the words of the text
alone : (word : List ℕ) → IsWord word → words_of word ≡ word ∷ []
unfolding words_of
alone word is =
    let kept : filter has_bytes (word ∷ []) ≡ word ∷ [] = rw is.has refl in
    ap (filter has_bytes) (slice_split_none is_white_space word is.plain) ∙ kept

followed : (word rest : List ℕ) → IsWord word → words_of (word ++ 32 ∷ rest) ≡ word ∷ words_of rest
unfolding words_of is_white_space
followed word rest is =
    let kept : filter has_bytes (word ∷ slice_split is_white_space rest) ≡ word ∷ filter has_bytes (slice_split is_white_space rest) = rw is.has refl in
    ap (filter has_bytes) (slice_split_at is_white_space word 32 rest is.plain refl) ∙ kept

pub words_of-join : (words : List (List ℕ)) → All IsWord words → words_of (join_with_byte 32 words) ≡ words
words_of-join [] each = words_of-nil
words_of-join (word ∷ []) each = alone word (each 0 [] (omega arith))
words_of-join (word ∷ next ∷ words) each =
    followed word (join_with_byte 32 (next ∷ words)) (each 0 [] (omega arith))
    ∙ ap (λ l. word ∷ l) (words_of-join (next ∷ words) (All-tail IsWord word (next ∷ words) each))
