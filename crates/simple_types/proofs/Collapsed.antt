-- What a collapsed text writes, by its words.
use Rattle.std.proofs.Common.{◌≡◌, ◌≢◌, ℕ, Bool, true, false, not, ◌&&◌, cond, List, [], ◌∷◌, ◌++◌, refl, sym, ap, None, length, drop}
use Rattle.std.specs.Prelude.{◌==◌, bytes_eq, codes}
use Rattle.std.specs.List.{join_with_byte, list_all}
use Rattle.std.proofs.lemmas.Bool.{true≢false}
use Rattle.base_texts.specs.declared.white_space.WhiteSpace.TheVariants.{Collapse}
use Rattle.base_texts.specs.WhiteSpace.{has_bytes, words_of, treated}
use Rattle.base_texts.proofs.WordLaws.{word_has}
use Rattle.base_texts.specs.Digits.{is_digit, is_numeral}
use Rattle.simple_types.specs.Lexical.{whole_number, boolean_of}
use Rattle.simple_types.specs.Written.{Writes}
use Rattle.simple_types.proofs.WholeNumbers.{and-first, and-second, unwritten}

pub one_word : (text word : List ℕ) → words_of text ≡ word ∷ [] → treated Collapse text ≡ word
unfolding treated
one_word text word is = rw is refl

and-false : (a : Bool) → (a && false) ≡ false
and-false true = refl
and-false false = refl

-- the digits stop at a space
space_stops : (front behind : List ℕ) → list_all is_digit (front ++ 0x20 ∷ behind) ≡ false
space_stops [] behind = refl
space_stops (b ∷ bs) behind = rw (space_stops bs behind) (and-false (is_digit b))

no_numeral : (front behind : List ℕ) → is_numeral (front ++ 0x20 ∷ behind) ≡ false
no_numeral [] behind = refl
no_numeral (b ∷ bs) behind = space_stops (b ∷ bs) behind

after_sign : (b : ℕ) (bs behind : List ℕ) (minus plus : Bool) → is_numeral (cond minus (drop 1 ((b ∷ bs) ++ 0x20 ∷ behind)) (drop (cond plus 1 0) ((b ∷ bs) ++ 0x20 ∷ behind))) ≡ false
after_sign b bs behind true plus = no_numeral bs behind
after_sign b bs behind false true = no_numeral bs behind
after_sign b bs behind false false = no_numeral (b ∷ bs) behind

spaced_writes_none : (word behind : List ℕ) → has_bytes word ≡ true → Writes None (whole_number (word ++ 0x20 ∷ behind))
spaced_writes_none [] behind has = absurd (true≢false (sym has))
spaced_writes_none (b ∷ bs) behind has = unwritten ((b ∷ bs) ++ 0x20 ∷ behind) (after_sign b bs behind _ _)

-- a text without a space is none with one
abbrev is_spaceless : List ℕ → Bool
is_spaceless text = list_all (λ b. not (b == 0x20)) text

pub not-false : (b : Bool) → not b ≡ true → b ≡ false
not-false true e = sym e
not-false false e = refl

unequal : (text word behind : List ℕ) → is_spaceless text ≡ true → bytes_eq text (word ++ 0x20 ∷ behind) ≡ false
unequal [] [] behind spaceless = refl
unequal [] (w ∷ ws) behind spaceless = refl
unequal (t ∷ ts) [] behind spaceless = rw (not-false (t == 0x20) (and-first (not (t == 0x20)) (is_spaceless ts) spaceless)) refl
unequal (t ∷ ts) (w ∷ ws) behind spaceless = rw (unequal ts ws behind (and-second (not (t == 0x20)) (is_spaceless ts) spaceless)) (and-false (t == w))

spaced_is_none : (word behind : List ℕ) → has_bytes word ≡ true → None ≡ boolean_of (word ++ 0x20 ∷ behind)
spaced_is_none word behind has =
    rw (unequal (codes "true") word behind refl, unequal (codes "1") word behind refl, unequal (codes "false") word behind refl, unequal (codes "0") word behind refl) refl

many_words : (P : List ℕ → Type 0) (text : List ℕ) → length (words_of text) ≢ 1 → P [] → ((word behind : List ℕ) → has_bytes word ≡ true → P (word ++ 0x20 ∷ behind)) → P (treated Collapse text)
unfolding treated
many_words P text not_one none some = by (words_of text) refl
  where
    by : (ws : List (List ℕ)) → words_of text ≡ ws → P (join_with_byte 0x20 (words_of text))
    by [] is = rw is none
    by (w ∷ []) is = absurd (not_one (ap length is))
    by (w ∷ v ∷ ws) is = rw is (some w (join_with_byte 0x20 (v ∷ ws)) (word_has text w (v ∷ ws) is))

pub many_write_none : (text : List ℕ) → length (words_of text) ≢ 1 → Writes None (whole_number (treated Collapse text))
many_write_none text not_one = many_words (λ t. Writes None (whole_number t)) text not_one (unwritten [] refl) spaced_writes_none

pub many_are_none : (text : List ℕ) → length (words_of text) ≢ 1 → None ≡ boolean_of (treated Collapse text)
many_are_none text not_one = many_words (λ t. None ≡ boolean_of t) text not_one refl spaced_is_none
