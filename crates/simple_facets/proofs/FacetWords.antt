-- The texts of facets by their words.
use Rattle.std.proofs.Common.{◌≡◌, ◌≢◌, ℕ, ◌<◌, ◌^◌, Bool, true, false, cond, List, [], ◌∷◌, refl, sym, ap, ◌∙◌, subst, arith, Ok, Err, length, drop}
use Rattle.std.specs.Prelude.{◌==◌, nat_lt, bytes_eq, codes}
use Rattle.std.specs.List.{list_all}
use Rattle.std.specs.Str.Parse.{IsNumeral, digits_value, without_leading_plus}
use Rattle.std.proofs.lemmas.Bool.{true≢false, ltb-true}
use Rattle.std.proofs.lemmas.Slice.Eq.{bytes_eq-Decides}
use Rattle.base_texts.specs.declared.white_space.WhiteSpace.TheVariants.{Collapse}
use Rattle.base_texts.specs.WhiteSpace.{is_white_space, words_of, treated, IsWord}
use Rattle.base_texts.proofs.WordLaws.{words_of-join, words_of-IsWord}
use Rattle.base_texts.specs.Digits.{is_digit, is_numeral}
use Rattle.simple_types.proofs.WholeNumbers.{and-first, not-true, numeral_is}
use Rattle.simple_types.proofs.Decimals.{numeral_word, digit_other}
use Rattle.simple_types.proofs.Again.{word_alone, plain_letters}
use Rattle.simple_facets.specs.declared.refusals.FacetWhy.TheVariants as why
use Rattle.simple_facets.specs.Applying.{length_in, length_of, treatment_in, treatment_of}

words_again : (text : List ℕ) → words_of (treated Collapse text) ≡ words_of text
unfolding treated
words_again text = words_of-join (words_of text) (words_of-IsWord text)

-- a text that is a word once collapsed has just that one
single : (text : List ℕ) → IsWord (treated Collapse text) → length (words_of text) ≡ 1
single text is = ap length (sym (words_again text) ∙ word_alone (treated Collapse text) is)

module _ (text : List ℕ) (others : length (words_of text) ≢ 1) where
  no_numeral : is_numeral (treated Collapse text) ≡ false
  no_numeral = not-true (is_numeral (treated Collapse text)) (λ numeral. others (single text (numeral_word (treated Collapse text) numeral)))

  pub no_length : Err why.BadNumber ≡ length_of text
  no_length = rw no_numeral refl

  unequal : (word : List ℕ) → IsWord word → bytes_eq (treated Collapse text) word ≡ false
  unequal word is = not-true (bytes_eq (treated Collapse text) word) (λ same. others (single text (subst IsWord (sym ((bytes_eq-Decides (treated Collapse text) word).0 same)) is)))

  preserve_word : IsWord (codes "preserve")
  unfolding is_white_space
  preserve_word = record { has = refl; plain = plain_letters (codes "preserve") refl }

  replace_word : IsWord (codes "replace")
  unfolding is_white_space
  replace_word = record { has = refl; plain = plain_letters (codes "replace") refl }

  collapse_word : IsWord (codes "collapse")
  unfolding is_white_space
  collapse_word = record { has = refl; plain = plain_letters (codes "collapse") refl }

  pub no_treatment : Err why.BadNumber ≡ treatment_of text
  no_treatment = rw (unequal (codes "preserve") preserve_word, unequal (codes "replace") replace_word, unequal (codes "collapse") collapse_word) refl

plusless : (digits : List ℕ) → is_numeral digits ≡ true → without_leading_plus digits ≡ digits
plusless [] e = absurd (true≢false (sym e))
plusless (c ∷ cs) e = rw (digit_other c 43 (and-first (is_digit c) (list_all is_digit cs) e) (omega arith)) refl

pub too_long : (digits : List ℕ) → is_numeral digits ≡ true → ¬ (IsNumeral 10 (without_leading_plus digits) × (digits_value 10 (without_leading_plus digits) < 2 ^ 32)) → Err why.TooWide ≡ length_in digits
too_long digits numeral never =
    let long : nat_lt (digits_value 10 digits) (2 ^ 32) ≡ false =
    not-true (nat_lt (digits_value 10 digits) (2 ^ 32))
    (λ short. never (subst (λ ds. IsNumeral 10 ds × (digits_value 10 ds < 2 ^ 32)) (sym (plusless digits numeral)) (numeral_is digits numeral, ltb-true (digits_value 10 digits) (2 ^ 32) short))) in
    rw (numeral, long) refl
