-- The items of an ENUMERATED that stand for words: without a fault their identifiers differ, and the words ascend.
use Rattle.std.proofs.Common.{◌≡◌, ℕ, suc, Bool, true, false, ◌||◌, not, Option, Some, None, List, [], ◌∷◌, ◌++◌, length, refl, sym, ap, arith}
use Rattle.std.specs.Prelude.{bytes_eq, if◌then◌else◌}
use Rattle.std.proofs.lemmas.Bool.{true≢false}
use Rattle.module_text.specs.declared.types.PlainName.{PlainName}
use Rattle.module_text.specs.declared.reasons.ModuleWhy.TheVariants as why
use Rattle.module_text.specs.Listed.{unless}
use Rattle.module_text.specs.Told.{Said, told_name, words_said}
use Rattle.module_text.specs.Simple.{text_lt, texts_behind}
use Rattle.module_text.specs.Faults.{has_text, is_word_above, word_faults}
use Rattle.module_text.specs.Meaning.{names_of}
use Rattle.module_text.proofs.PrintedBounds.{unless-none, front-none, behind-none}
use Rattle.module_laws.proofs.NameLaws.{and-both}
use Rattle.module_laws.proofs.Firsts.{AreNew}

pub not-true : (b : Bool) → not b ≡ true → b ≡ false
not-true true e = absurd (true≢false (sym e))
not-true false e = refl

one_longer : (b : Bool) (i : PlainName) (t : Said) (others : List Said) (is : List PlainName) → length (words_said others is) ≡ length is → length (words_said (t ∷ others) is) ≡ length is
    → length (if b then told_name i.name t.text ∷ words_said others is else i.name ∷ words_said (t ∷ others) is) ≡ suc (length is)
one_longer true i t others is e f = ap suc e
one_longer false i t others is e f = ap suc f

-- one word for each identifier
pub words-long : (texts : List Said) (is : List PlainName) → length (words_said texts is) ≡ length is
words-long texts [] = refl
words-long [] (i ∷ is) = ap suc (words-long [] is)
words-long (t ∷ others) (i ∷ is) = one_longer (bytes_eq t.identifier i.name) i t others is (words-long others is) (words-long (t ∷ others) is)

pub record FineWords (before : List (List ℕ)) (last : Option (List ℕ)) (order : Bool) (is : List PlainName) (words : List (List ℕ)) : Type 0 where
  pub new : AreNew before (names_of is)
  pub ascend : order ≡ false → texts_behind last words ≡ true

behind_more : (last : Option (List ℕ)) (word : List ℕ) (words : List (List ℕ)) → is_word_above last word ≡ true → texts_behind (Some word) words ≡ true
    → texts_behind last (word ∷ words) ≡ true
behind_more None word words e f = f
behind_more (Some before) word words e f = and-both (text_lt before word) (texts_behind (Some word) words) e f

ordered_word : (order above : Bool) → (order || above) ≡ true → order ≡ false → above ≡ true
ordered_word true above e f = absurd (true≢false f)
ordered_word false above e f = e

pub words-fine : (order : Bool) (before : List (List ℕ)) (last : Option (List ℕ)) (is : List PlainName) (words : List (List ℕ))
    → length words ≡ length is → word_faults order before last is words ≡ [] → FineWords before last order is words
words-fine order before last [] [] long e = record { new = tt; ascend = λ f. refl }
words-fine order before last [] (word ∷ words) long e = absurd (cc)
words-fine order before last (i ∷ is) [] long e = absurd (cc)
words-fine order before last (i ∷ is) (word ∷ words) long e =
    let others = word_faults order (before ++ i.name ∷ []) (Some word) is words in
    let rest = words-fine order (before ++ i.name ∷ []) (Some word) is words (omega (arith, long)) (behind-none _ others e) in
    let both = front-none _ others e in
    let fresh = unless-none (not (has_text before i.name)) i.at why.Duplicate (front-none _ _ both) in
    let above = unless-none (order || is_word_above last word) i.at why.Spelling (behind-none (unless (not (has_text before i.name)) i.at why.Duplicate) _ both) in
    record {
      new = (not-true (has_text before i.name) fresh, rest.new);
      ascend = λ f. behind_more last word words (ordered_word order (is_word_above last word) above f) (rest.ascend f);
    }
