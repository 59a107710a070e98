-- The spelling of an item, found by its place.
use Rattle.std.proofs.Common.{◌≡◌, ℕ, zero, suc, ◌+◌, Bool, true, false, cond, Option, Some, None, List, [], ◌∷◌, refl, sym, ap, ◌∙◌, arith}
use Rattle.std.specs.Prelude.{bytes_eq, position, slice_get}
use Rattle.std.specs.List.{position_from}
use Rattle.std.specs.Option.{option_map, option_and_then}
use Rattle.std.proofs.lemmas.Iterator.Adapters.{position_from-zero}
use Rattle.module_text.specs.declared.types.NumberedItem.{NumberedItem}
use Rattle.module_text.specs.declared.types.PlainName.{PlainName}
use Rattle.module_text.specs.declared.types.PlainForm.{PlainForm}
use Rattle.module_text.specs.declared.types.PlainForm.TheVariants as form
use Rattle.module_text.specs.declared.types.PlainLabel.{PlainLabel}
use Rattle.module_text.specs.Told.{words_of}
use Rattle.module_text.specs.Defaults.{number_named, item_named, alternative_named}
use Rattle.module_pieces.specs.Indexed.{number_at, place_in, words_in}

-- ---- numbers

-- the first place, counted from one more
from-more : {X : Type 0} (p : X → Bool) (i : ℕ) (xs : List X) → position_from p (i + 1) xs ≡ option_map suc (position_from p i xs)
from-more p i [] = refl
from-more p i (x ∷ xs) = by_test (p x) (position_from p (i + 1 + 1) xs) (position_from p (i + 1) xs) (from-more p (i + 1) xs)
  where
    by_test : (b : Bool) (later sooner : Option ℕ) → later ≡ option_map suc sooner → cond b (Some (i + 1)) later ≡ option_map suc (cond b (Some i) sooner)
    by_test true later sooner e = let same : i + 1 ≡ suc i = omega arith in ap Some same
    by_test false later sooner e = e

behind_one : (item : NumberedItem) (items : List NumberedItem) (o : Option ℕ) → number_at (item ∷ items) (option_map suc o) ≡ number_at items o
behind_one item items None = refl
behind_one item items (Some i) = refl

module _ (identifier : List ℕ) where
  abbrev has : NumberedItem → Bool
  has item = bytes_eq item.identifier.name identifier

  number-from : (items : List NumberedItem) → number_named items identifier ≡ number_at items (position_from has 0 items)
  number-from [] = refl
  number-from (item ∷ items) =
      by_test (has item)
      (number-from items ∙ sym (behind_one item items (position_from has 0 items)) ∙ ap (number_at (item ∷ items)) (sym (from-more has 0 items)))
    where
      by_test : (b : Bool) → number_named items identifier ≡ number_at (item ∷ items) (position_from has (0 + 1) items)
          → cond b (Some item.number.written) (number_named items identifier) ≡ number_at (item ∷ items) (cond b (Some 0) (position_from has (0 + 1) items))
      by_test true e = refl
      by_test false e = e

  pub number-found : (items : List NumberedItem) → number_at items (position has items) ≡ number_named items identifier
  number-found items = ap (number_at items) (position_from-zero has items) ∙ sym (number-from items)

  -- ---- of a type

  pub found-number : (l : PlainLabel) (items : List NumberedItem) (o : Option ℕ) → l.form ≡ form.Numbers items → o ≡ place_in l.form identifier
      → number_at items o ≡ item_named l identifier
  found-number l items o is e =
      ap (number_at items) (e ∙ ap (λ f. place_in f identifier) is) ∙ number-found items ∙ sym (numbers l is)
    where
      numbers : (m : PlainLabel) → m.form ≡ form.Numbers items → item_named m identifier ≡ number_named items identifier
      numbers m is = rw is refl

  pub found-word : (l : PlainLabel) (identifiers : List PlainName) (words : List (List ℕ)) (o : Option ℕ) → l.form ≡ form.Words identifiers
      → words ≡ words_in l → o ≡ place_in l.form identifier → option_and_then (slice_get words) o ≡ item_named l identifier
  found-word l identifiers words o is told e =
      ap (option_and_then (slice_get words)) (e ∙ ap (λ f. place_in f identifier) is)
      ∙ ap (λ ws. option_and_then (slice_get ws) (place_in (form.Words identifiers) identifier)) (told ∙ so l is)
      ∙ sym (named l is)
    where
      so : (m : PlainLabel) → m.form ≡ form.Words identifiers → words_in m ≡ words_of m.marks identifiers
      so m is = rw is refl

      named : (m : PlainLabel) → m.form ≡ form.Words identifiers
          → item_named m identifier ≡ option_and_then (slice_get (words_of m.marks identifiers)) (place_in (form.Words identifiers) identifier)
      named m is = rw is refl
