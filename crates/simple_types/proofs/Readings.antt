-- How readings are put together.
use Rattle.std.proofs.Common.{◌≡◌, ℕ, zero, suc, ◌+◌, ◌<◌, ◌≤◌, true, false, List, ◌∷◌, ◌++◌, refl, sym, ap, ◌∙◌, arith, Result, Ok, Err, length, drop, get_or, Option, ℤ, ◌-◌}
use Rattle.std.specs.Prelude.{◌==◌}
use Rattle.std.specs.List.Sorted.{IsStrictlySortedBy}
use Rattle.std.specs.Ordering.{nat_cmp, int_cmp}
use Rattle.std.specs.Cmp.Lexicographic.{slice_cmp}
use Rattle.std.proofs.Math.Seq.{drop-cons}
use Rattle.std.proofs.Math.ListN.{drop_of_length-le}
use Rattle.std.proofs.lemmas.Option.{slice_get-get_or}
use Rattle.base_trees.specs.Rose.{Rose, node, none as no_kids, more as with_kid}
use Rattle.simple_types.specs.declared.labels.ValueLabel.{ValueLabel}
use Rattle.simple_types.specs.declared.simples.Simple.{Simple}
use Rattle.simple_types.specs.declared.simples.Simple.TheVariants as variant
use Rattle.simple_types.specs.declared.labels.ValueLabel.TheVariants as label
use Rattle.base_texts.specs.declared.white_space.WhiteSpace.TheVariants.{Collapse}
use Rattle.base_texts.specs.WhiteSpace.{treated, words_of}
use Rattle.simple_types.specs.Space.{Space, Spaces, ListOf, UnionOf, count_members}
use Rattle.simple_types.specs.Seen.{space_of, spaces_in}
use Rattle.simple_types.specs.Sound.{Sound, IsCounted}
use Rattle.simple_types.proofs.Spellings.{spelled_by_member}
use Rattle.simple_types.specs.Reading.{Refusal, Wide, Bad, Taking, reads, read_each, taken_by, spelled, spelled_by, first_taking, taken_later, goes_on, settled, list_within, read_boolean, read_whole, read_number, read_word, read_characters}

-- values, and then those of what is read further
abbrev pub behind_values : List (Rose ValueLabel) → Result (List (Rose ValueLabel)) Refusal → Result (List (Rose ValueLabel)) Refusal
behind_values values (Ok further) = Ok (values ++ further)
behind_values values (Err why) = Err why

-- behind so many members that refuse
abbrev pub shifted : ℕ → Taking → Taking
shifted n (Ok taken) = Ok (n + taken.0, taken.1)
shifted n (Err why) = Err why

module _ (members : List Simple) (text : List ℕ) (i : ℕ) (d : Simple) (below : i < length members) where
  taken_at : taken_by (spaces_in (drop i members)) text ≡ first_taking (reads (space_of (get_or members i d)) text) (taken_by (spaces_in (drop (i + 1) members)) text)
  unfolding reads taken_by
  taken_at =
      let cut : drop i members ≡ get_or members i d ∷ drop (suc i) members = drop-cons members i d below in
      let same : suc i ≡ i + 1 = omega arith in
      ap (λ ms. taken_by (spaces_in ms) text) cut ∙ ap (λ n. first_taking (reads (space_of (get_or members i d)) text) (taken_by (spaces_in (drop n members)) text)) same

  module _ (so_far : taken_by (spaces_in members) text ≡ shifted i (taken_by (spaces_in (drop i members)) text)) where
    pub takes : (value : Rose ValueLabel) → reads (space_of (get_or members i d)) text ≡ Ok value → taken_by (spaces_in members) text ≡ Ok (i, value)
    takes value accepted =
        let none_more : i + 0 ≡ i = omega arith in
        so_far ∙ ap (shifted i) (taken_at ∙ ap (λ r. first_taking r (taken_by (spaces_in (drop (i + 1) members)) text)) accepted) ∙ ap (λ n. Ok (n, value)) none_more

    pub finds_wide : reads (space_of (get_or members i d)) text ≡ Err Wide → taken_by (spaces_in members) text ≡ Err Wide
    finds_wide wide = so_far ∙ ap (shifted i) (taken_at ∙ ap (λ r. first_taking r (taken_by (spaces_in (drop (i + 1) members)) text)) wide)

    pub passes : reads (space_of (get_or members i d)) text ≡ Err Bad → taken_by (spaces_in members) text ≡ shifted (i + 1) (taken_by (spaces_in (drop (i + 1) members)) text)
    passes bad =
        so_far ∙ ap (shifted i) (taken_at ∙ ap (λ r. first_taking r (taken_by (spaces_in (drop (i + 1) members)) text)) bad) ∙ later (taken_by (spaces_in (drop (i + 1) members)) text)
      where
        later : (t : Taking) → shifted i (taken_later t) ≡ shifted (i + 1) t
        later (Ok taken) = let one_more : i + suc taken.0 ≡ (i + 1) + taken.0 = omega arith in ap (λ n. Ok (n, taken.1)) one_more
        later (Err why) = refl

pub unshifted : (t : Taking) → t ≡ shifted 0 t
unshifted (Ok taken) = let none_more : taken.0 ≡ 0 + taken.0 = omega arith in ap (λ n. Ok (n, taken.1)) none_more
unshifted (Err why) = refl

pub none_takes : (members : List Simple) (text : List ℕ) (i : ℕ) → length members ≤ i → taken_by (spaces_in members) text ≡ shifted i (taken_by (spaces_in (drop i members)) text)
    → taken_by (spaces_in members) text ≡ Err Bad
unfolding taken_by
none_takes members text i past so_far = so_far ∙ ap (λ ms. shifted i (taken_by (spaces_in ms) text)) (drop_of_length-le members past)

pub spelled_member : (members : List Simple) (i : ℕ) (d : Simple) (value : Rose ValueLabel) → i < length members → spelled (space_of (get_or members i d)) value ≡ spelled_by (spaces_in members) i value
spelled_member members i d value below = sym (spelled_by_member (get_or members i d) members i value (slice_get-get_or members i d below))

-- a turn of the chain
module _ (take : List ℕ → Taking) (spell : ℕ → Rose ValueLabel → List ℕ) (taken : ℕ × Rose ValueLabel) where
  pub turn_refused : (turns : ℕ) (why : Refusal) → 0 < turns → take (spell taken.0 taken.1) ≡ Err why → goes_on take spell turns taken ≡ Err why
  turn_refused zero why some refused = absurd (omega arith)
  turn_refused (suc turns) why some refused = rw (goes_on, refused) refl

  pub turn_same : (turns : ℕ) (next : ℕ × Rose ValueLabel) → 0 < turns → take (spell taken.0 taken.1) ≡ Ok next → (next.0 == taken.0) ≡ true
      → goes_on take spell turns taken ≡ Ok (node (label.Choice taken.0) (with_kid taken.1 no_kids))
  turn_same zero next some took same = absurd (omega arith)
  turn_same (suc turns) next some took same = rw (goes_on, took, same) refl

  pub turn_further : (turns : ℕ) (next : ℕ × Rose ValueLabel) → 0 < turns → take (spell taken.0 taken.1) ≡ Ok next → (next.0 == taken.0) ≡ false
      → goes_on take spell turns taken ≡ goes_on take spell (turns - 1) next
  turn_further zero next some took other = absurd (omega arith)
  turn_further (suc turns) next some took other = let one_less : suc turns - 1 ≡ turns = omega arith in rw (one_less, goes_on, took, other) refl

-- what each kind of type reads
module _ (s : Simple) (text : List ℕ) where
  pub reads-Bool : s ≡ variant.Bool → reads (space_of s) text ≡ read_boolean (treated Collapse text)
  unfolding space_of reads
  reads-Bool is = rw is refl

  pub reads-Whole : (lo hi : Option ℤ) → s ≡ variant.Whole lo hi → reads (space_of s) text ≡ read_whole lo hi (treated Collapse text)
  unfolding space_of reads
  reads-Whole lo hi is = rw is refl

  pub reads-Numbers : (numbers : List ℤ) → s ≡ variant.Numbers numbers → reads (space_of s) text ≡ read_number numbers (treated Collapse text)
  unfolding space_of reads
  reads-Numbers numbers is = rw is refl

  pub reads-Words : (how : _) (words : List (List ℕ)) → s ≡ variant.Words how words → reads (space_of s) text ≡ read_word words (treated how text)
  unfolding space_of reads
  reads-Words how words is = rw is refl

  pub reads-Chars : (how min max class : _) → s ≡ variant.Chars how min max class → reads (space_of s) text ≡ read_characters min max class (treated how text)
  unfolding space_of reads
  reads-Chars how min max class is = rw is refl

pub reads-ListOf : (item : Space) (least : ℕ) (most : Option ℕ) (text : List ℕ) → reads (ListOf item least most) text ≡ list_within least most (read_each (reads item) (words_of text))
unfolding reads
reads-ListOf item least most text = refl

pub reads-UnionOf : (members : Spaces) (text : List ℕ) → reads (UnionOf members) text ≡ settled (taken_by members) (spelled_by members) (count_members members) text
unfolding reads taken_by
reads-UnionOf members text = refl

pub sound-Numbers : (s : Simple) (numbers : List ℤ) → s ≡ variant.Numbers numbers → Sound (space_of s) → IsCounted (length numbers) × IsStrictlySortedBy int_cmp numbers
unfolding space_of
sound-Numbers s numbers is sound = rw is at sound

pub sound-Words : (s : Simple) (how : _) (words : List (List ℕ)) → s ≡ variant.Words how words → Sound (space_of s) → IsCounted (length words) × IsStrictlySortedBy (slice_cmp nat_cmp) words
unfolding space_of
sound-Words s how words is sound = let known = rw is at sound in (known.0, known.1)

pub settled_from : (take : List ℕ → Taking) (spell : ℕ → Rose ValueLabel → List ℕ) (turns : ℕ) (text : List ℕ) (taken : ℕ × Rose ValueLabel) → take text ≡ Ok taken
    → settled take spell turns text ≡ goes_on take spell turns taken
settled_from take spell turns text taken is = rw (settled, is) refl

pub none_goes_on : (take : List ℕ → Taking) (spell : ℕ → Rose ValueLabel → List ℕ) (turns : ℕ) (taken : ℕ × Rose ValueLabel) → turns ≤ 0 → goes_on take spell turns taken ≡ Err Bad
none_goes_on take spell zero taken none = refl
none_goes_on take spell (suc turns) taken none = absurd (omega arith)
