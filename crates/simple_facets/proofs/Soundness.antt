-- Types that facets make are sound.
use Rattle.std.proofs.Common.{◌≡◌, ℕ, zero, suc, ◌+◌, ◌<◌, ◌≤◌, ◌^◌, Bool, true, false, not, ◌&&◌, List, [], ◌∷◌, refl, sym, ap, ◌∙◌, subst, arith, Option, Some, None, Result, Ok, Err, length, get_or}
use Rattle.std.specs.Prelude.{ℤ, pos, negsuc, ◌≤ℤ◌, int_lt, position, bytes_eq, filter, is_some, nat_lt, nat_le}
use Rattle.std.specs.Option.{unwrap_or, option_or}
use Rattle.std.specs.List.{Contains, All, list_all}
use Rattle.std.specs.List.Sorted.{IsStrictlySortedBy}
use Rattle.std.specs.Ordering.{int_cmp, nat_cmp}
use Rattle.std.specs.Cmp.Lexicographic.{slice_cmp}
use Rattle.std.specs.Str.{chars}
use Rattle.std.proofs.lemmas.Bool.{true≢false, leb-true}
use Rattle.std.proofs.lemmas.Int.{ints}
use Rattle.std.proofs.lemmas.List.Elements.{All-nil, All-cons, All-head, All-tail, All-contains}
use Rattle.std.proofs.lemmas.List.Kept.{IsStrictlySortedBy-filter}
use Rattle.std.proofs.lemmas.List.Quantifiers.{position-Some}
use Rattle.std.proofs.lemmas.Slice.Eq.{bytes_eq-Decides}
use Rattle.base_texts.specs.declared.white_space.WhiteSpace.{WhiteSpace}
use Rattle.base_texts.specs.Characters.{is_xml_char}
use Rattle.base_texts.specs.WhiteSpace.{treated, IsTreated}
use Rattle.base_texts.proofs.Collapsing.{treated-treated}
use Rattle.simple_types.specs.declared.simples.Simple.TheVariants as variant
use Rattle.simple_types.specs.Space.{Space, Booleans, Wholes, Numbers, Words, Characters, ListOf, UnionOf}
use Rattle.simple_types.specs.Seen.{space_of}
use Rattle.simple_types.specs.Sound.{Sound, IsWord, AreWords, IsCounted, AreBounds, AreSizes}
use Rattle.simple_types.specs.Lexical.{is_at_most, in_class}
use Rattle.simple_types.specs.Reading.{has_characters}
use Rattle.simple_types.proofs.WholeNumbers.{and-second}
use Rattle.simple_facets.specs.declared.refusals.FacetWhy.{FacetWhy}
use Rattle.simple_facets.specs.declared.refusals.FacetWhy.TheVariants as why
use Rattle.simple_facets.specs.declared.constraints.Constraints.{Constraints}
use Rattle.simple_facets.specs.Private.Deciding.{has_word, IsTexts}
use Rattle.simple_facets.specs.Restricting.{narrowed, is_empty, are_crossed, keeps_number, keeps_word, is_length, least_length, greatest_length, accepts, word_item, each_item, IsAscendingOf, EnumeratedBy, IsNumbersOf, IsWordsOf}
use Rattle.simple_facets.proofs.Enumerations.{accepts-word}

filter-le : {X : Type 0} (p : X → Bool) (xs : List X) → length (filter p xs) ≤ length xs
filter-le p [] = omega arith
filter-le p (x ∷ xs) = by (filter-le p xs) (p x) refl
  where
    by : length (filter p xs) ≤ length xs → (b : Bool) → p x ≡ b → length (filter p (x ∷ xs)) ≤ length (x ∷ xs)
    by rest true e = rw e (omega arith)
    by rest false e = rw e (omega arith)

-- of bounds that don't cross
bounds_from : (least greatest : Option ℤ) → are_crossed least greatest ≡ false → AreBounds least greatest
bounds_from None greatest e = tt
bounds_from (Some least) None e = tt
bounds_from (Some least) (Some greatest) e = uncrossed least greatest e
  where
    uncrossed : (a b : ℤ) → int_lt b a ≡ false → a ≤ℤ b
    uncrossed a b e = grind (arith, ints)

sizes_from : (least : ℕ) (most : Option ℕ) → not (is_at_most least most) ≡ false → AreSizes least most
sizes_from least None e = tt
sizes_from least (Some most) e = by (nat_le least most) refl
  where
    by : (b : Bool) → nat_le least most ≡ b → least ≤ most
    by true within = leb-true least most within
    by false over = absurd (true≢false (let f : true ≡ false = rw over at e in f))

words_kept : (c : Constraints) (how new : WhiteSpace) (words : List (List ℕ)) → AreWords how words → AreWords new (filter (keeps_word c new) words)
words_kept c how new [] each = tt
words_kept c how new (word ∷ words) each = by (keeps_word c new word) refl (words_kept c how new words each.1)
  where
    by : (b : Bool) → keeps_word c new word ≡ b → AreWords new (filter (keeps_word c new) words) → AreWords new (filter (keeps_word c new) (word ∷ words))
    by false e rest = rw e rest
    by true e rest =
        rw e ((each.0.0, (bytes_eq-Decides (treated new word) word).0 (and-second (is_length c (length (chars word))) (bytes_eq (treated new word) word) e)), rest)

some_number : (how : List ℤ) → is_empty (Numbers how) ≡ false → 0 < length how
some_number [] e = absurd (true≢false e)
some_number (n ∷ ns) e = omega arith

some_word : (how : WhiteSpace) (words : List (List ℕ)) → is_empty (Words how words) ≡ false → 0 < length words
some_word how [] e = absurd (true≢false e)
some_word how (w ∷ ws) e = omega arith

-- what is left of a sound base, where anything is
pub narrowed_sound : (base : Space) (c : Constraints) → Sound base → is_empty (narrowed base c) ≡ false → Sound (narrowed base c)
narrowed_sound Booleans c sound some = tt
narrowed_sound (Wholes least greatest) c sound some = bounds_from (option_or c.lower_bound least) (option_or c.upper_bound greatest) some
narrowed_sound (Numbers numbers) c sound some =
    let kept = filter (keeps_number c) numbers in
    let few = filter-le (keeps_number c) numbers in
    let all = sound.0.1 in
    ((some_number kept some, omega (arith, few, all)), IsStrictlySortedBy-filter int_cmp (keeps_number c) numbers sound.1)
narrowed_sound (Words how words) c sound some =
    let new = unwrap_or c.white_space how in
    let kept = filter (keeps_word c new) words in
    let few = filter-le (keeps_word c new) words in
    let all = sound.0.1 in
    ((some_word new kept some, omega (arith, few, all)), IsStrictlySortedBy-filter (slice_cmp nat_cmp) (keeps_word c new) words sound.1, words_kept c how new words sound.2)
narrowed_sound (Characters how least most class) c sound some = sizes_from (least_length c least) (greatest_length c most) some
narrowed_sound (ListOf item least most) c sound some = (sound.0, sound.1, sizes_from (least_length c least) (greatest_length c most) some)
narrowed_sound (UnionOf members) c sound some = sound

-- a word of a space, as it is treated
word_at : (how : WhiteSpace) (words : List (List ℕ)) (i : ℕ) (d : List ℕ) → AreWords how words → i < length words → IsWord how (get_or words i d)
word_at how [] i d each below = absurd (omega arith)
word_at how (word ∷ words) zero d each below = each.0
word_at how (word ∷ words) (suc i) d each below = word_at how words i d each.1 (omega arith)

found_word : (how : WhiteSpace) (words : List (List ℕ)) (word : List ℕ) (o : Option ℕ) → position (λ w. bytes_eq w word) words ≡ o → AreWords how words → is_some o ≡ true → IsWord how word
found_word how words word None at each found = absurd (true≢false (sym found))
found_word how words word (Some i) at each found =
    let place = position-Some (λ w. bytes_eq w word) words i [] at in
    subst (IsWord how) ((bytes_eq-Decides (get_or words i []) word).0 place.1) (word_at how words i [] each place.0)

first_of_four : (a b c d : Bool) → (a && b && c && d) ≡ true → a ≡ true
first_of_four true b c d e = refl
first_of_four false b c d e = e

has_is_word : (how : WhiteSpace) (now : Space) (text : List ℕ) → IsTexts how now → Sound now → has_word now (treated how text) ≡ true → IsWord how (treated how text)
has_is_word how (Words made words) text is sound has =
    found_word how words (treated how text) (position (λ w. bytes_eq w (treated how text)) words) refl (subst (λ h. AreWords h words) is sound.2) has
has_is_word how (Characters made least most class) text is sound has =
    (first_of_four _ (nat_le least (length (chars (treated how text)))) (is_at_most (length (chars (treated how text))) most) (in_class class (treated how text)) has, treated-treated how text)
has_is_word how Booleans text is sound has = absurd is
has_is_word how (Wholes least greatest) text is sound has = absurd is
has_is_word how (Numbers numbers) text is sound has = absurd is
has_is_word how (ListOf item least most) text is sound has = absurd is
has_is_word how (UnionOf members) text is sound has = absurd is

item_is_word : (how : WhiteSpace) (now : Space) (text word : List ℕ) → IsTexts how now → Sound now → word_item how now text ≡ Ok word → IsWord how word
item_is_word how now text word is sound e = by (accepts now text) refl
  where
    by : (b : Bool) → accepts now text ≡ b → IsWord how word
    by false refused = absurd (let f : Err why.NotInBase ≡ Ok word = rw refused at e in cc)
    by true accepted =
        let f : Ok (treated how text) ≡ Ok word = rw accepted at e in
        let same : treated how text ≡ word = cc in
        subst (IsWord how) same (has_is_word how now text is sound (sym (accepts-word how now text is) ∙ accepted))

-- the items of texts
record IsEach {A : Type 0} (item : List ℕ → Result A FacetWhy) (text : List ℕ) (texts : List (List ℕ)) (xs : List A) : Type 0 where
  x : A
  further : List A
  first : item text ≡ Ok x
  rest : each_item item texts ≡ Ok further
  is : xs ≡ x ∷ further

is_each : {A : Type 0} (item : List ℕ → Result A FacetWhy) (text : List ℕ) (texts : List (List ℕ)) (xs : List A) → each_item item (text ∷ texts) ≡ Ok xs → IsEach item text texts xs
is_each {A} item text texts xs e = by (item text) refl (each_item item texts) refl
  where
    by : (r : Result A FacetWhy) → item text ≡ r → (rs : Result (List A) FacetWhy) → each_item item texts ≡ rs → IsEach item text texts xs
    by (Err w) first rs rest = absurd (let f = rw (each_item, first) at e in cc)
    by (Ok x) first (Err w) rest = absurd (let f = rw (each_item, first, rest) at e in cc)
    by (Ok x) first (Ok further) rest = record { x = x; further = further; first = first; rest = rest; is = (let f = rw (each_item, first, rest) at e in cc) }

module _ {A : Type 0} (item : List ℕ → Result A FacetWhy) where
  each_length : (texts : List (List ℕ)) (xs : List A) → each_item item texts ≡ Ok xs → length xs ≡ length texts
  each_length [] xs e = let none : [] ≡ xs = cc in ap length (sym none)
  each_length (text ∷ texts) xs e =
      let known = is_each item text texts xs e in
      ap length known.is ∙ ap suc (each_length texts known.further known.rest)

  each_holds : (P : A → Type 0) → ((text : List ℕ) (x : A) → item text ≡ Ok x → P x) → (texts : List (List ℕ)) (xs : List A) → each_item item texts ≡ Ok xs → All P xs
  each_holds P holds [] xs e = let none : [] ≡ xs = cc in subst (All P) none (All-nil P)
  each_holds P holds (text ∷ texts) xs e =
      let known = is_each item text texts xs e in
      subst (All P) (sym known.is) (All-cons P known.x known.further (holds text known.x known.first) (each_holds P holds texts known.further known.rest))

some_left : {A : Type 0} (items made : List A) → ((x : A) → Contains items x → Contains made x) → 0 < length items → 0 < length made
some_left [] made kept some = absurd (omega arith)
some_left (x ∷ xs) made kept some = let place = kept x (0, omega arith, refl) in let below = place.1 in omega (arith, below)

-- as many as may be
counted : {A : Type 0} (item : List ℕ → Result A FacetWhy) (texts : List (List ℕ)) (items made : List A) → each_item item texts ≡ Ok items → ((x : A) → Contains items x → Contains made x)
    → length made ≤ length items → 0 < length texts → length texts < 2 ^ 32 → IsCounted (length made)
counted item texts items made e kept fewer some few =
    let count = each_length item texts items e in
    (some_left items made kept (omega (arith, count, some)), omega (arith, count, fewer, few))

module _ (item : List ℕ → Result ℤ FacetWhy) (texts : List (List ℕ)) (items sorted made : List ℤ) (e : each_item item texts ≡ Ok items) (is : made ≡ sorted) (asc : IsAscendingOf int_cmp items sorted) where
  pub numbers_made : EnumeratedBy IsNumbersOf (each_item item texts) (Ok (space_of (variant.Numbers made)))
  unfolding space_of
  numbers_made = rw (e, is) asc

  pub numbers_sound : length sorted ≤ length items → 0 < length texts → length texts < 2 ^ 32 → Sound (space_of (variant.Numbers made))
  unfolding space_of
  numbers_sound fewer some few = rw is (counted item texts items sorted e (λ x. (asc.1 x).1) fewer some few, asc.0)

are_words : (how : WhiteSpace) (made : List (List ℕ)) → ((x : List ℕ) → Contains made x → IsWord how x) → AreWords how made
are_words how [] each = tt
are_words how (word ∷ words) each = (each word (0, omega arith, refl), are_words how words (λ x inside. each x (suc inside.0, (let below = inside.1 in omega (arith, below)), inside.2)))

module _ (how : WhiteSpace) (now : Space) (texts items sorted made : List (List ℕ)) (e : each_item (word_item how now) texts ≡ Ok items) (is : made ≡ sorted) (asc : IsAscendingOf (slice_cmp nat_cmp) items sorted) where
  pub words_made : EnumeratedBy (IsWordsOf how) (each_item (word_item how now) texts) (Ok (space_of (variant.Words how made)))
  unfolding space_of
  words_made = rw (e, is) (refl, asc)

  pub words_sound : IsTexts how now → Sound now → length sorted ≤ length items → 0 < length texts → length texts < 2 ^ 32 → Sound (space_of (variant.Words how made))
  unfolding space_of
  words_sound texts_of sound fewer some few =
      let each : All (IsWord how) items = each_holds (word_item how now) (IsWord how) (λ text word. item_is_word how now text word texts_of sound) texts items e in
      rw is (
        counted (word_item how now) texts items sorted e (λ x. (asc.1 x).1) fewer some few,
        asc.0,
        are_words how sorted (λ x inside. All-contains (IsWord how) items x each ((asc.1 x).0 inside)),
      )
