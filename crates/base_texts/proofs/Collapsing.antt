-- Collapsed texts: byte by byte, and when a text is collapsed already.
use Rattle.std.proofs.Common.{◌≡◌, ℕ, ◌+◌, ◌<◌, ◌≤◌, Bool, true, false, not, ◌&&◌, ◌==◌, cond, if◌then◌else◌, List, [], ◌∷◌, ◌++◌, length, drop, get_or, map, inl, inr, ◌⊎◌, refl, sym, ap, ◌∙◌, subst, arith, Decides}
use Rattle.std.specs.Prelude.{filter}
use Rattle.std.specs.List.{slice_split, onto_first, join_with_byte}
use Rattle.std.proofs.lemmas.List.{append-nil, at_drop_more}
use Rattle.std.proofs.lemmas.Bool.Decides.{nat_tests}
use Rattle.std.proofs.lemmas.Bool.{true≢false}
use Rattle.std.specs.Cmp.{first_so, second_so}
use borrow.Author.Tests.{eqb-true}
use Rattle.base_texts.specs.WhiteSpace.{is_white_space, has_bytes, spaced, words_of, treated}
use Rattle.base_texts.specs.declared.white_space.WhiteSpace.{WhiteSpace}
use Rattle.base_texts.specs.declared.white_space.WhiteSpace.TheVariants.{Preserve, Replace, Collapse}

abbrev words_among : List (List ℕ) → List (List ℕ)
words_among parts = filter has_bytes parts

-- the words, each behind a space
abbrev pub spaced_words : List (List ℕ) → List ℕ
spaced_words [] = []
spaced_words (word ∷ words) = 32 ∷ join_with_byte 32 (word ∷ words)

-- a word that has begun goes on with the first part
abbrev goes_on : List (List ℕ) → List ℕ
goes_on [] = []
goes_on (part ∷ parts) = part ++ spaced_words (words_among parts)

pub join-cons : (word : List ℕ) (words : List (List ℕ)) → join_with_byte 32 (word ∷ words) ≡ word ++ spaced_words words
join-cons word [] = sym (append-nil word)
join-cons word (next ∷ words) = refl

-- collapsed byte by byte: before the first word, within a word, and behind one
abbrev mutual
  pub before_words : List ℕ → List ℕ
  before_words [] = []
  before_words (b ∷ bs) = cond (is_white_space b) (before_words bs) (b ∷ in_word bs)

  pub in_word : List ℕ → List ℕ
  in_word [] = []
  in_word (b ∷ bs) = cond (is_white_space b) (behind_word bs) (b ∷ in_word bs)

  pub behind_word : List ℕ → List ℕ
  behind_word [] = []
  behind_word (b ∷ bs) = cond (is_white_space b) (behind_word bs) (32 ∷ b ∷ in_word bs)

-- what each of them makes of the parts between white space
record Collapses (bs : List ℕ) (parts : List (List ℕ)) : Type 0 where
  before : before_words bs ≡ join_with_byte 32 (words_among parts)
  within : in_word bs ≡ goes_on parts
  behind : behind_word bs ≡ spaced_words (words_among parts)

onto : (b : ℕ) (bs : List ℕ) (parts : List (List ℕ)) → in_word bs ≡ goes_on parts
    → (b ∷ in_word bs ≡ join_with_byte 32 (words_among (onto_first b parts))) × (b ∷ in_word bs ≡ goes_on (onto_first b parts))
    × (32 ∷ b ∷ in_word bs ≡ spaced_words (words_among (onto_first b parts)))
onto b bs [] e = (ap (λ l. b ∷ l) e, ap (λ l. b ∷ l) e, ap (λ l. 32 ∷ b ∷ l) e)
onto b bs (part ∷ parts) e =
    let joined : b ∷ in_word bs ≡ join_with_byte 32 ((b ∷ part) ∷ words_among parts) = ap (λ l. b ∷ l) e ∙ sym (join-cons (b ∷ part) (words_among parts)) in
    (joined, ap (λ l. b ∷ l) e, ap (λ l. 32 ∷ l) joined)

collapses-cons : (b : ℕ) (bs : List ℕ) (w : Bool) → is_white_space b ≡ w → Collapses bs (slice_split is_white_space bs) → Collapses (b ∷ bs) (slice_split is_white_space (b ∷ bs))
collapses-cons b bs true e c = record { before = rw e c.before; within = rw e c.behind; behind = rw e c.behind }
collapses-cons b bs false e c =
    let made = onto b bs (slice_split is_white_space bs) c.within in
    record { before = rw e made.0; within = rw e made.1; behind = rw e made.2 }

collapses : (bs : List ℕ) → Collapses bs (slice_split is_white_space bs)
collapses [] = record { before = refl; within = refl; behind = refl }
collapses (b ∷ bs) = collapses-cons b bs (is_white_space b) refl (collapses bs)

-- a collapsed text is no longer than the text, but for the space behind a word
record Shortens (bs : List ℕ) : Type 0 where
  before : length (before_words bs) ≤ length bs
  within : length (in_word bs) ≤ length bs
  behind : length (behind_word bs) ≤ length bs + 1

shortens-cons : (b : ℕ) (bs : List ℕ) (w : Bool) → is_white_space b ≡ w → Shortens bs → Shortens (b ∷ bs)
shortens-cons b bs true e s =
    record { before = rw e (grind (arith, s.before)); within = rw e (grind (arith, s.behind)); behind = rw e (grind (arith, s.behind)) }
shortens-cons b bs false e s =
    record { before = rw e (grind (arith, s.within)); within = rw e (grind (arith, s.within)); behind = rw e (grind (arith, s.within)) }

shortens : (bs : List ℕ) → Shortens bs
shortens [] = record { before = omega arith; within = omega arith; behind = omega arith }
shortens (b ∷ bs) = shortens-cons b bs (is_white_space b) refl (shortens bs)

-- whether bytes are collapsed, where `apart` says that no word is open before them
abbrev pub well_spaced : Bool → List ℕ → Bool
well_spaced apart [] = not apart
well_spaced apart (b ∷ bs) = if is_white_space b then (b == 32 && (not apart && well_spaced true bs)) else well_spaced false bs

cons-Decides : (b : ℕ) (xs ys : List ℕ) (r : Bool) → Decides r (xs ≡ ys) → Decides r (b ∷ xs ≡ b ∷ ys)
cons-Decides b xs ys r d = (λ h. ap (λ l. b ∷ l) (d.0 h), λ e. let tails : xs ≡ ys = cc e in d.1 tails)

-- neither a test that ends in false nor an equation of lists of two lengths holds
never : (p q : Bool) (xs ys : List ℕ) → length xs < length ys → Decides (p && (q && false)) (xs ≡ ys)
never p q xs ys less = (
  λ h. absurd (true≢false (sym (second_so q false (second_so p (q && false) h)))),
  λ e. let same = ap length e in absurd (omega arith),
)

within-cons : (b : ℕ) (bs : List ℕ) (w : Bool) → is_white_space b ≡ w → Decides (well_spaced false bs) (in_word bs ≡ bs)
    → Decides (b == 32 && well_spaced true bs) (behind_word bs ≡ b ∷ bs) → Decides (well_spaced false (b ∷ bs)) (in_word (b ∷ bs) ≡ b ∷ bs)
within-cons b bs true e within behind = rw e behind
within-cons b bs false e within behind = rw e (cons-Decides b (in_word bs) bs (well_spaced false bs) within)

behind-cons : (b c : ℕ) (bs : List ℕ) (w : Bool) → is_white_space c ≡ w → Decides (well_spaced false bs) (in_word bs ≡ bs)
    → Decides (b == 32 && well_spaced true (c ∷ bs)) (behind_word (c ∷ bs) ≡ b ∷ c ∷ bs)
behind-cons b c bs true e within =
    let s = (shortens bs).behind in
    rw e (never (b == 32) (c == 32) (behind_word bs) (b ∷ c ∷ bs) (grind (arith, s)))
behind-cons b c bs false e within =
    rw e (
      λ h. λ i. sym (eqb-true b 32 (first_so (b == 32) (well_spaced false bs) h)) i ∷ c ∷ within.0 (second_so (b == 32) (well_spaced false bs) h) i,
      λ e. let heads : b ≡ 32 = cc e in let tails : in_word bs ≡ bs = cc e in rw heads (within.1 tails),
    )

-- a text in whose midst a word is open, or a space was read, is collapsed
mutual
  fixed_within : (bs : List ℕ) → Decides (well_spaced false bs) (in_word bs ≡ bs)
  fixed_within [] = (λ h. refl, λ e. refl)
  fixed_within (b ∷ bs) = within-cons b bs (is_white_space b) refl (fixed_within bs) (fixed_behind bs b)

  fixed_behind : (bs : List ℕ) (b : ℕ) → Decides (b == 32 && well_spaced true bs) (behind_word bs ≡ b ∷ bs)
  fixed_behind [] b = (λ h. absurd (true≢false (sym (second_so (b == 32) false h))), λ e. cc e)
  fixed_behind (c ∷ bs) b = behind-cons b c bs (is_white_space c) refl (fixed_within bs)

fixed-cons : (b : ℕ) (bs : List ℕ) (w : Bool) → is_white_space b ≡ w → Decides (well_spaced true (b ∷ bs)) (before_words (b ∷ bs) ≡ b ∷ bs)
fixed-cons b bs true e =
    let s = (shortens bs).before in
    let no : Decides (true && (b == 32 && false)) (before_words bs ≡ b ∷ bs) = never true (b == 32) (before_words bs) (b ∷ bs) (grind (arith, s)) in
    rw e no
fixed-cons b bs false e = rw e (cons-Decides b (in_word bs) bs (well_spaced false bs) (fixed_within bs))

-- collapsed byte by byte is collapsed
pub before_words-treated : (bs : List ℕ) → before_words bs ≡ treated Collapse bs
unfolding treated words_of
before_words-treated bs = (collapses bs).before

-- whether a text is collapsed, read off its bytes
abbrev pub is_collapsed : List ℕ → Bool
is_collapsed [] = true
is_collapsed (b ∷ bs) = well_spaced true (b ∷ bs)

pub is_collapsed-Decides : (bs : List ℕ) → Decides (is_collapsed bs) (treated Collapse bs ≡ bs)
is_collapsed-Decides [] = (λ h. sym (before_words-treated []), λ e. refl)
is_collapsed-Decides (b ∷ bs) = subst (λ l. Decides (well_spaced true (b ∷ bs)) (l ≡ b ∷ bs)) (before_words-treated (b ∷ bs)) (fixed-cons b bs (is_white_space b) refl)

-- what is collapsed byte by byte is collapsed
record Spaces (bs : List ℕ) : Type 0 where
  before : is_collapsed (before_words bs) ≡ true
  within : well_spaced false (in_word bs) ≡ true
  behind : well_spaced false (behind_word bs) ≡ true

spaces-cons : (b : ℕ) (bs : List ℕ) (w : Bool) → is_white_space b ≡ w → Spaces bs → Spaces (b ∷ bs)
unfolding is_white_space
spaces-cons b bs true e s = record { before = rw e s.before; within = rw e s.behind; behind = rw e s.behind }
spaces-cons b bs false e s =
    let opened : well_spaced true (b ∷ in_word bs) ≡ true = rw e s.within in
    let further : well_spaced false (b ∷ in_word bs) ≡ true = rw e s.within in
    record { before = rw e opened; within = rw e further; behind = rw e opened }

spaces : (bs : List ℕ) → Spaces bs
spaces [] = record { before = refl; within = refl; behind = refl }
spaces (b ∷ bs) = spaces-cons b bs (is_white_space b) refl (spaces bs)

spaced-spaced : (b : ℕ) (w : Bool) → is_white_space b ≡ w → spaced (spaced b) ≡ spaced b
unfolding is_white_space
spaced-spaced b true e = rw e refl
spaced-spaced b false e = let kept : spaced b ≡ b = rw e refl in ap spaced kept

all_spaced : (bs : List ℕ) → map spaced (map spaced bs) ≡ map spaced bs
all_spaced [] = refl
all_spaced (b ∷ bs) = λ i. spaced-spaced b (is_white_space b) refl i ∷ all_spaced bs i

-- a treated text is left as it is by the same treatment
pub treated-treated : (how : WhiteSpace) (bs : List ℕ) → treated how (treated how bs) ≡ treated how bs
unfolding treated
treated-treated Preserve bs = refl
treated-treated Replace bs = all_spaced bs
treated-treated Collapse bs =
    let again : treated Collapse (before_words bs) ≡ before_words bs = (is_collapsed-Decides (before_words bs)).0 (spaces bs).before in
    rw (← before_words-treated bs) again

-- the test of the loop, where there are bytes and where there are none
pub is_collapsed-nil : (bs : List ℕ) → length bs ≡ 0 → treated Collapse bs ≡ bs
is_collapsed-nil [] e = sym (before_words-treated [])
is_collapsed-nil (b ∷ bs) e = absurd (omega arith)

pub is_collapsed-cons : (bs : List ℕ) (r : Bool) → 0 < length bs → r ≡ well_spaced true bs → Decides r (treated Collapse bs ≡ bs)
is_collapsed-cons [] r some e = absurd (omega arith)
is_collapsed-cons (b ∷ bs) r some e = rw e (is_collapsed-Decides (b ∷ bs))

-- bytes that break the form break the whole
pub not_collapsed : (bs : List ℕ) → well_spaced true bs ≡ false → 0 < length bs → treated Collapse bs ≡ bs → ⊥
not_collapsed bs fails some same = true≢false (sym ((is_collapsed-cons bs _ some refl).1 same) ∙ fails)

and_false : (p : Bool) → (p && false) ≡ false
and_false true = refl
and_false false = refl

-- white space that is no space, or comes where no word is open, breaks the form
pub refused : (bs : List ℕ) (i : ℕ) (apart : Bool) → i < length bs → is_white_space (get_or bs i 0) ≡ true
    → (¬ (get_or bs i 0 ≡ 32)) ⊎ (apart ≡ true) → well_spaced apart (drop i bs) ≡ false
refused bs i apart inside white (inl other) =
    let off : (get_or bs i 0 == 32) ≡ false = grind (arith, nat_tests) in
    at_drop_more (well_spaced apart) bs i 0 inside ∙ rw (white, off) refl
refused bs i apart inside white (inr on) =
    at_drop_more (well_spaced apart) bs i 0 inside ∙ rw (white, on) (and_false (get_or bs i 0 == 32))
