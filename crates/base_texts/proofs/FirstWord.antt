-- The first word of a text, and where the text may be cut round it.
use Rattle.std.proofs.Common.{◌≡◌, ℕ, zero, suc, add-one, ◌<◌, ◌≤◌, Bool, true, false, not, cond, List, [], ◌∷◌, length, take, drop, get_or, refl, sym, ap, ◌∙◌, subst, arith, Option, Some, None, ltb}
use Rattle.std.specs.Prelude.{filter, unwrap_or, IsUtf8}
use Rattle.std.specs.Str.{IsCharBoundary}
use Rattle.std.specs.List.{slice_split, onto_first, position_or_len}
use Rattle.std.proofs.lemmas.Grind.{common_steps}
use Rattle.std.proofs.lemmas.List.Sums.{fails_before_first, passes_at_first, prefix_len-le-length}
use Rattle.std.proofs.lemmas.Str.{IsCharBoundary-start, IsCharBoundary-after_ascii}
use Rattle.base_texts.specs.WhiteSpace.{is_white_space, has_bytes, words_of}
use Rattle.base_texts.proofs.WordLaws.{words_of-nil}

pub place_le : (test : ℕ → Bool) (bs : List ℕ) → position_or_len test bs ≤ length bs
place_le test bs = prefix_len-le-length (λ b. not (test b)) bs

-- what `position` answers, or the length
pub first_place : (test : ℕ → Bool) (bs : List ℕ) (r : Option ℕ)
    → r ≡ cond (ltb (position_or_len test bs) (length bs)) (Some (position_or_len test bs)) None → unwrap_or r (length bs) ≡ position_or_len test bs
first_place test bs r e = grind (arith, common_steps, place_le test bs)

-- white space is ASCII
pub white_space-ascii : (b : ℕ) → is_white_space b ≡ true → b < 128
unfolding is_white_space
white_space-ascii b e = grind (arith, common_steps)

not-not : (b : Bool) → not b ≡ false → b ≡ true
not-not true e = refl
not-not false e = sym e

-- the place behind an element that doesn't pass
pub place-cons : (test : ℕ → Bool) (b : ℕ) (bs : List ℕ) → test b ≡ false → position_or_len test (b ∷ bs) ≡ suc (position_or_len test bs)
place-cons test b bs e = rw e (omega arith)

-- whether a byte belongs to a word
abbrev pub is_in_word : ℕ → Bool
is_in_word b = not (is_white_space b)

-- a text may be cut behind the white space at its front
cut_behind : (bs : List ℕ) (n : ℕ) → IsUtf8 bs → n ≤ length bs → ((k : ℕ) → k < n → is_white_space (get_or bs k 0) ≡ true) → IsCharBoundary bs n
cut_behind bs zero utf8 within white = IsCharBoundary-start bs utf8
cut_behind bs (suc n) utf8 within white =
    let last : get_or bs n 0 < 128 = white_space-ascii (get_or bs n 0) (white n (omega arith)) in
    subst (IsCharBoundary bs) (add-one n) (IsCharBoundary-after_ascii bs n utf8 (omega arith) last)

pub front-IsCharBoundary : (bs : List ℕ) → IsUtf8 bs → IsCharBoundary bs (position_or_len is_in_word bs)
front-IsCharBoundary bs utf8 =
    cut_behind bs _ utf8 (place_le is_in_word bs)
    (λ k below. not-not (is_white_space (get_or bs k 0)) (fails_before_first is_in_word bs k 0 below))

-- and before the first white space
pub word-IsCharBoundary : (bs : List ℕ) → IsCharBoundary bs (position_or_len is_white_space bs)
word-IsCharBoundary bs = (
  place_le is_white_space bs,
  λ inside high. absurd (let low = white_space-ascii _ (passes_at_first is_white_space bs 0 inside) in omega arith),
)

-- white space at the front belongs to no word
front-cons : (b : ℕ) (bs : List ℕ) (w : Bool) → is_white_space b ≡ w
    → words_of (drop (position_or_len is_in_word bs) bs) ≡ words_of bs
    → words_of (drop (position_or_len is_in_word (b ∷ bs)) (b ∷ bs)) ≡ words_of (b ∷ bs)
unfolding words_of
front-cons b bs true e rest =
    let not_here : not (is_white_space b) ≡ false = rw e refl in
    rw (place-cons is_in_word b bs not_here, rest) (rw e refl)
front-cons b bs false e rest =
    let here : position_or_len is_in_word (b ∷ bs) ≡ 0 = rw e refl in
    ap (λ n. words_of (drop n (b ∷ bs))) here

pub words_of-front : (bs : List ℕ) → words_of (drop (position_or_len is_in_word bs) bs) ≡ words_of bs
words_of-front [] = refl
words_of-front (b ∷ bs) = front-cons b bs (is_white_space b) refl (words_of-front bs)

-- the parts between white space: those behind the first hold the words behind it
record Parts (bs : List ℕ) : Type 0 where
  rest : List (List ℕ)
  parts : slice_split is_white_space bs ≡ take (position_or_len is_white_space bs) bs ∷ rest
  words : filter has_bytes rest ≡ words_of (drop (position_or_len is_white_space bs) bs)

parts-cons : (b : ℕ) (bs : List ℕ) (w : Bool) → is_white_space b ≡ w → Parts bs → Parts (b ∷ bs)
unfolding words_of
parts-cons b bs true e p =
    let here : position_or_len is_white_space (b ∷ bs) ≡ 0 = rw e refl in
    let none : words_of bs ≡ words_of (b ∷ bs) = rw e refl in
    record { rest = slice_split is_white_space bs; parts = rw here (rw e refl); words = rw here none }
parts-cons b bs false e p =
    let place = place-cons is_white_space b bs e in
    let split : slice_split is_white_space (b ∷ bs) ≡ onto_first b (slice_split is_white_space bs) = rw e refl in
    record { rest = p.rest; parts = rw place (split ∙ ap (onto_first b) p.parts); words = rw place p.words }

parts_of : (bs : List ℕ) → Parts bs
unfolding words_of
parts_of [] = record { rest = []; parts = refl; words = refl }
parts_of (b ∷ bs) = parts-cons b bs (is_white_space b) refl (parts_of bs)

-- the first word of a text that has no white space at its front
first-cons : (b : ℕ) (bs : List ℕ) → is_white_space b ≡ false
    → words_of (b ∷ bs) ≡ take (position_or_len is_white_space (b ∷ bs)) (b ∷ bs) ∷ words_of (drop (position_or_len is_white_space (b ∷ bs)) (b ∷ bs))
unfolding words_of
first-cons b bs e =
    let p = parts_of (b ∷ bs) in
    let long : take (position_or_len is_white_space (b ∷ bs)) (b ∷ bs) ≡ b ∷ take (position_or_len is_white_space bs) bs = rw (place-cons is_white_space b bs e) refl in
    let has : has_bytes (take (position_or_len is_white_space (b ∷ bs)) (b ∷ bs)) ≡ true = ap has_bytes long in
    let split : words_of (b ∷ bs) ≡ filter has_bytes (take (position_or_len is_white_space (b ∷ bs)) (b ∷ bs) ∷ p.rest) = ap (filter has_bytes) p.parts in
    let kept : filter has_bytes (take (position_or_len is_white_space (b ∷ bs)) (b ∷ bs) ∷ p.rest) ≡ take (position_or_len is_white_space (b ∷ bs)) (b ∷ bs) ∷ filter has_bytes p.rest = rw has refl in
    split ∙ kept ∙ ap (λ l. take (position_or_len is_white_space (b ∷ bs)) (b ∷ bs) ∷ l) p.words

-- behind the white space at the front no white space stands
stops-cons : (c : ℕ) (bs : List ℕ) (b : ℕ) (rest : List ℕ) (w : Bool) → is_white_space c ≡ w
    → (drop (position_or_len is_in_word bs) bs ≡ b ∷ rest → is_white_space b ≡ false)
    → drop (position_or_len is_in_word (c ∷ bs)) (c ∷ bs) ≡ b ∷ rest → is_white_space b ≡ false
stops-cons c bs b rest true e further is =
    let not_here : not (is_white_space c) ≡ false = rw e refl in
    further (rw (place-cons is_in_word c bs not_here) at is)
stops-cons c bs b rest false e further is =
    let here : position_or_len is_in_word (c ∷ bs) ≡ 0 = rw e refl in
    let all : c ∷ bs ≡ b ∷ rest = rw here at is in
    let same : c ≡ b = cc in
    ap is_white_space (sym same) ∙ e

front_stops : (bs : List ℕ) (b : ℕ) (rest : List ℕ) → drop (position_or_len is_in_word bs) bs ≡ b ∷ rest → is_white_space b ≡ false
front_stops [] b rest is = cc
front_stops (c ∷ bs) b rest is = stops-cons c bs b rest (is_white_space c) refl (front_stops bs b rest) is

-- what is left behind the white space at the front
abbrev pub behind_front : List ℕ → List ℕ
behind_front bs = drop (position_or_len is_in_word bs) bs

pub is_behind_front : (text bytes words : List ℕ) (n : ℕ) → bytes ≡ text → n ≡ position_or_len is_in_word bytes → words ≡ drop n text → words ≡ behind_front text
is_behind_front text bytes words n same place is = is ∙ ap (λ m. drop m text) (place ∙ ap (λ bs. position_or_len is_in_word bs) same)

pub no_word : (text words : List ℕ) → words ≡ behind_front text → length words ≡ 0 → words_of text ≡ []
no_word text [] is empty = sym (words_of-front text) ∙ ap words_of (sym is) ∙ words_of-nil
no_word text (b ∷ rest) is empty = absurd (omega arith)

pub first : (text words : List ℕ) → words ≡ behind_front text → 0 < length words
    → words_of text ≡ take (position_or_len is_white_space words) words ∷ words_of (drop (position_or_len is_white_space words) words)
first text [] is some = absurd (omega arith)
first text (b ∷ rest) is some =
    sym (words_of-front text) ∙ ap words_of (sym is) ∙ first-cons b rest (front_stops text b rest (sym is))

-- the first word, cut off
pub cut_off : (text words bytes word behind : List ℕ) (n : ℕ) → words ≡ behind_front text → 0 < length words → bytes ≡ words
    → n ≡ position_or_len is_white_space bytes → word ≡ take n words → behind ≡ drop n words → words_of text ≡ word ∷ words_of behind
cut_off text words bytes word behind n is some same len front back =
    let at : n ≡ position_or_len is_white_space words = len ∙ ap (λ bs. position_or_len is_white_space bs) same in
    rw (front, back, at) (first text words is some)
