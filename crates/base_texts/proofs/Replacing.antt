-- Texts with spaces for other white space.
use Rattle.std.proofs.Common.{◌≡◌, ℕ, suc, add-one, ◌+◌, ◌<◌, Bool, true, false, not, ◌==◌, List, [], ◌∷◌, ◌++◌, length, take, drop, slice_range, map, refl, sym, ap, ◌∙◌, arith, Option, Some, None, ltb, Decides}
use Rattle.std.specs.Prelude.{IsUtf8, is_none, is_some}
use Rattle.std.proofs.lemmas.Bool.{true≢false}
use Rattle.std.specs.Str.{IsCharBoundary}
use Rattle.std.specs.List.{position_or_len, position}
use Rattle.std.proofs.lemmas.Grind.{common_steps}
use Rattle.std.proofs.lemmas.Bool.Decides.{nat_tests}
use Rattle.std.proofs.lemmas.List.Sums.{passes_at_first}
use Rattle.std.proofs.lemmas.Str.{IsCharBoundary-before_ascii, IsCharBoundary-after_ascii}
use borrow.Author.Tests.{ltb-true, ltb-false}
use Rattle.base_texts.specs.WhiteSpace.{is_white_space, spaced, treated}
use Rattle.base_texts.specs.declared.white_space.WhiteSpace.TheVariants.{Replace}
use Rattle.base_texts.proofs.FirstWord.{white_space-ascii, place-cons, place_le}

-- whether a byte is replaced
abbrev pub is_replaced : ℕ → Bool
is_replaced b = not (spaced b == b)

-- a byte that is replaced is white space, and becomes a space
record Replaced (b : ℕ) : Type 0 where
  white : is_white_space b ≡ true
  space : spaced b ≡ 32

replaced_by : (b : ℕ) (w : Bool) → is_white_space b ≡ w → is_replaced b ≡ true → Replaced b
replaced_by b true e r = record { white = e; space = rw e refl }
replaced_by b false e r = let kept : spaced b ≡ b = rw e refl in absurd (grind (arith, nat_tests))

replaced : (b : ℕ) → is_replaced b ≡ true → Replaced b
replaced b = replaced_by b (is_white_space b) refl

kept : (b : ℕ) → is_replaced b ≡ false → spaced b ≡ b
kept b r = grind (arith, nat_tests)

-- where the first byte that is replaced stands
pub record Found (bs : List ℕ) (at : ℕ) : Type 0 where
  pub place : at ≡ position_or_len is_replaced bs
  pub inside : position_or_len is_replaced bs < length bs

found_by : (bs : List ℕ) (at : ℕ) (inside : Bool) → ltb (position_or_len is_replaced bs) (length bs) ≡ inside → Some at ≡ position is_replaced bs → Found bs at
found_by bs at true e is = let same : at ≡ position_or_len is_replaced bs = cc (rw e at is) in record { place = same; inside = ltb-true _ _ e }
found_by bs at false e is = let no : Some at ≡ None = rw e at is in cc

pub found : (text bytes : List ℕ) (at : ℕ) → bytes ≡ text → Some at ≡ position is_replaced bytes → Found text at
found text bytes at same is = found_by text at (ltb (position_or_len is_replaced text) (length text)) refl (rw same at is)

pub before-IsCharBoundary : (bs : List ℕ) (at : ℕ) → Found bs at → IsCharBoundary bs at
before-IsCharBoundary bs at f =
    let low = white_space-ascii _ (replaced _ (passes_at_first is_replaced bs 0 f.inside)).white in
    rw f.place (IsCharBoundary-before_ascii bs (position_or_len is_replaced bs) f.inside low)

pub behind-IsCharBoundary : (bs : List ℕ) (at : ℕ) → IsUtf8 bs → Found bs at → IsCharBoundary bs (at + 1)
behind-IsCharBoundary bs at utf8 f =
    let low = white_space-ascii _ (replaced _ (passes_at_first is_replaced bs 0 f.inside)).white in
    rw f.place (IsCharBoundary-after_ascii bs (position_or_len is_replaced bs) utf8 f.inside low)

-- what stands before and behind the first byte that is replaced
split-cons : (b : ℕ) (bs : List ℕ) (w : Bool) → is_replaced b ≡ w
    → (position_or_len is_replaced bs < length bs → map spaced bs ≡ take (position_or_len is_replaced bs) bs ++ 32 ∷ map spaced (drop (suc (position_or_len is_replaced bs)) bs))
    → position_or_len is_replaced (b ∷ bs) < length (b ∷ bs)
    → map spaced (b ∷ bs) ≡ take (position_or_len is_replaced (b ∷ bs)) (b ∷ bs) ++ 32 ∷ map spaced (drop (suc (position_or_len is_replaced (b ∷ bs))) (b ∷ bs))
split-cons b bs true e further inside =
    let here : position_or_len is_replaced (b ∷ bs) ≡ 0 = rw e refl in
    rw here (ap (λ c. c ∷ map spaced bs) (replaced b e).space)
split-cons b bs false e further inside =
    let place = place-cons is_replaced b bs e in
    rw place (λ i. kept b e i ∷ further (omega arith) i)

split : (bs : List ℕ) → position_or_len is_replaced bs < length bs
    → map spaced bs ≡ take (position_or_len is_replaced bs) bs ++ 32 ∷ map spaced (drop (suc (position_or_len is_replaced bs)) bs)
split [] inside = absurd (omega arith)
split (b ∷ bs) inside = split-cons b bs (is_replaced b) refl (split bs) inside

-- the same, where the text was cut
pub split_at : (text run behind : List ℕ) (at : ℕ) → Found text at → run ≡ slice_range text 0 at → behind ≡ drop (at + 1) text
    → map spaced text ≡ run ++ 32 ∷ map spaced behind
split_at text run behind at f front back =
    let front' : run ≡ take at text = grind (arith, common_steps) in
    rw (front', back, f.place, add-one) (split text f.inside)

-- the text stays where no byte is replaced, and only there
record Stays (bs : List ℕ) : Type 0 where
  kept : position_or_len is_replaced bs ≡ length bs → map spaced bs ≡ bs
  unplaced : map spaced bs ≡ bs → position_or_len is_replaced bs ≡ length bs

stays-cons : (b : ℕ) (bs : List ℕ) (w : Bool) → is_replaced b ≡ w → Stays bs → Stays (b ∷ bs)
stays-cons b bs true e s =
    let here : position_or_len is_replaced (b ∷ bs) ≡ 0 = rw e refl in
    let differs : ¬ (spaced b ≡ b) = λ same. grind (arith, nat_tests) in
    record { kept = λ all. absurd (omega arith); unplaced = λ same. absurd (differs (let heads : spaced b ≡ b = cc same in heads)) }
stays-cons b bs false e s =
    let place = place-cons is_replaced b bs e in
    record {
      kept = λ all. λ i. kept b e i ∷ s.kept (omega arith) i;
      unplaced = λ same. let rest = s.unplaced (let tails : map spaced bs ≡ bs = cc same in tails) in omega arith;
    }

stays : (bs : List ℕ) → Stays bs
stays [] = record { kept = λ e. refl; unplaced = λ e. refl }
stays (b ∷ bs) = stays-cons b bs (is_replaced b) refl (stays bs)

stays_by : (bs : List ℕ) (inside : Bool) → ltb (position_or_len is_replaced bs) (length bs) ≡ inside → Decides (is_none (position is_replaced bs)) (treated Replace bs ≡ bs)
unfolding treated
stays_by bs true e =
    let less = ltb-true _ _ e in
    rw e (λ h. absurd (true≢false (sym h)), λ same. absurd (let whole = (stays bs).unplaced same in omega arith))
stays_by bs false e =
    let most = ltb-false _ _ e in
    let within = place_le is_replaced bs in
    rw e (λ h. (stays bs).kept (omega arith), λ same. refl)

pub is_replaced-Decides : (bs : List ℕ) → Decides (is_none (position is_replaced bs)) (treated Replace bs ≡ bs)
is_replaced-Decides bs = stays_by bs (ltb (position_or_len is_replaced bs) (length bs)) refl

-- the text that has no place to replace
pub none_replaced : (text bytes : List ℕ) (place : Option ℕ) (r : Bool) → bytes ≡ text → place ≡ position is_replaced bytes → is_some place ≡ not r
    → Decides r (treated Replace text ≡ text)
none_replaced text bytes place r same is some =
    let known : r ≡ is_none (position is_replaced text) = none_by place r some ∙ ap (λ p. is_none p) is ∙ ap (λ bs. is_none (position is_replaced bs)) same in
    rw known (is_replaced-Decides text)
  where
    none_by : (place : Option ℕ) (r : Bool) → is_some place ≡ not r → r ≡ is_none place
    none_by (Some at) true some = absurd (true≢false some)
    none_by (Some at) false some = refl
    none_by None true some = refl
    none_by None false some = some

pub unplaced : (text bytes : List ℕ) → bytes ≡ text → None ≡ position is_replaced bytes → map spaced text ≡ text
unfolding treated
unplaced text bytes same is = (is_replaced-Decides text).0 (ap (λ bs. is_none (position is_replaced bs)) (sym same) ∙ ap (λ p. is_none p) (sym is))
