-- What one read of a list in memory moves, what several writes append together, and what room they leave.
use Rattle.std.proofs.Common.{◌≡◌, ℕ, zero, suc, ◌+◌, ◌-◌, ◌<◌, ◌≤◌, min, List, [], ◌∷◌, ◌++◌, length, take, drop, refl, sym, ap, ◌∙◌, subst, arith, Option, Some, None, add-one}
use Rattle.std.proofs.lemmas.List.{drop-drop, take-append-drop, take-append-le}
use Rattle.std.proofs.lemmas.Grind.{common_steps}
use Rattle.std.proofs.Math.Seq.{take-add}
use Rattle.std.proofs.KnownBytes.{Appends-trans}
use Rattle.std.specs.Io.KnownBytes.{Appends}
use Rattle.base_texts.specs.Bytes.{LeavesRoom, IsFull, LacksRoom}
use Rattle.base_texts.specs.States.{later_pieces}

-- the pieces behind the next are those from the next turn on
drop-suc-behind : (turn : ℕ) (pieces : List ℕ) → drop (suc turn) pieces ≡ later_pieces (drop turn pieces)
drop-suc-behind zero [] = refl
drop-suc-behind (suc turn) [] = refl
drop-suc-behind zero (size ∷ sizes) = refl
drop-suc-behind (suc turn) (size ∷ sizes) = drop-suc-behind turn sizes

pub drop-behind : (turn : ℕ) (pieces rest : List ℕ) → drop turn pieces ≡ rest → drop (turn + 1) pieces ≡ later_pieces rest
drop-behind turn pieces rest is = rw add-one (drop-suc-behind turn pieces ∙ ap (λ l. later_pieces l) is)

-- the bytes left, after the first n of them went to the front of the buffer
pub moved : (left contents buf : List ℕ) (at n : ℕ) → left ≡ drop at contents → n ≤ length left
    → left ≡ take n (take n left ++ drop n buf) ++ drop (at + n) contents
moved left contents buf at n is few =
    let few' : n ≤ length (take n left) = grind (arith, common_steps) in
    let front : take n (take n left ++ drop n buf) ≡ take n (take n left) = take-append-le n (take n left) (drop n buf) few' in
    let rest : drop n left ≡ drop (at + n) contents = ap (drop n) is ∙ drop-drop n at contents in
    grind (arith, common_steps, front, rest, take-append-drop n left)

-- nothing is moved only where nothing is left
pub ended : (left contents buf : List ℕ) (at n : ℕ) → left ≡ drop at contents → n ≤ length left → n ≤ length buf
    → (0 < min (length left) (length buf) → 0 < n) → n ≡ 0 → 0 < length (take n left ++ drop n buf) → drop (at + n) contents ≡ []
ended left contents buf at n is few room some none some_room = grind (arith, common_steps)

-- what a read of a list in memory does, as a source says it
pub read_in_memory : (left rest contents buf new : List ℕ) (at n most : ℕ) → left ≡ drop at contents → rest ≡ left
    → most ≡ min (length rest) (length buf) → n ≤ most → (0 < most → 0 < n) → new ≡ take n rest ++ drop n buf
    → (left ≡ take n new ++ drop (at + n) contents) × (n ≡ 0 → 0 < length new → drop (at + n) contents ≡ [])
read_in_memory left rest contents buf new at n most is same size few some copied =
    let e : new ≡ take n left ++ drop n buf = copied ∙ ap (λ l. take n l ++ drop n buf) same in
    let size' : most ≡ min (length left) (length buf) = size ∙ ap (λ l. min (length l) (length buf)) same in
    let few_left : n ≤ length left = omega arith in
    let few_buf : n ≤ length buf = omega arith in
    let some' : 0 < min (length left) (length buf) → 0 < n = λ h. some (subst (λ m. 0 < m) (sym size') h) in
    rw e (moved left contents buf at n is few_left, ended left contents buf at n is few_left few_buf some')

-- a slice to its end is the rest
pub to_end : (piece : List ℕ) (done : ℕ) → take (length piece - done) (drop done piece) ≡ drop done piece
to_end piece done = grind (arith, common_steps)

-- a front of the piece, and then a front of the rest
pub appended : (a b c : Option (List ℕ)) (piece : List ℕ) (done n : ℕ) → Appends a b (take done piece)
    → Appends b c (take n (take (length piece - done) (drop done piece))) → Appends a c (take (done + n) piece)
appended a b c piece done n first second =
    let e : take done piece ++ take n (take (length piece - done) (drop done piece)) ≡ take (done + n) piece =
    ap (λ l. take done piece ++ take n l) (to_end piece done) ∙ sym (take-add done n piece) in
    subst (Appends a c) e (Appends-trans a b c _ _ first second)

-- before a write the room is whole
pub none_taken : (a : Option ℕ) → LeavesRoom a a 0
none_taken None = tt
none_taken (Some room) = let same : room ≡ room - 0 = omega arith in (omega arith, ap (λ x. Some x) same)

-- one write after others
pub left_more : (a b c : Option ℕ) (m n : ℕ) → LeavesRoom a b m → LeavesRoom b c n → LeavesRoom a c (m + n)
left_more None b c m n first second = tt
left_more (Some room) b c m n (few, is) second =
    let next : LeavesRoom (Some (room - m)) c n = subst (λ x. LeavesRoom x c n) is second in
    let less : room - m - n ≡ room - (m + n) = omega arith in
    (omega (arith, few, next.0), next.1 ∙ ap (λ x. Some x) less)

-- what is full with a part of the piece to come had too little room
pub full_before : (a b : Option ℕ) (m n : ℕ) → LeavesRoom a b m → IsFull b → m < n → LacksRoom a n
full_before None b m n first full less = tt
full_before (Some room) b m n (few, is) full less =
    let none : room - m ≡ 0 = subst (λ x. IsFull x) is full in
    omega (arith, few, none, less)
