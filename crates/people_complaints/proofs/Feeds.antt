-- The first line of a text.
use Rattle.std.proofs.Common.{◌≡◌, ℕ, suc, ◌+◌, ◌-◌, ◌<◌, ◌≤◌, ◌==◌, Bool, true, false, cond, not, List, [], ◌∷◌, ◌++◌, length, take, drop, refl, ap, ◌∙◌, arith, rules}
use Rattle.std.proofs.lemmas.List.{take_all, length-drop, drop-drop}
use Rattle.std.specs.List.{prefix_len}
use Rattle.people_complaints.specs.Lines.{is_line}

abbrev pub other : ℕ → Bool
other b = not (b == 10)

line_go : (b : ℕ) (bs : List ℕ) (v : Bool) → other b ≡ v → is_line (take (prefix_len other bs) bs) ≡ true → is_line (take (cond v (1 + prefix_len other bs) 0) (b ∷ bs)) ≡ true
line_go b bs true e more = let k : 1 + prefix_len other bs ≡ suc (prefix_len other bs) = omega arith in rw (k, e) more
line_go b bs false e more = refl

-- the front before the first line feed has none
pub front_line : (bs : List ℕ) → is_line (take (prefix_len other bs) bs) ≡ true
front_line [] = refl
front_line (b ∷ bs) = line_go b bs (other b) refl (front_line bs)

is_feed : (b : ℕ) → other b ≡ false → b ≡ 10
is_feed b e = search (rules, e)

split_go : (b : ℕ) (bs : List ℕ) (v : Bool) → other b ≡ v → (prefix_len other bs < length bs → bs ≡ take (prefix_len other bs) bs ++ 10 ∷ drop (suc (prefix_len other bs)) bs)
    → cond v (1 + prefix_len other bs) 0 < suc (length bs)
    → b ∷ bs ≡ take (cond v (1 + prefix_len other bs) 0) (b ∷ bs) ++ 10 ∷ drop (suc (cond v (1 + prefix_len other bs) 0)) (b ∷ bs)
split_go b bs true e more lt = let k : 1 + prefix_len other bs ≡ suc (prefix_len other bs) = omega arith in rw k (ap (λ l. b ∷ l) (more (omega arith)))
split_go b bs false e more lt = ap (λ x. x ∷ bs) (is_feed b e)

-- what stands behind that front begins with a line feed
pub split : (bs : List ℕ) → prefix_len other bs < length bs → bs ≡ take (prefix_len other bs) bs ++ 10 ∷ drop (suc (prefix_len other bs)) bs
split [] lt = absurd (omega arith)
split (b ∷ bs) lt = split_go b bs (other b) refl (split bs) lt

-- a text of which nothing stands behind that front is a line
pub whole_line : (bs front rest : List ℕ) → front ≡ take (prefix_len other bs) bs → rest ≡ drop (prefix_len other bs) bs → length rest ≡ 0 → is_line bs ≡ true
whole_line bs front rest f r none =
    let long : length bs ≤ prefix_len other bs = omega (arith, length-drop (prefix_len other bs) bs, ap length r) in
    rw (← take_all (prefix_len other bs) bs long) (front_line bs)

-- else the text is that front, a line feed, and what stands behind this
pub cut_line : (bs front rest : List ℕ) → front ≡ take (prefix_len other bs) bs → rest ≡ drop (prefix_len other bs) bs → 1 ≤ length rest
    → (is_line front ≡ true) × (bs ≡ front ++ 10 ∷ take (length rest - 1) (drop 1 rest))
cut_line bs front rest f r some =
    let n = prefix_len other bs in
    let lt : n < length bs = omega (arith, length-drop n bs, ap length r, some) in
    let later : n + 1 ≡ suc n = omega arith in
    let behind : drop 1 rest ≡ drop (suc n) bs = ap (drop 1) r ∙ drop-drop 1 n bs ∙ ap (λ k. drop k bs) later in
    let all : take (length rest - 1) (drop 1 rest) ≡ drop 1 rest = take_all (length rest - 1) (drop 1 rest) (omega (arith, length-drop 1 rest)) in
    (rw f (front_line bs), rw (all, behind, f) (split bs lt))
