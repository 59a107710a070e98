-- Numbers in the order that numbers tell, as the code finds it.
use Rattle.std.proofs.Common.{◌≡◌, ℕ, zero, suc, ◌+◌, ◌-◌, ◌<◌, ◌≤◌, Bool, true, false, Option, Some, None, List, [], ◌∷◌, ◌++◌, length, get_or, set, take, drop, append_assoc, refl, sym, ◌∙◌, ap, arith}
use Rattle.std.specs.List.{range_with_len}
use Rattle.std.proofs.lemmas.List.{drop_more}
use Rattle.simple_types.specs.Labels.{count_set}
use Rattle.asn_values.specs.Ordering.{slots, slot_at, emptied, put_some, taken, in_order}

-- ---- numbers in a row

pub range-more : (n a : ℕ) → range_with_len a n ++ (a + n) ∷ [] ≡ range_with_len a (n + 1)
range-more zero a = let at : a + 0 ≡ a = omega arith in ap (λ k. k ∷ []) at
range-more (suc n) a =
    let at : a + suc n ≡ (a + 1) + n = omega arith in
    let long : suc (n + 1) ≡ suc n + 1 = omega arith in
    ap (λ k. a ∷ (range_with_len (a + 1) n ++ k ∷ [])) at ∙ ap (λ l. a ∷ l) (range-more n (a + 1)) ∙ ap (range_with_len a) long

pub range-length : (n a : ℕ) → length (range_with_len a n) ≡ n
range-length zero a = refl
range-length (suc n) a = ap suc (range-length n (a + 1))

range-take : (k n a : ℕ) → k ≤ n → take k (range_with_len a n) ≡ range_with_len a k
range-take zero n a h = refl
range-take (suc k) zero a h = absurd (omega (arith, h))
range-take (suc k) (suc n) a h = ap (λ l. a ∷ l) (range-take k n (a + 1) (omega (arith, h)))

range-drop : (k n a : ℕ) → k ≤ n → drop k (range_with_len a n) ≡ range_with_len (a + k) (n - k)
range-drop zero n a h = let at : a ≡ a + 0 = omega arith in let long : n ≡ n - 0 = omega arith in ap (λ x. range_with_len x n) at ∙ ap (λ m. range_with_len (a + 0) m) long
range-drop (suc k) zero a h = absurd (omega (arith, h))
range-drop (suc k) (suc n) a h =
    let at : (a + 1) + k ≡ a + suc k = omega arith in
    let long : n - k ≡ suc n - suc k = omega arith in
    range-drop k n (a + 1) (omega (arith, h)) ∙ ap (λ x. range_with_len x (n - k)) at ∙ ap (λ m. range_with_len (a + suc k) m) long

-- ---- slots

module _ (all : List (Option ℕ)) (flags : List Bool) (k next end : ℕ) (within : k < length flags) where
  pub slot-taken : get_or flags k false ≡ true → next < end
      → all ++ slots (drop k flags) (range_with_len next (end - next)) ≡ (all ++ Some next ∷ []) ++ slots (drop (k + 1) flags) (range_with_len (next + 1) (end - (next + 1)))
  slot-taken e below =
      let rest = slots (drop (k + 1) flags) (range_with_len (next + 1) (end - (next + 1))) in
      let long : end - next ≡ suc (end - (next + 1)) = omega (arith, below) in
      ap (λ fs. all ++ slots fs (range_with_len next (end - next))) (drop_more flags k false within ∙ ap (λ b. b ∷ drop (k + 1) flags) e)
      ∙ ap (λ m. all ++ slots (true ∷ drop (k + 1) flags) (range_with_len next m)) long ∙ sym (append_assoc all (Some next ∷ []) rest)

  pub slot-left : get_or flags k false ≡ false
      → all ++ slots (drop k flags) (range_with_len next (end - next)) ≡ (all ++ None ∷ []) ++ slots (drop (k + 1) flags) (range_with_len next (end - next))
  slot-left e =
      ap (λ fs. all ++ slots fs (range_with_len next (end - next))) (drop_more flags k false within ∙ ap (λ b. b ∷ drop (k + 1) flags) e)
      ∙ sym (append_assoc all (None ∷ []) (slots (drop (k + 1) flags) (range_with_len next (end - next))))

-- ---- numbers that take them

slot-past : (all : List (Option ℕ)) (i : ℕ) → length all ≤ i → slot_at all i ≡ None
slot-past [] i h = refl
slot-past (slot ∷ others) zero h = absurd (omega (arith, h))
slot-past (slot ∷ others) (suc i) h = slot-past others i (omega (arith, h))

slot-get : (all : List (Option ℕ)) (i : ℕ) (x : Option ℕ) → i < length all → x ≡ get_or all i x → slot_at all i ≡ x
slot-get [] i x h e = absurd (omega (arith, h))
slot-get (slot ∷ others) zero x h e = sym e
slot-get (slot ∷ others) (suc i) x h e = slot-get others i x (omega (arith, h)) e

emptied-set : (all : List (Option ℕ)) (i : ℕ) → emptied all i ≡ set all i None
emptied-set [] i = refl
emptied-set (slot ∷ others) zero = refl
emptied-set (slot ∷ others) (suc i) = ap (λ l. slot ∷ l) (emptied-set others i)

emptied-none : (all : List (Option ℕ)) (i : ℕ) → slot_at all i ≡ None → emptied all i ≡ all
emptied-none [] i e = refl
emptied-none (slot ∷ others) zero e = ap (λ s. s ∷ others) (sym e)
emptied-none (slot ∷ others) (suc i) e = ap (λ l. slot ∷ l) (emptied-none others i e)

pub take-some : (order : List ℕ) (all : List (Option ℕ)) (i x : ℕ) (others : List ℕ) → i < length all → Some x ≡ get_or all i (Some x)
    → order ++ taken all (i ∷ others) ≡ (order ++ x ∷ []) ++ taken (set all i None) others
take-some order all i x others within e =
    ap (λ o. order ++ put_some o (taken (emptied all i) others)) (slot-get all i (Some x) within e)
    ∙ ap (λ s. order ++ x ∷ taken s others) (emptied-set all i) ∙ sym (append_assoc order (x ∷ []) (taken (set all i None) others))

take-none : (order : List ℕ) (all : List (Option ℕ)) (i : ℕ) (others : List ℕ) → slot_at all i ≡ None → order ++ taken all (i ∷ others) ≡ order ++ taken all others
take-none order all i others e =
    ap (λ o. order ++ put_some o (taken (emptied all i) others)) e ∙ ap (λ s. order ++ taken s others) (emptied-none all i e)

pub take-empty : (order : List ℕ) (all : List (Option ℕ)) (i : ℕ) (others : List ℕ) → i < length all → None ≡ get_or all i None → order ++ taken all (i ∷ others) ≡ order ++ taken all others
take-empty order all i others within e = take-none order all i others (slot-get all i None within e)

pub take-past : (order : List ℕ) (all : List (Option ℕ)) (i : ℕ) (others : List ℕ) → length all ≤ i → order ++ taken all (i ∷ others) ≡ order ++ taken all others
take-past order all i others past = take-none order all i others (slot-past all i past)

-- ---- and all

pub all-ordered : (flags : List Bool) (numbers : List ℕ) (count front : ℕ) (order : List ℕ) (all : List (Option ℕ)) → front ≡ count - count_set flags → order ≡ range_with_len 0 front
    → all ≡ slots flags (range_with_len front (count - front)) → order ++ taken all numbers ≡ in_order flags numbers (range_with_len 0 count)
all-ordered flags numbers count front order all f o a =
    let row = range_with_len 0 count in
    let made = λ (n : ℕ). take n row ++ taken (slots flags (drop n row)) numbers in
    let small : front ≤ count = omega (arith, f) in
    let start : 0 + front ≡ front = omega arith in
    ap (λ l. l ++ taken all numbers) (o ∙ sym (range-take front count 0 small))
    ∙ ap (λ s. take front row ++ taken s numbers) (a ∙ ap (slots flags) (sym (range-drop front count 0 small ∙ ap (λ x. range_with_len x (count - front)) start)))
    ∙ ap made (f ∙ ap (λ n. n - count_set flags) (sym (range-length count 0)))
