use Rattle.std.proofs.Common.{◌≡◌, ◌∙◌, ℕ, true, false, List, length, take, drop, sym, ap, arith, length-drop}
use Rattle.std.proofs.lemmas.List.{take-append-drop, drop-drop, take_all}
use Rattle.base_texts.proofs.texts.are_bytes_same.Goals as goal
use Rattle.base_texts.proofs.texts.are_bytes_same.Goals.{then-is_word_same, else-is_word_same}

-- lists with the same front and the same rest
same_parts : (n : ℕ) (xs ys : List ℕ) → take n xs ≡ take n ys → drop n xs ≡ drop n ys → xs ≡ ys
same_parts n xs ys front rest =
    let of_xs = take-append-drop n xs in
    let of_ys = take-append-drop n ys in
    cc

-- eight of the last bytes are all of them
last_eight : (xs : List ℕ) → length xs ≡ 22 → take 8 (drop 14 xs) ≡ drop 14 xs
last_eight xs xs_len = take_all 8 (drop 14 xs) (omega (arith, length-drop 14 xs))

-- 22 bytes are known by the eight at 0, at 8 and at 14
known_by_three : (xs ys : List ℕ) → length xs ≡ 22 → length ys ≡ 22
    → take 8 (drop 0 xs) ≡ take 8 (drop 0 ys)
    → take 8 (drop 8 xs) ≡ take 8 (drop 8 ys)
    → take 8 (drop 14 xs) ≡ take 8 (drop 14 ys)
    → xs ≡ ys
known_by_three xs ys xs_len ys_len first second third =
    let last : drop 14 xs ≡ drop 14 ys = sym (last_eight xs xs_len) ∙ third ∙ last_eight ys ys_len in
    let end : drop 8 (drop 8 xs) ≡ drop 8 (drop 8 ys) =
    drop-drop 8 8 xs ∙ sym (drop-drop 2 14 xs) ∙ ap (drop 2) last ∙ drop-drop 2 14 ys ∙ sym (drop-drop 8 8 ys) in
    same_parts 8 xs ys first (same_parts 8 (drop 8 xs) (drop 8 ys) second end)

pub returns-then-is_word_same-2 : goal.returns-then-is_word_same-2
returns-then-is_word_same-2 c = λ same.
    known_by_three c.args.one.now c.args.other.now c.told-one c.told-other
    (c.is_word_same.ensures (elim c.if-is_word_same.branch [
      | then-is_word_same w ↦ w.if-is_word_same.true
      | else-is_word_same w ↦ sym w.value-is ∙ c.if-is_word_same-2.true
    ]))
    (elim c.if-is_word_same.branch [
      | then-is_word_same w ↦ w.is_word_same-then-is_word_same.ensures (sym w.value-is ∙ c.if-is_word_same-2.true)
      | else-is_word_same w ↦ absurd (let not_so : false ≡ true = sym w.if-is_word_same.false ∙ sym w.value-is ∙ c.if-is_word_same-2.true in cc)
    ])
    (c.is_word_same-then-is_word_same-2.ensures same)
