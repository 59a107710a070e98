use Rattle.std.proofs.Common.{◌≡◌, ◌∙◌, ℕ, List, length, take, drop, sym, arith, length-drop}
use Rattle.std.proofs.lemmas.List.{take-append-drop, take_all}
use Rattle.xml_items.proofs.characters.are_bytes_same.Goals as goal

-- lists with the same front and the same rest
same_parts : (n : ℕ) (xs ys : List ℕ) → take n xs ≡ take n ys → drop n xs ≡ drop n ys → xs ≡ ys
same_parts n xs ys front rest =
    let of_xs = take-append-drop n xs in
    let of_ys = take-append-drop n ys in
    cc

-- eight of the last bytes are all of them
last_eight : (xs : List ℕ) → length xs ≡ 16 → take 8 (drop 8 xs) ≡ drop 8 xs
last_eight xs xs_len = take_all 8 (drop 8 xs) (omega (arith, length-drop 8 xs))

-- 16 bytes are known by the eight at 0 and at 8
known_by_two : (xs ys : List ℕ) → length xs ≡ 16 → length ys ≡ 16 → take 8 (drop 0 xs) ≡ take 8 (drop 0 ys) → take 8 (drop 8 xs) ≡ take 8 (drop 8 ys) → xs ≡ ys
known_by_two xs ys xs_len ys_len first second = same_parts 8 xs ys first (sym (last_eight xs xs_len) ∙ second ∙ last_eight ys ys_len)

pub returns-then-is_word_same : goal.returns-then-is_word_same
returns-then-is_word_same c = λ same.
    known_by_two c.args.one.now c.args.other.now c.told-one c.told-other (c.is_word_same.ensures c.if-is_word_same.true) (c.is_word_same-then-is_word_same.ensures same)
