use Rattle.std.proofs.Common.{◌≡◌, ◌≤◌, ◌<◌, ◌+◌, ◌∙◌, ℕ, inl, inr, List, length, get_or, take, drop, sym, ap, arith, length-drop}
use Rattle.std.proofs.lemmas.Bool.{eqb-true, cases_lt}
use Rattle.std.proofs.lemmas.List.{get_or-take, get_or-drop, get_or_past, length-take, length-take-le}
use Rattle.std.proofs.lemmas.Nat.{le_bytes_8}
use Rattle.std.specs.Int.{w64, from_le_bytes, to_le_bytes}
use Rattle.xml_items.proofs.characters.is_word_same.Goals as goal

-- eight bytes are known by their word
known_by_word : (xs ys : List ℕ) (m n : ℕ)
    → length xs ≡ 8 → ((i : ℕ) → get_or xs i 0 < 256) → m ≡ from_le_bytes w64 xs
    → length ys ≡ 8 → ((i : ℕ) → get_or ys i 0 < 256) → n ≡ from_le_bytes w64 ys
    → m ≡ n → xs ≡ ys
known_by_word xs ys m n xs_len xs_small of_xs ys_len ys_small of_ys same =
    sym (le_bytes_8 xs m xs_len xs_small of_xs) ∙ ap (to_le_bytes w64) same ∙ le_bytes_8 ys n ys_len ys_small of_ys

-- a part of bytes is of bytes
part_small : (bs : List ℕ) (at : ℕ) → ((i : ℕ) → get_or bs i 0 < 256) → (i : ℕ) → get_or (take 8 (drop at bs)) i 0 < 256
part_small bs at small i = elim (cases_lt i 8) [
  | inl h ↦ omega (arith, get_or-take 8 (drop at bs) i 0 h, get_or-drop at bs i 0, small (at + i))
  | inr h ↦ omega (arith, get_or_past (take 8 (drop at bs)) i 0 (omega (arith, length-take 8 (drop at bs))))
]

-- eight of 16 bytes
part_len : (bs : List ℕ) (at : ℕ) → length bs ≡ 16 → at ≤ 8 → length (take 8 (drop at bs)) ≡ 8
part_len bs at bs_len within = length-take-le 8 (drop at bs) (omega (arith, length-drop at bs))

pub returns : goal.returns
returns c = λ same.
    let one = c.args.one.now in
    let other = c.args.other.now in
    let at = c.args.at in
    known_by_word (take 8 (drop at one)) (take 8 (drop at other)) c.from_le_bytes.result c.from_le_bytes-2.result
    (part_len one at c.told-one c.requires) (part_small one at c.fits-one)
    (c.from_le_bytes.ensures ∙ ap (from_le_bytes w64) c.eight_at.ensures)
    (part_len other at c.told-other c.requires) (part_small other at c.fits-other)
    (c.from_le_bytes-2.ensures ∙ ap (from_le_bytes w64) c.eight_at-2.ensures)
    (eqb-true c.from_le_bytes.result c.from_le_bytes-2.result same)
