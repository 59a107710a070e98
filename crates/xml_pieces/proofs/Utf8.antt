-- Texts cut at bytes of ASCII.
use Rattle.std.proofs.Common.{◌≡◌, ℕ, ◌+◌, ◌<◌, ◌≤◌, Bool, true, false, eqb, List, [], ◌∷◌, ◌++◌, length, take, drop, get_or, Some, None, refl, sym, ap, subst, ◌∙◌, append_assoc, inl, inr, arith}
use Rattle.std.specs.Prelude.{IsUtf8, IsCharBoundary, chars, nat_lt, ◌==◌, not}
use Rattle.std.specs.List.{prefix_len, list_all}
use Rattle.std.proofs.lemmas.List.{length-append, take_at, drop_at, take-append-drop}
use Rattle.std.proofs.lemmas.List.Sums.{prefix_len-le-length, prefix_len_stops}
use Rattle.std.proofs.lemmas.Str.{IsUtf8-take, IsUtf8-drop, IsCharBoundary-before_ascii, IsCharBoundary-after_ascii}
use Rattle.base_texts.specs.Characters.{is_name}
use Rattle.base_texts.specs.WhiteSpace.{is_white_space}
use Rattle.xml_pieces.specs.Pieces.{behind, is_quote}
use Rattle.xml_pieces.specs.Reading.{is_name_byte, name_at, past_blank, space_at, equals_at, upto_at, quoted_at, until}
use Rattle.xml_pieces.proofs.Strips.{behind_takes}
use Rattle.xml_pieces.proofs.Tools.{bind_some, pairs, only_some, chosen, and_true, some_is, never}
use Rattle.xml_pieces.proofs.Cutting.{until_takes}
use Rattle.xml_pieces.proofs.Runs.{all_front, get_or-middle}

boundary_go : (p : ℕ → Bool) → ((b : ℕ) → p b ≡ false → b < 128) → (bytes : List ℕ) (n : ℕ) → n ≤ length bytes → (n < length bytes → p (get_or bytes n 0) ≡ false) → IsCharBoundary bytes n
boundary_go p low bytes n le stops = (le, λ lt high. let small : get_or bytes n 0 < 128 = low (get_or bytes n 0) (stops lt) in absurd (omega (arith, small, high)))

-- a run of what passes, where all that fails is ASCII
pub run_boundary : (p : ℕ → Bool) → ((b : ℕ) → p b ≡ false → b < 128) → (bytes : List ℕ) → IsCharBoundary bytes (prefix_len p bytes)
run_boundary p low bytes = boundary_go p low bytes (prefix_len p bytes) (prefix_len-le-length p bytes) (prefix_len_stops p bytes 0)

pub run_utf8 : (p : ℕ → Bool) → ((b : ℕ) → p b ≡ false → b < 128) → (bytes : List ℕ) → IsUtf8 bytes → IsUtf8 (take (prefix_len p bytes) bytes) × IsUtf8 (drop (prefix_len p bytes) bytes)
run_utf8 p low bytes u = (IsUtf8-take bytes (prefix_len p bytes) u (run_boundary p low bytes), IsUtf8-drop bytes (prefix_len p bytes) u (run_boundary p low bytes))

name_low : (b : ℕ) → is_name_byte b ≡ false → b < 128
unfolding is_name_byte
name_low b e = grind (arith, e)

pub name_utf8 : (bytes : List ℕ) → IsUtf8 bytes → IsUtf8 (take (prefix_len is_name_byte bytes) bytes) × IsUtf8 (drop (prefix_len is_name_byte bytes) bytes)
name_utf8 bytes u = run_utf8 is_name_byte name_low bytes u

-- a text may be cut before and behind a byte of ASCII
pub cut_utf8 : (bytes xs ys : List ℕ) (b : ℕ) → IsUtf8 bytes → bytes ≡ xs ++ b ∷ ys → b < 128 → IsUtf8 xs × IsUtf8 (b ∷ ys) × IsUtf8 ys
cut_utf8 bytes xs ys b u is low =
    let n = length xs in
    let lt : n < length bytes = omega (arith, ap length is, length-append xs (b ∷ ys)) in
    let at : get_or bytes n 0 ≡ b = ap (λ (x : List ℕ). get_or x n 0) is ∙ get_or-middle xs ys b in
    let at_low : get_or bytes n 0 < 128 = rw at low in
    let front : take n bytes ≡ xs = ap (take n) is ∙ take_at xs (b ∷ ys) n refl in
    let rest : drop n bytes ≡ b ∷ ys = ap (drop n) is ∙ drop_at xs (b ∷ ys) n refl in
    let far : drop (n + 1) bytes ≡ ys = ap (drop (n + 1)) (is ∙ sym (append_assoc xs (b ∷ []) ys)) ∙ drop_at (xs ++ b ∷ []) ys (n + 1) (omega (arith, length-append xs (b ∷ []))) in (
      subst IsUtf8 front (IsUtf8-take bytes n u (IsCharBoundary-before_ascii bytes n lt at_low)),
      subst IsUtf8 rest (IsUtf8-drop bytes n u (IsCharBoundary-before_ascii bytes n lt at_low)),
      subst IsUtf8 far (IsUtf8-drop bytes (n + 1) u (IsCharBoundary-after_ascii bytes n u lt at_low)),
    )

abbrev pub all_ascii : List ℕ → Bool
all_ascii bytes = list_all (λ b. nat_lt b 128) bytes

pub past_utf8 : (front rest : List ℕ) → all_ascii front ≡ true → IsUtf8 (front ++ rest) → IsUtf8 rest
past_utf8 [] rest low u = u
past_utf8 (a ∷ front) rest low u =
    let both = and_true (nat_lt a 128) (all_ascii front) low in
    let small : a < 128 = grind (arith, both.0) in
    past_utf8 front rest both.1 (cut_utf8 (a ∷ front ++ rest) [] (front ++ rest) a u refl small).2

pub behind_utf8 : (front bytes rest : List ℕ) → all_ascii front ≡ true → behind front bytes ≡ Some rest → IsUtf8 bytes → IsUtf8 rest
behind_utf8 front bytes rest low e u = past_utf8 front rest low (subst IsUtf8 (behind_takes front bytes rest e) u)

pub white_low : (b : ℕ) → is_white_space b ≡ true → b < 128
unfolding is_white_space
white_low b e = grind (arith, e)

all_white : (bytes : List ℕ) → list_all is_white_space (take (prefix_len is_white_space bytes) bytes) ≡ true
all_white bytes = all_front is_white_space bytes

white_ascii : (bytes : List ℕ) → list_all is_white_space bytes ≡ true → all_ascii bytes ≡ true
white_ascii [] e = refl
white_ascii (b ∷ bs) e =
    let both = and_true (is_white_space b) (list_all is_white_space bs) e in
    let small : b < 128 = white_low b both.0 in
    let test : nat_lt b 128 ≡ true = grind (arith, small) in
    rw test (white_ascii bs both.1)

pub blank_utf8 : (bytes : List ℕ) → IsUtf8 bytes → IsUtf8 (past_blank bytes)
blank_utf8 bytes u =
    let n = prefix_len is_white_space bytes in
    past_utf8 (take n bytes) (drop n bytes) (white_ascii (take n bytes) (all_white bytes)) (subst IsUtf8 (sym (take-append-drop n bytes)) u)

pub space_utf8 : (bytes rest : List ℕ) → space_at bytes ≡ Some rest → IsUtf8 bytes → IsUtf8 rest
unfolding space_at
space_utf8 bytes rest e u = elim (chosen (eqb (prefix_len is_white_space bytes) 0) None (Some (past_blank bytes)) (Some rest) e) [
  | inl h ↦ absurd (never rest h.1)
  | inr h ↦ subst IsUtf8 (some_is (past_blank bytes) rest h.1) (blank_utf8 bytes u)
]

pub equals_utf8 : (bytes rest : List ℕ) → equals_at bytes ≡ Some rest → IsUtf8 bytes → IsUtf8 rest
unfolding equals_at
equals_utf8 bytes rest e u =
    let a = bind_some (behind (61 ∷ []) (past_blank bytes)) (λ r. Some (past_blank r)) rest e in
    subst IsUtf8 (some_is (past_blank a.0) rest a.2) (blank_utf8 a.0 (behind_utf8 (61 ∷ []) (past_blank bytes) a.0 refl a.1 (blank_utf8 bytes u)))

pub upto_takes : (a : ℕ) (bytes inner rest : List ℕ) → upto_at a bytes ≡ Some (inner, rest) → bytes ≡ inner ++ a ∷ rest
unfolding upto_at
upto_takes a bytes inner rest e =
    let n = prefix_len (λ b. not (b == a)) bytes in
    let f = bind_some (behind (a ∷ []) (drop n bytes)) (λ r. Some (take n bytes, r)) (inner, rest) e in
    let both = pairs (take n bytes, f.0) (inner, rest) f.2 in
    let tail : drop n bytes ≡ a ∷ f.0 = behind_takes (a ∷ []) (drop n bytes) f.0 f.1 in
    sym (take-append-drop n bytes) ∙ (let r : take n bytes ++ drop n bytes ≡ inner ++ a ∷ rest = rw tail (λ i. both.0 i ++ a ∷ both.1 i) in r)

pub quoted_takes : (bytes inner rest : List ℕ) → quoted_at bytes ≡ Some (inner, rest) → (q : ℕ) × (is_quote q ≡ true) × (upto_at q (drop 1 bytes) ≡ Some (inner, rest)) × (bytes ≡ q ∷ inner ++ q ∷ rest)
unfolding quoted_at
quoted_takes [] inner rest e = absurd cc
quoted_takes (b ∷ bs) inner rest e =
    let o = only_some (is_quote b) (upto_at b bs) (inner, rest) e in
    (b, o.0, o.1, ap (λ (x : List ℕ). b ∷ x) (upto_takes b bs inner rest o.1))

quote_low : (q : ℕ) → is_quote q ≡ true → q < 128
quote_low q e = grind (arith, e)

pub quoted_utf8 : (bytes inner rest : List ℕ) → quoted_at bytes ≡ Some (inner, rest) → IsUtf8 bytes → IsUtf8 inner × IsUtf8 rest
quoted_utf8 bytes inner rest e u =
    let t = quoted_takes bytes inner rest e in
    let one = cut_utf8 bytes [] (inner ++ t.0 ∷ rest) t.0 u t.3 (quote_low t.0 t.1) in
    let two = cut_utf8 (inner ++ t.0 ∷ rest) inner rest t.0 one.2 refl (quote_low t.0 t.1) in
    (two.0, two.2)

pub name_rest_utf8 : (bytes name rest : List ℕ) → name_at bytes ≡ Some (name, rest) → IsUtf8 bytes → IsUtf8 name × IsUtf8 rest
unfolding name_at
name_rest_utf8 bytes name rest e u =
    let n = prefix_len is_name_byte bytes in
    let o = only_some (is_name (chars (take n bytes))) (Some (take n bytes, drop n bytes)) (name, rest) e in
    let both = pairs (take n bytes, drop n bytes) (name, rest) o.1 in
    let us = name_utf8 bytes u in
    (subst IsUtf8 both.0 us.0, subst IsUtf8 both.1 us.1)

pub until_utf8 : (a : ℕ) (more bytes inner rest : List ℕ) → all_ascii (a ∷ more) ≡ true → until (a ∷ more) bytes ≡ Some (inner, rest) → IsUtf8 bytes → IsUtf8 inner × IsUtf8 rest
until_utf8 a more bytes inner rest low e u =
    let both = and_true (nat_lt a 128) (all_ascii more) low in
    let small : a < 128 = grind (arith, both.0) in
    let cut = cut_utf8 bytes inner (more ++ rest) a u (until_takes (a ∷ more) bytes inner rest e) small in
    (cut.0, past_utf8 more rest both.1 cut.2)
