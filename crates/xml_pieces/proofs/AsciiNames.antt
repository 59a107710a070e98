-- Names of ASCII characters, which are tested byte by byte.
use Rattle.std.proofs.Common.{◌≡◌, ℕ, suc, ◌+◌, ◌<◌, Bool, true, false, cond, List, [], ◌∷◌, take, drop, Some, refl, sym, ap, subst, arith, inl, inr}
use Rattle.std.specs.Prelude.{◌==◌, ◌&&◌, ◌||◌, not, chars}
use Rattle.std.specs.List.{list_all, prefix_len}
use Rattle.std.specs.Str.{IsAscii}
use Rattle.std.proofs.lemmas.Str.{chars-IsAscii}
use Rattle.std.proofs.lemmas.Str.Ascii.{IsAscii-nil, IsAscii-cons}
use Rattle.base_texts.specs.Characters.{is_name, is_name_start, is_name_char}
use Rattle.xml_pieces.specs.Reading.{is_name_byte, is_ascii_start, is_ascii_part, is_ascii_name, is_ncname_start, is_ncname_part, is_ascii_ncname, starts_ascii, starts_low, name_at}
use Rattle.xml_pieces.proofs.Tools.{and_true, below, implied, tells}

start_low : (b : ℕ) → is_ascii_start b ≡ true → b < 128
unfolding is_ascii_start
start_low b e = grind (arith, e)

part_low : (b : ℕ) → is_ascii_part b ≡ true → b < 128
unfolding is_ascii_part
part_low b e = grind (arith, e)

start_table : below 128 (λ x. not (is_ascii_start x) || is_name_start x) ≡ true
unfolding is_ascii_start is_name_start
start_table = refl

part_table : below 128 (λ x. not (is_ascii_part x) || is_name_char x) ≡ true
unfolding is_ascii_part is_name_char
part_table = refl

parts_ascii : (bs : List ℕ) → list_all is_ascii_part bs ≡ true → IsAscii bs
parts_ascii [] e = IsAscii-nil
parts_ascii (b ∷ bs) e = let both = and_true (is_ascii_part b) (list_all is_ascii_part bs) e in IsAscii-cons b bs (part_low b both.0) (parts_ascii bs both.1)

parts_named : (bs : List ℕ) → list_all is_ascii_part bs ≡ true → list_all is_name_char bs ≡ true
parts_named [] e = refl
parts_named (b ∷ bs) e =
    let both = and_true (is_ascii_part b) (list_all is_ascii_part bs) e in
    rw (implied 128 is_ascii_part is_name_char b (part_low b both.0) part_table both.0) (parts_named bs both.1)

pub ascii : (bs : List ℕ) → is_ascii_name bs ≡ true → IsAscii bs
ascii [] e = IsAscii-nil
ascii (b ∷ bs) e = let both = and_true (is_ascii_start b) (list_all is_ascii_part bs) e in IsAscii-cons b bs (start_low b both.0) (parts_ascii bs both.1)

pub named : (bs : List ℕ) → is_ascii_name bs ≡ true → is_name bs ≡ true
named [] e = e
named (b ∷ bs) e =
    let both = and_true (is_ascii_start b) (list_all is_ascii_part bs) e in
    rw (implied 128 is_ascii_start is_name_start b (start_low b both.0) start_table both.0) (parts_named bs both.1)

pub ascii_name : (bs : List ℕ) → is_ascii_name bs ≡ true → is_name (chars bs) ≡ true
ascii_name bs e = rw (chars-IsAscii bs (ascii bs e)) (named bs e)

-- ---- such a name without a colon

ncstart_low : (b : ℕ) → is_ncname_start b ≡ true → b < 128
unfolding is_ncname_start
ncstart_low b e = grind (arith, e)

ncpart_low : (b : ℕ) → is_ncname_part b ≡ true → b < 128
unfolding is_ncname_part
ncpart_low b e = grind (arith, e)

ncstart_table : below 128 (λ x. not (is_ncname_start x) || (is_ascii_start x && not (x == 0x3A))) ≡ true
unfolding is_ncname_start is_ascii_start
ncstart_table = refl

ncpart_table : below 128 (λ x. not (is_ncname_part x) || (is_ascii_part x && not (x == 0x3A))) ≡ true
unfolding is_ncname_part is_ascii_part
ncpart_table = refl

nc_part : (b : ℕ) → is_ncname_part b ≡ true → (is_ascii_part b ≡ true) × (not (b == 0x3A) ≡ true)
nc_part b e = and_true (is_ascii_part b) (not (b == 0x3A)) (implied 128 is_ncname_part (λ x. is_ascii_part x && not (x == 0x3A)) b (ncpart_low b e) ncpart_table e)

nc_start : (b : ℕ) → is_ncname_start b ≡ true → (is_ascii_start b ≡ true) × (not (b == 0x3A) ≡ true)
nc_start b e = and_true (is_ascii_start b) (not (b == 0x3A)) (implied 128 is_ncname_start (λ x. is_ascii_start x && not (x == 0x3A)) b (ncstart_low b e) ncstart_table e)

nc_parts : (bs : List ℕ) → list_all is_ncname_part bs ≡ true → (list_all is_ascii_part bs ≡ true) × (list_all (λ b. not (b == 0x3A)) bs ≡ true)
nc_parts [] e = (refl, refl)
nc_parts (b ∷ bs) e =
    let both = and_true (is_ncname_part b) (list_all is_ncname_part bs) e in
    let own = nc_part b both.0 in
    let more = nc_parts bs both.1 in
    (rw own.0 more.0, rw own.1 more.1)

pub ncname_named : (bs : List ℕ) → is_ascii_ncname bs ≡ true → is_ascii_name bs ≡ true
ncname_named [] e = e
ncname_named (b ∷ bs) e =
    let both = and_true (is_ncname_start b) (list_all is_ncname_part bs) e in
    rw (nc_start b both.0).0 (nc_parts bs both.1).0

pub ncname_colons : (bs : List ℕ) → is_ascii_ncname bs ≡ true → list_all (λ b. not (b == 0x3A)) bs ≡ true
ncname_colons [] e = refl
ncname_colons (b ∷ bs) e =
    let both = and_true (is_ncname_start b) (list_all is_ncname_part bs) e in
    rw (nc_start b both.0).1 (nc_parts bs both.1).1

-- ---- the bytes of such a name, where no byte behind ASCII follows

name_table : below 128 (λ x. not (is_ascii_part x) || is_name_byte x) ≡ true
unfolding is_ascii_part is_name_byte
name_table = refl

back_table : below 128 (λ x. not (is_name_byte x) || is_ascii_part x) ≡ true
unfolding is_ascii_part is_name_byte
back_table = refl

first_table : below 128 (λ x. not (is_ascii_start x) || is_ascii_part x) ≡ true
unfolding is_ascii_start is_ascii_part
first_table = refl

no_name_byte : (b : ℕ) → b < 128 → is_ascii_part b ≡ false → is_name_byte b ≡ false
no_name_byte b lt e = elim (tells (is_name_byte b)) [
  | inl y ↦ absurd (let z : is_ascii_part b ≡ true = implied 128 is_name_byte is_ascii_part b lt back_table y in cc)
  | inr n ↦ n
]

one_more : (n : ℕ) → 1 + n ≡ suc n
one_more n = omega arith

run_on : (b : ℕ) (bs : List ℕ) (t : Bool) → is_ascii_part b ≡ t → starts_low (drop (cond t (1 + prefix_len is_ascii_part bs) 0) (b ∷ bs)) ≡ true
    → (starts_low (drop (prefix_len is_ascii_part bs) bs) ≡ true → prefix_len is_name_byte bs ≡ prefix_len is_ascii_part bs)
    → cond (is_name_byte b) (1 + prefix_len is_name_byte bs) 0 ≡ cond t (1 + prefix_len is_ascii_part bs) 0
run_on b bs true e h more =
    let behind : starts_low (drop (prefix_len is_ascii_part bs) bs) ≡ true = subst (λ (n : ℕ). starts_low (drop n (b ∷ bs)) ≡ true) (one_more (prefix_len is_ascii_part bs)) h in
    rw (implied 128 is_ascii_part is_name_byte b (part_low b e) name_table e) (ap (λ (n : ℕ). 1 + n) (more behind))
run_on b bs false e h more = rw (no_name_byte b (grind (arith, h)) e) refl

run : (bs : List ℕ) → starts_low (drop (prefix_len is_ascii_part bs) bs) ≡ true → prefix_len is_name_byte bs ≡ prefix_len is_ascii_part bs
run [] h = refl
run (b ∷ bs) h = run_on b bs (is_ascii_part b) refl h (run bs)

parts_on : (b : ℕ) (bs : List ℕ) (t : Bool) → is_ascii_part b ≡ t → list_all is_ascii_part (take (prefix_len is_ascii_part bs) bs) ≡ true → list_all is_ascii_part (take (cond t (1 + prefix_len is_ascii_part bs) 0) (b ∷ bs)) ≡ true
parts_on b bs true e h = subst (λ (n : ℕ). list_all is_ascii_part (take n (b ∷ bs)) ≡ true) (sym (one_more (prefix_len is_ascii_part bs))) (rw e h)
parts_on b bs false e h = refl

parts_taken : (bs : List ℕ) → list_all is_ascii_part (take (prefix_len is_ascii_part bs) bs) ≡ true
parts_taken [] = refl
parts_taken (b ∷ bs) = parts_on b bs (is_ascii_part b) refl (parts_taken bs)

front : (b : ℕ) (bs : List ℕ) → is_ascii_start b ≡ true → is_ascii_name (take (prefix_len is_ascii_part (b ∷ bs)) (b ∷ bs)) ≡ true
front b bs s =
    let count : prefix_len is_ascii_part (b ∷ bs) ≡ suc (prefix_len is_ascii_part bs) = rw (implied 128 is_ascii_start is_ascii_part b (start_low b s) first_table s) (one_more (prefix_len is_ascii_part bs)) in
    subst (λ (n : ℕ). is_ascii_name (take n (b ∷ bs)) ≡ true) (sym count) (rw s (parts_taken bs))

pub plain : (bs : List ℕ) → starts_ascii bs ≡ true → starts_low (drop (prefix_len is_ascii_part bs) bs) ≡ true
    → name_at bs ≡ Some (take (prefix_len is_ascii_part bs) bs, drop (prefix_len is_ascii_part bs) bs)
unfolding name_at
plain [] s h = absurd cc
plain (b ∷ bs) s h = rw (run (b ∷ bs) h, ascii_name (take (prefix_len is_ascii_part (b ∷ bs)) (b ∷ bs)) (front b bs s)) refl
