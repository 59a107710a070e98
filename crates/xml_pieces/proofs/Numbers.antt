-- Numbers of digits, held at a greatest value.
use Rattle.std.proofs.Common.{◌≡◌, ℕ, zero, suc, ◌+◌, ◌*◌, ◌<◌, ◌≤◌, true, false, List, [], ◌∷◌, drop, get_or, length, refl, sym, ap, ◌∙◌, inl, inr, arith, add-one, drop-cons}
use Rattle.std.specs.Prelude.{◌⊎◌, min}
use Rattle.std.specs.Char.{digit_value, IsScalar}
use Rattle.base_texts.specs.Characters.{is_xml_char}
use Rattle.xml_pieces.specs.Pieces.{number}
use Rattle.xml_pieces.proofs.Tools.{tells}
use Rattle.std.proofs.Math.Nat.{mul-le-mul_left, mul-one}

grows : (base before : ℕ) (ds : List ℕ) → 1 ≤ base → before ≤ number base before ds
grows base before [] low = omega arith
grows base before (d ∷ ds) low =
    let wide : before * 1 ≤ before * base = mul-le-mul_left before low in
    omega (arith, wide, mul-one before, grows base (before * base + digit_value d) ds low)

le_total : (a b : ℕ) → (a ≤ b) ⊎ (b ≤ a)
le_total zero b = inl (omega arith)
le_total (suc a) zero = inr (omega arith)
le_total (suc a) (suc b) = elim (le_total a b) [ inl h ↦ inl (omega (arith, h)) | inr h ↦ inr (omega (arith, h)) ]

high : (n : ℕ) → 0x110000 ≤ n → is_xml_char n ≡ false
unfolding is_xml_char
high n ge = grind (arith, ge)

-- a greater number than the last that counts is as good as it
held : (base n top : ℕ) (ds : List ℕ) → 1 ≤ base → min (number base (min top n) ds) top ≡ min (number base n ds) top
held base n top ds low = elim (le_total n top) [
  | inl le ↦ (let small : min top n ≡ n = grind (arith, le) in rw small refl)
  | inr ge ↦ (
      let big : min top n ≡ top = grind (arith, ge) in
      let one : min (number base top ds) top ≡ top = grind (arith, grows base top ds low) in
      let two : min (number base n ds) top ≡ top = grind (arith, grows base n ds low, ge) in
      rw big (one ∙ sym two))
]

-- a number of an XML character is one of a character
pub xml_scalar : (c : ℕ) → is_xml_char c ≡ true → IsScalar c
unfolding is_xml_char
xml_scalar c e = grind (arith, e)

pub no_xml : (c : ℕ) → (IsScalar c → ⊥) → is_xml_char c ≡ false
no_xml c none = elim (tells (is_xml_char c)) [ inl h ↦ absurd (none (xml_scalar c h)) | inr h ↦ h ]

-- where a number is held at the top, it is no XML character
pub held_xml : (n : ℕ) → is_xml_char (min n 0x110000) ≡ is_xml_char n
held_xml n = elim (le_total n 0x110000) [
  | inl le ↦ (let small : min n 0x110000 ≡ n = grind (arith, le) in rw small refl)
  | inr ge ↦ (let big : min n 0x110000 ≡ 0x110000 = grind (arith, ge) in ap is_xml_char big ∙ high 0x110000 (omega arith) ∙ sym (high n ge))
]

pub step : (base n top : ℕ) (ds : List ℕ) (i : ℕ) (total : ℕ) → 1 ≤ base → i < length ds → min (number base n (drop i ds)) top ≡ total
    → min (number base (min top (n * base + digit_value (get_or ds i 0))) (drop (i + 1) ds)) top ≡ total
step base n top ds i total low lt so_far =
    let cut : drop i ds ≡ get_or ds i 0 ∷ drop (i + 1) ds = rw (add-one, drop-cons ds i 0) refl in
    held base (n * base + digit_value (get_or ds i 0)) top (drop (i + 1) ds) low ∙ ap (λ (x : List ℕ). min (number base n x) top) (sym cut) ∙ so_far

pub held_is : (n : ℕ) → is_xml_char (min n 0x110000) ≡ true → min n 0x110000 ≡ n
held_is n e = elim (le_total n 0x110000) [
  | inl le ↦ grind (arith, le)
  | inr ge ↦ absurd (let high_is : is_xml_char n ≡ false = high n ge in let same : is_xml_char n ≡ true = sym (held_xml n) ∙ e in cc)
]

pub none_found : (m n : ℕ) → m ≡ min n 0x110000 → (IsScalar m → ⊥) → is_xml_char n ≡ false
none_found m n is none = sym (held_xml n) ∙ ap is_xml_char (sym is) ∙ no_xml m none

pub not_found : (m n : ℕ) → m ≡ min n 0x110000 → is_xml_char m ≡ false → is_xml_char n ≡ false
not_found m n is e = sym (held_xml n) ∙ ap is_xml_char (sym is) ∙ e

pub is_found : (m n : ℕ) → m ≡ min n 0x110000 → is_xml_char m ≡ true → (m ≡ n) × (is_xml_char n ≡ true)
is_found m n is e =
    let h : is_xml_char (min n 0x110000) ≡ true = ap is_xml_char (sym is) ∙ e in
    (is ∙ held_is n h, sym (held_xml n) ∙ h)
