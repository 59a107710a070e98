-- Bounds and sizes without a fault are those of a module, and sizes are printed as they are written.
use Rattle.std.proofs.Common.{◌≡◌, ℕ, zero, suc, ◌<◌, ◌^◌, Bool, true, false, ◌&&◌, not, Option, Some, None, List, [], ◌++◌, refl, sym, ap, ◌∙◌, subst, arith, codes, is_some}
use Rattle.std.specs.Prelude.{ℤ, pos, negsuc, int_lt, nat_lt, if◌then◌else◌}
use Rattle.std.specs.Fmt.{signed_decimal}
use Rattle.std.specs.Ordering.{int_eq}
use Rattle.std.proofs.lemmas.Bool.{true≢false, ltb-true}
use Rattle.std.proofs.lemmas.Bool.Decides.{Decides-int_eq}
use Rattle.simple_types.specs.Lexical.{is_128_bits, whole_number}
use Rattle.simple_types.specs.Sound.{AreBounds, AreSizes}
use Rattle.asn_types.specs.Bounds.{IsBound, IsSize}
use Rattle.module_print.specs.Notation.{size, size_range}
use Rattle.module_text.specs.declared.bounds.PlainNumber.{PlainNumber}
use Rattle.module_text.specs.declared.bounds.PlainEnds.{PlainEnds}
use Rattle.module_text.specs.declared.bounds.PlainEnds.TheVariants as ends
use Rattle.module_text.specs.declared.bounds.PlainRange.{PlainRange}
use Rattle.module_text.specs.declared.bounds.PlainRange.TheVariants as range_
use Rattle.module_text.specs.Texts.{size_text}
use Rattle.module_text.specs.Told as told
use Rattle.module_text.specs.Faults as rule
use Rattle.module_text.proofs.PrintedBounds.{unless-none, front-none, behind-none, and-first, and-second, printed-is}
use Rattle.module_laws.proofs.Sounding.{below-le, below-self, below-sizes}

-- ---- of numbers

bits : (o : Option ℤ) (z : ℤ) → told.if_128_bits o ≡ Some z → is_128_bits z ≡ true
bits None z e = absurd (cc)
bits (Some y) z e = by (is_128_bits y) refl e
  where
    by : (b : Bool) → is_128_bits y ≡ b → (if b then Some y else None) ≡ Some z → is_128_bits z ≡ true
    by true is e = let same : y ≡ z = cc in subst (λ x. is_128_bits x ≡ true) same is
    by false is e = absurd (cc)

pub whole-bits : (n : PlainNumber) (z : ℤ) → told.whole_of n ≡ Some z → is_128_bits z ≡ true
whole-bits n z e = bits (whole_number n.written) z e

-- bounds as those of a module
pub record SoundBounds (b : told.Bounds) : Type 0 where
  pub bounds : AreBounds b.0 b.1
  pub least : IsBound b.0
  pub greatest : IsBound b.1

just_sound : (n : PlainNumber) (o : Option ℤ) → told.whole_of n ≡ o → (b : told.Bounds) → told.just o ≡ Some b → SoundBounds b
just_sound n None is b e = absurd (cc)
just_sound n (Some z) is b e =
    let same : (Some z, Some z) ≡ b = cc in
    let P : told.Bounds → Type 0 = λ c. SoundBounds c in
    subst P same (record { bounds = below-self z; least = whole-bits n z is; greatest = whole-bits n z is })

least_sound : (n : PlainNumber) (o : Option ℤ) → told.whole_of n ≡ o → (b : told.Bounds) → told.least_alone o ≡ Some b → SoundBounds b
least_sound n None is b e = absurd (cc)
least_sound n (Some z) is b e =
    let c : told.Bounds = (Some z, None) in
    let same : c ≡ b = cc in
    let P : told.Bounds → Type 0 = λ c. SoundBounds c in
    subst P same (record { bounds = tt; least = whole-bits n z is; greatest = tt })

greatest_sound : (n : PlainNumber) (o : Option ℤ) → told.whole_of n ≡ o → (b : told.Bounds) → told.greatest_alone o ≡ Some b → SoundBounds b
greatest_sound n None is b e = absurd (cc)
greatest_sound n (Some z) is b e =
    let c : told.Bounds = (None, Some z) in
    let same : c ≡ b = cc in
    let P : told.Bounds → Type 0 = λ c. SoundBounds c in
    subst P same (record { bounds = tt; least = tt; greatest = whole-bits n z is })

both_sound : (m n : PlainNumber) (o q : Option ℤ) → told.whole_of m ≡ o → told.whole_of n ≡ q → rule.is_below o q ≡ true → (b : told.Bounds) → told.from_to o q ≡ Some b → SoundBounds b
both_sound m n None q is are lt b e = absurd (cc)
both_sound m n (Some y) None is are lt b e = absurd (cc)
both_sound m n (Some y) (Some z) is are lt b e =
    let c : told.Bounds = (Some y, Some z) in
    let same : c ≡ b = cc in
    let P : told.Bounds → Type 0 = λ c. SoundBounds c in
    subst P same (record { bounds = below-le y z lt; least = whole-bits m y is; greatest = whole-bits n z are })

pub range-sound : (r : Option PlainRange) → rule.range_faults r ≡ [] → (b : told.Bounds) → told.range_of r ≡ Some b → SoundBounds b
range-sound None none b e =
    let c : told.Bounds = (None, None) in
    let same : c ≡ b = cc in
    let P : told.Bounds → Type 0 = λ c. SoundBounds c in
    subst P same (record { bounds = tt; least = tt; greatest = tt })
range-sound (Some (range_.Ends (ends.One n))) none b e = just_sound n (told.whole_of n) refl b e
range-sound (Some (range_.Ends (ends.Both m n))) none b e =
    let ok = unless-none (told.is_printed_number n && rule.is_below (told.whole_of m) (told.whole_of n)) n.at _ (behind-none (rule.number_faults m) _ none) in
    both_sound m n (told.whole_of m) (told.whole_of n) refl refl (and-second (told.is_printed_number n) (rule.is_below (told.whole_of m) (told.whole_of n)) ok) b e
range-sound (Some (range_.Ends (ends.From m max_at))) none b e = least_sound m (told.whole_of m) refl b e
range-sound (Some (range_.To n)) none b e = greatest_sound n (told.whole_of n) refl b e

-- ---- of sizes

-- a number that is printed so and is a size
pub record SizeNumber (n : PlainNumber) : Type 0 where
  pub size : ℕ
  pub whole : told.whole_of n ≡ Some (pos size)
  pub is : told.size_of (told.whole_of n) ≡ Some size
  pub fits : size < 2 ^ 32
  pub text : signed_decimal (pos size) ≡ n.written

size_by : (n : PlainNumber) (z : ℤ) → told.whole_of n ≡ Some z → signed_decimal z ≡ n.written → is_some (told.size_of (Some z)) ≡ true → SizeNumber n
size_by n (negsuc k) is text e = absurd (true≢false (sym e))
size_by n (pos k) is text e = by (nat_lt k (2 ^ 32)) refl e
  where
    by : (b : Bool) → nat_lt k (2 ^ 32) ≡ b → is_some (if b then Some k else None) ≡ true → SizeNumber n
    by false lt e = absurd (true≢false (sym e))
    by true lt e = record {
      size = k;
      whole = is;
      is = ap told.size_of is ∙ ap (λ b. if b then Some k else None) lt;
      fits = ltb-true k (2 ^ 32) lt;
      text = text;
    }

pub size-number : (n : PlainNumber) → rule.is_size n ≡ true → SizeNumber n
size-number n e =
    let p = printed-is n (and-first (told.is_printed_number n) (is_some (told.size_of (told.whole_of n))) e) in
    let q = and-second (told.is_printed_number n) (is_some (told.size_of (told.whole_of n))) e in
    size_by n p.number p.is p.text (sym (ap (λ o. is_some (told.size_of o)) p.is) ∙ q)

-- sizes that are printed as they are written, as those of a module
pub record PrintedSizes (o : Option told.Sizes) (text : List ℕ) : Type 0 where
  pub sizes : told.Sizes
  pub is : o ≡ Some sizes
  pub printed : size_range sizes.0 sizes.1 ≡ text
  pub sound : AreSizes sizes.0 sizes.1
  pub least : sizes.0 < 2 ^ 32
  pub most : IsSize sizes.1

to_some : (m n : ℕ) → size_range m (Some n) ≡ size m (Some n)
to_some zero n = refl
to_some (suc m) n = refl

size_eq-self : (z : ℤ) → int_eq z z ≡ true
size_eq-self z = (Decides-int_eq z z).1 refl

one_size : (n : PlainNumber) → SizeNumber n → PrintedSizes (told.sizes_of (Some (ends.One n))) (size_text (Some (ends.One n)))
one_size n p = record {
  sizes = (p.size, Some p.size);
  is = ap (λ o. told.sizes_to o o) p.is;
  printed = to_some p.size p.size ∙ rw (size_eq-self (pos p.size)) (ap (λ text. codes " (SIZE (" ++ text ++ codes "))") p.text);
  sound = omega arith;
  least = p.fits;
  most = p.fits;
}

both_sizes : (m n : PlainNumber) (p : SizeNumber m) (q : SizeNumber n) → int_lt (pos p.size) (pos q.size) ≡ true
    → PrintedSizes (told.sizes_of (Some (ends.Both m n))) (size_text (Some (ends.Both m n)))
both_sizes m n p q lt =
    let apart : int_eq (pos p.size) (pos q.size) ≡ false = rw lt refl in
    record {
      sizes = (p.size, Some q.size);
      is = ap (λ o. told.sizes_to o (told.size_of (told.whole_of n))) p.is ∙ ap (λ o. told.sizes_to (Some p.size) o) q.is;
      printed =
          to_some p.size q.size
          ∙ rw apart
          (ap (λ text. codes " (SIZE (" ++ (text ++ codes ".." ++ signed_decimal (pos q.size)) ++ codes "))") p.text
          ∙ ap (λ text. codes " (SIZE (" ++ (m.written ++ codes ".." ++ text) ++ codes "))") q.text);
      sound = below-sizes p.size q.size lt;
      least = p.fits;
      most = q.fits;
    }

from_size : (m : PlainNumber) (max_at : ℕ) (p : SizeNumber m) (k : ℕ) → p.size ≡ k → not (rule.is_zero (told.whole_of m)) ≡ true
    → PrintedSizes (told.sizes_of (Some (ends.From m max_at))) (size_text (Some (ends.From m max_at)))
from_size m max_at p zero same e =
    let zero_is : told.whole_of m ≡ Some (pos zero) = p.whole ∙ ap (λ k. Some (pos k)) same in
    absurd (true≢false (sym e ∙ ap (λ o. not (rule.is_zero o)) zero_is))
from_size m max_at p (suc k) same e = record {
  sizes = (suc k, None);
  is = ap told.sizes_from (p.is ∙ ap (λ k. Some k) same);
  printed =
      ap (λ text. codes " (SIZE (" ++ (text ++ codes ".." ++ codes "MAX") ++ codes "))") (sym (ap (λ k. signed_decimal (pos k)) same) ∙ p.text);
  sound = tt;
  least = subst (λ k. k < 2 ^ 32) same p.fits;
  most = tt;
}

pub size-printed : (e : Option PlainEnds) → rule.size_faults e ≡ [] → PrintedSizes (told.sizes_of e) (size_text e)
size-printed None none = record { sizes = (0, None); is = refl; printed = refl; sound = tt; least = omega arith; most = tt }
size-printed (Some (ends.One n)) none = one_size n (size-number n (unless-none (rule.is_size n) n.at _ none))
size-printed (Some (ends.Both m n)) none =
    let p = size-number m (unless-none (rule.is_size m) m.at _ (front-none (rule.one_size_faults m) _ none)) in
    let ok = unless-none (rule.is_size n && rule.is_below (told.whole_of m) (told.whole_of n)) n.at _ (behind-none (rule.one_size_faults m) _ none) in
    let q = size-number n (and-first (rule.is_size n) (rule.is_below (told.whole_of m) (told.whole_of n)) ok) in
    let lt = and-second (rule.is_size n) (rule.is_below (told.whole_of m) (told.whole_of n)) ok in
    both_sizes m n p q (sym (ap (λ o. rule.is_below o (told.whole_of n)) p.whole ∙ ap (λ o. rule.is_below (Some (pos p.size)) o) q.whole) ∙ lt)
size-printed (Some (ends.From m max_at)) none =
    let p = size-number m (unless-none (rule.is_size m) m.at _ (front-none (rule.one_size_faults m) _ none)) in
    from_size m max_at p p.size refl (unless-none (not (rule.is_zero (told.whole_of m))) max_at _ (behind-none (rule.one_size_faults m) _ none))
