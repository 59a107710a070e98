-- Numbers and bounds without a fault are printed as they are written.
use Rattle.std.proofs.Common.{◌≡◌, ℕ, zero, suc, Bool, true, false, ◌&&◌, Option, Some, None, List, [], ◌∷◌, ◌++◌, refl, sym, ap, ◌∙◌, codes}
use Rattle.std.specs.Prelude.{ℤ, int_lt}
use Rattle.std.specs.Fmt.{signed_decimal}
use Rattle.std.specs.Ordering.{int_eq}
use Rattle.std.proofs.lemmas.Bool.{true≢false}
use Rattle.std.proofs.lemmas.Bool.Decides.{Decides-int_eq}
use Rattle.std.proofs.lemmas.Slice.Eq.{bytes_eq-Decides}
use Rattle.module_print.specs.Notation.{from_to, number_range}
use Rattle.module_text.specs.declared.bounds.PlainNumber.{PlainNumber}
use Rattle.module_text.specs.declared.bounds.PlainEnds.TheVariants as ends
use Rattle.module_text.specs.declared.bounds.PlainRange.{PlainRange}
use Rattle.module_text.specs.declared.bounds.PlainRange.TheVariants as range_
use Rattle.module_text.specs.Texts.{number_range_text}
use Rattle.module_text.specs.declared.reasons.TextFault.{TextFault}
use Rattle.module_text.specs.declared.reasons.ModuleWhy.{ModuleWhy}
use Rattle.module_text.specs.Listed.{unless}
use Rattle.module_text.specs.Told as told
use Rattle.module_text.specs.Faults as rule

-- ---- lists of faults that are empty

pub unless-none : (b : Bool) (at : ℕ) (reason : ModuleWhy) → unless b at reason ≡ [] → b ≡ true
unless-none true at reason e = refl
unless-none false at reason e = absurd (cc)

pub front-none : (xs ys : List TextFault) → xs ++ ys ≡ [] → xs ≡ []
front-none [] ys e = refl
front-none (x ∷ xs) ys e = absurd (cc)

pub behind-none : (xs ys : List TextFault) → xs ++ ys ≡ [] → ys ≡ []
behind-none [] ys e = e
behind-none (x ∷ xs) ys e = absurd (cc)

pub and-first : (a b : Bool) → (a && b) ≡ true → a ≡ true
and-first true b e = refl
and-first false b e = e

pub and-second : (a b : Bool) → (a && b) ≡ true → b ≡ true
and-second true b e = e
and-second false b e = absurd (true≢false (sym e))

-- ---- numbers

-- a number that is printed so, with what it is
pub record Printed (n : PlainNumber) : Type 0 where
  pub number : ℤ
  pub is : told.whole_of n ≡ Some number
  pub text : signed_decimal number ≡ n.written

printed_as : (o : Option ℤ) (n : PlainNumber) → told.whole_of n ≡ o → told.is_printed o n.written ≡ true → Printed n
printed_as None n is e = absurd (true≢false (sym e))
printed_as (Some z) n is e = record { number = z; is = is; text = (bytes_eq-Decides (signed_decimal z) n.written).0 e }

pub printed-is : (n : PlainNumber) → told.is_printed_number n ≡ true → Printed n
printed-is n e = printed_as (told.whole_of n) n refl e

pub number-printed : (n : PlainNumber) → rule.number_faults n ≡ [] → Printed n
number-printed n e = printed-is n (unless-none (told.is_printed_number n) n.at _ e)

-- ---- bounds

int_eq-self : (z : ℤ) → int_eq z z ≡ true
int_eq-self z = (Decides-int_eq z z).1 refl

lt-not-eq : (y z : ℤ) → int_lt y z ≡ true → int_eq y z ≡ false
lt-not-eq y z e = rw e refl

-- bounds that are printed as they are written
pub record PrintedBounds (b : Option told.Bounds) (text : List ℕ) : Type 0 where
  pub bounds : told.Bounds
  pub is : b ≡ Some bounds
  pub printed : number_range bounds.0 bounds.1 ≡ text

one-printed : (n : PlainNumber) → Printed n → PrintedBounds (told.bounds_of (ends.One n)) (codes " (" ++ n.written ++ codes ")")
one-printed n p =
    let z = p.number in
    record {
      bounds = (Some z, Some z);
      is = ap told.just p.is;
      printed = rw (int_eq-self z) (ap (λ text. codes " (" ++ text ++ codes ")") p.text);
    }

both-printed : (m n : PlainNumber) (p : Printed m) (q : Printed n) → int_lt p.number q.number ≡ true
    → PrintedBounds (told.bounds_of (ends.Both m n)) (codes " (" ++ (m.written ++ codes ".." ++ n.written) ++ codes ")")
both-printed m n p q lt =
    record {
      bounds = (Some p.number, Some q.number);
      is = ap (λ o. told.from_to o (told.whole_of n)) p.is ∙ ap (λ o. told.from_to (Some p.number) o) q.is;
      printed =
          rw (lt-not-eq p.number q.number lt)
          (ap (λ text. codes " (" ++ (text ++ codes ".." ++ signed_decimal q.number) ++ codes ")") p.text
          ∙ ap (λ text. codes " (" ++ (m.written ++ codes ".." ++ text) ++ codes ")") q.text);
    }

from-printed : (m : PlainNumber) (max_at : ℕ) → Printed m
    → PrintedBounds (told.bounds_of (ends.From m max_at)) (codes " (" ++ (m.written ++ codes ".." ++ codes "MAX") ++ codes ")")
from-printed m max_at p =
    record {
      bounds = (Some p.number, None);
      is = ap told.least_alone p.is;
      printed = ap (λ text. codes " (" ++ (text ++ codes ".." ++ codes "MAX") ++ codes ")") p.text;
    }

below-is : (m n : PlainNumber) (p : Printed m) (q : Printed n) → rule.is_below (told.whole_of m) (told.whole_of n) ≡ true → int_lt p.number q.number ≡ true
below-is m n p q e = sym (ap (λ o. rule.is_below o (told.whole_of n)) p.is ∙ ap (λ o. rule.is_below (Some p.number) o) q.is) ∙ e

pub range-printed : (r : Option PlainRange) → rule.range_faults r ≡ [] → PrintedBounds (told.range_of r) (number_range_text r)
range-printed None e = record { bounds = (None, None); is = refl; printed = refl }
range-printed (Some (range_.Ends (ends.One n))) e = one-printed n (number-printed n e)
range-printed (Some (range_.Ends (ends.Both m n))) e =
    let p = number-printed m (front-none (rule.number_faults m) _ e) in
    let ok = unless-none (told.is_printed_number n && rule.is_below (told.whole_of m) (told.whole_of n)) n.at _ (behind-none (rule.number_faults m) _ e) in
    let q = printed-is n (and-first (told.is_printed_number n) (rule.is_below (told.whole_of m) (told.whole_of n)) ok) in
    both-printed m n p q (below-is m n p q (and-second (told.is_printed_number n) (rule.is_below (told.whole_of m) (told.whole_of n)) ok))
range-printed (Some (range_.Ends (ends.From m max_at))) e = from-printed m max_at (number-printed m e)
range-printed (Some (range_.To n)) e =
    let p = number-printed n e in
    record {
      bounds = (None, Some p.number);
      is = ap told.greatest_alone p.is;
      printed = ap (λ text. codes " (" ++ (codes "MIN" ++ codes ".." ++ text) ++ codes ")") p.text;
    }
