-- Tables of global attributes by their names.
use Rattle.std.proofs.Common.{◌≡◌, ℕ, zero, suc, ◌+◌, ◌-◌, ◌<◌, ◌≤◌, arith, Bool, true, false, List, [], ◌∷◌, length, drop, get_or, Option, Some, None, refl, sym, ap, ◌∙◌, Bor}
use Rattle.std.specs.Prelude.{cond, slice_get}
use Rattle.std.specs.List.{position_from}
use Rattle.std.specs.BTreeMap.{BTreeMap}
use Rattle.std.proofs.lemmas.List.{length-map}
use Rattle.base_texts.specs.declared.texts.Name.{Name}
use Rattle.base_texts.specs.Names.{name_eq}
use Rattle.link_names.proofs.Placing.{cut}
use Rattle.link_names.specs.Tables.{named_in}
use Rattle.link_simple.specs.Found.{one_at}
use Rattle.link_simple.specs.StandardsSeen.{declared_as, declared_of, HasNames}
use Rattle.link_simple.specs.Standards as rule
use Rattle.link_simple.specs.declared.tables.Declared.{Declared}

-- one more, before the others
module _ (ds : List Declared) (i : ℕ) (d : Declared) (lt : 0 < i) (le : i ≤ length ds) (is : d ≡ get_or ds (i - 1) d) where
  from_here : (a : Name)
      → position_from (rule.has_name a) (i - 1) (declared_of (drop (i - 1) ds))
      ≡ cond (rule.has_name a (declared_as d)) (Some (i - 1)) (position_from (rule.has_name a) i (declared_of (drop i ds)))
  from_here a =
      let same : i - 1 + 1 ≡ i = omega arith in
      ap (λ xs. position_from (rule.has_name a) (i - 1) (declared_of xs)) (cut ds i d lt le is)
      ∙ ap (λ n. cond (rule.has_name a (declared_as d)) (Some (i - 1)) (position_from (rule.has_name a) n (declared_of (drop i ds)))) same

  pub one_named : (old new : BTreeMap (Bor Name) ℕ) → ((a : Name) → named_in old a ≡ position_from (rule.has_name a) i (declared_of (drop i ds)))
      → ((a : Name) → named_in new a ≡ cond (name_eq d.attribute.now.name a) (Some (i - 1)) (named_in old a))
      → (a : Name) → named_in new a ≡ position_from (rule.has_name a) (i - 1) (declared_of (drop (i - 1) ds))
  one_named old new so_far up a =
      up a ∙ ap (λ o. cond (name_eq d.attribute.now.name a) (Some (i - 1)) o) (so_far a) ∙ sym (from_here a)

-- what a number, if there is one, leads to
abbrev at : List rule.Declared → ℕ → Option ℕ → Option rule.Declared
at ds k None = None
at ds k (Some n) = slice_get ds (n - k)

above_by : (c : Bool) (m n : ℕ) (o : Option ℕ) → (o ≡ Some n → m + 1 ≤ n) → cond c (Some m) o ≡ Some n → m ≤ n
above_by true m n o rest h = let same : m ≡ n = cc in omega (arith, same)
above_by false m n o rest h = let le = rest h in omega (arith, le)

above_start : (passes : rule.Declared → Bool) (ds : List rule.Declared) (m n : ℕ) → position_from passes m ds ≡ Some n → m ≤ n
above_start passes [] m n e = absurd cc
above_start passes (d ∷ ds) m n e = above_by (passes d) m n (position_from passes (m + 1) ds) (λ h. above_start passes ds (m + 1) n h) e

within_by : (c : Bool) (m n : ℕ) (o : Option ℕ) (long : ℕ) → (o ≡ Some n → n < m + 1 + long) → cond c (Some m) o ≡ Some n → n < m + suc long
within_by true m n o long rest h = let same : m ≡ n = cc in omega (arith, same)
within_by false m n o long rest h = let lt = rest h in omega (arith, lt)

-- a number that the names have is that of one of them
number_within : (passes : rule.Declared → Bool) (ds : List rule.Declared) (m n : ℕ) → position_from passes m ds ≡ Some n → n < m + length ds
number_within passes [] m n e = absurd cc
number_within passes (d ∷ ds) m n e = within_by (passes d) m n (position_from passes (m + 1) ds) (length ds) (λ h. number_within passes ds (m + 1) n h) e

-- the first of a name is the one at its number
one_later : (ds : List rule.Declared) (d : rule.Declared) (k : ℕ) (o : Option ℕ) → ((n : ℕ) → o ≡ Some n → k + 1 ≤ n) → at (d ∷ ds) k o ≡ at ds (k + 1) o
one_later ds d k None above = refl
one_later ds d k (Some n) above =
    let le = above n refl in
    let same : n - k ≡ suc (n - (k + 1)) = omega (arith, le) in
    ap (λ m. slice_get (d ∷ ds) m) same

first_by : (ds : List rule.Declared) (d : rule.Declared) (k : ℕ) (a : Name) (c : Bool)
    → at ds (k + 1) (position_from (rule.has_name a) (k + 1) ds) ≡ rule.named ds a
    → at (d ∷ ds) k (cond c (Some k) (position_from (rule.has_name a) (k + 1) ds)) ≡ cond c (Some d) (rule.named ds a)
first_by ds d k a true rest = let none_before : k - k ≡ 0 = omega arith in ap (λ m. slice_get (d ∷ ds) m) none_before
first_by ds d k a false rest =
    one_later ds d k (position_from (rule.has_name a) (k + 1) ds) (λ n e. above_start (rule.has_name a) ds (k + 1) n e) ∙ rest

first_named : (ds : List rule.Declared) (k : ℕ) (a : Name) → at ds k (position_from (rule.has_name a) k ds) ≡ rule.named ds a
first_named [] k a = refl
first_named (d ∷ ds) k a = first_by ds d k a (rule.has_name a d) (first_named ds (k + 1) a)

from_none : (ds : List Declared) (o : Option ℕ) → one_at ds o ≡ at (declared_of ds) 0 o
from_none ds None = refl
from_none ds (Some n) = let same : n ≡ n - 0 = omega arith in ap (λ m. slice_get (declared_of ds) m) same

-- what the number leads to among those that the code has
pub found_first : (ds : List Declared) (table : BTreeMap (Bor Name) ℕ) → HasNames table (declared_of ds) → (a : Name)
    → one_at ds (named_in table a) ≡ rule.named (declared_of ds) a
found_first ds table has a =
    ap (one_at ds) (has a) ∙ from_none ds (position_from (rule.has_name a) 0 (declared_of ds)) ∙ first_named (declared_of ds) 0 a

-- the one at a number
pub read_at : (ds : List Declared) (n : ℕ) (d : Declared) → n < length ds → d ≡ get_or ds n d → Some (declared_as d) ≡ slice_get (declared_of ds) n
read_at [] n d lt is = absurd (omega (arith, lt))
read_at (x ∷ ds) zero d lt is = ap (λ y. Some (declared_as y)) is
read_at (x ∷ ds) (suc n) d lt is = read_at ds n d (omega (arith, lt)) is

-- each number that a table of the names has is within them
pub number_listed : (ds listed : List Declared) (table : BTreeMap (Bor Name) ℕ) → HasNames table (declared_of ds) → listed ≡ ds → (a : Name) (n : ℕ)
    → named_in table a ≡ Some n → n < length listed
number_listed ds listed table has same a n e =
    let lt = number_within (rule.has_name a) (declared_of ds) 0 n (sym (has a) ∙ e) in
    let long = length-map ds declared_as in
    let long_too = ap length same in
    omega (arith, lt, long, long_too)
