-- The laws of bounds and constraints.
use Rattle.std.proofs.Common.{◌≡◌, ℕ, ◌+◌, ◌⊎◌, inl, inr, true, List, [], ◌∷◌, ◌++◌, length, refl, sym, ap, ap₂, ◌∙◌, arith, codes, Option, Some, None, append_assoc, append-nil, length-append}
use Rattle.simple_types.specs.declared.simples.Class.{Class}
use Rattle.simple_types.specs.declared.simples.Class.TheVariants.{Any, Language, NmToken, Name, NcName}
use Rattle.module_print.specs.Notation.{class_range}
use Rattle.module_grammar.specs.Reading.{word_at, or_at}
use Rattle.module_grammar.specs.Shapes.{Sunk, Anything, AnyRest, never, word_of, IsFailed, IsUnread, BothFine, both_written, both_deep, EitherFine, either_deep, either_written, BehindFine, shifted, behind_word, before_word}
use Rattle.module_grammar.specs.Laws.{Law}
use Rattle.module_grammar.proofs.WordLaws.{word_law}
use Rattle.module_grammar.proofs.Then.{then_law}
use Rattle.module_grammar.proofs.Or.{or_law}
use Rattle.module_grammar.proofs.As.{Renames, as_law, restated, alike}
use Rattle.module_grammar.proofs.Fixed.{behind_law, before_law}
use Rattle.module_text.specs.Names.{are_octets}
use Rattle.module_text.specs.Plain.{AreEnds, IsRange, IsSize, IsFixed}
use Rattle.module_text.specs.Texts.{ends_text, range_text, number_range_text, size_text, fixed_text}
use Rattle.module_text.specs.Places.{placed_number, placed_ends, placed_range, placed_number_range, placed_size, placed_fixed}
use Rattle.module_text.specs.declared.bounds.PlainNumber.{PlainNumber}
use Rattle.module_text.specs.declared.bounds.PlainEnds.{PlainEnds}
use Rattle.module_text.specs.declared.bounds.PlainEnds.TheVariants as ends
use Rattle.module_text.specs.declared.bounds.PlainRange.{PlainRange}
use Rattle.module_text.specs.declared.bounds.PlainRange.TheVariants as range
use Rattle.module_text.specs.declared.values.PlainOctets.{PlainOctets}
use Rattle.module_grammar.specs.NameReading.{number_at, number_here}
use Rattle.module_grammar.specs.BoundReading.{max_at, greatest_at, ends_of, ends_at, range_of, range_at, some_range_at, number_range_at, some_size_at, size_at, class_of, named_class_at, class_or_any, class_at, octets_here, octets_here_at, some_fixed_at, fixed_at}
use Rattle.module_grammar.proofs.Unread.{behind_fails}
use Rattle.module_grammar.proofs.NameLaws.{DigitStops, IsNumberHere, number_text, number_law, OctetStops, octets_law}
use Rattle.module_grammar.proofs.OptionLaws.{OptionFine, option_deep, option_written, option_law}

-- ---- the greatest bound

abbrev IsHere : ℕ → ℕ → Type 0
IsHere place at = at ≡ place

abbrev max_text : ℕ → List ℕ
max_text at = codes "MAX"

max_law : Law IsHere never max_text AnyRest max_at
max_law = as_law (word_law (codes "MAX")) (record { fine = λ place x f. refl; deep = λ place x f. refl; write = λ place x f. refl; onto = λ place at f. (tt, tt, sym f) })

abbrev GreatestFine : ℕ → PlainNumber ⊎ ℕ → Type 0
GreatestFine = BehindFine (codes "..") (EitherFine IsNumberHere IsHere)

abbrev greatest_deep : PlainNumber ⊎ ℕ → Option Sunk
greatest_deep = shifted (codes "..") (either_deep never never)

abbrev greatest_text : PlainNumber ⊎ ℕ → List ℕ
greatest_text = behind_word (codes "..") (either_written number_text max_text)

-- what ends bounds: no digit, and no two points
pub record EndStops (rest : List ℕ) : Type 0 where
  pub digit : DigitStops rest
  pub points : IsUnread (word_at (codes "..")) rest

greatest_law : Law (OptionFine GreatestFine) (option_deep greatest_deep) (option_written greatest_text) EndStops greatest_at
greatest_law = option_law
    (behind_law (codes "..") (or_law {Follow = DigitStops} number_law max_law (λ place a rest f h. h) (λ place a rest f h. tt) (λ place b rest f h. tt)) (λ place. (inr place, refl)))
    (λ rest h. h.digit) (λ rest h place. behind_fails (codes "..") (or_at number_at max_at) place rest (h.points place))

-- ---- bounds

abbrev pub AreEndsHere : ℕ → PlainEnds → Type 0
AreEndsHere place e = AreEnds e × (placed_ends place e ≡ e)

number_is : (place : ℕ) (n : PlainNumber) → n.at ≡ place → placed_number place n ≡ n
number_is place n e = ap (λ p. number_here p n.written) (sym e)

number_at_is : (place : ℕ) (n : PlainNumber) → placed_number place n ≡ n → n.at ≡ place
number_at_is place n e = sym (ap (λ (k : PlainNumber). k.at) e)

two_parts : (place : ℕ) (a b : List ℕ) → (place + length a) + length b ≡ place + length (a ++ b)
two_parts place a b = omega (arith, length-append a b)

one_is : (m n : PlainNumber) → ends.One m ≡ ends.One n → m ≡ n
one_is m n e = cc

both_are : (m n k l : PlainNumber) → ends.Both m n ≡ ends.Both k l → (m ≡ k) × (n ≡ l)
both_are m n k l e = ((cc), (cc))

from_is : (m k : PlainNumber) (n l : ℕ) → ends.From m n ≡ ends.From k l → (m ≡ k) × (n ≡ l)
from_is m k n l e = ((cc), (cc))

abbrev EndsFine : ℕ → PlainNumber × Option (PlainNumber ⊎ ℕ) → Type 0
EndsFine = BothFine IsNumberHere number_text (λ least. OptionFine GreatestFine)

abbrev ends_deep : PlainNumber × Option (PlainNumber ⊎ ℕ) → Option Sunk
ends_deep = both_deep number_text never (λ least. option_deep greatest_deep)

abbrev ends_written : PlainNumber × Option (PlainNumber ⊎ ℕ) → List ℕ
ends_written = both_written number_text (λ least. option_written greatest_text)

ends_fine : (place : ℕ) (least : PlainNumber) (g : Option (PlainNumber ⊎ ℕ)) → EndsFine place (least, g) → AreEndsHere place (ends_of place (least, g))
ends_fine place least None f = (f.0.0, ap (λ n. ends.One n) (number_is place least f.0.1))
ends_fine place least (Some (inl greatest)) f =
    ((f.0.0, f.1.0), ap₂ (λ m n. ends.Both m n) (number_is place least f.0.1) (number_is (place + length (least.written ++ codes "..")) greatest (f.1.1 ∙ two_parts place least.written (codes ".."))))
ends_fine place least (Some (inr max)) f = (f.0.0, ap₂ (λ m n. ends.From m n) (number_is place least f.0.1) (sym (f.1 ∙ two_parts place least.written (codes ".."))))

ends_never : (place : ℕ) (least : PlainNumber) (g : Option (PlainNumber ⊎ ℕ)) → None ≡ ends_deep (least, g)
ends_never place least None = refl
ends_never place least (Some (inl greatest)) = refl
ends_never place least (Some (inr max)) = refl

ends_text_is : (place : ℕ) (least : PlainNumber) (g : Option (PlainNumber ⊎ ℕ)) → ends_text (ends_of place (least, g)) ≡ ends_written (least, g)
ends_text_is place least None = sym (append-nil least.written)
ends_text_is place least (Some (inl greatest)) = append_assoc least.written (codes "..") greatest.written
ends_text_is place least (Some (inr max)) = append_assoc least.written (codes "..") (codes "MAX")

onto_ends : (place : ℕ) (e : PlainEnds) → AreEndsHere place e → (x : PlainNumber × Option (PlainNumber ⊎ ℕ)) × EndsFine place x × (ends_of place x ≡ e)
onto_ends place (ends.One number) f = ((number, None), ((f.0, number_at_is place number (one_is (placed_number place number) number f.1)), tt), refl)
onto_ends place (ends.Both least greatest) f =
    let h = both_are (placed_number place least) (placed_number (place + length (least.written ++ codes "..")) greatest) least greatest f.1 in
    ((least, Some (inl greatest)), ((f.0.0, number_at_is place least h.0), (f.0.1, number_at_is (place + length (least.written ++ codes "..")) greatest h.1 ∙ sym (two_parts place least.written (codes "..")))), refl)
onto_ends place (ends.From least max) f =
    let h = from_is (placed_number place least) least (place + length (least.written ++ codes "..")) max f.1 in
    ((least, Some (inr max)), ((f.0, number_at_is place least h.0), sym h.1 ∙ sym (two_parts place least.written (codes ".."))), refl)

-- the greatest bound begins with a point
points_end : (g : Option (PlainNumber ⊎ ℕ)) (rest : List ℕ) → EndStops rest → DigitStops (option_written greatest_text g ++ rest)
points_end None rest h = h.digit
points_end (Some (inl greatest)) rest h = record { item = tt; fails = λ place. tt }
points_end (Some (inr max)) rest h = record { item = tt; fails = λ place. tt }

pub ends_law : Law AreEndsHere never ends_text EndStops ends_at
ends_law = as_law
    (then_law {Follow = EndStops} number_law (λ place a f. greatest_law) (λ place there a f. (None, tt)) (λ place there a g rest f k h. points_end g rest h) (λ place there a g rest f k h. h))
    (record {
      fine = λ place x f. ends_fine place x.0 x.1 f;
      deep = λ place x f. ends_never place x.0 x.1;
      write = λ place x f. ends_text_is place x.0 x.1;
      onto = onto_ends;
    })

zero_here : (place : ℕ) → (n : PlainNumber) × IsNumberHere place n
zero_here place = (number_here place (48 ∷ []), (refl, refl))

some_ends : (place : ℕ) → (e : PlainEnds) × AreEndsHere place e
some_ends place = (ends.One (number_here place (48 ∷ [])), (refl, refl))

-- a closing parenthesis ends bounds
pub closed_ends : (more : List ℕ) → EndStops (codes ")" ++ more)
closed_ends more = record { digit = record { item = tt; fails = λ place. tt }; points = λ place. tt }

-- ---- the range of a number

abbrev IsRangeHere : ℕ → PlainRange → Type 0
IsRangeHere place r = IsRange (Some r) × (placed_range place r ≡ r)

ends_are : (d e : PlainEnds) → range.Ends d ≡ range.Ends e → d ≡ e
ends_are d e h = cc

to_is : (m n : PlainNumber) → range.To m ≡ range.To n → m ≡ n
to_is m n h = cc

abbrev RangeFine : ℕ → PlainEnds ⊎ PlainNumber → Type 0
RangeFine = EitherFine AreEndsHere (BehindFine (codes "MIN..") IsNumberHere)

range_renames : Renames RangeFine (either_deep never (shifted (codes "MIN..") never)) (either_written ends_text (behind_word (codes "MIN..") number_text)) IsRangeHere never range_text range_of
range_renames = record { fine = fine; deep = deep; write = write; onto = onto }
  where
    fine : (place : ℕ) (x : PlainEnds ⊎ PlainNumber) → RangeFine place x → IsRangeHere place (range_of place x)
    fine place (inl e) f = (f.0, ap (λ k. range.Ends k) f.1)
    fine place (inr n) f = (f.0, ap (λ k. range.To k) (number_is (place + 5) n f.1))

    deep : (place : ℕ) (x : PlainEnds ⊎ PlainNumber) → RangeFine place x → None ≡ either_deep never (shifted (codes "MIN..") never) x
    deep place (inl e) f = refl
    deep place (inr n) f = refl

    write : (place : ℕ) (x : PlainEnds ⊎ PlainNumber) → RangeFine place x → range_text (range_of place x) ≡ either_written ends_text (behind_word (codes "MIN..") number_text) x
    write place (inl e) f = refl
    write place (inr n) f = refl

    onto : (place : ℕ) (r : PlainRange) → IsRangeHere place r → (x : PlainEnds ⊎ PlainNumber) × RangeFine place x × (range_of place x ≡ r)
    onto place (range.Ends e) f = (inl e, (f.0, ends_are (placed_ends place e) e f.1), refl)
    onto place (range.To n) f = (inr n, (f.0, number_at_is (place + 5) n (to_is (placed_number (place + 5) n) n f.1)), refl)

range_law : Law IsRangeHere never range_text EndStops range_at
range_law = as_law
    (or_law {Follow = EndStops} ends_law (behind_law (codes "MIN..") number_law zero_here) (λ place a rest f h. h) (λ place a rest f h. h.digit) (λ place b rest f h. tt))
    range_renames

abbrev SomeRangeFine : ℕ → PlainRange → Type 0
SomeRangeFine = BehindFine (codes " (") IsRangeHere

some_range_law : Law SomeRangeFine (shifted (codes " (") never) (behind_word (codes " (") (before_word range_text (codes ")"))) AnyRest some_range_at
some_range_law = behind_law (codes " (") (before_law (codes ")") {Follow = AnyRest} range_law (λ place a rest f h. closed_ends rest)) (λ place. (range.Ends (ends.One (number_here place (48 ∷ []))), (refl, refl)))

abbrev pub IsNumberRangeHere : ℕ → Option PlainRange → Type 0
IsNumberRangeHere place r = IsRange r × (placed_number_range place r ≡ r)

some_is_range : (r s : PlainRange) → Some r ≡ Some s → r ≡ s
some_is_range r s e = cc

pub number_range_law : Law IsNumberRangeHere never number_range_text (IsUnread some_range_at) number_range_at
number_range_law = restated (option_law {Follow = IsUnread some_range_at} some_range_law (λ rest h. tt) (λ rest h. h)) (alike fine back deep write)
  where
    fine : (place : ℕ) (r : Option PlainRange) → OptionFine SomeRangeFine place r → IsNumberRangeHere place r
    fine place None f = (tt, refl)
    fine place (Some r) f = (f.0, ap (λ k. Some k) f.1)

    deep : (place : ℕ) (r : Option PlainRange) → OptionFine SomeRangeFine place r → None ≡ option_deep (shifted (codes " (") never) r
    deep place None f = refl
    deep place (Some r) f = refl

    write : (place : ℕ) (r : Option PlainRange) → OptionFine SomeRangeFine place r → number_range_text r ≡ option_written (behind_word (codes " (") (before_word range_text (codes ")"))) r
    write place None f = refl
    write place (Some r) f = refl

    back : (place : ℕ) (r : Option PlainRange) → IsNumberRangeHere place r → OptionFine SomeRangeFine place r
    back place None f = tt
    back place (Some r) f = (f.0, some_is_range (placed_range (place + 2) r) r f.1)

-- ---- the bounds of a size

abbrev SomeSizeFine : ℕ → PlainEnds → Type 0
SomeSizeFine = BehindFine (codes " (SIZE (") AreEndsHere

abbrev some_size_text : PlainEnds → List ℕ
some_size_text = behind_word (codes " (SIZE (") (before_word ends_text (codes "))"))

some_size_law : Law SomeSizeFine (shifted (codes " (SIZE (") never) some_size_text AnyRest some_size_at
some_size_law = behind_law (codes " (SIZE (") (before_law (codes "))") {Follow = AnyRest} ends_law (λ place a rest f h. closed_ends (codes ")" ++ rest))) some_ends

abbrev pub IsSizeHere : ℕ → Option PlainEnds → Type 0
IsSizeHere place size = IsSize size × (placed_size place size ≡ size)

some_is_ends : (d e : PlainEnds) → Some d ≡ Some e → d ≡ e
some_is_ends d e h = cc

pub size_law : Law IsSizeHere never size_text (IsUnread some_size_at) size_at
size_law = restated (option_law {Follow = IsUnread some_size_at} some_size_law (λ rest h. tt) (λ rest h. h)) (alike fine back deep write)
  where
    fine : (place : ℕ) (e : Option PlainEnds) → OptionFine SomeSizeFine place e → IsSizeHere place e
    fine place None f = (tt, refl)
    fine place (Some e) f = (f.0, ap (λ k. Some k) f.1)

    deep : (place : ℕ) (e : Option PlainEnds) → OptionFine SomeSizeFine place e → None ≡ option_deep (shifted (codes " (SIZE (") never) e
    deep place None f = refl
    deep place (Some e) f = refl

    write : (place : ℕ) (e : Option PlainEnds) → OptionFine SomeSizeFine place e → size_text e ≡ option_written some_size_text e
    write place None f = refl
    write place (Some e) f = refl

    back : (place : ℕ) (e : Option PlainEnds) → IsSizeHere place e → OptionFine SomeSizeFine place e
    back place None f = tt
    back place (Some e) f = (f.0, some_is_ends (placed_ends (place + 8) e) e f.1)

-- ---- the class of a text

abbrev NamedClass : ℕ → Class → Type 0
NamedClass place Any = ⊥
NamedClass place _ = Unit {0}

abbrev Four : Type 0
Four = Unit {0} ⊎ (Unit {0} ⊎ (Unit {0} ⊎ Unit {0}))

abbrev FourFine : ℕ → Four → Type 0
FourFine = EitherFine Anything (EitherFine Anything (EitherFine Anything Anything))

abbrev four_deep : Four → Option Sunk
four_deep = either_deep never (either_deep never (either_deep never never))

abbrev four_text : Four → List ℕ
four_text = either_written (word_of (codes " (CONSTRAINED BY {/* language */})"))
    (either_written (word_of (codes " (CONSTRAINED BY {/* NMTOKEN */})"))
    (either_written (word_of (codes " (CONSTRAINED BY {/* Name */})")) (word_of (codes " (CONSTRAINED BY {/* NCName */})"))))

class_renames : Renames FourFine four_deep four_text NamedClass never class_range class_of
class_renames = record { fine = fine; deep = deep; write = write; onto = onto }
  where
    fine : (place : ℕ) (x : Four) → FourFine place x → NamedClass place (class_of place x)
    fine place (inl x) f = tt
    fine place (inr (inl x)) f = tt
    fine place (inr (inr (inl x))) f = tt
    fine place (inr (inr (inr x))) f = tt

    deep : (place : ℕ) (x : Four) → FourFine place x → None ≡ four_deep x
    deep place (inl x) f = refl
    deep place (inr (inl x)) f = refl
    deep place (inr (inr (inl x))) f = refl
    deep place (inr (inr (inr x))) f = refl

    write : (place : ℕ) (x : Four) → FourFine place x → class_range (class_of place x) ≡ four_text x
    write place (inl x) f = refl
    write place (inr (inl x)) f = refl
    write place (inr (inr (inl x))) f = refl
    write place (inr (inr (inr x))) f = refl

    onto : (place : ℕ) (class : Class) → NamedClass place class → (x : Four) × FourFine place x × (class_of place x ≡ class)
    onto place Any f = absurd f
    onto place Language f = (inl tt, tt, refl)
    onto place NmToken f = (inr (inl tt), tt, refl)
    onto place Name f = (inr (inr (inl tt)), tt, refl)
    onto place NcName f = (inr (inr (inr tt)), tt, refl)

three_apart : (place : ℕ) (x : Unit {0} ⊎ (Unit {0} ⊎ Unit {0})) (rest : List ℕ)
    → IsFailed (word_at (codes " (CONSTRAINED BY {/* language */})") place (either_written (word_of (codes " (CONSTRAINED BY {/* NMTOKEN */})")) (either_written (word_of (codes " (CONSTRAINED BY {/* Name */})")) (word_of (codes " (CONSTRAINED BY {/* NCName */})"))) x ++ rest))
three_apart place (inl x) rest = tt
three_apart place (inr (inl x)) rest = tt
three_apart place (inr (inr x)) rest = tt

two_apart : (place : ℕ) (x : Unit {0} ⊎ Unit {0}) (rest : List ℕ)
    → IsFailed (word_at (codes " (CONSTRAINED BY {/* NMTOKEN */})") place (either_written (word_of (codes " (CONSTRAINED BY {/* Name */})")) (word_of (codes " (CONSTRAINED BY {/* NCName */})")) x ++ rest))
two_apart place (inl x) rest = tt
two_apart place (inr x) rest = tt

named_class_law : Law NamedClass never class_range AnyRest named_class_at
named_class_law = as_law
    (or_law {Follow = AnyRest} (word_law (codes " (CONSTRAINED BY {/* language */})"))
    (or_law {Follow = AnyRest} (word_law (codes " (CONSTRAINED BY {/* NMTOKEN */})"))
    (or_law {Follow = AnyRest} (word_law (codes " (CONSTRAINED BY {/* Name */})")) (word_law (codes " (CONSTRAINED BY {/* NCName */})")) (λ place a rest f h. tt) (λ place a rest f h. tt) (λ place b rest f h. tt))
    (λ place a rest f h. tt) (λ place a rest f h. tt) (λ place b rest f h. two_apart place b rest))
    (λ place a rest f h. tt) (λ place a rest f h. tt) (λ place b rest f h. three_apart place b rest))
    class_renames

pub class_law : Law Anything never class_range (IsUnread named_class_at) class_at
class_law = as_law (option_law {Follow = IsUnread named_class_at} named_class_law (λ rest h. tt) (λ rest h. h)) (record { fine = λ place x f. tt; deep = deep; write = write; onto = onto })
  where
    deep : (place : ℕ) (x : Option Class) → OptionFine NamedClass place x → None ≡ option_deep never x
    deep place None f = refl
    deep place (Some class) f = refl

    write : (place : ℕ) (x : Option Class) → OptionFine NamedClass place x → class_range (class_or_any place x) ≡ option_written class_range x
    write place None f = refl
    write place (Some class) f = refl

    onto : (place : ℕ) (class : Class) → Anything place class → (x : Option Class) × OptionFine NamedClass place x × (class_or_any place x ≡ class)
    onto place Any f = (None, tt, refl)
    onto place Language f = (Some Language, tt, refl)
    onto place NmToken f = (Some NmToken, tt, refl)
    onto place Name f = (Some Name, tt, refl)
    onto place NcName f = (Some NcName, tt, refl)

-- ---- a fixed value

abbrev OctetsHere : ℕ → PlainOctets → Type 0
OctetsHere place octets = (are_octets octets.digits ≡ true) × (octets.at ≡ place)

abbrev octets_text : PlainOctets → List ℕ
octets_text octets = octets.digits

octets_here_law : Law OctetsHere never octets_text OctetStops octets_here_at
octets_here_law = as_law octets_law (record { fine = λ place digits f. (f, refl); deep = λ place digits f. refl; write = λ place digits f. refl; onto = λ place o f. (o.digits, f.0, ap (λ p. octets_here p o.digits) (sym f.1)) })

abbrev some_fixed_text : PlainOctets → List ℕ
some_fixed_text = behind_word (codes " (CONSTRAINED BY {/* fixed ") (before_word octets_text (codes " */})"))

abbrev SomeFixedFine : ℕ → PlainOctets → Type 0
SomeFixedFine = BehindFine (codes " (CONSTRAINED BY {/* fixed ") OctetsHere

some_fixed_law : Law SomeFixedFine (shifted (codes " (CONSTRAINED BY {/* fixed ") never) some_fixed_text AnyRest some_fixed_at
some_fixed_law = behind_law (codes " (CONSTRAINED BY {/* fixed ") (before_law (codes " */})") {Follow = AnyRest} octets_here_law (λ place a rest f h. record { item = tt; fails = λ here. tt })) (λ place. (octets_here place [], (refl, refl)))

abbrev pub IsFixedHere : ℕ → Option PlainOctets → Type 0
IsFixedHere place fixed = IsFixed fixed × (placed_fixed place fixed ≡ fixed)

some_is_octets : (x y : PlainOctets) → Some x ≡ Some y → x ≡ y
some_is_octets x y e = cc

pub fixed_law : Law IsFixedHere never fixed_text (IsUnread some_fixed_at) fixed_at
fixed_law = restated (option_law {Follow = IsUnread some_fixed_at} some_fixed_law (λ rest h. tt) (λ rest h. h)) (alike fine back deep write)
  where
    fine : (place : ℕ) (x : Option PlainOctets) → OptionFine SomeFixedFine place x → IsFixedHere place x
    fine place None f = (tt, refl)
    fine place (Some o) f = (f.0, ap (λ p. Some (octets_here p o.digits)) (sym f.1))

    deep : (place : ℕ) (x : Option PlainOctets) → OptionFine SomeFixedFine place x → None ≡ option_deep (shifted (codes " (CONSTRAINED BY {/* fixed ") never) x
    deep place None f = refl
    deep place (Some o) f = refl

    write : (place : ℕ) (x : Option PlainOctets) → OptionFine SomeFixedFine place x → fixed_text x ≡ option_written some_fixed_text x
    write place None f = refl
    write place (Some o) f = append_assoc (codes " (CONSTRAINED BY {/* fixed ") o.digits (codes " */})")

    back : (place : ℕ) (x : Option PlainOctets) → IsFixedHere place x → OptionFine SomeFixedFine place x
    back place None f = tt
    back place (Some o) f = (f.0, sym (ap (λ (k : PlainOctets). k.at) (some_is_octets _ o f.1)))
