-- The laws of what is said of a part behind its type.
use Rattle.std.proofs.Common.{◌≡◌, ℕ, ◌+◌, ◌≤◌, ◌⊎◌, inl, inr, List, [], ◌∷◌, ◌++◌, length, refl, sym, ap, ◌∙◌, subst, arith, codes, Option, Some, None, append_assoc, append-nil, length-append}
use Rattle.base_trees.specs.Rose.{Rose, node, none}
use Rattle.module_grammar.specs.Reading.{word_at, nothing_at, or_at}
use Rattle.module_grammar.specs.Shapes.{Sunk, Anything, never, word_of, IsFailed, IsUnread, BothFine, both_written, both_deep, EitherFine, either_deep, either_written, BehindFine, shifted, behind_word}
use Rattle.module_grammar.specs.Laws.{Law, Early}
use Rattle.module_grammar.proofs.Steps.{none_some, moved_is}
use Rattle.module_grammar.proofs.WordLaws.{word_law, nothing_law}
use Rattle.module_grammar.proofs.Then.{then_law}
use Rattle.module_grammar.proofs.Or.{or_law}
use Rattle.module_grammar.proofs.As.{Renames, as_law}
use Rattle.module_grammar.proofs.Fixed.{behind_law}
use Rattle.module_grammar.proofs.Early.{split_front, then_early, or_early, as_early, never_early, behind_early}
use Rattle.module_text.specs.Plain.{IsAbsence}
use Rattle.module_text.specs.Texts.{value_text, fixed_text, absence_text}
use Rattle.module_text.specs.Places.{placed_value, placed_absence}
use Rattle.module_text.specs.declared.values.PlainValue.TheVariants as value
use Rattle.module_text.specs.declared.values.PlainValueLabel.{PlainValueLabel}
use Rattle.module_text.specs.declared.values.PlainOctets.{PlainOctets}
use Rattle.module_text.specs.declared.values.Absence.{Absence}
use Rattle.module_text.specs.declared.values.Absence.TheVariants as absence
use Rattle.module_grammar.specs.BoundReading.{some_range_at, some_size_at, named_class_at, some_fixed_at}
use Rattle.module_grammar.specs.ValueReading.{label, value_at, default_at, fixed_absence, free_absence, absence_at}
use Rattle.module_grammar.specs.TypeReading.{ending_at}
use Rattle.module_grammar.specs.Depth.{value_deep, absence_deep}
use Rattle.module_grammar.proofs.Unread.{behind_fails, first_of_front}
use Rattle.module_grammar.proofs.NameLaws.{NameStops}
use Rattle.module_grammar.proofs.BoundLaws.{IsFixedHere, fixed_law}
use Rattle.module_grammar.proofs.ValueLaws.{IsValueHere, ValueStops, value_law, value_early}

-- ---- what ends a type, and what ends a part

pub record TypeStops (rest : List ℕ) : Type 0 where
  pub name : NameStops rest
  pub range : IsUnread some_range_at rest
  pub size : IsUnread some_size_at rest
  pub class : IsUnread named_class_at rest
  pub of : IsUnread (word_at (codes " OF ")) rest
  pub brace : IsUnread (word_at (codes " {")) rest

pub record AbsenceStops (rest : List ℕ) : Type 0 where
  pub value : ValueStops rest
  pub default : IsUnread (word_at (codes " DEFAULT ")) rest
  pub optional : IsUnread (word_at (codes " OPTIONAL")) rest

pub record PartStops (rest : List ℕ) : Type 0 where
  pub type : TypeStops rest
  pub fixed : IsUnread some_fixed_at rest
  pub absence : AbsenceStops rest

-- a comma ends a part, and so does a new line
pub type_comma : (more : List ℕ) → TypeStops (codes "," ++ more)
type_comma more = record { name = record { item = tt; fails = λ place. tt }; range = λ place. tt; size = λ place. tt; class = λ place. tt; of = λ place. tt; brace = λ place. tt }

pub type_line : (more : List ℕ) → TypeStops (codes "\n" ++ more)
type_line more = record { name = record { item = tt; fails = λ place. tt }; range = λ place. tt; size = λ place. tt; class = λ place. tt; of = λ place. tt; brace = λ place. tt }

pub part_comma : (more : List ℕ) → PartStops (codes "," ++ more)
part_comma more = record {
  type = type_comma more;
  fixed = λ place. tt;
  absence = record { value = record { name = record { item = tt; fails = λ place. tt }; digit = record { item = tt; fails = λ place. tt }; quote = λ place. tt; colon = λ place. tt }; default = λ place. tt; optional = λ place. tt };
}

pub part_line : (more : List ℕ) → PartStops (codes "\n" ++ more)
part_line more = record {
  type = type_line more;
  fixed = λ place. tt;
  absence = record { value = record { name = record { item = tt; fails = λ place. tt }; digit = record { item = tt; fails = λ place. tt }; quote = λ place. tt; colon = λ place. tt }; default = λ place. tt; optional = λ place. tt };
}

-- ---- DEFAULT and a value

abbrev IsDefaultHere : ℕ → Rose PlainValueLabel → Type 0
IsDefaultHere = BehindFine (codes " DEFAULT ") IsValueHere

abbrev default_text : Rose PlainValueLabel → List ℕ
default_text = behind_word (codes " DEFAULT ") value_text

abbrev default_deep : ℕ → Rose PlainValueLabel → Option Sunk
default_deep most = shifted (codes " DEFAULT ") (value_deep most)

true_value : (place : ℕ) → (v : Rose PlainValueLabel) × IsValueHere place v
true_value place = (node (label place value.True) none, (refl, refl))

default_law : (most : ℕ) → Law IsDefaultHere (default_deep most) default_text ValueStops (default_at most)
default_law most = behind_law (codes " DEFAULT ") (value_law most) true_value

default_early : (most : ℕ) → Early IsDefaultHere (default_deep most) default_text (default_at most)
default_early most = behind_early (codes " DEFAULT ") (value_law most) (value_early most)

default_unread : (most place : ℕ) (rest : List ℕ) → AbsenceStops rest → IsFailed (default_at most place rest)
default_unread most place rest h = behind_fails (codes " DEFAULT ") (value_at most) place rest (h.default place)

abbrev pub IsAbsenceHere : Option PlainOctets → ℕ → Absence → Type 0
IsAbsenceHere fixed place a = IsAbsence fixed a × (placed_absence place a ≡ a)

pub default_is : (v w : Rose PlainValueLabel) → absence.Default v ≡ absence.Default w → v ≡ w
default_is v w e = cc

-- ---- behind a fixed value

abbrev FixedFine : ℕ → Rose PlainValueLabel ⊎ Unit {0} → Type 0
FixedFine = EitherFine IsDefaultHere Anything

abbrev fixed_deep : ℕ → Rose PlainValueLabel ⊎ Unit {0} → Option Sunk
fixed_deep most = either_deep (default_deep most) never

abbrev fixed_written : Rose PlainValueLabel ⊎ Unit {0} → List ℕ
fixed_written = either_written default_text (word_of [])

or_nothing_law : (most : ℕ) → Law FixedFine (fixed_deep most) fixed_written AbsenceStops (or_at (default_at most) nothing_at)
or_nothing_law most = or_law {Follow = AbsenceStops} (default_law most) nothing_law (λ place a rest f h. h.value) (λ place a rest f h. tt) (λ place b rest f h. default_unread most place rest h)

or_nothing_early : (most : ℕ) → Early FixedFine (fixed_deep most) fixed_written (or_at (default_at most) nothing_at)
or_nothing_early most = or_early {second = nothing_at} (default_early most) (never_early (λ a. refl)) (λ place b p more x s f d e le. none_some s d)

fixed_renames : (most : ℕ) (octets : PlainOctets) → Renames FixedFine (fixed_deep most) fixed_written (IsAbsenceHere (Some octets)) (absence_deep most) absence_text fixed_absence
fixed_renames most octets = record { fine = fine; deep = deep; write = write; onto = onto }
  where
    fine : (place : ℕ) (x : Rose PlainValueLabel ⊎ Unit {0}) → FixedFine place x → IsAbsenceHere (Some octets) place (fixed_absence place x)
    fine place (inl v) f = (f.0, ap (λ w. absence.Default w) f.1)
    fine place (inr x) f = (tt, refl)

    deep : (place : ℕ) (x : Rose PlainValueLabel ⊎ Unit {0}) → FixedFine place x → absence_deep most (fixed_absence place x) ≡ fixed_deep most x
    deep place (inl v) f = refl
    deep place (inr x) f = refl

    write : (place : ℕ) (x : Rose PlainValueLabel ⊎ Unit {0}) → FixedFine place x → absence_text (fixed_absence place x) ≡ fixed_written x
    write place (inl v) f = refl
    write place (inr x) f = refl

    onto : (place : ℕ) (a : Absence) → IsAbsenceHere (Some octets) place a → (x : Rose PlainValueLabel ⊎ Unit {0}) × FixedFine place x × (fixed_absence place x ≡ a)
    onto place absence.Never f = (inr tt, tt, refl)
    onto place absence.Optional f = absurd (not_none f.0)
      where
        not_none : Some octets ≡ None → ⊥
        not_none e = cc
    onto place (absence.Default v) f = (inl v, (f.0, default_is (placed_value (place + 9) v) v f.1), refl)

-- ---- without one

abbrev FreeFine : ℕ → Unit {0} ⊎ (Rose PlainValueLabel ⊎ Unit {0}) → Type 0
FreeFine = EitherFine Anything FixedFine

abbrev free_deep : ℕ → Unit {0} ⊎ (Rose PlainValueLabel ⊎ Unit {0}) → Option Sunk
free_deep most = either_deep never (fixed_deep most)

abbrev free_written : Unit {0} ⊎ (Rose PlainValueLabel ⊎ Unit {0}) → List ℕ
free_written = either_written (word_of (codes " OPTIONAL")) fixed_written

optional_apart : (place : ℕ) (x : Rose PlainValueLabel ⊎ Unit {0}) (rest : List ℕ) → AbsenceStops rest → IsFailed (word_at (codes " OPTIONAL") place (fixed_written x ++ rest))
optional_apart place (inl v) rest h = tt
optional_apart place (inr x) rest h = h.optional place

-- what tells that a value lies too deep stands behind DEFAULT
optional_unread : (most place : ℕ) (x : Rose PlainValueLabel ⊎ Unit {0}) (p more y : List ℕ) (s : Sunk) → fixed_deep most x ≡ Some s → fixed_written x ≡ p ++ more → s.told ≤ length p → IsFailed (word_at (codes " OPTIONAL") place (p ++ y))
optional_unread most place (inl v) p more y s d e le =
    let t = moved_is 9 s (value_deep most v) d in
    let told : 9 + t.0.told ≡ s.told = ap (λ (k : Sunk). k.told) t.2 in
    let one = first_of_front 32 (codes "DEFAULT " ++ value_text v) p more e (omega (arith, le, told)) in
    let two = first_of_front 68 (codes "EFAULT " ++ value_text v) one.0 more one.2 (omega (arith, le, told, ap length one.1)) in
    subst (λ l. IsFailed (word_at (codes " OPTIONAL") place (l ++ y))) (sym (one.1 ∙ ap (λ l. 32 ∷ l) two.1)) tt
optional_unread most place (inr x) p more y s d e le = none_some s d

free_renames : (most : ℕ) → Renames FreeFine (free_deep most) free_written (IsAbsenceHere None) (absence_deep most) absence_text free_absence
free_renames most = record { fine = fine; deep = deep; write = write; onto = onto }
  where
    fine : (place : ℕ) (x : Unit {0} ⊎ (Rose PlainValueLabel ⊎ Unit {0})) → FreeFine place x → IsAbsenceHere None place (free_absence place x)
    fine place (inl x) f = (refl, refl)
    fine place (inr (inl v)) f = (f.0, ap (λ w. absence.Default w) f.1)
    fine place (inr (inr x)) f = (tt, refl)

    deep : (place : ℕ) (x : Unit {0} ⊎ (Rose PlainValueLabel ⊎ Unit {0})) → FreeFine place x → absence_deep most (free_absence place x) ≡ free_deep most x
    deep place (inl x) f = refl
    deep place (inr (inl v)) f = refl
    deep place (inr (inr x)) f = refl

    write : (place : ℕ) (x : Unit {0} ⊎ (Rose PlainValueLabel ⊎ Unit {0})) → FreeFine place x → absence_text (free_absence place x) ≡ free_written x
    write place (inl x) f = refl
    write place (inr (inl v)) f = refl
    write place (inr (inr x)) f = refl

    onto : (place : ℕ) (a : Absence) → IsAbsenceHere None place a → (x : Unit {0} ⊎ (Rose PlainValueLabel ⊎ Unit {0})) × FreeFine place x × (free_absence place x ≡ a)
    onto place absence.Never f = (inr (inr tt), tt, refl)
    onto place absence.Optional f = (inl tt, tt, refl)
    onto place (absence.Default v) f = (inr (inl v), (f.0, default_is (placed_value (place + 9) v) v f.1), refl)

pub absence_law : (most : ℕ) (fixed : Option PlainOctets) → Law (IsAbsenceHere fixed) (absence_deep most) absence_text AbsenceStops (absence_at most fixed)
absence_law most (Some octets) = as_law (or_nothing_law most) (fixed_renames most octets)
absence_law most None = as_law
    (or_law {Follow = AbsenceStops} (word_law (codes " OPTIONAL")) (or_nothing_law most) (λ place a rest f h. tt) (λ place a rest f h. h) (λ place b rest f h. optional_apart place b rest h))
    (free_renames most)

pub absence_early : (most : ℕ) (fixed : Option PlainOctets) → Early (IsAbsenceHere fixed) (absence_deep most) absence_text (absence_at most fixed)
absence_early most (Some octets) = as_early (or_nothing_early most) (fixed_renames most octets)
absence_early most None = as_early
    (or_early (never_early (λ a. refl)) (or_nothing_early most) (λ place b p more x s f d e le. optional_unread most place b p more x s d e le))
    (free_renames most)

-- ---- a fixed value, and then what is said of absence

abbrev pub EndingFine : ℕ → Option PlainOctets × Absence → Type 0
EndingFine = BothFine IsFixedHere fixed_text IsAbsenceHere

abbrev pub ending_text : Option PlainOctets × Absence → List ℕ
ending_text = both_written fixed_text (λ fixed. absence_text)

abbrev pub ending_deep : ℕ → Option PlainOctets × Absence → Option Sunk
ending_deep most = both_deep fixed_text never (λ fixed. absence_deep most)

no_fixed : (a : Absence) (rest : List ℕ) → PartStops rest → IsUnread some_fixed_at (absence_text a ++ rest)
no_fixed absence.Never rest h = h.fixed
no_fixed absence.Optional rest h = λ place. tt
no_fixed (absence.Default v) rest h = λ place. tt

pub ending_law : (most : ℕ) → Law EndingFine (ending_deep most) ending_text PartStops (ending_at most)
ending_law most = then_law {Follow = PartStops} fixed_law (λ place fixed f. absence_law most fixed) (λ place here fixed f. (absence.Never, (tt, refl))) (λ place here fixed a rest f g h. no_fixed a rest h) (λ place here fixed a rest f g h. h.absence)

absence_first : (most : ℕ) (a : Absence) (q more x : List ℕ) (s : Sunk) → absence_deep most a ≡ Some s → absence_text a ≡ q ++ more → s.told ≤ length q → IsUnread some_fixed_at (q ++ x)
absence_first most absence.Never q more x s d e le = none_some s d
absence_first most absence.Optional q more x s d e le = none_some s d
absence_first most (absence.Default v) q more x s d e le =
    let t = moved_is 9 s (value_deep most v) d in
    let told : 9 + t.0.told ≡ s.told = ap (λ (k : Sunk). k.told) t.2 in
    let one = first_of_front 32 (codes "DEFAULT " ++ value_text v) q more e (omega (arith, le, told)) in
    let two = first_of_front 68 (codes "EFAULT " ++ value_text v) one.0 more one.2 (omega (arith, le, told, ap length one.1)) in
    λ place. subst (λ l. IsFailed (some_fixed_at place (l ++ x))) (sym (one.1 ∙ ap (λ l. 32 ∷ l) two.1)) tt

pub ending_early : (most : ℕ) → Early EndingFine (ending_deep most) ending_text (ending_at most)
ending_early most = then_early {FineB = IsAbsenceHere} {deepB = λ fixed. absence_deep most} {writeB = λ fixed. absence_text} {next = absence_at most} fixed_law (λ place fixed f. absence_law most fixed) (never_early (λ a. refl)) (λ place fixed f. absence_early most fixed)
    (λ place here fixed a q more x s f g d e le lt. absence_first most a q more x s d e le)

-- each of them ends a type
pub ending_ends : (fixed : Option PlainOctets) (a : Absence) (rest : List ℕ) → PartStops rest → TypeStops (ending_text (fixed, a) ++ rest)
ending_ends (Some octets) a rest h = record { name = record { item = tt; fails = λ place. tt }; range = λ place. tt; size = λ place. tt; class = λ place. tt; of = λ place. tt; brace = λ place. tt }
ending_ends None absence.Never rest h = h.type
ending_ends None absence.Optional rest h = record { name = record { item = tt; fails = λ place. tt }; range = λ place. tt; size = λ place. tt; class = λ place. tt; of = λ place. tt; brace = λ place. tt }
ending_ends None (absence.Default v) rest h = record { name = record { item = tt; fails = λ place. tt }; range = λ place. tt; size = λ place. tt; class = λ place. tt; of = λ place. tt; brace = λ place. tt }

-- and so does the front of one that tells a value too deep
default_front : (most : ℕ) (a : Absence) (q more y : List ℕ) (s : Sunk) → absence_deep most a ≡ Some s → absence_text a ≡ q ++ more → s.told ≤ length q → TypeStops (q ++ y)
default_front most absence.Never q more y s d e le = none_some s d
default_front most absence.Optional q more y s d e le = none_some s d
default_front most (absence.Default v) q more y s d e le =
    let t = moved_is 9 s (value_deep most v) d in
    let told : 9 + t.0.told ≡ s.told = ap (λ (k : Sunk). k.told) t.2 in
    let one = first_of_front 32 (codes "DEFAULT " ++ value_text v) q more e (omega (arith, le, told)) in
    let two = first_of_front 68 (codes "EFAULT " ++ value_text v) one.0 more one.2 (omega (arith, le, told, ap length one.1)) in
    subst (λ l. TypeStops (l ++ y)) (sym (one.1 ∙ ap (λ l. 32 ∷ l) two.1)) (record { name = record { item = tt; fails = λ place. tt }; range = λ place. tt; size = λ place. tt; class = λ place. tt; of = λ place. tt; brace = λ place. tt })

-- the comment of a fixed value, up to its word
abbrev comment : List ℕ
comment = codes " (CONSTRAINED BY {/* fixed "

fixed_front : (l q more y : List ℕ) → comment ++ l ≡ q ++ more → length comment ≤ length q → TypeStops (q ++ y)
fixed_front l q more y e le = elim (split_front comment l q more e) [
  | inl h ↦ subst (λ k. TypeStops (k ++ y)) (sym h.1) (record { name = record { item = tt; fails = λ place. tt }; range = λ place. tt; size = λ place. tt; class = λ place. tt; of = λ place. tt; brace = λ place. tt })
  | inr h ↦ subst (λ k. TypeStops (k ++ y)) (whole q h.0 h.1 (omega (arith, le, ap length h.1, length-append q h.0))) (record { name = record { item = tt; fails = λ place. tt }; range = λ place. tt; size = λ place. tt; class = λ place. tt; of = λ place. tt; brace = λ place. tt })
]
  where
    whole : (q m : List ℕ) → comment ≡ q ++ m → length m ≡ 0 → comment ≡ q
    whole q [] e z = e ∙ append-nil q
    whole q (b ∷ m) e z = absurd (omega (arith, z))

pub ending_first : (most : ℕ) (fixed : Option PlainOctets) (a : Absence) (q more y : List ℕ) (s : Sunk) → ending_deep most (fixed, a) ≡ Some s → ending_text (fixed, a) ≡ q ++ more → s.told ≤ length q → TypeStops (q ++ y)
ending_first most None a q more y s d e le =
    let t = moved_is 0 s (absence_deep most a) d in
    let told : 0 + t.0.told ≡ s.told = ap (λ (k : Sunk). k.told) t.2 in
    default_front most a q more y t.0 t.1 e (omega (arith, le, told))
ending_first most (Some octets) a q more y s d e le =
    let t = moved_is (length (fixed_text (Some octets))) s (absence_deep most a) d in
    let told : length (fixed_text (Some octets)) + t.0.told ≡ s.told = ap (λ (k : Sunk). k.told) t.2 in
    fixed_front ((octets.digits ++ codes " */})") ++ absence_text a) q more y (sym (longer (absence_text a)) ∙ e) (omega (arith, le, told, fixed_length))
  where
    longer : (l : List ℕ) → fixed_text (Some octets) ++ l ≡ comment ++ ((octets.digits ++ codes " */})") ++ l)
    longer l = ap (λ k. k ++ l) (append_assoc comment octets.digits (codes " */})")) ∙ append_assoc comment (octets.digits ++ codes " */})") l

    fixed_length : length comment ≤ length (fixed_text (Some octets))
    fixed_length = omega (arith, length-append (comment ++ octets.digits) (codes " */})"), length-append comment octets.digits)
