-- The small language's law.
use Rattle.std.proofs.Common.{◌≡◌, ◌==◌, ◌||◌, ℕ, zero, suc, ◌<◌, ◌≤◌, ◌⊎◌, inl, inr, Bool, true, false, List, [], ◌∷◌, ◌++◌, length, codes, refl, sym, ap, subst, arith, eqb-true, Some}
use Rattle.module_grammar.specs.Reading.{word_at}
use Rattle.module_grammar.specs.Shapes.{Sunk, Anything, AnyRest, never, word_of, IsFailed, EitherFine, either_deep, either_written, EachFine, each_deep, each_written, BehindFine, behind_word, before_word, shifted, Stops}
use Rattle.module_grammar.specs.Laws.{Law, Early}
use Rattle.module_grammar.specs.Nested.{nested, nested_deep, Line, IsLine, line_text, line_deep, is_opening, levels_of, nested_at, line_of, line_at, lines_at, NestedExact}
use Rattle.module_grammar.proofs.Steps.{moved_is}
use Rattle.module_grammar.proofs.WordLaws.{word_law, byte_law}
use Rattle.module_grammar.proofs.Or.{or_law}
use Rattle.module_grammar.proofs.Many.{many_law}
use Rattle.module_grammar.proofs.As.{Renames, as_law}
use Rattle.module_grammar.proofs.Fixed.{behind_law, before_law}
use Rattle.module_grammar.proofs.Sunken.{Opens, first_node, sunk_law, sunk_early}
use Rattle.module_grammar.proofs.Early.{or_early, as_early, never_early, behind_early, before_early, many_early}
use Rattle.module_grammar.proofs.Judging.{exact}

abbrev Byte : ℕ → ℕ → Type 0
Byte place b = is_opening b ≡ true

byte : ℕ → List ℕ
byte b = b ∷ []

abbrev AnyLevels : ℕ → ℕ → Type 0
AnyLevels = Anything

is_byte : (b : ℕ) → is_opening b ≡ true → (levels : ℕ) × (more : List ℕ) × (nested levels ≡ (b ∷ []) ++ more)
is_byte b f = elim (two (b == 40) (b == 120) f) [
  | inl e ↦ (1, codes "x)", ap (λ k. k ∷ codes "x)") (sym (is_one b 40 e)))
  | inr e ↦ (0, [], ap (λ k. k ∷ []) (sym (is_one b 120 e)))
]
  where
    two : (s t : Bool) → s || t ≡ true → (s ≡ true) ⊎ (t ≡ true)
    two true t e = inl refl
    two false t e = inr e

    is_one : (m n : ℕ) → (m == n) ≡ true → m ≡ n
    is_one m n e = eqb-true m n e

opens : Opens Byte (λ b. b ∷ []) AnyLevels (nested_deep 0) nested
opens = record { some = λ place b f. omega arith; opened = opened; closed = λ place b f. let h = is_byte b f in (h.0, h.1, tt, h.2, refl) }
  where
    opened : (place levels : ℕ) → AnyLevels place levels → (b : ℕ) × (more : List ℕ) × Byte place b × (nested levels ≡ (b ∷ []) ++ more) × (nested_deep 0 levels ≡ Some (first_node 1))
    opened place zero f = (120, [], refl, refl, refl)
    opened place (suc levels) f = (40, nested levels ++ codes ")", refl, refl, refl)

abbrev InParentheses : ℕ → ℕ → Type 0
InParentheses = BehindFine (codes "(") AnyLevels

abbrev in_parentheses : ℕ → List ℕ
in_parentheses = behind_word (codes "(") (before_word nested (codes ")"))

renames : (depth : ℕ) → Renames (EitherFine Anything InParentheses) (either_deep never (shifted (codes "(") (nested_deep depth))) (either_written (word_of (codes "x")) in_parentheses) AnyLevels (nested_deep (suc depth)) nested levels_of
renames depth = record { fine = λ place x f. tt; deep = λ place. deep; write = λ place. write; onto = onto }
  where
    deep : (x : Unit {0} ⊎ ℕ) → EitherFine Anything InParentheses 0 x → nested_deep (suc depth) (levels_of 0 x) ≡ either_deep never (shifted (codes "(") (nested_deep depth)) x
    deep (inl x) f = refl
    deep (inr levels) f = refl

    write : (x : Unit {0} ⊎ ℕ) → EitherFine Anything InParentheses 0 x → nested (levels_of 0 x) ≡ either_written (word_of (codes "x")) in_parentheses x
    write (inl x) f = refl
    write (inr levels) f = refl

    onto : (place levels : ℕ) → AnyLevels place levels → (x : Unit {0} ⊎ ℕ) × EitherFine Anything InParentheses place x × (levels_of place x ≡ levels)
    onto place zero f = (inl tt, tt, refl)
    onto place (suc levels) f = (inr levels, tt, refl)

nested_law : (depth : ℕ) → Law AnyLevels (nested_deep depth) nested AnyRest (nested_at depth)
nested_law zero = sunk_law (byte_law is_opening (40, refl)) opens
nested_law (suc depth) = as_law
    (or_law {Follow = AnyRest} (word_law (codes "x")) (behind_law (codes "(") (before_law (codes ")") {Follow = AnyRest} (nested_law depth) (λ place a rest f h. tt)) (λ place. (0, tt))) (λ place a rest f h. tt) (λ place a rest f h. tt) (λ place b rest f h. tt))
    (renames depth)

nested_early : (depth : ℕ) → Early AnyLevels (nested_deep depth) nested (nested_at depth)
nested_early zero = sunk_early (byte_law is_opening (40, refl)) opens
nested_early (suc depth) = as_early
    (or_early (never_early (λ a. refl)) (behind_early (codes "(") (before_law (codes ")") {Follow = AnyRest} (nested_law depth) (λ place a rest f h. tt)) (before_early (codes ")") (nested_law depth) (nested_early depth))) apart)
    (renames depth)
  where
    apart : (place levels : ℕ) (p more x : List ℕ) (s : Sunk) → InParentheses place levels → shifted (codes "(") (nested_deep depth) levels ≡ Some s → in_parentheses levels ≡ p ++ more → s.told ≤ length p → IsFailed (word_at (codes "x") place (p ++ x))
    apart place levels [] more x s f d e le = let h = moved_is 1 s (nested_deep depth levels) d in absurd (omega (arith, le, ap (λ (k : Sunk). k.told) h.2))
    apart place levels (b ∷ p) more x s f d e le = subst (λ c. IsFailed (word_at (codes "x") place (c ∷ (p ++ x)))) (ap head e) tt
      where
        head : List ℕ → ℕ
        head [] = 0
        head (b ∷ bs) = b

line_renames : (depth : ℕ) → Renames AnyLevels (nested_deep depth) (before_word nested (codes ";")) IsLine (line_deep depth) line_text line_of
line_renames depth = record { fine = λ place levels f. refl; deep = λ place levels f. refl; write = λ place levels f. refl; onto = λ place line f. (line.levels, tt, ap (λ p. line_of p line.levels) (sym f)) }

line_law : (depth : ℕ) → Law IsLine (line_deep depth) line_text AnyRest (line_at depth)
line_law depth = as_law (before_law (codes ";") {Follow = AnyRest} (nested_law depth) (λ place a rest f h. tt)) (line_renames depth)

line_bytes : (place : ℕ) (line : Line) → IsLine place line → 0 < length (line_text line)
line_bytes place line f = some line.levels
  where
    some : (levels : ℕ) → 0 < length (nested levels ++ codes ";")
    some zero = omega arith
    some (suc levels) = omega arith

lines_law : (depth : ℕ) → Law (EachFine IsLine line_text) (each_deep line_text (line_deep depth)) (each_written line_text) (Stops AnyRest (line_at depth)) (lines_at depth)
lines_law depth = many_law (line_law depth) line_bytes (λ place b rest f h. tt)

lines_early : (depth : ℕ) → Early (EachFine IsLine line_text) (each_deep line_text (line_deep depth)) (each_written line_text) (lines_at depth)
lines_early depth = many_early (line_law depth) (lines_law depth) (as_early (before_early (codes ";") (nested_law depth) (nested_early depth)) (line_renames depth)) line_bytes (λ place b l q m x f e lt. tt)

pub nested_exact : NestedExact
nested_exact depth = exact (lines_law depth) (lines_early depth) (ends depth)
  where
    ends : (depth : ℕ) → Stops AnyRest (line_at depth) []
    ends zero = record { item = tt; fails = λ place. tt }
    ends (suc depth) = record { item = tt; fails = λ place. tt }
