-- The names of a map are identifiers and references of ASN.1 (X.680, clauses 12.2 and 12.3).
use Rattle.std.proofs.Common.{◌≡◌, ℕ, zero, suc, ◌<◌, Bool, true, false, ◌&&◌, ◌||◌, not, Option, Some, None, List, [], ◌∷◌, ◌++◌, refl, sym, ap, ◌∙◌, subst, arith, inl, inr}
use Rattle.std.specs.Prelude.{◌==◌, ◌/◌, ◌%◌, filter, decimal, if◌then◌else◌, cond}
use Rattle.std.specs.List.{slice_split, onto_first, join_with_byte, filter_map, cons_option}
use Rattle.std.specs.Char.{is_ascii_digit, to_ascii_uppercase, to_ascii_lowercase}
use Rattle.std.specs.Fmt.{digit_glyph, digits_onto, digits}
use Rattle.std.proofs.lemmas.Bool.{true≢false}
use Rattle.std.proofs.lemmas.Bool.Decides.{nat_tests}
use Rattle.std.proofs.lemmas.List.{append-nil}
use Rattle.base_texts.specs.Characters.{in_ranges}
use Rattle.base_texts.specs.Digits.{is_digit}
use Rattle.base_texts.specs.WhiteSpace.{has_bytes}
use Rattle.asn_names.specs.declared.conversion.NameKind.TheVariants.{Reference, Identifier}
use Rattle.asn_names.specs.Conversion.{letters_and_digits, kept, joined, letter_x, cased, begun, converted}
use Rattle.asn_names.specs.Taking.{IsTaken}
use Rattle.module_text.specs.Names.{is_capital, is_small, is_letter_or_digit, goes_on, is_reference, is_identifier}

pub and-both : (a b : Bool) → a ≡ true → b ≡ true → (a && b) ≡ true
and-both true b e f = f
and-both false b e f = e

pub and-first : (a b : Bool) → (a && b) ≡ true → a ≡ true
and-first true b e = refl
and-first false b e = e

pub and-second : (a b : Bool) → (a && b) ≡ true → b ≡ true
and-second true b e = e
and-second false b e = absurd (true≢false (sym e))

-- ---- letters and digits

letter-no_hyphen : (c : ℕ) → is_letter_or_digit c ≡ true → (c == 0x2D) ≡ false
letter-no_hyphen c e = grind (arith, nat_tests, e)

-- letters and digits alone
abbrev IsRun : List ℕ → Type 0
IsRun [] = Unit {0}
IsRun (c ∷ cs) = (is_letter_or_digit c ≡ true) × IsRun cs

one-on : (hyphen : Bool) (c : ℕ) (cs : List ℕ) → is_letter_or_digit c ≡ true → goes_on hyphen (c ∷ cs) ≡ goes_on false cs
one-on hyphen c cs letter =
    ap (λ (b : Bool). if b then not hyphen && goes_on true cs else is_letter_or_digit c && goes_on false cs) (letter-no_hyphen c letter) ∙ ap (λ b. b && goes_on false cs) letter

-- behind them goes on what goes on behind no hyphen
run-on : (hyphen : Bool) (c : ℕ) (cs rest : List ℕ) → is_letter_or_digit c ≡ true → IsRun cs → goes_on hyphen (c ∷ cs ++ rest) ≡ goes_on false rest
run-on hyphen c [] rest letter run = one-on hyphen c rest letter
run-on hyphen c (d ∷ cs) rest letter run = one-on hyphen c (d ∷ cs ++ rest) letter ∙ run-on false d cs rest run.0 run.1

run-ends : (hyphen : Bool) (c : ℕ) (cs : List ℕ) → is_letter_or_digit c ≡ true → IsRun cs → goes_on hyphen (c ∷ cs) ≡ true
run-ends hyphen c cs letter run = ap (λ l. goes_on hyphen (c ∷ l)) (sym (append-nil cs)) ∙ run-on hyphen c cs [] letter run

-- ---- what is kept of a name of XML

abbrev IsKept : ℕ → Type 0
IsKept c = ((c == 0x2D) || is_letter_or_digit c) ≡ true

abbrev AreKept : List ℕ → Type 0
AreKept [] = Unit {0}
AreKept (c ∷ cs) = IsKept c × AreKept cs

in-letters : (a b d : Bool) → (a || (b || (d || false))) ≡ true → (a || b || d) ≡ true
in-letters true b d e = refl
in-letters false true d e = refl
in-letters false false true e = refl
in-letters false false false e = e

kept-letter : (c : ℕ) → in_ranges letters_and_digits c ≡ true → is_letter_or_digit c ≡ true
kept-letter c e = in-letters (is_capital c) (is_small c) (is_digit c) e

one-kept : (c d : ℕ) → kept c ≡ Some d → IsKept d
unfolding kept
one-kept c d e = by (c == 0x20 || c == 0x2E || c == 0x5F || c == 0x2D) (in_ranges letters_and_digits c) refl e
  where
    either : (b : Bool) → is_letter_or_digit c ≡ true → (b || is_letter_or_digit c) ≡ true
    either true f = refl
    either false f = f

    by : (a b : Bool) → in_ranges letters_and_digits c ≡ b → (if a then Some 0x2D else if b then Some c else None) ≡ Some d → IsKept d
    by true b f g = let same : 0x2D ≡ d = cc in subst IsKept same refl
    by false true f g = let same : c ≡ d = cc in subst IsKept same (either (c == 0x2D) (kept-letter c f))
    by false false f g = absurd (cc)

all-kept : (cs : List ℕ) → AreKept (filter_map kept cs)
all-kept [] = tt
all-kept (c ∷ cs) = by (kept c) refl (all-kept cs)
  where
    by : (o : Option ℕ) → kept c ≡ o → AreKept (filter_map kept cs) → AreKept (cons_option o (filter_map kept cs))
    by None e rest = rest
    by (Some d) e rest = (one-kept c d e, rest)

-- ---- the parts between hyphens

abbrev AreRuns : List (List ℕ) → Type 0
AreRuns [] = Unit {0}
AreRuns (part ∷ parts) = IsRun part × AreRuns parts

onto-run : (c : ℕ) (parts : List (List ℕ)) → is_letter_or_digit c ≡ true → AreRuns parts → AreRuns (onto_first c parts)
onto-run c [] letter runs = ((letter, tt), tt)
onto-run c (part ∷ parts) letter runs = ((letter, runs.0), runs.1)

split-runs : (cs : List ℕ) → AreKept cs → AreRuns (slice_split (λ c. c == 0x2D) cs)
split-runs [] kept = (tt, tt)
split-runs (c ∷ cs) kept = by (c == 0x2D) (split-runs cs kept.1) kept.0
  where
    by : (b : Bool) → AreRuns (slice_split (λ c. c == 0x2D) cs) → (b || is_letter_or_digit c) ≡ true
        → AreRuns (cond b ([] ∷ slice_split (λ c. c == 0x2D) cs) (onto_first c (slice_split (λ c. c == 0x2D) cs)))
    by true runs e = (tt, runs)
    by false runs e = onto-run c (slice_split (λ c. c == 0x2D) cs) e runs

abbrev AreParts : List (List ℕ) → Type 0
AreParts [] = Unit {0}
AreParts (part ∷ parts) = (has_bytes part ≡ true) × IsRun part × AreParts parts

filtered-parts : (parts : List (List ℕ)) → AreRuns parts → AreParts (filter has_bytes parts)
filtered-parts [] runs = tt
filtered-parts (part ∷ parts) runs = by (has_bytes part) refl (filtered-parts parts runs.1)
  where
    by : (b : Bool) → has_bytes part ≡ b → AreParts (filter has_bytes parts) → AreParts (cond b (part ∷ filter has_bytes parts) (filter has_bytes parts))
    by true e rest = (e, runs.0, rest)
    by false e rest = rest

-- joined by hyphens they go on, even behind a hyphen
joined-on : (hyphen : Bool) (part : List ℕ) (parts : List (List ℕ)) → has_bytes part ≡ true → IsRun part → AreParts parts → goes_on hyphen (join_with_byte 0x2D (part ∷ parts)) ≡ true
joined-on hyphen [] parts some run are = absurd (true≢false (sym some))
joined-on hyphen (c ∷ cs) [] some run are = run-ends hyphen c cs run.0 run.1
joined-on hyphen (c ∷ cs) (part ∷ parts) some run are =
    run-on hyphen c cs (0x2D ∷ join_with_byte 0x2D (part ∷ parts)) run.0 run.1 ∙ joined-on true part parts are.0 are.1 are.2

-- nothing, or what goes on behind a hyphen
abbrev Goes : List ℕ → Type 0
Goes [] = Unit {0}
Goes (c ∷ cs) = goes_on true (c ∷ cs) ≡ true

goes : (text : List ℕ) → goes_on true text ≡ true → Goes text
goes [] e = tt
goes (c ∷ cs) e = e

joined-goes : (cs : List ℕ) → Goes (joined cs)
joined-goes cs = by (filter has_bytes (slice_split (λ c. c == 0x2D) (filter_map kept cs))) (filtered-parts _ (split-runs _ (all-kept cs)))
  where
    by : (parts : List (List ℕ)) → AreParts parts → Goes (join_with_byte 0x2D parts)
    by [] are = tt
    by (part ∷ parts) are = goes (join_with_byte 0x2D (part ∷ parts)) (joined-on true part parts are.0 are.1 are.2)

-- ---- what begins with a letter

goes-letter : (c : ℕ) (cs : List ℕ) → goes_on true (c ∷ cs) ≡ true → (is_letter_or_digit c ≡ true) × (goes_on false cs ≡ true)
goes-letter c cs e = by (c == 0x2D) e
  where
    by : (b : Bool) → (if b then not true && goes_on true cs else is_letter_or_digit c && goes_on false cs) ≡ true → (is_letter_or_digit c ≡ true) × (goes_on false cs ≡ true)
    by true f = absurd (true≢false (sym f))
    by false f = (and-first (is_letter_or_digit c) (goes_on false cs) f, and-second (is_letter_or_digit c) (goes_on false cs) f)

lowered : (c : ℕ) → is_letter_or_digit c ≡ true → is_ascii_digit c ≡ false → is_small (to_ascii_lowercase c) ≡ true
lowered c letter e = grind (arith, nat_tests, letter, e)

raised : (c : ℕ) → is_letter_or_digit c ≡ true → is_ascii_digit c ≡ false → is_capital (to_ascii_uppercase c) ≡ true
raised c letter e = grind (arith, nat_tests, letter, e)

begun-identifier : (text : List ℕ) → Goes text → is_identifier (begun Identifier text) ≡ true
begun-identifier [] h = refl
begun-identifier (c ∷ cs) h = by (is_ascii_digit c) refl (goes-letter c cs h)
  where
    by : (b : Bool) → is_ascii_digit c ≡ b → (is_letter_or_digit c ≡ true) × (goes_on false cs ≡ true)
        → is_identifier (if b then letter_x Identifier ∷ c ∷ cs else cased Identifier c ∷ cs) ≡ true
    by true e g = one-on false c cs g.0 ∙ g.1
    by false e g = and-both (is_small (to_ascii_lowercase c)) (goes_on false cs) (lowered c g.0 e) g.1

begun-reference : (text : List ℕ) → Goes text → is_reference (begun Reference text) ≡ true
begun-reference [] h = refl
begun-reference (c ∷ cs) h = by (is_ascii_digit c) refl (goes-letter c cs h)
  where
    by : (b : Bool) → is_ascii_digit c ≡ b → (is_letter_or_digit c ≡ true) × (goes_on false cs ≡ true)
        → is_reference (if b then letter_x Reference ∷ c ∷ cs else cased Reference c ∷ cs) ≡ true
    by true e g = one-on false c cs g.0 ∙ g.1
    by false e g = and-both (is_capital (to_ascii_uppercase c)) (goes_on false cs) (raised c g.0 e) g.1

pub converted-identifier : (cs : List ℕ) → is_identifier (converted Identifier cs) ≡ true
unfolding converted
converted-identifier cs = begun-identifier (joined cs) (joined-goes cs)

pub converted-reference : (cs : List ℕ) → is_reference (converted Reference cs) ≡ true
unfolding converted
converted-reference cs = begun-reference (joined cs) (joined-goes cs)

-- ---- with more behind a hyphen

behind-hyphen : (hyphen : Bool) (text more : List ℕ) → goes_on hyphen text ≡ true → goes_on true more ≡ true → goes_on hyphen (text ++ 0x2D ∷ more) ≡ true
behind-hyphen true [] more e f = absurd (true≢false (sym e))
behind-hyphen false [] more e f = f
behind-hyphen hyphen (c ∷ cs) more e f = by (c == 0x2D) (λ b g. behind-hyphen b cs more g f) e
  where
    by : (b : Bool) → ((k : Bool) → goes_on k cs ≡ true → goes_on k (cs ++ 0x2D ∷ more) ≡ true)
        → (if b then not hyphen && goes_on true cs else is_letter_or_digit c && goes_on false cs) ≡ true
        → (if b then not hyphen && goes_on true (cs ++ 0x2D ∷ more) else is_letter_or_digit c && goes_on false (cs ++ 0x2D ∷ more)) ≡ true
    by true on g = and-both (not hyphen) (goes_on true (cs ++ 0x2D ∷ more)) (and-first (not hyphen) (goes_on true cs) g) (on true (and-second (not hyphen) (goes_on true cs) g))
    by false on g =
        and-both (is_letter_or_digit c) (goes_on false (cs ++ 0x2D ∷ more)) (and-first (is_letter_or_digit c) (goes_on false cs) g)
        (on false (and-second (is_letter_or_digit c) (goes_on false cs) g))

pub longer-identifier : (name more : List ℕ) → is_identifier name ≡ true → goes_on true more ≡ true → is_identifier (name ++ 0x2D ∷ more) ≡ true
longer-identifier [] more e f = absurd (true≢false (sym e))
longer-identifier (c ∷ cs) more e f =
    and-both (is_small c) (goes_on false (cs ++ 0x2D ∷ more)) (and-first (is_small c) (goes_on false cs) e) (behind-hyphen false cs more (and-second (is_small c) (goes_on false cs) e) f)

pub longer-reference : (name more : List ℕ) → is_reference name ≡ true → goes_on true more ≡ true → is_reference (name ++ 0x2D ∷ more) ≡ true
longer-reference [] more e f = absurd (true≢false (sym e))
longer-reference (c ∷ cs) more e f =
    and-both (is_capital c) (goes_on false (cs ++ 0x2D ∷ more)) (and-first (is_capital c) (goes_on false cs) e) (behind-hyphen false cs more (and-second (is_capital c) (goes_on false cs) e) f)

-- ---- numbers

glyph-digit : (n : ℕ) → is_letter_or_digit (digit_glyph false (n % 10)) ≡ true
glyph-digit n = let below : n % 10 < 10 = omega arith in at (n % 10) below
  where
    at : (d : ℕ) → d < 10 → is_letter_or_digit (digit_glyph false d) ≡ true
    at d below = grind (arith, nat_tests)

-- what goes on behind a hyphen goes on without
goes-behind : (bs : List ℕ) → goes_on true bs ≡ true → goes_on false bs ≡ true
goes-behind [] e = absurd (true≢false (sym e))
goes-behind (c ∷ cs) e = let g = goes-letter c cs e in one-on false c cs g.0 ∙ g.1

digits-run : (k n : ℕ) (acc : List ℕ) → goes_on true acc ≡ true → goes_on true (digits_onto k 10 false n acc) ≡ true
digits-run zero n acc e = e
digits-run (suc k) n acc e = by (n / 10 == 0) (λ f. digits-run k (n / 10) (digit_glyph false (n % 10) ∷ acc) f)
  where
    now : goes_on true (digit_glyph false (n % 10) ∷ acc) ≡ true
    now = one-on true (digit_glyph false (n % 10)) acc (glyph-digit n) ∙ goes-behind acc e

    by : (b : Bool) → (goes_on true (digit_glyph false (n % 10) ∷ acc) ≡ true → goes_on true (digits_onto k 10 false (n / 10) (digit_glyph false (n % 10) ∷ acc)) ≡ true)
        → goes_on true (if b then digit_glyph false (n % 10) ∷ acc else digits_onto k 10 false (n / 10) (digit_glyph false (n % 10) ∷ acc)) ≡ true
    by true rest = now
    by false rest = rest now

decimal-on : (n : ℕ) → goes_on true (decimal n) ≡ true
unfolding digits
decimal-on n = first (n / 10 == 0)
  where
    now : goes_on true (digit_glyph false (n % 10) ∷ []) ≡ true
    now = one-on true (digit_glyph false (n % 10)) [] (glyph-digit n)

    first : (b : Bool) → goes_on true (if b then digit_glyph false (n % 10) ∷ [] else digits_onto 63 10 false (n / 10) (digit_glyph false (n % 10) ∷ [])) ≡ true
    first true = now
    first false = digits-run 63 (n / 10) (digit_glyph false (n % 10) ∷ []) now

-- ---- names that are taken

pub taken-identifier : (before : List (List ℕ)) (name given : List ℕ) → is_identifier name ≡ true → IsTaken Identifier before name given → is_identifier given ≡ true
taken-identifier before name given e (inl (free, is)) = subst (λ g. is_identifier g ≡ true) (sym is) e
taken-identifier before name given e (inr (_, n, least, is)) = subst (λ g. is_identifier g ≡ true) (sym is) (longer-identifier name (decimal n) e (decimal-on n))

pub taken-reference : (before : List (List ℕ)) (name given : List ℕ) → is_reference name ≡ true → IsTaken Reference before name given → is_reference given ≡ true
taken-reference before name given e (inl (free, is)) = subst (λ g. is_reference g ≡ true) (sym is) e
taken-reference before name given e (inr (_, n, least, is)) = subst (λ g. is_reference g ≡ true) (sym is) (longer-reference name (decimal n) e (decimal-on n))
