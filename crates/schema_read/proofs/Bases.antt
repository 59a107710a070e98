-- Simple types one after another.
use Rattle.std.proofs.Common.{◌≡◌, ℕ, zero, suc, Bool, true, false, Some, Box, Global, ◌<◌, List, [], ◌∷◌, ◌++◌, length, get_or, refl, ap, sym, ◌∙◌, arith, ◌==◌, not}
use Rattle.schema_read.proofs.Words.{eqb-true, Base, Named, Inner, Bases, none, more, base_of, bases_in, how_of, simple_of, named_base, inner_base, RawRef, Other, no_name, joined, first_or_none, and_inner}
use Rattle.schema_components.specs.declared.simple_definitions.RawSimple.{RawSimple}
use Rattle.schema_components.specs.declared.simple_definitions.RawBase.{RawBase}
use Rattle.schema_components.specs.declared.simple_definitions.RawBase.TheVariants as base

pub joined-none : (bases : Bases) → joined bases none ≡ bases
joined-none none = refl
joined-none (more first bases) = ap (more first) (joined-none bases)

pub bases_in-append : (xs ys : List RawBase) → bases_in (xs ++ ys) ≡ joined (bases_in xs) (bases_in ys)
bases_in-append [] ys = refl
bases_in-append (x ∷ xs) ys = ap (more (base_of x)) (bases_in-append xs ys)

joined-more : (xs : Bases) (x : Base) (rest : Bases) → joined (joined xs (more x none)) rest ≡ joined xs (more x rest)
joined-more none x rest = refl
joined-more (more first xs) x rest = ap (more first) (joined-more xs x rest)

-- one more at the end, before what follows
pub bases_in-push : (xs : List RawBase) (x : RawBase) (rest : Bases) → joined (bases_in (xs ++ x ∷ [])) rest ≡ joined (bases_in xs) (more (base_of x) rest)
bases_in-push xs x rest = ap (λ b. joined b rest) (bases_in-append xs (x ∷ [])) ∙ joined-more (bases_in xs) (base_of x) rest

-- the first of a list
pub none_of : (xs : List RawBase) (reference : RawRef) → length xs ≡ 0 → Other no_name ≡ reference → base_of (base.Named reference) ≡ first_or_none (bases_in xs)
none_of [] reference empty is = named_base reference ∙ ap Named (sym is)
none_of (x ∷ xs) reference empty is = absurd (omega arith)

pub first_of : (xs : List RawBase) (x : RawBase) → 0 < length xs → x ≡ get_or xs 0 x → base_of x ≡ first_or_none (bases_in xs)
first_of [] x some is = absurd (omega arith)
first_of (y ∷ xs) x some is = ap base_of is

pub is_zero_len : (n : ℕ) → (n == 0) ≡ true → n ≡ 0
is_zero_len n is = eqb-true n 0 is

pub is_positive : (n : ℕ) → (n == 0) ≡ false → 0 < n
is_positive zero is = absurd (let e : true ≡ false = is in cc)
is_positive (suc n) is = omega arith

pub not_false : (b : Bool) → not b ≡ false → b ≡ true
not_false true is = refl
not_false false is = absurd (let e : true ≡ false = is in cc)

-- one more simple type in place
pub inner_push : (xs : List RawBase) (held : Box RawSimple Global) (body : RawSimple) (rest : Bases) → held.value ≡ body
    → joined (bases_in (xs ++ base.Inner held ∷ [])) rest ≡ joined (bases_in xs) (and_inner (Some (simple_of body)) rest)
inner_push xs held body rest is =
    bases_in-push xs (base.Inner held) rest
    ∙ (ap (λ b. joined (bases_in xs) (more b rest)) (inner_base held)
    ∙ ap (λ (s : RawSimple). joined (bases_in xs) (more (Inner s.at s.body_at (how_of s.how)) rest)) is)
