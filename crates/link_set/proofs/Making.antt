-- Definitions with their spaces, with one space more.
use Rattle.std.proofs.Common.{◌≡◌, ◌<◌, ◌≤◌, arith, List, [], ◌∷◌, ◌++◌, length, get_or, refl, sym, ap, ◌∙◌}
use Rattle.simple_types.specs.Space.{Space}
use Rattle.link_names.specs.SimpleTypes.{SimpleDefinition}
use Rattle.link_names.specs.CyclesSeen.{definition_of, definitions_of}
use Rattle.link_names.specs.declared.definitions.SimpleType.{SimpleType}
use Rattle.link_set.specs.Sets.{made_type, made_types}

pub none_made : (ds : List SimpleDefinition) → made_types ds [] ≡ []
none_made [] = refl
none_made (d ∷ ds) = refl

pub one_made : (ts : List SimpleType) (ss : List Space) (s : Space) (t : SimpleType) → length ss < length ts → t ≡ get_or ts (length ss) t
    → made_types (definitions_of ts) (ss ++ s ∷ []) ≡ made_types (definitions_of ts) ss ++ made_type (definition_of t) s ∷ []
one_made [] ss s t lt e = absurd (omega arith)
one_made (u ∷ us) [] s t lt e =
    ap (λ ms. made_type (definition_of u) s ∷ ms) (none_made (definitions_of us)) ∙ ap (λ v. made_type (definition_of v) s ∷ []) (sym e)
one_made (u ∷ us) (x ∷ xs) s t lt e = ap (λ ms. made_type (definition_of u) x ∷ ms) (one_made us xs s t (omega arith) e)

-- spaces behind the last definition are left out
pub no_more : (ts : List SimpleType) (ss : List Space) (s : Space) → length ts ≤ length ss
    → made_types (definitions_of ts) (ss ++ s ∷ []) ≡ made_types (definitions_of ts) ss
no_more [] ss s le = refl
no_more (u ∷ us) [] s le = absurd (omega (arith, le))
no_more (u ∷ us) (x ∷ xs) s le = ap (λ ms. made_type (definition_of u) x ∷ ms) (no_more us xs s (omega (arith, le)))
