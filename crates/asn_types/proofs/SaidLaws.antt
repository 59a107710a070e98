-- The names that are told at the places of the first NAME and NAMESPACE.
use Rattle.std.proofs.Common.{◌≡◌, ℕ, List, [], ◌∷◌, refl}
use Rattle.std.specs.Prelude.{slice_get}
use Rattle.asn_types.specs.declared.marks.Instruction.{Instruction}
use Rattle.asn_types.specs.declared.marks.Instruction.TheVariants as mark
use Rattle.asn_types.specs.Names.{local_told, space_told}
use Rattle.asn_types.specs.Private.Saying.{name_place, namespace_place, name_in, space_in}

-- the first NAME stands at its place
pub name_at_place : (generated : List ℕ) (ms : List Instruction) → name_in generated (slice_get ms (name_place ms)) ≡ local_told generated ms
name_at_place generated [] = refl
name_at_place generated (mark.Name name ∷ ms) = refl
name_at_place generated (_ ∷ ms) = name_at_place generated ms

-- so does the first NAMESPACE
pub space_at_place : (ms : List Instruction) → space_in (slice_get ms (namespace_place ms)) ≡ space_told ms
space_at_place [] = refl
space_at_place (mark.Namespace space ∷ ms) = refl
space_at_place (_ ∷ ms) = space_at_place ms
