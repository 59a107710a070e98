-- The simple type that is mapped to a type, from those of its parts.
use Rattle.std.proofs.Common.{◌≡◌, ℕ, ◌<◌, Option, List, [], ◌∷◌, ◌++◌, length, refl, sym, ◌∙◌, ap, arith}
use Rattle.base_trees.specs.Rose.{Rose, node, label_of, kids_of, roses_of}
use Rattle.base_trees.proofs.Roses.{roses_of-list_of}
use Rattle.simple_types.specs.declared.simples.Simple.{Simple}
use Rattle.simple_types.specs.declared.simples.Simple.TheVariants.{Bool}
use Rattle.simple_types.specs.Joining.{joined}
use Rattle.simple_types.specs.Seen.{space_of, spaces_in}
use Rattle.simple_types.specs.Space.{none, more, Booleans, ListOf, UnionOf}
use Rattle.simple_types.proofs.Copies.{spaces-append}
use Rattle.asn_types.specs.declared.types.Component.{Component}
use Rattle.asn_types.specs.declared.types.Form.TheVariants as form
use Rattle.asn_types.specs.declared.types.TypeLabel.{TypeLabel}
use Rattle.asn_types.specs.Spaces.{space_at, spaces_at, first_space}

spaces_at-push : (ts : List (Rose TypeLabel)) (t : Rose TypeLabel) → spaces_at (roses_of (ts ++ t ∷ [])) ≡ joined (spaces_at (roses_of ts)) (more (space_at t) none)
spaces_at-push [] t = refl
spaces_at-push (u ∷ ts) t = ap (more (space_at u)) (spaces_at-push ts t)

-- one more member
pub members-more : (members : List Simple) (ts : List (Rose TypeLabel)) (member : Simple) (t : Rose TypeLabel) → spaces_in members ≡ spaces_at (roses_of ts) → space_of member ≡ space_at t
    → spaces_in (members ++ member ∷ []) ≡ spaces_at (roses_of (ts ++ t ∷ []))
members-more members ts member t front one =
    spaces-append members (member ∷ [])
    ∙ ap (λ ss. joined ss (more (space_of member) none)) front
    ∙ ap (λ s. joined (spaces_at (roses_of ts)) (more s none)) one
    ∙ sym (spaces_at-push ts t)

pub list-space_at : (t : Rose TypeLabel) (part : Component) (least : ℕ) (most : Option ℕ) → (label_of t).form ≡ form.SequenceOf part least most
    → space_at t ≡ ListOf (first_space (roses_of (kids_of t))) least most
list-space_at (node l ts) part least most e = rw e (ap (λ us. ListOf (first_space us) least most) (sym (roses_of-list_of ts)))

pub union-space_at : (t : Rose TypeLabel) (parts : List Component) → (label_of t).form ≡ form.Choice parts → space_at t ≡ UnionOf (spaces_at (roses_of (kids_of t)))
union-space_at (node l ts) parts e = rw e (ap (λ us. UnionOf (spaces_at us)) (sym (roses_of-list_of ts)))

pub bool_space : space_of Bool ≡ Booleans
unfolding space_of
bool_space = refl

-- where there is no item
pub first-empty : (ts : List (Rose TypeLabel)) → length ts < 1 → first_space (roses_of ts) ≡ Booleans
first-empty [] none-left = refl
first-empty (t ∷ ts) none-left = absurd (omega arith)
