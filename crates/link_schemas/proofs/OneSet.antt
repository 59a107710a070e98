-- Documents without a fault stand for one set.
use Rattle.std.proofs.Common.{◌≡◌, List, [], ◌∷◌, map, refl, sym, ap, ◌∙◌, Some}
use Rattle.simple_types.specs.Space.{Space}
use Rattle.schema_components.specs.Raw.{Document}
use Rattle.schema_components.specs.Components.{Set}
use Rattle.link_names.specs.SimpleTypes.{simple_types}
use Rattle.link_simple.specs.Making.{IsMaking}
use Rattle.link_simple.proofs.Uniqueness.{one_making}
use Rattle.link_set.specs.Sets.{parts_of, set_of}
use Rattle.link_schemas.specs.Passes.{passes, ArePassed}
use Rattle.link_schemas.specs.Sets.{IsSetOf}

all_some : (xs ys : List Space) → map (λ (x : Space). Some x) xs ≡ map (λ (x : Space). Some x) ys → xs ≡ ys
all_some [] [] e = refl
all_some [] (y ∷ ys) e = absurd (cc)
all_some (x ∷ xs) [] e = absurd (cc)
all_some (x ∷ xs) (y ∷ ys) e =
    let first : x ≡ y = cc in
    let others : map (λ (z : Space). Some z) xs ≡ map (λ (z : Space). Some z) ys = cc in
    let rest : xs ≡ ys = all_some xs ys others in
    cc

-- their simple types have these spaces alone
pub one_list : (docs : List Document) → ArePassed docs passes → (a b : List Space) → IsMaking (simple_types docs) (map Some a) → IsMaking (simple_types docs) (map Some b) → a ≡ b
one_list docs passed a b making other = all_some a b (one_making docs passed.1.1.1.0 (map Some a) (map Some b) making other)

pub one_set : (docs : List Document) (s t : Set) → ArePassed docs passes → IsSetOf docs s → IsSetOf docs t → parts_of s ≡ parts_of t
one_set docs s t passed (a, making, is) (b, other, also) = is ∙ (ap (λ spaces. set_of docs spaces) (one_list docs passed a b making other) ∙ sym also)
