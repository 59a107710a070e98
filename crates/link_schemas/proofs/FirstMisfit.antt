-- Where no simple type is made of itself there is a first attribute whose value constraint doesn't fit, or none.
use Rattle.std.proofs.Common.{◌≡◌, ◌⊎◌, inl, inr, List, [], ◌∷◌, map, ap, refl, subst, Option, Some, None}
use Rattle.base_texts.specs.Lists.{HasItem}
use Rattle.simple_types.specs.Space.{Space}
use Rattle.schema_components.specs.Raw.{Document}
use Rattle.link_names.specs.Order.{IsFirstSuch}
use Rattle.link_names.specs.Cycles.{IsCircular}
use Rattle.link_names.specs.SimpleTypes.{simple_types}
use Rattle.link_simple.specs.Making.{IsMaking}
use Rattle.link_simple.proofs.Existence.{some_making}
use Rattle.link_simple.proofs.Uniqueness.{one_making}
use Rattle.link_simple.specs.Standards.{faults_by, IsMisfit}
use Rattle.link_schemas.proofs.Firsts.{SomeFirst, some_of_none, some_of_list, some_of_same}

-- ---- whether each type is made

abbrev AreAll : List (Option Space) → List Space → Type 0
AreAll made spaces = made ≡ map (λ (s : Space). Some s) spaces

not_first : (os : List (Option Space)) (ss : List Space) → AreAll (None ∷ os) ss → ⊥
not_first os [] e = cc
not_first os (s ∷ ss) e = cc

not_behind : (s : Space) (os : List (Option Space)) → ((ss : List Space) → AreAll os ss → ⊥) → (ts : List Space) → AreAll (Some s ∷ os) ts → ⊥
not_behind s os never [] e = cc
not_behind s os never (t ∷ ts) e = never ts (let rest : AreAll os ts = cc in rest)

all_made : (made : List (Option Space)) → ((spaces : List Space) × AreAll made spaces) ⊎ ((spaces : List Space) → AreAll made spaces → ⊥)
all_made [] = inl ([], refl)
all_made (None ∷ os) = inr (not_first os)
all_made (Some s ∷ os) = elim (all_made os) [
  | inl all ↦ inl (s ∷ all.0, ap (λ xs. Some s ∷ xs) all.1)
  | inr never ↦ inr (not_behind s os never)
]

-- ---- the faults of one list of spaces

pub some_misfit : (docs : List Document) → IsFirstSuch (IsCircular docs) None → SomeFirst (IsMisfit docs)
some_misfit docs none =
    let made = some_making docs none in
    by made.0 made.1 (all_made made.0)
  where
    by : (made : List (Option Space)) → IsMaking (simple_types docs) made
        → ((spaces : List Space) × AreAll made spaces) ⊎ ((spaces : List Space) → AreAll made spaces → ⊥) → SomeFirst (IsMisfit docs)
    by made making (inr never) = some_of_none (IsMisfit docs) (λ f m. never m.0 (one_making docs none made (map (λ (s : Space). Some s) m.0) making m.1))
    by made making (inl all) =
        some_of_same (HasItem (faults_by docs made)) (IsMisfit docs)
        (λ f i. (all.0, subst (IsMaking (simple_types docs)) all.1 making, subst (λ os. HasItem (faults_by docs os) f) all.1 i))
        (λ f m. subst (λ os. HasItem (faults_by docs os) f) (one_making docs none (map (λ (s : Space). Some s) m.0) made m.1 making) m.2)
        (some_of_list (faults_by docs made))
