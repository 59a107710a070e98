-- Attributes whose value constraints don't fit, one after another, and all of them.
use Rattle.std.proofs.Common.{◌≡◌, ℕ, ◌+◌, ◌<◌, List, [], ◌∷◌, ◌++◌, length, take, get_or, map, append-nil, Option, Some, None, Result, Ok, Err, refl, sym, ap, ◌∙◌, subst}
use Rattle.std.specs.Prelude.{IfOk}
use Rattle.std.specs.List.{filter_map}
use Rattle.std.proofs.lemmas.List.{map_more}
use Rattle.std.proofs.lemmas.List.Elements.{filter_map-append}
use Rattle.base_texts.specs.Lists.{HasItem}
use Rattle.simple_types.specs.declared.simples.Simple.{Simple}
use Rattle.simple_types.specs.Seen.{space_of}
use Rattle.schema_components.specs.Raw.{Document}
use Rattle.link_names.specs.declared.faults.LinkingFault.{LinkingFault}
use Rattle.link_names.specs.Order.{IsFirstOf, IsFirstSuch, earlier}
use Rattle.link_names.proofs.Firsts.{one_more, first_such}
use Rattle.link_names.specs.Cycles.{IsCircular}
use Rattle.link_names.specs.SimpleTypes.{simple_types}
use Rattle.link_simple.specs.Answering.{made_of}
use Rattle.link_simple.specs.Making.{IsMaking}
use Rattle.link_simple.proofs.Standing.{such_same}
use Rattle.link_simple.proofs.Uniqueness.{one_making}
use Rattle.link_simple.specs.Standards.{faults_by, IsMisfit}

-- ---- one more

module _ {A B : Type 0} (F : B → Option LinkingFault) (g : A → B) (xs : List A) (i : ℕ) (x : A) (lt : i < length xs) (is : x ≡ get_or xs i x) (found : Option LinkingFault)
    (so_far : IsFirstOf (filter_map F (map g (take i xs))) found) where
  all : map g (take (i + 1) xs) ≡ map g (take i xs) ++ g x ∷ []
  all = map_more g xs i x lt ∙ ap (λ y. map g (take i xs) ++ g y ∷ []) (sym is)

  told : filter_map F (map g (take (i + 1) xs)) ≡ filter_map F (map g (take i xs)) ++ filter_map F (g x ∷ [])
  told = ap (filter_map F) all ∙ filter_map-append F (map g (take i xs)) (g x ∷ [])

  pub wrong_one : (f : LinkingFault) → F (g x) ≡ Some f → IsFirstOf (filter_map F (map g (take (i + 1) xs))) (earlier found f)
  wrong_one f e =
      let one : filter_map F (g x ∷ []) ≡ f ∷ [] = rw e refl in
      rw (told ∙ ap (λ fs. filter_map F (map g (take i xs)) ++ fs) one) (one_more (filter_map F (map g (take i xs))) found f so_far)

  pub right_one : F (g x) ≡ None → IsFirstOf (filter_map F (map g (take (i + 1) xs))) found
  right_one e =
      let none : filter_map F (g x ∷ []) ≡ [] = rw e refl in
      rw (told ∙ ap (λ fs. filter_map F (map g (take i xs)) ++ fs) none ∙ append-nil (filter_map F (map g (take i xs)))) so_far

-- ---- all

spaces_made : (simples : List Simple) → map Some (map space_of simples) ≡ made_of simples
spaces_made [] = refl
spaces_made (s ∷ ss) = ap (λ os. Some (space_of s) ∷ os) (spaces_made ss)

-- the simple types can be made in no other way, so their misfits are all
module _ (docs : List Document) (simples : List Simple) (acyclic : IsFirstSuch (IsCircular docs) None) (fits : IsMaking (simple_types docs) (made_of simples)) where
  to : (f : LinkingFault) → HasItem (faults_by docs (made_of simples)) f → IsMisfit docs f
  to f h =
      let same = sym (spaces_made simples) in
      (map space_of simples, subst (IsMaking (simple_types docs)) same fits, subst (λ made. HasItem (faults_by docs made) f) same h)

  from : (f : LinkingFault) → IsMisfit docs f → HasItem (faults_by docs (made_of simples)) f
  from f m = subst (λ made. HasItem (faults_by docs made) f) (one_making docs acyclic (map Some m.0) (made_of simples) m.1 fits) m.2

  pub first_of_all : {E : Type 0} (r : Result (Option LinkingFault) E) → IfOk r (IsFirstOf (faults_by docs (made_of simples))) → IfOk r (IsFirstSuch (IsMisfit docs))
  first_of_all (Ok found) first = such_same (HasItem (faults_by docs (made_of simples))) (IsMisfit docs) to from found (first_such (faults_by docs (made_of simples)) found first)
  first_of_all (Err e) first = tt
