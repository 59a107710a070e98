-- What is known of required attributes behind some of them, which stand.
use Rattle.std.proofs.Common.{◌≡◌, ℕ, zero, suc, ◌+◌, ◌<◌, ◌≤◌, List, [], ◌∷◌, length, get_or, drop, map, refl, sym, ◌∙◌, ap, subst, arith}
use Rattle.std.proofs.lemmas.List.{drop_more}
use Rattle.std.proofs.lemmas.List.Elements.{All-nil, All-cons}
use Rattle.base_texts.specs.declared.texts.Name.{Name}
use Rattle.schema_components.specs.declared.components.AttributeUse.{AttributeUse}
use Rattle.schema_components.specs.SetParts.{SetParts}
use Rattle.validity_rules.specs.Asked.{attribute_in}
use Rattle.validity_rules.specs.Attributes.{Stands, IsMissing, AllStand, OneMissing}

-- what is said of those from number i on says it of all
pub record StandsSoFar (s : SetParts) (us : List AttributeUse) (xs : List (Name × List ℕ)) (i : ℕ) : Type 0 where
  pub stand : AllStand (map (attribute_in s) (drop i us)) xs → AllStand (map (attribute_in s) us) xs
  pub lacks : OneMissing (map (attribute_in s) (drop i us)) xs → OneMissing (map (attribute_in s) us) xs

past : {X : Type 0} (xs : List X) (i : ℕ) → length xs ≤ i → drop i xs ≡ []
past [] zero h = refl
past [] (suc i) h = refl
past (x ∷ xs) zero h = absurd (omega (arith, h))
past (x ∷ xs) (suc i) h = past xs i (omega (arith, h))

module _ (s : SetParts) (us : List AttributeUse) (xs : List (Name × List ℕ)) where
  pub none_yet : StandsSoFar s us xs 0
  none_yet = record { stand = λ h. h; lacks = λ h. h }

  pub all_stand : (i : ℕ) → length us ≤ i → StandsSoFar s us xs i → AllStand (map (attribute_in s) us) xs
  all_stand i h g = g.stand (subst (λ ys. AllStand (map (attribute_in s) ys) xs) (sym (past us i h)) (All-nil (Stands xs)))

  module _ (i : ℕ) (u : AttributeUse) (below : i < length us) (here : u ≡ get_or us i u) (g : StandsSoFar s us xs i) where
    cut : drop i us ≡ u ∷ drop (i + 1) us
    cut = drop_more us i u below ∙ ap (λ y. y ∷ drop (i + 1) us) (sym here)

    later : OneMissing (map (attribute_in s) (drop (i + 1) us)) xs → OneMissing (map (attribute_in s) (u ∷ drop (i + 1) us)) xs
    later (k, a, lt, at, m) = (suc k, a, omega arith, at, m)

    pub stands_on : Stands xs (attribute_in s u) → StandsSoFar s us xs (i + 1)
    stands_on w = record {
      stand = λ h. g.stand (subst (λ ys. AllStand (map (attribute_in s) ys) xs) (sym cut) (All-cons (Stands xs) (attribute_in s u) (map (attribute_in s) (drop (i + 1) us)) w h));
      lacks = λ h. g.lacks (subst (λ ys. OneMissing (map (attribute_in s) ys) xs) (sym cut) (later h));
    }

    pub lacking : IsMissing xs (attribute_in s u) → OneMissing (map (attribute_in s) us) xs
    lacking (e, n) = g.lacks (subst (λ ys. OneMissing (map (attribute_in s) ys) xs) (sym cut) (0, attribute_in s u, omega arith, refl, (e, n)))
