-- Passes show just one fault, or they are passed.
use Rattle.std.proofs.Common.{◌≡◌, ◌⊎◌, inl, inr, List, [], ◌∷◌, Option, Some, None}
use Rattle.schema_components.specs.Raw.{Document}
use Rattle.link_names.specs.declared.faults.LinkingFault.{LinkingFault}
use Rattle.link_names.specs.Order.{IsFirstSuch}
use Rattle.base_texts.specs.Lists.{HasItem}
use Rattle.link_names.specs.Limits.{beyond_limit}
use Rattle.link_names.specs.Globals.{duplicates}
use Rattle.link_names.specs.Resolution.{unresolved}
use Rattle.link_names.proofs.OneFirst.{one_first}
use Rattle.link_names.specs.SimpleTypes.{simple_types}
use Rattle.link_complex.specs.Uses.{double_uses}
use Rattle.link_complex.specs.ElementTypes.{Differs}
use Rattle.link_schemas.specs.Passes.{Pass, Counting, Naming, Resolving, Ordering, Making, Valuing, Comparing, Clearing, IsFault, passes, IsShownBy, ArePassed}
use Rattle.link_schemas.proofs.Firsts.{SomeFirst, some_of_both, some_of_list}
use Rattle.link_schemas.proofs.FirstCircular.{some_circular}
use Rattle.link_schemas.proofs.FirstDiffering.{some_differing, some_unclear}
use Rattle.link_schemas.proofs.FirstMisfit.{some_misfit}
use Rattle.link_schemas.proofs.FirstNotMade.{some_not_made}

the_same : (f g : LinkingFault) → Some f ≡ Some g → f ≡ g
the_same f g e = cc

some≢none : (f : LinkingFault) → Some f ≡ None → ⊥
some≢none f e = cc

pub one_shown : (docs : List Document) (ps : List Pass) (f g : LinkingFault) → IsShownBy docs ps f → IsShownBy docs ps g → f ≡ g
one_shown docs [] f g a b = absurd a
one_shown docs (p ∷ ps) f g (inl a) (inl b) = the_same f g (one_first (IsFault docs p) (Some f) (Some g) a b)
one_shown docs (p ∷ ps) f g (inl a) (inr b) = absurd (some≢none f (one_first (IsFault docs p) (Some f) None a b.0))
one_shown docs (p ∷ ps) f g (inr a) (inl b) = absurd (some≢none g (one_first (IsFault docs p) (Some g) None b a.0))
one_shown docs (p ∷ ps) f g (inr a) (inr b) = one_shown docs ps f g a.1 b.1

pub none_shown : (docs : List Document) (ps : List Pass) (f : LinkingFault) → ArePassed docs ps → IsShownBy docs ps f → ⊥
none_shown docs [] f all h = h
none_shown docs (p ∷ ps) f all (inl h) = some≢none f (one_first (IsFault docs p) (Some f) None h all.0)
none_shown docs (p ∷ ps) f all (inr h) = none_shown docs ps f all.1 h.1

-- the first of the passes that has a fault shows its first

abbrev Answer : List Document → List Pass → Type 0
Answer docs ps = ArePassed docs ps ⊎ ((f : LinkingFault) × IsShownBy docs ps f)

pass : (docs : List Document) (p : Pass) (ps : List Pass) → (o : Option LinkingFault) → IsFirstSuch (IsFault docs p) o → (IsFirstSuch (IsFault docs p) None → Answer docs ps)
    → Answer docs (p ∷ ps)
pass docs p ps (Some f) h behind = inr (f, inl h)
pass docs p ps None h behind = elim (behind h) [ inl all ↦ inl (h, all) | inr s ↦ inr (s.0, inr (h, s.1)) ]

go_on : (docs : List Document) (p : Pass) (ps : List Pass) → SomeFirst (IsFault docs p) → (IsFirstSuch (IsFault docs p) None → Answer docs ps) → Answer docs (p ∷ ps)
go_on docs p ps first behind = pass docs p ps first.0 first.1 behind

content : (docs : List Document) → Answer docs (Comparing ∷ Clearing ∷ [])
content docs =
    go_on docs Comparing (Clearing ∷ [])
    (some_of_both (HasItem (double_uses docs)) (Differs docs) (IsFault docs Comparing) (λ f h. h) (λ f h. inl h) (λ f h. inr h) (some_of_list (double_uses docs)) (some_differing docs))
    (λ _. go_on docs Clearing [] (some_unclear docs) (λ _. inl tt))

pub some_answer : (docs : List Document) → Answer docs passes
some_answer docs =
    go_on docs Counting (Naming ∷ Resolving ∷ Ordering ∷ Making ∷ Valuing ∷ Comparing ∷ Clearing ∷ []) (some_of_list (beyond_limit docs))
    (λ _. go_on docs Naming (Resolving ∷ Ordering ∷ Making ∷ Valuing ∷ Comparing ∷ Clearing ∷ []) (some_of_list (duplicates docs))
    (λ _. go_on docs Resolving (Ordering ∷ Making ∷ Valuing ∷ Comparing ∷ Clearing ∷ []) (some_of_list (unresolved docs))
    (λ _. go_on docs Ordering (Making ∷ Valuing ∷ Comparing ∷ Clearing ∷ []) (some_circular (simple_types docs))
    (λ none. go_on docs Making (Valuing ∷ Comparing ∷ Clearing ∷ []) (some_not_made docs none)
    (λ _. go_on docs Valuing (Comparing ∷ Clearing ∷ []) (some_misfit docs none) (λ _. content docs))))))
