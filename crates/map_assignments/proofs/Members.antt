-- The alternatives of a union.
use Rattle.std.proofs.Common.{◌≡◌, ℕ, ◌+◌, ◌<◌, ◌≤◌, false, List, [], ◌∷◌, ◌++◌, length, drop, get_or, codes, refl, sym, ap, subst, ◌∙◌, append_assoc}
use Rattle.std.proofs.lemmas.List.{drop_all, append-nil}
use Rattle.base_trees.specs.Rose.{Rose, roses_of}
use Rattle.base_trees.specs.Rose as rose
use Rattle.asn_names.specs.declared.conversion.NameKind.TheVariants.{Identifier}
use Rattle.asn_names.specs.Taking.{IsTaken}
use Rattle.asn_types.specs.declared.types.Component.{Component}
use Rattle.asn_types.specs.declared.types.TypeLabel.{TypeLabel}
use Rattle.simple_types.specs.declared.simples.Simple.{Simple}
use Rattle.simple_types.specs.Space.{Spaces, more}
use Rattle.simple_types.specs.Seen.{space_of, spaces_in}
use Rattle.map_assignments.specs.Naming.{component_of, IsSimpleType, AreMembers}
use Rattle.map_subjects.proofs.Finding.{drop-next}

-- Whatever alternatives follow, with those made so far they are those of all members.
abbrev pub LeadsToMembers : List (List ℕ) → Spaces → List Component → List (Rose TypeLabel) → Spaces → Type 0
LeadsToMembers scope rest components kids members =
    (others : List Component) (us : List (Rose TypeLabel)) → AreMembers scope rest others (roses_of us)
    → AreMembers [] members (components ++ others) (roses_of (kids ++ us))

-- one alternative more
pub members-next : (members : List Simple) (i : ℕ) (member : Simple) (scope after : List (List ℕ)) (components made : List Component) (kids grown : List (Rose TypeLabel))
    (identifier : List ℕ) (kid : Rose TypeLabel)
    → i < length members → member ≡ get_or members i member
    → IsTaken Identifier scope (codes "alt") identifier → after ≡ scope ++ identifier ∷ []
    → made ≡ components ++ component_of identifier false [] ∷ [] → grown ≡ kids ++ kid ∷ [] → IsSimpleType (space_of member) kid
    → LeadsToMembers scope (spaces_in (drop i members)) components kids (spaces_in members)
    → LeadsToMembers after (spaces_in (drop (i + 1) members)) made grown (spaces_in members)
members-next members i member scope after components made kids grown identifier kid at here taken noted is below type so_far others us rest =
    let part = component_of identifier false [] in
    let next = subst (λ a. AreMembers a (spaces_in (drop (i + 1) members)) others (roses_of us)) noted rest in
    let one : AreMembers scope (more (space_of member) (spaces_in (drop (i + 1) members))) (part ∷ others) (roses_of (kid ∷ us)) =
    (identifier, others, kid, roses_of us, taken, refl, refl, type, next) in
    let whole = so_far (part ∷ others) (kid ∷ us)
    (subst (λ ss. AreMembers scope (spaces_in ss) (part ∷ others) (roses_of (kid ∷ us))) (sym (drop-next members i member at here)) one) in
    subst (λ ps. AreMembers [] (spaces_in members) ps (roses_of (grown ++ us))) (sym (append_assoc components (part ∷ []) others) ∙ ap (λ ps. ps ++ others) (sym is))
    (subst (λ ts. AreMembers [] (spaces_in members) (components ++ (part ∷ others)) (roses_of ts)) (sym (append_assoc kids (kid ∷ []) us) ∙ ap (λ ts. ts ++ us) (sym below)) whole)

-- all alternatives are made
pub members-end : (members : List Simple) (i : ℕ) (scope : List (List ℕ)) (components : List Component) (kids : List (Rose TypeLabel)) → length members ≤ i
    → LeadsToMembers scope (spaces_in (drop i members)) components kids (spaces_in members)
    → AreMembers [] (spaces_in members) components (roses_of kids)
members-end members i scope components kids past so_far =
    subst (λ ps. AreMembers [] (spaces_in members) ps (roses_of kids)) (append-nil components)
    (subst (λ ts. AreMembers [] (spaces_in members) (components ++ []) (roses_of ts)) (append-nil kids)
    (so_far [] [] (subst (λ ss. AreMembers scope (spaces_in ss) [] rose.none) (sym (drop_all i members past)) (refl, refl))))
