-- Each part of a type that is made has its type.
use Rattle.std.proofs.Common.{◌≡◌, ℕ, suc, List, [], ◌∷◌, ◌++◌, length, refl, sym, ap, subst, ◌∙◌}
use Rattle.base_trees.specs.Rose.{Rose, Roses, length_all, Allowed, AllowedAll}
use Rattle.simple_types.specs.Space.{Space, Spaces, none, more, Booleans, Wholes, Numbers, Words, Characters, ListOf, UnionOf}
use Rattle.asn_types.specs.Parts.{MayHave}
use Rattle.asn_types.specs.declared.types.Component.{Component}
use Rattle.asn_types.specs.declared.types.TypeLabel.{TypeLabel}
use Rattle.map_subjects.specs.declared.subjects.Subject.{Subject}
use Rattle.map_assignments.specs.Plans.{TypePlan, Parts, simple, sequence, choice, repeated, order_items, reference, finish, part}
use Rattle.map_assignments.specs.Naming.{IsSimpleType, AreMembers, IsNamed, AreNamed}

mutual
  pub simple-allowed : (s : Space) (t : Rose TypeLabel) → IsSimpleType s t → Allowed MayHave t
  simple-allowed Booleans t h = subst (Allowed MayHave) (sym h) (refl, tt)
  simple-allowed (Wholes least greatest) t h = subst (Allowed MayHave) (sym h) (refl, tt)
  simple-allowed (Numbers numbers) t h = subst (Allowed MayHave) (sym h) (refl, tt)
  simple-allowed (Words how words) t h = subst (Allowed MayHave) (sym h.type) (refl, tt)
  simple-allowed (Characters how least most class) t h = subst (Allowed MayHave) (sym h) (refl, tt)
  simple-allowed (ListOf s least most) t h = subst (Allowed MayHave) (sym h.1) (refl, (simple-allowed s h.0 h.2, tt))
  simple-allowed (UnionOf members) t h = subst (Allowed MayHave) (sym h.2) (members-allowed [] members h.0 h.1 h.3)

  members-allowed : (before : List (List ℕ)) (ss : Spaces) (parts : List Component) (ts : Roses TypeLabel) → AreMembers before ss parts ts
      → (length_all ts ≡ length parts) × AllowedAll MayHave ts
  members-allowed before none parts ts h = (ap length_all h.1 ∙ ap length (sym h.0), subst (AllowedAll MayHave) (sym h.1) tt)
  members-allowed before (more s ss) parts ts h =
      let rest = members-allowed (before ++ h.0 ∷ []) ss h.1 h.3 h.8 in
      (ap length_all h.6 ∙ ap suc rest.0 ∙ ap length (sym h.5), subst (AllowedAll MayHave) (sym h.6) (simple-allowed s h.2 h.7, rest.1))

module _ (place : Subject → ℕ) where
  mutual
    pub named-allowed : (p : TypePlan) (t : Rose TypeLabel) → IsNamed place p t → Allowed MayHave t
    named-allowed (simple s) t h = simple-allowed s t h
    named-allowed (sequence nillable mixed ordered ps) t h = subst (Allowed MayHave) (sym h.2) (parts-allowed [] ps h.0 h.1 h.3)
    named-allowed (choice ps) t h = subst (Allowed MayHave) (sym h.2) (parts-allowed [] ps h.0 h.1 h.3)
    named-allowed (repeated l p least most) t h = subst (Allowed MayHave) (sym h.1) (refl, (named-allowed p h.0 h.2, tt))
    named-allowed (order_items firsts ls) t h = subst (Allowed MayHave) (sym h.type) (refl, tt)
    named-allowed (reference w) t h = subst (Allowed MayHave) (sym h) (refl, tt)

    parts-allowed : (before : List (List ℕ)) (ps : Parts) (parts : List Component) (ts : Roses TypeLabel) → AreNamed place before ps parts ts
        → (length_all ts ≡ length parts) × AllowedAll MayHave ts
    parts-allowed before finish parts ts h = (ap length_all h.1 ∙ ap length (sym h.0), subst (AllowedAll MayHave) (sym h.1) tt)
    parts-allowed before (part l optional p ps) parts ts h =
        let rest = parts-allowed (before ++ h.0 ∷ []) ps h.1 h.3 h.8 in
        (ap length_all h.6 ∙ ap suc rest.0 ∙ ap length (sym h.5), subst (AllowedAll MayHave) (sym h.6) (named-allowed p h.2 h.7, rest.1))
