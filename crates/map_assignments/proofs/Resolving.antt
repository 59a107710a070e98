-- Types that stand for simple types, and chains of references.
use Rattle.std.proofs.Common.{◌≡◌, ℕ, zero, suc, ◌+◌, false, Some, None, List, [], ◌∷◌, ◌++◌, refl, sym, ap, subst, ◌∙◌}
use Rattle.std.specs.Prelude.{IfSome, option_and_then}
use Rattle.base_trees.specs.Rose.{Rose, Roses, label_of}
use Rattle.simple_types.specs.Space.{Space, Spaces, none, more, Booleans, Wholes, Numbers, Words, Characters, ListOf, UnionOf}
use Rattle.asn_types.specs.declared.types.Component.{Component}
use Rattle.asn_types.specs.declared.types.Form.TheVariants as form
use Rattle.asn_types.specs.declared.marks.Instruction.TheVariants as mark
use Rattle.asn_types.specs.declared.types.TypeLabel.{TypeLabel}
use Rattle.asn_types.specs.declared.modules.Assignment.{Assignment}
use Rattle.asn_types.specs.Roles.{role_of}
use Rattle.asn_types.specs.Refs.{target, body_at, follow, is_element, NearRefs, NearRefsOf, ChainsWithin}
use Rattle.map_assignments.specs.Naming.{type_label, component_of, IsSimpleType, AreMembers}
use Rattle.map_assignments.proofs.Shapes.{either-way}

-- no reference stands in the type of a simple type
module _ (P : ℕ → Type 0) where
  mutual
    unfolding NearRefs NearRefsOf

    pub simple-near : (s : Space) (t : Rose TypeLabel) → IsSimpleType s t → NearRefs P t
    simple-near Booleans t h = subst (NearRefs P) (sym h) (tt, tt)
    simple-near (Wholes least greatest) t h = subst (NearRefs P) (sym h) (tt, tt)
    simple-near (Numbers numbers) t h = subst (NearRefs P) (sym h) (tt, tt)
    simple-near (Words how words) t h = subst (NearRefs P) (sym h.type) (tt, tt)
    simple-near (Characters how least most class) t h = subst (NearRefs P) (sym h) (tt, tt)
    simple-near (ListOf s least most) t h = subst (NearRefs P) (sym h.1) (tt, (simple-near s h.0 h.2, tt))
    simple-near (UnionOf members) t h = subst (NearRefs P) (sym h.2) (tt, members-near (type_label (form.Choice h.0) (mark.UseUnion ∷ [])) 0 [] members h.0 h.1 h.3)

    members-near : (l : TypeLabel) (i : ℕ) (before : List (List ℕ)) (ss : Spaces) (parts : List Component) (ts : Roses TypeLabel) → AreMembers before ss parts ts → NearRefsOf P l i parts ts
    members-near l i before none parts ts h = subst (NearRefsOf P l i parts) (sym h.1) tt
    members-near l i before (more s ss) parts ts h =
        subst (λ ps. NearRefsOf P l i ps ts) (sym h.5)
        (subst (NearRefsOf P l i (component_of h.0 false [] ∷ h.1)) (sym h.6)
        (either-way (is_element (role_of l i (component_of h.0 false []))) (NearRefs P h.2) (simple-near s h.2 h.7), members-near l (i + 1) (before ++ h.0 ∷ []) ss h.1 h.3 h.8))

module _ (M : List Assignment) where
  pub simple-chains : (n : ℕ) (s : Space) (t : Rose TypeLabel) → IsSimpleType s t → ChainsWithin M n t
  unfolding ChainsWithin
  simple-chains zero s t h = simple-near (λ k. ⊥) s t h
  simple-chains (suc n) s t h = simple-near (λ k. IfSome (body_at M k) (λ u. ChainsWithin M n u)) s t h

  pub no-target : (s : Space) (t : Rose TypeLabel) → IsSimpleType s t → target (label_of t).form ≡ None
  no-target Booleans t h = ap (λ (u : Rose TypeLabel). target (label_of u).form) h
  no-target (Wholes least greatest) t h = ap (λ (u : Rose TypeLabel). target (label_of u).form) h
  no-target (Numbers numbers) t h = ap (λ (u : Rose TypeLabel). target (label_of u).form) h
  no-target (Words how words) t h = ap (λ (u : Rose TypeLabel). target (label_of u).form) h.type
  no-target (Characters how least most class) t h = ap (λ (u : Rose TypeLabel). target (label_of u).form) h
  no-target (ListOf s least most) t h = ap (λ (u : Rose TypeLabel). target (label_of u).form) h.1
  no-target (UnionOf members) t h = ap (λ (u : Rose TypeLabel). target (label_of u).form) h.2

  pub follow-none : (n : ℕ) (t : Rose TypeLabel) → target (label_of t).form ≡ None → follow M n t ≡ t
  unfolding follow
  follow-none zero t e = refl
  follow-none (suc n) t e = ap (λ o. elim (option_and_then (body_at M) o) [ None ↦ t | Some u ↦ follow M n u ]) e

  pub follow-one : (n k : ℕ) (t u : Rose TypeLabel) → target (label_of t).form ≡ Some k → body_at M k ≡ Some u → follow M (suc n) t ≡ follow M n u
  unfolding follow
  follow-one n k t u e f =
      ap (λ o. elim (option_and_then (body_at M) o) [ None ↦ t | Some v ↦ follow M n v ]) e
      ∙ ap (λ o. elim o [ None ↦ t | Some v ↦ follow M n v ]) f
