-- The value of a valid document is one of the root type, in each map of the set.
use Rattle.std.proofs.Common.{◌≡◌, ℕ, ◌<◌, ◌≤◌, Option, Some, None, List, refl, sym, ap, subst, ◌∙◌, arith}
use Rattle.std.specs.Prelude.{slice_get, IsSomeAnd, Result, Ok, Err, MatchResult, IfOk}
use Rattle.std.specs.Option.{option_map}
use Rattle.base_trees.specs.Rose.{Rose, label_of, node_count, shown_count, Allowed}
use Rattle.simple_types.specs.declared.labels.ValueLabel.{ValueLabel}
use Rattle.simple_types.specs.Labels.{MayHave}
use Rattle.xml_items.specs.declared.label.ItemLabel.{ItemLabel}
use Rattle.xml_items.specs.declared.label.ItemLabel.TheVariants.{Element, Text}
use Rattle.schema_components.specs.declared.components.ElementDecl.{ElementDecl}
use Rattle.schema_components.specs.Components.{Set}
use Rattle.schema_components.specs.Linked.{IsLinked}
use Rattle.schema_components.specs.SetParts.{parts_of}
use Rattle.asn_types.specs.declared.modules.Assignment.{Assignment}
use Rattle.asn_types.specs.Names.{name_told}
use Rattle.asn_types.specs.Refs.{resolve}
use Rattle.asn_values.specs.Values.{FitsAt, Fits}
use Rattle.map_subjects.specs.Subjects.{place_in}
use Rattle.map_assignments.specs.Mapped.{IsMapOf, root_at}
use Rattle.map_laws.specs.Standing.{HasContent}
use Rattle.map_laws.specs.Statements.{IsTypeAt}
use Rattle.map_laws.proofs.Existence.{maps-exist}
use Rattle.map_laws.proofs.Roots.{roots-lead}
use Rattle.xer_items.specs.Items.{element_of, inside, root_of}
use Rattle.validity_rules.specs.Asked.{name_at}
use Rattle.validity_rules.specs.Valid.{HasName}
use Rattle.validity_rules.specs.declared.why.InvalidWhy.{InvalidWhy}
use Rattle.schema_components.specs.Small.{AreSmall}
use Rattle.value_laws.proofs.Declarations.{none-at, one-value}
use Rattle.xer_read.specs.declared.error.ReadError.{ReadError}
use Rattle.xer_read.specs.declared.error.ReadError.TheVariants.{Invalid, TooManyNodes, Memory}
use Rattle.xer_read.specs.Answers.{IsValueOf, IsTooLarge, IsOnlyValue, ReadTells}
use Rattle.xer_read.specs.Private.Given.{IsElementOf, IsTypeFor, IsRootRead}
use Rattle.xer_read.proofs.Allowing.{fits-allowed}

module _ (s : Set) (linked : IsLinked s) (d : ℕ) (below : d < s.globals) (t : Rose ItemLabel) (v : Rose ValueLabel) (h : IsRootRead s d t v) where
  module _ (M : List Assignment) (is_map : IsMapOf s M) where
    record IsRootType (e : ElementDecl) : Type 0 where
      pub assignment : Assignment
      pub at : slice_get M (root_at s M is_map d) ≡ Some assignment
      pub name : name_told assignment.reference assignment.marks ≡ e.name
      pub type : IsTypeFor s M is_map d assignment.body

    root-type : (e : ElementDecl) → slice_get s.elements d ≡ Some e → IsRootType e
    root-type e g =
        let root = roots-lead s M linked is_map d e below g in
        record {
          assignment = root.assignment;
          at = root.at;
          name = root.name;
          type = subst (λ o. IsSomeAnd o (λ (x : ElementDecl). HasContent (IsTypeAt s (place_in is_map.entries)) s M x (resolve M root.assignment.body))) (sym g) root.content;
        }

    given-at : (a : Assignment) → IsTypeFor s M is_map d a.body → FitsAt M 1 a.body v × (inside M a.body v ≡ h.read.inner)
    given-at a type = let low = h.shallow in h.read.gives M is_map 1 a.body (omega (arith, low)) type

    at-root : (o : Option Assignment) (a : Assignment) → o ≡ Some a → FitsAt M 1 a.body v → elim o as (λ _. Type 0) [ None ↦ ⊥ | Some x ↦ FitsAt M 1 x.body v ]
    at-root None a g p = absurd (cc)
    at-root (Some x) a g p = let same : x ≡ a = cc in subst (λ y. FitsAt M 1 y.body v) (sym same) p

    treated-named : (e : ElementDecl) → slice_get s.elements d ≡ Some e → h.read.treated ≡ element_of e.name h.read.inner
    treated-named e g = by (label_of t) h.named h.read.is
      where
        by : (l : ItemLabel) → HasName (name_at (parts_of s) d) l → IsElementOf l h.read.inner h.read.treated → h.read.treated ≡ element_of e.name h.read.inner
        by (Text words at) n is = absurd n
        by (Element name xs declares at) n is =
            let wanted : Some e.name ≡ Some name = sym (ap (option_map (λ (x : ElementDecl). x.name)) g) ∙ n in
            let same : e.name ≡ name = cc in
            is ∙ ap (λ x. element_of x h.read.inner) (sym same)

    value-by : (e : ElementDecl) → slice_get s.elements d ≡ Some e → IsValueOf s d t M (root_at s M is_map d) v
    value-by e g =
        let root = root-type e g in
        let a = root.assignment in
        let gives = given-at a root.type in (
          h.read.treated,
          (h.named, h.read.valid),
          at-root (slice_get M (root_at s M is_map d)) a root.at gives.0,
          ap (option_map (λ (y : Assignment). root_of M y v)) root.at ∙ ap (λ n. Some (element_of n (inside M a.body v))) root.name ∙ ap (λ z. Some (element_of e.name z)) gives.1 ∙ ap (λ z. Some z) (sym (treated-named e g)),
        )

    by-declaration : {P : Type 0} → ((e : ElementDecl) → slice_get s.elements d ≡ Some e → P) → P
    by-declaration {P} f = by (slice_get s.elements d) refl
      where
        by : (o : Option ElementDecl) → slice_get s.elements d ≡ o → P
        by None g = absurd (let few = none-at s.elements d g in let globals = linked.globals in omega (arith, few, below, globals))
        by (Some e) g = f e g

    pub value-of : IsValueOf s d t M (root_at s M is_map d) v
    value-of = by-declaration value-by

    allowed-by : (e : ElementDecl) → slice_get s.elements d ≡ Some e → Allowed MayHave v
    allowed-by e g =
        let root = root-type e g in
        fits-allowed M 1 root.assignment.body v (given-at root.assignment root.type).0

  pub value-allowed : Allowed MayHave v
  value-allowed = let (M, is_map) = maps-exist s linked in by-declaration M is_map (allowed-by M is_map)

  -- as it is counted
  pub of-counted : (M : List Assignment) (is_map : IsMapOf s M) (r : Result (Rose ValueLabel) ReadError) (F : ℕ → InvalidWhy → Type 0)
      → MatchResult r (λ value. (value ≡ v) × (node_count v ≤ 1048576)) (ReadTells (λ at why. ⊥) (λ count. (1048576 < node_count v) × (count ≡ shown_count v)))
      → MatchResult r (λ value. IsValueOf s d t M (root_at s M is_map d) value × (node_count value ≤ 1048576)) (ReadTells F (IsTooLarge s d t M (root_at s M is_map d)))
  of-counted M is_map (Ok value) F (same, few) = subst (λ w. IsValueOf s d t M (root_at s M is_map d) w × (node_count w ≤ 1048576)) (sym same) (value-of M is_map, few)
  of-counted M is_map (Err (Invalid at why)) F k = absurd k
  of-counted M is_map (Err (TooManyNodes count)) F (many, is) = (v, value-of M is_map, many, is)
  of-counted M is_map (Err Memory) F k = tt

  pub only-counted : AreSmall s → (M : List Assignment) (is_map : IsMapOf s M) (r : Result (Rose ValueLabel) ReadError)
      → MatchResult r (λ value. (value ≡ v) × (node_count v ≤ 1048576)) (ReadTells (λ at why. ⊥) (λ count. (1048576 < node_count v) × (count ≡ shown_count v)))
      → IfOk r (λ value. IsOnlyValue M (root_at s M is_map d) value)
  only-counted small M is_map (Ok value) (same, few) = λ w fits items.
      let (b, valid, own, xer) = value-of M is_map in
      one-value s M linked small is_map d below w value fits (subst (Fits M (root_at s M is_map d)) (sym same) own) items
  only-counted small M is_map (Err e) k = tt
