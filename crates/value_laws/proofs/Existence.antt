-- A valid element has a value whose items are its treated items: by induction over the levels of elements that are left.
use Rattle.std.proofs.Common.{◌≡◌, ℕ, zero, suc, ◌+◌, ◌≤◌, nat_lt, Bool, true, false, Option, Some, None, List, [], refl, sym, ap, subst, ◌∙◌, arith}
use Rattle.std.specs.Prelude.{All, slice_get, IsSomeAnd, MatchBool}
use Rattle.std.specs.Option.{option_map}
use Rattle.std.proofs.lemmas.List.Elements.{All-nil}
use Rattle.base_texts.specs.declared.texts.Name.{Name}
use Rattle.base_trees.specs.Rose.{Rose, node, Roses}
use Rattle.base_trees.specs.Rose as rose
use Rattle.simple_types.specs.Space.{Booleans}
use Rattle.simple_types.specs.declared.labels.ValueLabel.{ValueLabel}
use Rattle.xml_items.specs.declared.label.ItemLabel.{ItemLabel}
use Rattle.xml_items.specs.declared.label.ItemLabel.TheVariants.{Element, Text}
use Rattle.xml_read.specs.Sound.{is_sound, levels_all}
use Rattle.xml_items.specs.Plain.{Plain}
use Rattle.asn_types.specs.declared.modules.Assignment.{Assignment}
use Rattle.asn_types.specs.declared.types.TypeLabel.{TypeLabel}
use Rattle.asn_types.specs.declared.types.Form.TheVariants as form
use Rattle.asn_types.specs.Names.{name_told}
use Rattle.asn_types.specs.Refs.{resolve}
use Rattle.asn_values.specs.Values.{FitsAt, Fits}
use Rattle.schema_components.specs.declared.components.ElementDecl.{ElementDecl}
use Rattle.schema_components.specs.declared.components.ComplexDef.{ComplexDef}
use Rattle.schema_components.specs.declared.components.Content.TheVariants as content_
use Rattle.schema_components.specs.declared.components.TypeOf.{TypeOf}
use Rattle.schema_components.specs.declared.components.TypeOf.TheVariants as kind
use Rattle.schema_components.specs.Components.{Set}
use Rattle.schema_components.specs.SetParts.{parts_of}
use Rattle.schema_components.specs.Linked.{HasStandard, IsTyped, IsElement, IsContent, IsComplexType, IsLinked}
use Rattle.map_subjects.specs.Subjects.{place_in}
use Rattle.map_subjects.proofs.Finding.{all-at}
use Rattle.map_assignments.specs.Planning.{particle_type, in_place}
use Rattle.map_assignments.specs.Plans.{simple}
use Rattle.map_assignments.specs.Naming.{IsNamed, type_label}
use Rattle.map_assignments.specs.Mapped.{IsMapOf, root_at}
use Rattle.map_assignments.proofs.Resolving.{follow-none}
use Rattle.map_laws.specs.Standing.{IsSimpleOf, HasNillable, HasComplex, HasContent}
use Rattle.map_laws.specs.Statements.{IsTypeAt}
use Rattle.map_laws.proofs.Leading.{types-lead}
use Rattle.map_laws.proofs.Roots.{roots-lead}
use Rattle.xer_items.specs.Items.{element_of, inside, root_of, Xer}
use Rattle.validity_rules.specs.Asked.{Asked, space_at, asked_by, asked_by_type, asked_by_complex, asked_at}
use Rattle.validity_rules.specs.Valid.{ValidBy}
use Rattle.validity_rules.proofs.Fair.{fair_at}
use Rattle.value_laws.specs.Statements.{ValuesOfItems}
use Rattle.value_laws.proofs.Declarations.{none-at, below-of}
use Rattle.value_laws.proofs.Texts.{accepted-text, text-given}
use Rattle.value_laws.proofs.Kids.{AllExist}
use Rattle.value_laws.proofs.Elements.{Found, simple-found, complex-found}

module _ (s : Set) (M : List Assignment) (linked : IsLinked s) (is_map : IsMapOf s M) where
  abbrev asks : ℕ → Asked
  asks = asked_at (parts_of s)

  abbrev E : ℕ → Rose TypeLabel → Type 0
  E = IsTypeAt s (place_in is_map.entries)

  -- each element that is valid for the declaration, with so many levels, has a value of the type
  abbrev Has : ℕ → (depth : ℕ) → depth ≤ 64 → ℕ → Rose TypeLabel → Type 0
  Has high depth small d u =
      (name : Name) (xs : List (Name × List ℕ)) (declares : List (List ℕ × List ℕ)) (at : ℕ) (ks : Roses ItemLabel) → is_sound (node (Element name xs declares at) ks) ≡ true
      → levels_all ks ≤ high → (b : Rose Plain) → ValidBy asks d (node (Element name xs declares at) ks) b → Found s linked M E depth small asks u name b

  -- a number that names no declaration has the type BOOLEAN, and a truth value is asked for
  no-declaration : (high depth : ℕ) (small : depth ≤ 64) (d : ℕ) (u : Rose TypeLabel) → slice_get s.elements d ≡ None → E d u → Has high depth small d u
  no-declaration high depth small d u none h name xs declares at ks sound within b valid =
      simple-found s linked M E depth small asks d Booleans (ap (asked_by (parts_of s)) none) u
      (λ text encoded v e. let t = accepted-text s linked M depth small Booleans tt text encoded v e u type in (t.0, t.1)) name xs declares at ks sound b valid
    where
      bool_type : Rose TypeLabel
      bool_type = node (type_label form.Bool []) rose.none

      plan-is : (b : Bool) → nat_lt d s.globals ≡ b → particle_type s (in_place s 21) d ≡ simple Booleans
      plan-is true f = absurd (let few = none-at s.elements d none in let under = below-of d s.globals f in let globals = linked.globals in omega (arith, few, under, globals))
      plan-is false f = rw (f, none) refl

      leaf : u ≡ node (type_label form.Bool []) rose.none
      leaf = subst (λ p. IsNamed (place_in is_map.entries) p u) (plan-is (nat_lt d s.globals) refl) h

      type : resolve M u ≡ node (type_label form.Bool []) rose.none
      type = ap (resolve M) leaf ∙ follow-none M 4 (node (type_label form.Bool []) rose.none) refl

  declared-has : (high depth : ℕ) (small : depth ≤ 64) → ((d : ℕ) (e : ElementDecl) → slice_get s.elements d ≡ Some e → (u : Rose TypeLabel) → HasContent E s M e (resolve M u) → Has high depth small d u)
      → (d : ℕ) (u : Rose TypeLabel) → E d u → Has high depth small d u
  declared-has high depth small f d u h = by (slice_get s.elements d) refl
    where
      by : (o : Option ElementDecl) → slice_get s.elements d ≡ o → Has high depth small d u
      by None g = no-declaration high depth small d u g h
      by (Some x) g = f d x g u (types-lead s M linked is_map d x u g h)

  -- by the kind of the declaration
  content-by : (high depth : ℕ) (small : depth ≤ 64) → AllExist asks M E depth small high → (d : ℕ) (e : ElementDecl) → slice_get s.elements d ≡ Some e → (u : Rose TypeLabel) → HasContent E s M e (resolve M u)
      → Has high depth small d u
  content-by high depth small exist d e is u has = by e.kind (all-at (IsElement s) s.elements d e is linked.elements).1 e.nillable (ap (asked_by (parts_of s)) is) has
    where
      complex-by : (nillable : Bool) (c : ComplexDef) → IsContent s c.content → All (HasStandard s) c.uses → asks d ≡ asked_by_complex (parts_of s) nillable (Some c) → HasComplex E s M nillable c (resolve M u) → Has high depth small d u
      complex-by nillable c ok standards i h name xs declares at ks sound within b valid =
          complex-found s linked M E depth small asks nillable d c ok standards i (fair_at s linked d) high exist u h name xs declares at ks sound within b valid

      by-complex : (nillable : Bool) (o : Option ComplexDef) (n : ℕ) → slice_get s.complexes n ≡ o → asks d ≡ asked_by_complex (parts_of s) nillable o → IsSomeAnd o (λ (c : ComplexDef). HasComplex E s M nillable c (resolve M u)) → Has high depth small d u
      by-complex nillable None n g i h = absurd h
      by-complex nillable (Some c) n g i h = let ok = all-at (IsComplexType s) s.complexes n c g linked.complexes in complex-by nillable c ok.content ok.standards i h

      by : (k : TypeOf) → IsTyped s k → (nillable : Bool) → asks d ≡ asked_by_type (parts_of s) nillable k → elim k as (λ _. Type 0) [
        | kind.Simple n ↦ MatchBool nillable (HasNillable s M n (resolve M u)) (IsSimpleOf s n (resolve M u))
        | kind.Complex n ↦ IsSomeAnd (slice_get s.complexes n) (λ (c : ComplexDef). HasComplex E s M nillable c (resolve M u))
      ] → Has high depth small d u
      by (kind.Simple n) below true i h = complex-by true (record { name = None; uses = []; content = content_.Simple n }) below (All-nil (HasStandard s)) i h
      by (kind.Simple n) below false i h = λ name xs declares at ks sound within b valid.
          simple-found s linked M E depth small asks d (space_at (parts_of s) n) i u
          (λ text encoded v e. let t = text-given s linked M depth small n text encoded v e u h in (t.0, t.1)) name xs declares at ks sound b valid
      by (kind.Complex n) below nillable i h = by-complex nillable (slice_get s.complexes n) n refl i h

  content-has : (high depth : ℕ) (small : depth ≤ 64) → depth + high ≤ 64 → (d : ℕ) (e : ElementDecl) → slice_get s.elements d ≡ Some e → (u : Rose TypeLabel) → HasContent E s M e (resolve M u) → Has high depth small d u
  content-has zero depth small enough d e is u has =
      content-by zero depth small (λ name xs declares at ks sound within k b valid t c. absurd (omega (arith, within))) d e is u has
  content-has (suc high) depth small enough d e is u has =
      let deeper : suc depth ≤ 64 = omega (arith, enough) in
      let enough_below : suc depth + high ≤ 64 = omega (arith, enough) in
      content-by (suc high) depth small
      (λ name xs declares at ks sound within k b valid t c.
      declared-has high (suc depth) deeper (λ n y g z q. content-has high (suc depth) deeper enough_below n y g z q) k t c name xs declares at ks sound (omega (arith, within)) b valid)
      d e is u has

-- ---- the root

pub values-of-items : ValuesOfItems
values-of-items s M linked narrow is_map d below (node (Text words at) ks) b are valid = absurd valid.1
values-of-items s M linked narrow is_map d below (node (Element name xs declares at) ks) b are valid = by (slice_get s.elements d) refl
  where
    at-root : (v : Rose ValueLabel) (o : Option Assignment) (a : Assignment) → o ≡ Some a → FitsAt M 1 a.body v → elim o as (λ _. Type 0) [ None ↦ ⊥ | Some x ↦ FitsAt M 1 x.body v ]
    at-root v None a g p = absurd (cc)
    at-root v (Some x) a g p = let same : x ≡ a = cc in subst (λ y. FitsAt M 1 y.body v) (sym same) p

    by : (o : Option ElementDecl) → slice_get s.elements d ≡ o → (v : Rose ValueLabel) × Fits M (root_at s M is_map d) v × (Xer M (root_at s M is_map d) v ≡ Some b)
    by None g = absurd (let few = none-at s.elements d g in let globals = linked.globals in omega (arith, few, below, globals))
    by (Some x) g =
        let root = roots-lead s M linked is_map d x below g in
        let a = root.assignment in
        let shallow = are.shallow in
        let found = content-has s M linked is_map 63 1 (omega arith) (omega arith) d x g a.body root.content name xs declares at ks are.sound (omega (arith, shallow)) b valid.1 in
        let named : x.name ≡ name = let wanted : Some x.name ≡ Some name = sym (ap (option_map (λ (e : ElementDecl). e.name)) g) ∙ valid.0 in cc in
        let told : name_told a.reference a.marks ≡ name = root.name ∙ named in (
          found.0,
          at-root found.0 (slice_get M (root_at s M is_map d)) a root.at found.1,
          ap (option_map (λ (y : Assignment). root_of M y found.0)) root.at ∙ ap (λ n. Some (element_of n (inside M a.body found.0))) told ∙ ap (λ z. Some z) found.2,
        )
