-- The items of a value of a declaration's type are valid with themselves: by induction over the levels of elements that are left.
use Rattle.std.proofs.Common.{◌≡◌, ℕ, zero, suc, ◌+◌, ◌≤◌, nat_lt, Bool, true, false, Option, Some, None, List, [], refl, sym, ap, subst, ◌∙◌, arith}
use Rattle.std.specs.Prelude.{slice_get, IsSomeAnd, MatchBool, Ok}
use Rattle.std.specs.Option.{option_map}
use Rattle.base_texts.specs.declared.texts.Name.{Name}
use Rattle.base_trees.specs.Rose.{Rose, node, label_of}
use Rattle.base_trees.specs.Rose as rose
use Rattle.simple_types.specs.Space.{Space, Booleans}
use Rattle.simple_types.specs.declared.labels.ValueLabel.{ValueLabel}
use Rattle.simple_types.specs.Reading.{reads, spelled}
use Rattle.xml_items.specs.declared.label.ItemLabel.{ItemLabel}
use Rattle.xml_items.specs.declared.label.ItemLabel.TheVariants.{Element, Text}
use Rattle.xml_items.specs.Plain.{Plain, plain_of}
use Rattle.xml_items.specs.Mixing.{text_before}
use Rattle.asn_types.specs.declared.modules.Assignment.{Assignment}
use Rattle.asn_types.specs.declared.types.TypeLabel.{TypeLabel}
use Rattle.asn_types.specs.declared.types.Form.TheVariants as form
use Rattle.asn_types.specs.Refs.{resolve}
use Rattle.asn_types.specs.Simples.{MapsTo}
use Rattle.asn_values.specs.Values.{FitsAt}
use Rattle.schema_components.specs.declared.components.ElementDecl.{ElementDecl}
use Rattle.schema_components.specs.declared.components.ComplexDef.{ComplexDef}
use Rattle.schema_components.specs.declared.components.Content.TheVariants as content_
use Rattle.schema_components.specs.declared.components.TypeOf.{TypeOf}
use Rattle.schema_components.specs.declared.components.TypeOf.TheVariants as kind
use Rattle.schema_components.specs.Components.{Set}
use Rattle.schema_components.specs.SetParts.{parts_of}
use Rattle.schema_components.specs.Linked.{IsTyped, IsElement, IsComplexType, IsLinked}
use Rattle.map_subjects.specs.Subjects.{place_in}
use Rattle.map_subjects.proofs.Finding.{all-at}
use Rattle.map_assignments.specs.Planning.{particle_type, in_place}
use Rattle.map_assignments.specs.Plans.{simple}
use Rattle.map_assignments.specs.Naming.{IsNamed, type_label}
use Rattle.map_assignments.specs.Mapped.{IsMapOf, root_at}
use Rattle.map_assignments.proofs.Resolving.{follow-none}
use Rattle.map_laws.specs.Standing.{IsSimpleOf, HasNillable, HasComplex, HasContent}
use Rattle.map_laws.specs.Statements.{IsTypeAt}
use Rattle.map_laws.proofs.Leading.{types-lead}
use Rattle.map_laws.proofs.Roots.{roots-lead}
use Rattle.asn_types.specs.Spaces.{spelling}
use Rattle.asn_types.specs.Names.{name_told}
use Rattle.xer_items.specs.Items.{Given, given, element_of, inside, root_of, Xer}
use Rattle.xer_items.proofs.Holding.{fitting_holds}
use Rattle.xer_items.proofs.Texts.{texts_of_values}
use Rattle.validity_rules.specs.Asked.{Asked, asked, space_at, asked_by, asked_by_type, asked_by_complex, asked_at, name_at}
use Rattle.validity_rules.specs.Asked as ask
use Rattle.validity_rules.specs.Attributes.{not_nil}
use Rattle.validity_rules.specs.OwnForms.{IsOwnForm}
use Rattle.validity_rules.specs.Valid.{HasName}
use Rattle.validity_rules.proofs.Again.{IsFair}
use Rattle.validity_rules.proofs.Fair.{fair_at}
use Rattle.schema_components.specs.Small.{AreSmall}
use Rattle.value_laws.specs.Statements.{IsItsOwn, ItemsOfValues}
use Rattle.value_laws.proofs.Simples.{text-inside, text-spelled}
use Rattle.value_laws.proofs.Walking.{sorted-apart}
use Rattle.value_laws.proofs.OwnComplexes.{given-is-own}
use Rattle.value_laws.proofs.ComplexItems.{complex-gives}
use Rattle.value_laws.proofs.Owning.{spelled-valid, complex-owns}
use Rattle.value_laws.proofs.Declarations.{none-at, below-of, depth-is}

module _ (s : Set) (M : List Assignment) (linked : IsLinked s) (small : AreSmall s) (is_map : IsMapOf s M) where
  abbrev asks : ℕ → Asked
  asks = asked_at (parts_of s)

  abbrev E : ℕ → Rose TypeLabel → Type 0
  E = IsTypeAt s (place_in is_map.entries)

  -- the items of each value of the type are their own treated form
  abbrev Owns : ℕ → ℕ → Rose TypeLabel → Type 0
  Owns depth d u = (v : Rose ValueLabel) → FitsAt M depth u v → (name : Name) → IsOwnForm asks d (element_of name (inside M u v))

  -- an element of a simple type that can't be nil
  simple-owns : (d : ℕ) (space : Space) → asks d ≡ asked false [] (ask.simple space) → (u : Rose TypeLabel) (v : Rose ValueLabel) (words : List ℕ)
      → inside M u v ≡ given [] (text_before words rose.none) → (w : Rose ValueLabel) × (reads space words ≡ Ok w) × (spelled space w ≡ words)
      → (name : Name) → IsOwnForm asks d (element_of name (inside M u v))
  simple-owns d space e u v words inside_is is name =
      let fair : IsFair (asked false [] (ask.simple space)) = subst IsFair e (fair_at s linked d) in
      subst (λ z. IsOwnForm asks d (element_of name z)) (sym inside_is)
      (given-is-own M (λ n t. ⊥) 0 s asks (λ n a t x h f. absurd h) d false [] (ask.simple space) e tt fair.plain fair.apart not_nil None refl (λ f. cc) [] refl
      (text_before words rose.none) (λ us q. spelled-valid asks space words is us q) name)

  -- a number that names no declaration has the type BOOLEAN, and a truth value is asked for
  no-declaration-owns : (depth d : ℕ) (u : Rose TypeLabel) → slice_get s.elements d ≡ None → E d u → Owns depth d u
  no-declaration-owns depth d u none h v fits name =
      let maps : MapsTo Booleans (resolve M u) = subst (λ x. MapsTo Booleans (resolve M x)) (sym leaf) (subst (MapsTo Booleans) (sym (follow-none M 4 bool_type refl)) (refl, refl)) in
      simple-owns d Booleans (ap (asked_by (parts_of s)) none) u v (spelled Booleans v) (texts_of_values M u v Booleans maps) (v, fitting_holds M depth u v Booleans tt tt maps fits, refl) name
    where
      bool_type : Rose TypeLabel
      bool_type = node (type_label form.Bool []) rose.none

      plan-is : (b : Bool) → nat_lt d s.globals ≡ b → particle_type s (in_place s 21) d ≡ simple Booleans
      plan-is true f = absurd (let few = none-at s.elements d none in let within = below-of d s.globals f in let globals = linked.globals in omega (arith, few, within, globals))
      plan-is false f = rw (f, none) refl

      leaf : u ≡ node (type_label form.Bool []) rose.none
      leaf = subst (λ p. IsNamed (place_in is_map.entries) p u) (plan-is (nat_lt d s.globals) refl) h

  declared-owns : (depth : ℕ) → ((d : ℕ) (e : ElementDecl) → slice_get s.elements d ≡ Some e → (u : Rose TypeLabel) → HasContent E s M e (resolve M u) → Owns depth d u)
      → (d : ℕ) (u : Rose TypeLabel) → E d u → Owns depth d u
  declared-owns depth f d u h v fits name = by (slice_get s.elements d) refl
    where
      by : (o : Option ElementDecl) → slice_get s.elements d ≡ o → IsOwnForm asks d (element_of name (inside M u v))
      by None g = no-declaration-owns depth d u g h v fits name
      by (Some x) g = f d x g u (types-lead s M linked is_map d x u g h) v fits name

  -- by the kind of the declaration
  content-by : (depth : ℕ) → ((d : ℕ) (a : Name) (t : Rose TypeLabel) (x : Rose ValueLabel) → E d t → FitsAt M (suc depth) t x → IsOwnForm asks d (element_of a (inside M t x)))
      → (d : ℕ) (e : ElementDecl) → slice_get s.elements d ≡ Some e → (u : Rose TypeLabel) → HasContent E s M e (resolve M u) → Owns depth d u
  content-by depth below-owns d e is u has v fits name = by e.kind (all-at (IsElement s) s.elements d e is linked.elements).1 e.nillable (ap (asked_by (parts_of s)) is) has
    where
      by-complex : (nillable : Bool) (o : Option ComplexDef) (n : ℕ) → slice_get s.complexes n ≡ o → asks d ≡ asked_by_complex (parts_of s) nillable o
          → IsSomeAnd o (λ (c : ComplexDef). HasComplex E s M nillable c (resolve M u)) → IsOwnForm asks d (element_of name (inside M u v))
      by-complex nillable None n g i h = absurd h
      by-complex nillable (Some c) n g i h =
          let ok = all-at (IsComplexType s) s.complexes n c g linked.complexes in
          complex-owns M E depth s asks below-owns d nillable c i (sorted-apart c.uses ok.ascending) (fair_at s linked d) (inside M u v)
          (complex-gives M E depth s (text-inside s linked small M) (text-spelled s linked small M depth) nillable c ok.content u h v fits) name

      by : (k : TypeOf) → IsTyped s k → (nillable : Bool) → asks d ≡ asked_by_type (parts_of s) nillable k → elim k as (λ _. Type 0) [
        | kind.Simple n ↦ MatchBool nillable (HasNillable s M n (resolve M u)) (IsSimpleOf s n (resolve M u))
        | kind.Complex n ↦ IsSomeAnd (slice_get s.complexes n) (λ (c : ComplexDef). HasComplex E s M nillable c (resolve M u))
      ] → IsOwnForm asks d (element_of name (inside M u v))
      by (kind.Simple n) below true i h =
          let c : ComplexDef = record { name = None; uses = []; content = content_.Simple n } in
          complex-owns M E depth s asks below-owns d true c i tt (fair_at s linked d) (inside M u v)
          (complex-gives M E depth s (text-inside s linked small M) (text-spelled s linked small M depth) true c below u h v fits) name
      by (kind.Simple n) below false i h =
          let t = text-spelled s linked small M depth n u v h fits in
          simple-owns d (space_at (parts_of s) n) i u v (spelling M u v) t.0 t.1 name
      by (kind.Complex n) below nillable i h = by-complex nillable (slice_get s.complexes n) n refl i h

  pub content-owns : (levels depth : ℕ) → 65 ≤ depth + levels → (d : ℕ) (e : ElementDecl) → slice_get s.elements d ≡ Some e → (u : Rose TypeLabel) → HasContent E s M e (resolve M u) → Owns depth d u
  content-owns zero depth enough d e is u has v fits name = absurd (let deep = depth-is M depth u v fits in omega (arith, deep, enough))
  content-owns (suc levels) depth enough d e is u has v fits name =
      content-by depth (λ k a t x h fx. declared-owns (suc depth) (λ n z g y c. content-owns levels (suc depth) (omega (arith, enough)) n z g y c) k t h x fx a) d e is u has v fits name

-- ---- the root

named : (wanted : Option Name) (name : Name) (g : Given) → wanted ≡ Some name → (u : Rose ItemLabel) → plain_of u ≡ element_of name g → HasName wanted (label_of u)
named wanted name g e (node (Text words at) us) q = absurd (cc)
named wanted name g e (node (Element other ys binds place) us) q = let same : other ≡ name = cc in e ∙ ap (λ n. Some n) (sym same)

pub items-of-values : ItemsOfValues
items-of-values s M linked small is_map d below v fits = by (slice_get s.elements d) refl
  where
    at-root : (o : Option Assignment) (a : Assignment) → o ≡ Some a → elim o as (λ _. Type 0) [ None ↦ ⊥ | Some x ↦ FitsAt M 1 x.body v ] → FitsAt M 1 a.body v
    at-root None a g p = absurd p
    at-root (Some x) a g p = let same : x ≡ a = cc in subst (λ y. FitsAt M 1 y.body v) same p

    by : (o : Option ElementDecl) → slice_get s.elements d ≡ o → (b : Rose Plain) × (Xer M (root_at s M is_map d) v ≡ Some b) × IsItsOwn s d b
    by None g = absurd (let few = none-at s.elements d g in let globals = linked.globals in omega (arith, few, below, globals))
    by (Some x) g =
        let root = roots-lead s M linked is_map d x below g in
        let a = root.assignment in
        let here = at-root (slice_get M (root_at s M is_map d)) a root.at fits in
        let name = name_told a.reference a.marks in
        let told : name ≡ x.name = root.name in
        let at : name_at (parts_of s) d ≡ Some name = ap (option_map (λ (e : ElementDecl). e.name)) g ∙ ap (λ n. Some n) (sym told) in (
          root_of M a v,
          ap (option_map (λ (y : Assignment). root_of M y v)) root.at,
          λ u q. (named (name_at (parts_of s) d) name (inside M a.body v) at u q, content-owns s M linked small is_map 64 1 (omega arith) d x g a.body root.content v here name u q),
        )
