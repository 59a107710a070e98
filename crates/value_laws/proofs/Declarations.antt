-- Two values of a declaration's type that have the same items are one: by induction over the levels of elements that are left.
use Rattle.std.proofs.Common.{◌≡◌, ℕ, zero, suc, ◌+◌, ◌<◌, ◌≤◌, nat_lt, Bool, true, false, not, ◌&&◌, Option, Some, None, List, [], ◌∷◌, length, refl, sym, ap, subst, arith, All}
use Rattle.std.specs.Prelude.{slice_get, IsSomeAnd, MatchBool, bytes_eq}
use Rattle.std.specs.Option.{option_map}
use Rattle.std.specs.List.{list_any}
use Rattle.std.proofs.lemmas.List.Elements.{All-head, All-tail}
use Rattle.std.proofs.lemmas.Bool.Decides.{nat_tests}
use Rattle.base_texts.specs.declared.texts.Name.{Name}
use Rattle.base_texts.specs.Limits.{is_namespace, is_name_part, is_xmlns}
use Rattle.base_trees.specs.Rose.{Rose, node, Roses, label_of}
use Rattle.base_trees.specs.Rose as rose
use Rattle.simple_types.specs.Space.{Booleans}
use Rattle.simple_types.specs.declared.labels.ValueLabel.{ValueLabel}
use Rattle.xml_items.specs.Plain.{Plain, element, text}
use Rattle.asn_types.specs.declared.modules.Assignment.{Assignment}
use Rattle.asn_types.specs.declared.types.TypeLabel.{TypeLabel}
use Rattle.asn_types.specs.declared.types.Form.TheVariants as form
use Rattle.asn_types.specs.Refs.{resolve}
use Rattle.asn_types.specs.Simples.{MapsTo}
use Rattle.asn_values.specs.Values.{FitsAt}
use Rattle.schema_components.specs.declared.components.ElementDecl.{ElementDecl}
use Rattle.schema_components.specs.declared.components.AttributeUse.{AttributeUse}
use Rattle.schema_components.specs.declared.components.ComplexDef.{ComplexDef}
use Rattle.schema_components.specs.declared.components.TypeOf.{TypeOf}
use Rattle.schema_components.specs.declared.components.TypeOf.TheVariants as kind
use Rattle.schema_components.specs.Components.{Set}
use Rattle.schema_components.specs.Declarable.{kept_spaces, is_declarable, is_declarable_attribute}
use Rattle.schema_components.specs.Linked.{IsUse, IsComplexType, IsLinked}
use Rattle.schema_components.proofs.Truths.{both}
use Rattle.map_subjects.specs.Subjects.{place_in}
use Rattle.map_subjects.proofs.Finding.{all-at}
use Rattle.map_assignments.specs.Planning.{particle_type, in_place}
use Rattle.map_assignments.specs.Plans.{simple}
use Rattle.map_assignments.specs.Naming.{IsNamed, type_label}
use Rattle.map_assignments.specs.Mapped.{IsMapOf, root_at}
use Rattle.map_assignments.proofs.Resolving.{follow-none}
use Rattle.map_laws.specs.Standing.{IsSimpleOf, HasNillable, HasComplex, HasContent}
use Rattle.map_laws.specs.Statements.{IsTypeAt}
use Rattle.map_laws.proofs.Leading.{types-lead}
use Rattle.map_laws.proofs.Roots.{roots-lead}
use Rattle.xer_items.specs.Items.{Given, given, nil_name, element_of, inside, root_of}
use Rattle.xer_items.proofs.Texts.{one_value_of_text}
use Rattle.schema_components.specs.Small.{AreSmall}
use Rattle.value_laws.specs.Statements.{OneValue}
use Rattle.value_laws.proofs.Simples.{text-inside, text-same, spell-same}
use Rattle.value_laws.proofs.Walking.{Apart}
use Rattle.value_laws.proofs.Complexes.{complex-same, nillable-same}

-- ---- elements and what stands in them

abbrev attributes_of : Rose Plain → List (Name × List ℕ)
attributes_of (node (element name xs) ks) = xs
attributes_of (node (text words) ks) = []

abbrev kids_in : Rose Plain → Roses Plain
kids_in (node l ks) = ks

same-inside : (n m : Name) (a b : Given) → element_of n a ≡ element_of m b → a ≡ b
same-inside n m a b e = ap (λ x. given (attributes_of x) (kids_in x)) e

-- ---- `xsi:nil` is no declared attribute

not-nil : (n : Name) → is_declarable_attribute n ≡ true → n ≡ nil_name → ⊥
not-nil n h e =
    let declarable = (both (is_declarable n) (not (is_xmlns n)) h).0 in
    let other : not (list_any (bytes_eq n.space) kept_spaces) ≡ true = (both (is_namespace n.space && is_name_part n.local) (not (list_any (bytes_eq n.space) kept_spaces)) declarable).1 in
    let never : not (list_any (bytes_eq nil_name.space) kept_spaces) ≡ true = subst (λ (x : Name). not (list_any (bytes_eq x.space) kept_spaces) ≡ true) e other in
    cc

nil-apart : (s : Set) (ds : List AttributeUse) → All (IsUse s) ds → Apart nil_name ds
nil-apart s [] h = tt
nil-apart s (d ∷ ds) h = (not-nil d.name (All-head (IsUse s) d ds h).0, nil-apart s ds (All-tail (IsUse s) d ds h))

pub none-at : {X : Type 0} (xs : List X) (i : ℕ) → slice_get xs i ≡ None → length xs ≤ i
none-at [] i e = omega arith
none-at (x ∷ xs) zero e = absurd (cc)
none-at (x ∷ xs) (suc i) e = let h = none-at xs i e in omega (arith, h)

pub below-of : (i n : ℕ) → nat_lt i n ≡ true → i < n
below-of i n e = grind (arith, nat_tests)

pub depth-is : (M : List Assignment) (depth : ℕ) (t : Rose TypeLabel) (v : Rose ValueLabel) → FitsAt M depth t v → depth ≤ 64
unfolding FitsAt
depth-is M depth t (node w vs) h = h.0

module _ (s : Set) (M : List Assignment) (linked : IsLinked s) (small : AreSmall s) (is_map : IsMapOf s M) where
  abbrev E : ℕ → Rose TypeLabel → Type 0
  E = IsTypeAt s (place_in is_map.entries)

  -- values of the type are told by their items
  abbrev Tells : ℕ → Rose TypeLabel → Type 0
  Tells depth u = (v w : Rose ValueLabel) → FitsAt M depth u v → FitsAt M depth u w → inside M u v ≡ inside M u w → v ≡ w

  -- a number that names no declaration has the type BOOLEAN
  no-declaration : (depth d : ℕ) (u : Rose TypeLabel) → slice_get s.elements d ≡ None → E d u → Tells depth u
  no-declaration depth d u none h v w hv hw e =
      one_value_of_text M depth depth u v w Booleans tt tt (subst (λ x. MapsTo Booleans (resolve M x)) (sym leaf) (subst (MapsTo Booleans) (sym (follow-none M 4 bool_type refl)) (refl, refl))) hv hw (ap (λ (z : Given). z.kids) e)
    where
      bool_type : Rose TypeLabel
      bool_type = node (type_label form.Bool []) rose.none

      plan-is : (b : Bool) → nat_lt d s.globals ≡ b → particle_type s (in_place s 21) d ≡ simple Booleans
      plan-is true f = absurd (let few = none-at s.elements d none in let within = below-of d s.globals f in let globals = linked.globals in omega (arith, few, within, globals))
      plan-is false f = rw (f, none) refl

      leaf : u ≡ node (type_label form.Bool []) rose.none
      leaf = subst (λ p. IsNamed (place_in is_map.entries) p u) (plan-is (nat_lt d s.globals) refl) h

  declared-tells : (depth : ℕ) → ((e : ElementDecl) (u : Rose TypeLabel) → HasContent E s M e (resolve M u) → Tells depth u) → (d : ℕ) (u : Rose TypeLabel) → E d u → Tells depth u
  declared-tells depth f d u h v w hv hw e = by (slice_get s.elements d) refl
    where
      by : (o : Option ElementDecl) → slice_get s.elements d ≡ o → v ≡ w
      by None g = no-declaration depth d u g h v w hv hw e
      by (Some x) g = f x u (types-lead s M linked is_map d x u g h) v w hv hw e

  -- by the kind of the declaration
  content-by : (depth : ℕ) → ((d : ℕ) (a : Name) (t : Rose TypeLabel) (x y : Rose ValueLabel) → E d t → FitsAt M (suc depth) t x → FitsAt M (suc depth) t y
      → element_of a (inside M t x) ≡ element_of a (inside M t y) → x ≡ y) → (e : ElementDecl) (u : Rose TypeLabel) → HasContent E s M e (resolve M u) → Tells depth u
  content-by depth below-tells e u has v w hv hw same = by e.kind e.nillable has
    where
      by-complex : (nillable : Bool) (o : Option ComplexDef) (n : ℕ) → slice_get s.complexes n ≡ o → IsSomeAnd o (λ (c : ComplexDef). HasComplex E s M nillable c (resolve M u)) → v ≡ w
      by-complex nillable None n g h = absurd h
      by-complex nillable (Some c) n g h =
          let ok = all-at (IsComplexType s) s.complexes n c g linked.complexes in
          complex-same M E depth s below-tells (text-inside s linked small M) (text-same s linked small M depth) (spell-same s linked small M depth) nillable c ok (nil-apart s c.uses ok.uses) u h v w hv hw same

      by : (k : TypeOf) (nillable : Bool) → elim k as (λ _. Type 0) [
        | kind.Simple n ↦ MatchBool nillable (HasNillable s M n (resolve M u)) (IsSimpleOf s n (resolve M u))
        | kind.Complex n ↦ IsSomeAnd (slice_get s.complexes n) (λ (c : ComplexDef). HasComplex E s M nillable c (resolve M u))
      ] → v ≡ w
      by (kind.Simple n) true h =
          nillable-same M E depth s below-tells (text-inside s linked small M) (text-same s linked small M depth) (spell-same s linked small M depth) n u h v w hv hw same
      by (kind.Simple n) false h = text-same s linked small M depth n u v w h hv hw (ap (λ (z : Given). z.kids) same)
      by (kind.Complex n) nillable h = by-complex nillable (slice_get s.complexes n) n refl h

  content-tells : (levels depth : ℕ) → 65 ≤ depth + levels → (e : ElementDecl) (u : Rose TypeLabel) → HasContent E s M e (resolve M u) → Tells depth u
  content-tells zero depth enough e u has v w hv hw same = absurd (let deep = depth-is M depth u v hv in omega (arith, deep, enough))
  content-tells (suc levels) depth enough e u has v w hv hw same =
      content-by depth (λ d a t x y h hx hy f. declared-tells (suc depth) (λ k z c. content-tells levels (suc depth) (omega (arith, enough)) k z c) d t h x y hx hy (same-inside a a (inside M t x) (inside M t y) f))
      e u has v w hv hw same

pub one-value : OneValue
one-value s M linked small is_map d below v w hv hw e = by (slice_get s.elements d) refl
  where
    at-root : (o : Option Assignment) (a : Assignment) → o ≡ Some a → elim o as (λ _. Type 0) [ None ↦ ⊥ | Some x ↦ FitsAt M 1 x.body v ] → elim o as (λ _. Type 0) [ None ↦ ⊥ | Some x ↦ FitsAt M 1 x.body w ]
        → option_map (λ (x : Assignment). root_of M x v) o ≡ option_map (λ (x : Assignment). root_of M x w) o
        → FitsAt M 1 a.body v × FitsAt M 1 a.body w × (root_of M a v ≡ root_of M a w)
    at-root None a g p q r = absurd p
    at-root (Some x) a g p q r =
        let same : x ≡ a = cc in
        let roots : root_of M x v ≡ root_of M x w = cc in
        (subst (λ y. FitsAt M 1 y.body v) same p, subst (λ y. FitsAt M 1 y.body w) same q, subst (λ y. root_of M y v ≡ root_of M y w) same roots)

    by : (o : Option ElementDecl) → slice_get s.elements d ≡ o → v ≡ w
    by None g = absurd (let few = none-at s.elements d g in let globals = linked.globals in omega (arith, few, below, globals))
    by (Some x) g =
        let root = roots-lead s M linked is_map d x below g in
        let here = at-root (slice_get M (root_at s M is_map d)) root.assignment root.at hv hw e in
        content-tells s M linked small is_map 64 1 (omega arith) x root.assignment.body root.content v w here.0 here.1
        (same-inside _ _ (inside M root.assignment.body v) (inside M root.assignment.body w) here.2)
