-- In the set of documents without a fault the numbers of complex types that stand in one another ascend, and at most 21
-- stand in one another.
use Rattle.std.proofs.Common.{◌≡◌, ℕ, zero, suc, ◌<◌, ◌≤◌, arith, Bool, true, false, ◌⊎◌, inl, inr, List, [], ◌∷◌, ◌++◌, length, map, Option, Some, None, refl, sym, ap, ◌∙◌, subst}
use Rattle.std.specs.Prelude.{nat_eq, nat_lt, slice_get, IsSomeAnd, IfSome}
use Rattle.std.specs.Cmp.{IsStrictWeakOrder}
use Rattle.std.specs.List.{Any, flat_map}
use Rattle.std.specs.Option.{option_map}
use Rattle.std.proofs.Math.Bridge.{le_prop}
use Rattle.std.proofs.Math.Logic.{∥∥₁_elim}
use Rattle.std.proofs.lemmas.Bool.{and_parts, eqb-true, eq-eqb, ltb-true, cases_lt, cases_eq, true≢false}
use Rattle.std.proofs.lemmas.Option.{slice_get-get_or, slice_get_within, get_or_from_slice_get}
use Rattle.base_texts.specs.declared.texts.Name.{Name}
use Rattle.base_texts.specs.Lists.{HasItem}
use Rattle.schema_components.specs.Chains as chains
use Rattle.schema_components.specs.Chains.{complex_in_kind, complex_in_element, complex_in_local, complex_in_type, HasComplex, BeginsShort, AreShort}
use Rattle.schema_components.specs.Components.{IsUnnamed, element_type}
use Rattle.schema_components.specs.Inward.{has_place, kind_inward, body_inward}
use Rattle.schema_components.specs.Linked as linked
use Rattle.schema_components.specs.Linked.{IsJustBelow, IsChain, has_complex_type}
use Rattle.schema_components.specs.Raw.{Complex, Kind, NamedKind, SimpleKind, ComplexKind, Element, Local, Own, ComplexType, Document}
use Rattle.schema_components.specs.declared.components.ComplexDef.{ComplexDef}
use Rattle.schema_components.specs.declared.components.ElementDecl.{ElementDecl}
use Rattle.schema_components.specs.declared.components.SimpleDef.{SimpleDef}
use Rattle.schema_components.specs.declared.components.TypeOf.{TypeOf}
use Rattle.schema_components.specs.declared.components.TypeOf.TheVariants as type
use Rattle.schema_components.specs.declared.simple_definitions.RawRef.TheVariants as reference
use Rattle.link_names.specs.declared.places.Place.{Place}
use Rattle.link_names.specs.Order.{place, is_before}
use Rattle.link_names.proofs.Firsts.{Before, before_true, true_before}
use Rattle.link_complex.specs.ComplexTypes.{ComplexDefinition, defined, of_document, complex_types}
use Rattle.link_complex.specs.ElementTypes.{type_named, typed_elements, type_at}
use Rattle.link_set.specs.Sets as sets
use Rattle.link_set.specs.Sets.{or_zero, simple_or_complex, type_of_kind, number_of_declaration}
use Rattle.link_set.specs.Written.{WrittenElement, written_element, global_elements, local_elements, lists_of, complex_before}
use Rattle.link_set.proofs.Sorted.{NoneBefore, Rises, rises_in_order, placed_order}
use Rattle.link_schemas.proofs.DeclaredNumbers.{get_mapped, of_get_mapped, complex_number}
use Rattle.link_schemas.proofs.GlobalLists.{by_kind_of, of_element, of_definition, of_local, complexes_listed}
use Rattle.link_schemas.proofs.InOrder.{item_of_order}
use Rattle.link_schemas.proofs.Items.{in_flat, of_mapped, item_at, item_of_all, one_at, number_of_item}
use Rattle.link_schemas.proofs.Kept.{AreFaultless}
use Rattle.link_schemas.proofs.KeptComplexes.{of_known, complex_kept}
use Rattle.link_schemas.proofs.NumberedModels.{renumbered, content_leaf}
use Rattle.link_schemas.proofs.SetContents.{linked_set, leaf_is, element_stands}
use Rattle.link_schemas.proofs.SetCounts.{made, made_leaves, named_other}
use Rattle.link_schemas.proofs.SetModels.{type_leaves, each_body, complex_inward, element_inward}
use Rattle.link_schemas.proofs.TypedNumbers.{numbers, simple_count}
use Rattle.base_texts.proofs.Lists.{has_right}

any_item : {A : Type 0} (P : A → Type 0) (xs : List A) → Any P xs → (x : A) × HasItem xs x × P x
any_item P xs (k, x, lt, is, p) = (x, item_at xs k x (slice_get-get_or xs k x lt ∙ ap (λ y. Some y) is), p)

item_any : {A : Type 0} (P : A → Type 0) (xs : List A) (x : A) → HasItem xs x → P x → Any P xs
item_any P xs x i p = let r = number_of_item xs x i in (r.0, x, slice_get_within xs r.0 x r.1, get_or_from_slice_get xs r.0 x x r.1, p)

some_there : {A : Type 0} (P : A → Type 0) (o : Option A) → IsSomeAnd o P → (x : A) × (o ≡ Some x) × P x
some_there P None h = absurd h
some_there P (Some x) h = (x, refl, h)

-- ---- lists in order

module _ {A : Type 0} (lt : A → A → Bool) (o : IsStrictWeakOrder lt) where
  none_before_at : (x : A) (ys : List A) (j : ℕ) (y : A) → NoneBefore lt o x ys → slice_get ys j ≡ Some y → lt y x ≡ false
  none_before_at x [] j y h e = absurd cc
  none_before_at x (z ∷ ys) zero y h e = ap (λ w. lt w x) (let same : y ≡ z = cc in same) ∙ h.0
  none_before_at x (z ∷ ys) (suc j) y h e = none_before_at x ys j y h.1 e

  rises_at : (xs : List A) (i j : ℕ) (x y : A) → Rises lt o xs → i < j → slice_get xs i ≡ Some x → slice_get xs j ≡ Some y → lt y x ≡ false
  rises_at [] i j x y h less e f = absurd cc
  rises_at (z ∷ xs) i zero x y h less e f = absurd (omega (arith, less))
  rises_at (z ∷ xs) zero (suc j) x y h less e f = ap (lt y) (let same : x ≡ z = cc in same) ∙ none_before_at z xs j y h.0 f
  rises_at (z ∷ xs) (suc i) (suc j) x y h less e f = rises_at xs i j x y h.1 (omega (arith, less)) e f

not_itself : (p : Place) → is_before p p ≡ true → ⊥
not_itself p is = by (before_true p p is)
  where
    by : Before p p → ⊥
    by (inl lt) = omega (arith, lt)
    by (inr r) = let lt = r.1 in omega (arith, lt)

module _ (docs : List Document) where
  ordered : (n m : ℕ) (c x : ComplexDefinition) → slice_get (lists_of docs).complexes n ≡ Some c → slice_get (lists_of docs).complexes m ≡ Some x → is_before c.place x.place ≡ true → n < m
  ordered n m c x e f before = elim (cases_lt n m) [
    | inl lt ↦ lt
    | inr le ↦ elim (cases_eq m n) [
      | inl same ↦
          let one : c ≡ x = one_at (lists_of docs).complexes n c x e (ap (slice_get (lists_of docs).complexes) (sym same) ∙ f) in
          absurd (not_itself x.place (ap (λ (y : ComplexDefinition). is_before y.place x.place) (sym one) ∙ before))
      | inr apart ↦
          let order = placed_order (λ (y : ComplexDefinition). y.place) in
          let behind = rises_at complex_before order (lists_of docs).complexes m n x c (rises_in_order complex_before order (complex_types docs)) (omega (arith, le, apart)) f e in
          absurd (true≢false (sym before ∙ behind))
    ]
  ]

module _ (docs : List Document) (h : AreFaultless docs) (ts : List SimpleDef) (enough : length ts ≡ simple_count docs) where
  pub unnamed_there : (m : ℕ) → IsUnnamed (linked_set docs h ts enough) m → (x : ComplexDefinition) × (slice_get (lists_of docs).complexes m ≡ Some x) × (x.name ≡ None)
  unnamed_there m is = by (slice_get (sets.complexes (numbers docs) docs (lists_of docs)) m) refl is
    where
      by : (o : Option ComplexDef) → slice_get (sets.complexes (numbers docs) docs (lists_of docs)) m ≡ o → option_map (λ (c : ComplexDef). c.name) o ≡ Some None
          → (x : ComplexDefinition) × (slice_get (lists_of docs).complexes m ≡ Some x) × (x.name ≡ None)
      by None e f = absurd cc
      by (Some y) e f =
          let r = of_get_mapped (made docs) (lists_of docs).complexes m y e in
          let none : y.name ≡ None = cc in
          (r.0, r.1, ap (λ (z : ComplexDef). z.name) r.2 ∙ none)

  -- a complex type without a name stands in the content model of another one of the document
  pub record IsBelow (d : Document) (c : ComplexDefinition) (m : ℕ) : Type 0 where
    pub leaf : ℕ × Name
    pub leaf_there : HasItem (type_leaves c) leaf
    pub element : Element
    pub own : slice_get d.locals leaf.0 ≡ Some (Own element)
    pub body : Complex
    pub has : element.kind ≡ ComplexKind body
    pub there : slice_get (lists_of docs).complexes m ≡ Some (defined d.file None body)

  complex_of_own : (d : Document) (e : Element) → HasItem d.locals (Own e) → (b : Complex) → e.kind ≡ ComplexKind b → HasItem (of_document d) (defined d.file None b)
  complex_of_own d e i b is =
      let x = defined d.file None b in
      subst (λ xs. HasItem xs x) (sym (complexes_listed d))
      (has_right (flat_map (of_element d.file) d.elements) (flat_map (of_definition d.file) d.types ++ flat_map (of_local d.file) d.locals) x
      (has_right (flat_map (of_definition d.file) d.types) (flat_map (of_local d.file) d.locals) x
      (in_flat (of_local d.file) d.locals (Own e) x i (subst (λ k. HasItem (by_kind_of d.file k) x) (sym is) (inl refl)))))

  module _ (d : Document) (known : HasItem docs d) (c : ComplexDefinition) (inside : HasItem (of_document d) c) where
    -- by the type of the declaration that the particle names
    by_kind : (a : ℕ × Name) → HasItem (type_leaves c) a → (e : Element) → slice_get d.locals a.0 ≡ Some (Own e) → (m : ℕ)
        → (w : WrittenElement) → w ≡ written_element d.file e → HasItem (global_elements docs) w ⊎ HasItem (local_elements docs) w
        → (x : ComplexDefinition) → slice_get (lists_of docs).complexes m ≡ Some x → x.name ≡ None
        → (k : Kind) → w.element.kind ≡ k → type_of_kind (numbers docs) w.file k ≡ type.Complex m → IsBelow d c m
    by_kind a i e own m w w_is known_w x at unnamed (NamedKind (reference.Builtin b)) is typed = absurd cc
    by_kind a i e own m w w_is known_w x at unnamed (SimpleKind b) is typed = absurd cc
    by_kind a i e own m w w_is known_w x at unnamed (NamedKind (reference.Other name)) is typed =
        let other = named_other docs h m x at unnamed w (element_stands docs w known_w) name is ((numbers docs).simples.named name) refl in
        let same : has_complex_type m (record {
          name = w.element.name;
          nillable = w.element.nillable;
          kind = simple_or_complex ((numbers docs).simples.named name) (or_zero ((numbers docs).complexes.named name));
        }) ≡ nat_eq m m = ap (λ (t : TypeOf). has_complex_type m (record { name = w.element.name; nillable = w.element.nillable; kind = t })) typed in
        absurd (true≢false (sym (same ∙ eq-eqb m m refl) ∙ other))
    by_kind a i e own m w w_is known_w x at unnamed (ComplexKind b) is typed =
        let kind : e.kind ≡ ComplexKind b = ap (λ (v : WrittenElement). v.element.kind) (sym w_is) ∙ is in
        let file : w.file ≡ d.file = ap (λ (v : WrittenElement). v.file) w_is in
        let y = defined d.file None b in
        let there = complex_of_own d e (item_at d.locals a.0 (Own e) own) b kind in
        let r = complex_number docs h y (in_flat of_document docs d y known there) in
        let number : or_zero ((numbers docs).complexes.placed (place w.file b.at)) ≡ r.0 = ap (λ f. or_zero ((numbers docs).complexes.placed (place f b.at))) file ∙ ap or_zero r.2 in
        let own_number : or_zero ((numbers docs).complexes.placed (place w.file b.at)) ≡ m = cc in
        record {
          leaf = a;
          leaf_there = i;
          element = e;
          own = own;
          body = b;
          has = kind;
          there = ap (slice_get (lists_of docs).complexes) (sym own_number ∙ number) ∙ r.1;
        }

    module _ (file : c.place.file ≡ d.file) (n : ℕ) (at : slice_get (lists_of docs).complexes n ≡ Some c) where
      abbrev Leads : ℕ → ℕ × Name → Type 0
      Leads m a = (length (lists_of docs).globals ≤ a.0) × (element_type (linked_set docs h ts enough) a.0 ≡ Some (type.Complex m))

      by_leaf : (m : ℕ) (x : ComplexDefinition) → slice_get (lists_of docs).complexes m ≡ Some x → x.name ≡ None → (a : ℕ × Name) → HasItem (type_leaves c) a
          → Leads m (renumbered (number_of_declaration (numbers docs) docs c.place.file) a) → IsBelow d c m
      by_leaf m x x_at unnamed a i leads =
          let leaf = leaf_is docs h d known c inside file a i in
          let from = leads.0 in
          let number = leaf.number in
          elim leaf.is.which [
            | inr lt ↦ absurd (omega (arith, from, number, lt))
            | inl own ↦
                let typed : Some (type_of_kind (numbers docs) leaf.written.file leaf.written.element.kind) ≡ Some (type.Complex m) =
                sym (ap (option_map (λ (e : ElementDecl). e.kind)) leaf.there) ∙ leads.1 in
                by_kind a i own.0 (leaf.local_there ∙ ap (λ (l : Local). Some l) own.1) m leaf.written own.2 leaf.is.known x x_at unnamed leaf.written.element.kind refl
                (let one : type_of_kind (numbers docs) leaf.written.file leaf.written.element.kind ≡ type.Complex m = cc in one)
          ]

      pub just_below : (m : ℕ) → IsJustBelow (linked_set docs h ts enough) n m → IsBelow d c m
      just_below m below =
          let x = unnamed_there m below.0 in
          let there = get_mapped (made docs) (lists_of docs).complexes n c at in
          let some = some_there _ (slice_get (sets.complexes (numbers docs) docs (lists_of docs)) n) below.1 in
          let one : made docs c ≡ some.0 = one_at (sets.complexes (numbers docs) docs (lists_of docs)) n (made docs c) some.0 there some.1 in
          let f = number_of_declaration (numbers docs) docs c.place.file in
          let any : Any (Leads m) (linked.leaves_of (made docs c).content) = subst (λ (y : ComplexDef). Any (Leads m) (linked.leaves_of y.content)) (sym one) some.2 in
          let found = any_item (Leads m) (map (renumbered f) (type_leaves c)) (subst (Any (Leads m)) (made_leaves docs f c.body.content) any) in
          let a = of_mapped (renumbered f) (type_leaves c) found.0 found.1 in
          by_leaf m x.0 x.1 x.2 a.0 a.1 (subst (Leads m) (sym a.2) found.2)

    -- it stands behind
    behind : c.place ≡ place d.file c.body.at → (m : ℕ) (b : IsBelow d c m) → is_before c.place (place d.file b.body.at) ≡ true
    behind is m b =
        let k = h.kept d known in
        let leaf = content_leaf d.locals (type_at (type_named (typed_elements docs)) d) c.place.file c.body.at c.body.at c.body.content (complex_inward d k c inside) b.leaf b.leaf_there in
        let at : b.element.at ≡ leaf.at = eqb-true b.element.at leaf.at (sym (ap (has_place leaf.at) b.own) ∙ leaf.declared) in
        let inward : kind_inward d.locals b.element.at (ComplexKind b.body) ≡ true =
        sym (ap (kind_inward d.locals b.element.at) b.has) ∙ element_inward d k b.element (item_at d.locals b.leaf.0 (Own b.element) b.own) in
        let after = leaf.after in
        let last = ltb-true b.element.at b.body.at (and_parts (nat_lt b.element.at b.body.at) (body_inward d.locals b.body) inward).0 in
        ap (λ p. is_before p (place d.file b.body.at)) is ∙ true_before (place d.file c.body.at) (place d.file b.body.at) (inr (refl, omega (arith, at, after, last)))

  -- a complex type of the set, with its document
  complex_at : (n : ℕ) (c : ComplexDefinition) → slice_get (lists_of docs).complexes n ≡ Some c → HasItem (complex_types docs) c
  complex_at n c at = item_of_order complex_before (complex_types docs) c (item_at (lists_of docs).complexes n c at)

  first_there : (n : ℕ) (P : ComplexDef → Type 0) → IsSomeAnd (slice_get (sets.complexes (numbers docs) docs (lists_of docs)) n) P → (c : ComplexDefinition) × (slice_get (lists_of docs).complexes n ≡ Some c)
  first_there n P some =
      let x = some_there P (slice_get (sets.complexes (numbers docs) docs (lists_of docs)) n) some in
      let r = of_get_mapped (made docs) (lists_of docs).complexes n x.0 x.1 in
      (r.0, r.1)

  pub descending : (n m : ℕ) → IsJustBelow (linked_set docs h ts enough) n m → n < m
  descending n m below =
      let c = first_there n _ below.1 in
      let r = of_known docs h c.0 (complex_at n c.0 c.1) in
      let k = r.3 in
      let b = just_below r.0 r.1 c.0 r.2 (ap (λ (p : Place). p.file) k.file) n c.1 m below in
      ordered docs n m c.0 (defined r.0.file None b.body) c.1 b.there (behind r.0 r.1 c.0 r.2 k.file m b)

  -- ---- chains

  module _ (d : Document) (known : HasItem docs d) where
    chained : (ns : List ℕ) (n : ℕ) (c : ComplexDefinition) → HasItem (of_document d) c → slice_get (lists_of docs).complexes n ≡ Some c → IsChain (linked_set docs h ts enough) (n ∷ ns)
        → (bs : List Complex) × (length bs ≡ length ns) × chains.IsChain d.locals (c.body ∷ bs)
    chained [] n c inside at chain = ([], refl, tt)
    chained (m ∷ ns) n c inside at chain =
        let k = complex_kept d (h.kept d known) c inside in
        let b = just_below d known c inside (ap (λ (p : Place). p.file) k.file) n at m chain.0 in
        let own = item_at d.locals b.leaf.0 (Own b.element) b.own in
        let rest = chained ns m (defined d.file None b.body) (complex_of_own d b.element own b.body b.has) b.there chain.1 in
        let long = rest.1 in
        let has : HasComplex d.locals b.body b.leaf.0 = subst (λ o. IsSomeAnd o (λ l. complex_in_local l ≡ Some b.body)) (sym b.own) (ap complex_in_kind b.has) in
        (b.body ∷ rest.0, omega (arith, long), (item_any (λ (leaf : ℕ × Name). HasComplex d.locals b.body leaf.0) (type_leaves c) b.leaf b.leaf_there has, rest.2))

  short_bodies : (d : Document) → AreShort d.elements d.types d.locals → (c : ComplexDefinition) → HasItem (of_document d) c → BeginsShort d.locals c.body
  short_bodies d short c i =
      each_body d (BeginsShort d.locals)
      (λ e j b is. subst (λ o. IfSome o (BeginsShort d.locals)) (ap complex_in_kind is) (item_of_all (λ x. IfSome (complex_in_element x) (BeginsShort d.locals)) d.elements short.elements e j))
      (λ name b j. item_of_all (λ x. IfSome (complex_in_type x) (BeginsShort d.locals)) d.types short.types (ComplexType name b) j)
      (λ e j b is. subst (λ o. IfSome o (BeginsShort d.locals)) (ap complex_in_kind is) (item_of_all (λ x. IfSome (complex_in_local x) (BeginsShort d.locals)) d.locals short.locals (Own e) j))
      c i

  chain_short : (n : ℕ) (ns : List ℕ) (c : ComplexDefinition) → slice_get (lists_of docs).complexes n ≡ Some c → IsChain (linked_set docs h ts enough) (n ∷ ns) → length (n ∷ ns) ≤ 21
  chain_short n ns c at chain =
      let r = of_known docs h c (complex_at n c at) in
      let bs = chained r.0 r.1 ns n c r.2 at chain in
      let same = bs.1 in
      let le : length (c.body ∷ bs.0) ≤ 21 = ∥∥₁_elim (h.kept r.0 r.1).short le_prop (λ short. short_bodies r.0 short c r.2 bs.0 bs.2) in
      omega (arith, same, le)

  pub short : (ns : List ℕ) → IsChain (linked_set docs h ts enough) ns → length ns ≤ 21
  short [] chain = omega arith
  short (n ∷ []) chain = omega arith
  short (n ∷ m ∷ ns) chain = let c = first_there n _ chain.0.1 in chain_short n (m ∷ ns) c.0 c.1 chain
