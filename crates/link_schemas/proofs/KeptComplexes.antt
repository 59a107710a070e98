-- What complex types of documents without a fault keep: their places, their attribute uses.
use Rattle.std.proofs.Common.{◌≡◌, ℕ, ◌+◌, ◌≤◌, arith, Bool, true, inl, inr, List, [], ◌∷◌, ◌++◌, length, refl, sym, ap, subst}
use Rattle.std.specs.Prelude.{nat_eq}
use Rattle.std.specs.List.{flat_map, count_by}
use Rattle.std.proofs.lemmas.Bool.{and_parts, eqb-true, eq-eqb}
use Rattle.base_texts.specs.declared.texts.Name.{Name}
use Rattle.base_texts.specs.Lists.{HasItem}
use Rattle.base_texts.specs.Names.{name_eq}
use Rattle.schema_components.specs.Declarable.{is_declarable}
use Rattle.schema_components.specs.DeclaredNames.{uses_named, kind_named, local_named, type_named}
use Rattle.schema_components.specs.Places.{places_in_type, places_in_use, places_in_content, places_in_complex, places_in_kind, places_in_element, places_in_local, places_in_attribute, places_in_definition}
use Rattle.schema_components.specs.Raw.{Use, Kind, NamedKind, SimpleKind, ComplexKind, Element, Local, Reference, Own, TypeDefinition, SimpleType, ComplexType, Document}
use Rattle.schema_components.specs.TypedUses.{AreTypedUses, InKind, InLocal, InType, InElements, InTypes, InLocals}
use Rattle.schema_components.proofs.Placed.{one_place_once}
use Rattle.link_names.specs.Globals.{GlobalComponent}
use Rattle.link_names.specs.declared.faults.LinkWhy.TheVariants.{DuplicateUse}
use Rattle.link_names.specs.declared.places.Place.{Place}
use Rattle.link_names.specs.Order.{place}
use Rattle.link_complex.specs.ComplexTypes.{ComplexDefinition, of_document, complex_types}
use Rattle.link_complex.specs.Uses.{use_part, uses_of_type, double_uses_of}
use Rattle.link_schemas.proofs.DeclaredParts.{element_fits, type_fits, local_fits}
use Rattle.link_schemas.proofs.FewComponents.{each_complex, places_few}
use Rattle.link_schemas.proofs.GlobalLists.{by_kind_of, of_definition, of_local, complexes_listed}
use Rattle.link_schemas.proofs.Items.{in_flat, of_flat, count_all, count_joined, count_more, count_of_part, count_mapped, one_of_sum}
use Rattle.link_schemas.proofs.Kept.{Keeps, AreFaultless}
use Rattle.link_schemas.proofs.OnceNamed.{named_once, none_repeated}
use Rattle.link_schemas.proofs.OncePlaced.{ArePlacedOnce, is_at, count_less, of_documents_once}
use Rattle.link_schemas.proofs.PlacesOfParts.{all_places, types_by_places}

-- ---- each complex type has its parts' places among those of the document, its name and its uses

pub record IsKept (d : Document) (c : ComplexDefinition) : Type 0 where
  pub file : c.place ≡ place d.file c.body.at
  pub within : (test : ℕ → Bool) → count_by test (places_in_complex c.body) ≤ count_by test (all_places d)
  pub named : uses_named c.body.uses ≡ true
  pub typed : AreTypedUses c.body.uses

in_elements : (es : List Element) → InElements es → (e : Element) → HasItem es e → InKind e.kind
in_elements [] h e i = absurd i
in_elements (x ∷ xs) h e (inl same) = subst (λ (y : Element). InKind y.kind) same h.0
in_elements (x ∷ xs) h e (inr i) = in_elements xs h.1 e i

in_types : (ts : List TypeDefinition) → InTypes ts → (t : TypeDefinition) → HasItem ts t → InType t
in_types [] h t i = absurd i
in_types (x ∷ xs) h t (inl same) = subst InType same h.0
in_types (x ∷ xs) h t (inr i) = in_types xs h.1 t i

in_locals : (ls : List Local) → InLocals ls → (l : Local) → HasItem ls l → InLocal l
in_locals [] h l i = absurd i
in_locals (x ∷ xs) h l (inl same) = subst InLocal same h.0
in_locals (x ∷ xs) h l (inr i) = in_locals xs h.1 l i

module _ (d : Document) where
  abbrev Inside : List ℕ → Type 0
  Inside ps = (test : ℕ → Bool) → count_by test ps ≤ count_by test (all_places d)

  parted : (test : ℕ → Bool) → count_by test (all_places d)
      ≡ count_by test (flat_map places_in_element d.elements)
      + (count_by test (flat_map places_in_attribute d.attributes) + (count_by test (flat_map places_in_definition d.types) + count_by test (flat_map places_in_local d.locals)))
  parted test =
      let es = flat_map places_in_element d.elements in
      let as_ = flat_map places_in_attribute d.attributes in
      let ts = flat_map places_in_definition d.types in
      let ls = flat_map places_in_local d.locals in
      let a = count_joined test es (as_ ++ (ts ++ ls)) in
      let b = count_joined test as_ (ts ++ ls) in
      let c = count_joined test ts ls in
      omega (arith, a, b, c)

  element_inside : (e : Element) → HasItem d.elements e → Inside (places_in_element e)
  element_inside e h test =
      let a = parted test in
      let b = count_of_part test places_in_element d.elements e h in
      omega (arith, a, b)

  definition_inside : (t : TypeDefinition) → HasItem d.types t → Inside (places_in_definition t)
  definition_inside t h test =
      let a = parted test in
      let b = count_of_part test places_in_definition d.types t h in
      omega (arith, a, b)

  local_inside : (l : Local) → HasItem d.locals l → Inside (places_in_local l)
  local_inside l h test =
      let a = parted test in
      let b = count_of_part test places_in_local d.locals l h in
      omega (arith, a, b)

  kind_kept : (at : ℕ) (k : Kind) → Inside (at ∷ places_in_kind k) → kind_named k ≡ true → InKind k → (c : ComplexDefinition) → HasItem (by_kind_of d.file k) c → IsKept d c
  kind_kept at (NamedKind r) inside named typed c h = absurd h
  kind_kept at (SimpleKind s) inside named typed c h = absurd h
  kind_kept at (ComplexKind b) inside named typed c (inl same) = subst (IsKept d) same (record {
    file = refl;
    within = λ test. let more = count_more test at (places_in_complex b) in let less = inside test in omega (arith, more, less);
    named = named;
    typed = typed;
  })
  kind_kept at (ComplexKind b) inside named typed c (inr none) = absurd none

  type_kept : (t : TypeDefinition) → Inside (places_in_definition t) → type_named t ≡ true → InType t → (c : ComplexDefinition) → HasItem (of_definition d.file t) c → IsKept d c
  type_kept (SimpleType name s) inside named typed c h = absurd h
  type_kept (ComplexType name b) inside named typed c (inl same) = subst (IsKept d) same (record {
    file = refl;
    within = inside;
    named = (and_parts (is_declarable name) (uses_named b.uses) named).1;
    typed = typed;
  })
  type_kept (ComplexType name b) inside named typed c (inr none) = absurd none

  local_kept : (l : Local) → Inside (places_in_local l) → local_named l ≡ true → InLocal l → (c : ComplexDefinition) → HasItem (of_local d.file l) c → IsKept d c
  local_kept (Reference name at) inside named typed c h = absurd h
  local_kept (Own e) inside named typed c h = kind_kept e.at e.kind inside (and_parts (is_declarable e.name) (kind_named e.kind) named).1 typed c h

  pub complex_kept : Keeps d → (c : ComplexDefinition) → HasItem (of_document d) c → IsKept d c
  complex_kept k c h =
      each_complex d (IsKept d) (
        (λ e i x j.
            kind_kept e.at e.kind (element_inside e i) (and_parts (is_declarable e.name) (kind_named e.kind) (element_fits d k e i)).1
            (in_elements d.elements k.typed_uses.0 e i) x j),
        (λ t i x j. type_kept t (definition_inside t i) (type_fits d k t i) (in_types d.types k.typed_uses.1 t i) x j),
        (λ l i x j. local_kept l (local_inside l i) (local_fits d k l i) (in_locals d.locals k.typed_uses.2 l i) x j),
      )
      c (subst (λ cs. HasItem cs c) (complexes_listed d) h)

-- ---- over all documents

module _ (docs : List Document) (h : AreFaultless docs) where
  pub of_known : (c : ComplexDefinition) → HasItem (complex_types docs) c → (d : Document) × HasItem docs d × HasItem (of_document d) c × IsKept d c
  of_known c i = let r = of_flat of_document docs c i in (r.0, r.1, r.2, complex_kept r.0 (h.kept r.0 r.1) c r.2)

  place_once : (d : Document) → HasItem docs d → (n : ℕ) → count_by (nat_eq n) (all_places d) ≤ 1
  place_once d i n = let k = h.kept d i in one_place_once (all_places d) d.counted k.ascending k.all_counted n

  pub complexes_placed : ArePlacedOnce (λ (c : ComplexDefinition). c.place) (complex_types docs)
  complexes_placed =
      of_documents_once (λ (c : ComplexDefinition). c.place) of_document docs h.numbered
      (λ d i c j. let k = complex_kept d (h.kept d i) c j in ap (λ (p : Place). p.file) k.file)
      (λ d i n. let types = types_by_places (nat_eq n) d in let once = place_once d i n in omega (arith, types, once))

  -- no more places in a complex type than in all documents
  pub places_of_complex : (c : ComplexDefinition) → HasItem (complex_types docs) c → length (places_in_complex c.body) ≤ 10000
  places_of_complex c i =
      let r = of_known c i in
      let k = r.3 in
      let inside = k.within (λ n. true) in
      let a = count_all (places_in_complex c.body) in
      let b = count_all (all_places r.0) in
      let part = one_of_sum (λ (d : Document). length (all_places d)) docs r.0 r.1 in
      let few = places_few docs h in
      omega (arith, inside, a, b, part, few)

  uses_placed : (c : ComplexDefinition) → HasItem (complex_types docs) c → (n : ℕ) → count_by (λ (u : Use). nat_eq n u.at) c.body.uses ≤ 1
  uses_placed c i n =
      let r = of_known c i in
      let k = r.3 in
      let inside = k.within (nat_eq n) in
      let once = place_once r.0 r.1 n in
      let more = count_more (nat_eq n) c.body.at (places_in_content c.body.content ++ flat_map places_in_use c.body.uses) in
      let joined = count_joined (nat_eq n) (places_in_content c.body.content) (flat_map places_in_use c.body.uses) in
      let each = each_use (nat_eq n) c.body.uses in
      omega (arith, inside, once, more, joined, each)
    where
      each_use : (test : ℕ → Bool) (us : List Use) → count_by (λ (u : Use). test u.at) us ≤ count_by test (flat_map places_in_use us)
      each_use test [] = omega arith
      each_use test (u ∷ us) =
          let a = count_more (λ (v : Use). test v.at) u us in
          let b = count_joined test (places_in_use u) (flat_map places_in_use us) in
          let e = count_more test u.at (places_in_type u.kind) in
          let rest = each_use test us in
          omega (arith, a, b, e, rest)

  pub few_uses : (c : ComplexDefinition) → HasItem (complex_types docs) c → length c.body.uses ≤ 10000
  few_uses c i =
      let few = places_of_complex c i in
      let all = count_all (places_in_complex c.body) in
      let more = count_more (λ n. true) c.body.at (places_in_content c.body.content ++ flat_map places_in_use c.body.uses) in
      let joined = count_joined (λ n. true) (places_in_content c.body.content) (flat_map places_in_use c.body.uses) in
      let each = each_use c.body.uses in
      omega (arith, few, all, more, joined, each)
    where
      each_use : (us : List Use) → length us ≤ count_by (λ n. true) (flat_map places_in_use us)
      each_use [] = omega arith
      each_use (u ∷ us) =
          let b = count_joined (λ n. true) (places_in_use u) (flat_map places_in_use us) in
          let e = count_more (λ n. true) u.at (places_in_type u.kind) in
          let rest = each_use us in
          omega (arith, b, e, rest)

  -- no two attribute uses of a complex type have one name
  pub use_once : (c : ComplexDefinition) → HasItem (complex_types docs) c → (a : Name) → count_by (λ (u : Use). name_eq a u.name) c.body.uses ≤ 1
  use_once c i a =
      let gs = uses_of_type c in
      let once = named_once gs (none_repeated DuplicateUse gs (λ f j. h.uses f (in_flat double_uses_of (complex_types docs) c f i j)))
      (λ p.
      let same = count_mapped (λ (g : GlobalComponent). is_at p g.place) (use_part c.place.file) c.body.uses in
      let less = at_less p c.place.file c.body.uses in
      let most = uses_placed c i p.at in
      omega (arith, same, less, most)) a in
      let same = count_mapped (λ (g : GlobalComponent). name_eq a g.name) (use_part c.place.file) c.body.uses in
      omega (arith, once, same)
    where
      at_less : (p : Place) (file : ℕ) (us : List Use) → count_by (λ (u : Use). is_at p (place file u.at)) us ≤ count_by (λ (u : Use). nat_eq p.at u.at) us
      at_less p file us =
          count_less (λ (u : Use). is_at p (place file u.at)) (λ (u : Use). nat_eq p.at u.at) us
          (λ u is. let two = and_parts (nat_eq file p.file) (nat_eq u.at p.at) is in eq-eqb p.at u.at (sym (eqb-true u.at p.at two.1)))
