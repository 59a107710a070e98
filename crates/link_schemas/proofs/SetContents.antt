-- The complex types of the set of documents without a fault.
use Rattle.std.proofs.Common.{◌≡◌, ℕ, ◌+◌, ◌≤◌, arith, true, ◌⊎◌, inl, inr, List, [], ◌∷◌, ◌++◌, length, map, All, Some, None, refl, sym, ap, ◌∙◌, subst, length-append}
use Rattle.std.specs.Prelude.{nat_eq, nat_le, slice_get, IsSomeAnd, IfSome}
use Rattle.std.specs.List.{flat_map, count_by}
use Rattle.std.specs.Option.{option_map}
use Rattle.std.proofs.lemmas.Bool.{and_parts, eq-eqb, leb-true}
use Rattle.std.proofs.lemmas.List.{length-map}
use Rattle.base_texts.specs.declared.texts.Name.{Name}
use Rattle.base_texts.specs.Lists.{HasItem}
use Rattle.base_texts.proofs.Lists.{has_left, has_right}
use Rattle.base_trees.specs.Rose.{Rose, node, height, Allowed}
use Rattle.base_trees.specs.Rose as rose
use Rattle.content_models.specs.Kids.{MayHave}
use Rattle.content_models.specs.Seen.{seen}
use Rattle.content_models.specs.declared.particles.ParticleKind.{ParticleKind}
use Rattle.content_models.specs.declared.particles.ParticleKind.TheVariants as particle
use Rattle.content_models.specs.declared.particles.ParticleLabel.{ParticleLabel}
use Rattle.schema_components.specs.Bounds.{fits, all_allow_one, content_fits}
use Rattle.schema_components.specs.Chains.{leaves_of_content}
use Rattle.schema_components.specs.Coherent.{leaves_in}
use Rattle.schema_components.specs.Coherent as coherent
use Rattle.schema_components.specs.Components as parts_of_set
use Rattle.schema_components.specs.Components.{Set, components, element_type}
use Rattle.schema_components.specs.Linked.{leaves, leaves_of_model, IsNamed, IsModel, IsContent, IsUse, MayBeFor}
use Rattle.schema_components.specs.Places.{group_place, places_in_model, places_in_mixed, places_in_content, places_in_use, places_in_local, places_in_element, places_in_attribute, places_in_definition}
use Rattle.schema_components.specs.Raw.{Simple, Complex, Kind, NamedKind, SimpleKind, ComplexKind, Local, Reference, Own, Document}
use Rattle.schema_components.specs.declared.components.AttributeUse.{AttributeUse}
use Rattle.schema_components.specs.declared.components.ComplexDef.{ComplexDef}
use Rattle.schema_components.specs.declared.components.ElementDecl.{ElementDecl}
use Rattle.schema_components.specs.declared.components.SimpleDef.{SimpleDef}
use Rattle.schema_components.specs.declared.components.TypeOf.{TypeOf}
use Rattle.schema_components.specs.declared.components.TypeOf.TheVariants as type
use Rattle.schema_components.specs.declared.declarations.RawContent.{RawContent}
use Rattle.schema_components.specs.declared.declarations.RawContent.TheVariants as content
use Rattle.schema_components.specs.declared.simple_definitions.RawRef.TheVariants as reference
use Rattle.link_names.specs.Parts as what
use Rattle.link_names.specs.Parts.{Part, part, in_kind, in_element, in_attribute, in_definition, in_local, in_document}
use Rattle.link_names.specs.declared.places.Place.{Place}
use Rattle.link_names.specs.Order.{place}
use Rattle.link_names.specs.SimpleTypes as simple
use Rattle.link_names.specs.SimpleTypes.{SimpleDefinition}
use Rattle.link_complex.specs.ComplexTypes as complex
use Rattle.link_complex.specs.ComplexTypes.{ComplexDefinition, defined, of_document, complex_types, model_of}
use Rattle.link_complex.specs.ElementTypes.{identity, type_named, typed_elements, type_at, type_of_found}
use Rattle.link_set.specs.Sets as sets
use Rattle.link_set.specs.Sets.{or_zero, element, named_attribute, type_of_kind, numbered, number_of_local, number_of_found, number_of_declaration, content_of}
use Rattle.link_set.specs.Written.{WrittenElement, written_element, declared_by, global_elements, local_elements, lists_of, complex_before}
use Rattle.schema_components.proofs.Placed.{one_place_once}
use Rattle.link_schemas.proofs.DeclaredNumbers.{by_file, IsDeclared, declared, number_same}
use Rattle.link_schemas.proofs.FewComponents.{places_few}
use Rattle.link_schemas.proofs.InOrder.{item_of_order}
use Rattle.link_schemas.proofs.Items.{in_flat, of_flat, in_mapped, of_mapped, each_item, item_of_all, one_at, item_at, some_count, count_all, count_of_part, one_of_sum}
use Rattle.link_schemas.proofs.Joined.{IsJoinedType}
use Rattle.link_schemas.proofs.Kept.{AreFaultless}
use Rattle.link_schemas.proofs.KeptComplexes.{of_known, places_of_complex}
use Rattle.link_schemas.proofs.NumberedModels.{leaves_numbered, height_numbered, bounds_numbered, places_numbered, renumbered, model_size, may_occur}
use Rattle.link_schemas.proofs.PlacesOfParts.{all_places, types_by_places}
use Rattle.link_schemas.proofs.SetModels.{once, type_leaves, document_leaves, leaf_declared, complex_fits, model_clear, same_type}
use Rattle.link_schemas.proofs.SetNames.{complexes_named}
use Rattle.link_schemas.proofs.SetUses.{each_use_good, use_fits, uses_few, uses_ascend, text_good}
use Rattle.link_schemas.proofs.TypedNumbers.{numbers, simple_count}

-- ---- types in place

-- an element stands in a document, and so does its type
abbrev pub StandsIn : List Document → WrittenElement → Type 0
StandsIn docs w =
    (d : Document) × HasItem docs d × (w.file ≡ d.file) × ((q : Part) → HasItem (in_kind d.file w.element.at w.element.kind) q → HasItem (in_document d) q)

module _ (docs : List Document) where
  global_stands : (w : WrittenElement) → HasItem (global_elements docs) w → StandsIn docs w
  global_stands w i =
      let r = of_flat (λ (d : Document). map (written_element d.file) d.elements) docs w i in
      let d = r.0 in
      let e = of_mapped (written_element d.file) d.elements w r.2 in
      let es = flat_map (in_element d.file) d.elements in
      let rest = flat_map (in_attribute d.file) d.attributes ++ flat_map (in_definition d.file) d.types in
      subst (StandsIn docs) e.2 (
        d,
        r.1,
        refl,
        λ q j. has_left (es ++ rest) (flat_map (in_local d.file) d.locals) q (has_left es rest q (in_flat (in_element d.file) d.elements e.0 q e.1 (inr j))),
      )

  local_stands_in : (d : Document) → HasItem docs d → (l : Local) → HasItem d.locals l → (w : WrittenElement) → HasItem (declared_by d.file l) w → StandsIn docs w
  local_stands_in d i (Reference name at) j w k = absurd k
  local_stands_in d i (Own e) j w (inr none) = absurd none
  local_stands_in d i (Own e) j w (inl same) =
      let before = flat_map (in_element d.file) d.elements ++ (flat_map (in_attribute d.file) d.attributes ++ flat_map (in_definition d.file) d.types) in
      subst (StandsIn docs) same (d, i, refl, λ q k. has_right before (flat_map (in_local d.file) d.locals) q (in_flat (in_local d.file) d.locals (Own e) q j (inr k)))

  pub element_stands : (w : WrittenElement) → HasItem (global_elements docs) w ⊎ HasItem (local_elements docs) w → StandsIn docs w
  element_stands w (inl i) = global_stands w i
  element_stands w (inr i) =
      let r = of_flat (λ (d : Document). flat_map (declared_by d.file) d.locals) docs w i in
      let l = of_flat (declared_by r.0.file) r.0.locals w r.2 in
      local_stands_in r.0 r.1 l.0 l.1 w l.2

module _ (docs : List Document) (h : AreFaultless docs) where
  pub one_document : (d e : Document) → HasItem docs d → HasItem docs e → d.file ≡ e.file → d ≡ e
  one_document d e i j same =
      let a = by_file 0 docs h.numbered d i in
      let b = by_file 0 docs h.numbered e j in
      let x = a.2 in
      let y = b.2 in
      let number : a.0 ≡ b.0 = omega (arith, x, y, same) in
      one_at docs b.0 d e (ap (slice_get docs) (sym number) ∙ a.1) b.1

  -- no simple type stands at the place of a complex one
  both_in_place : (w v : WrittenElement) → StandsIn docs w → StandsIn docs v → (s : Simple) (b : Complex) → w.element.kind ≡ SimpleKind s → v.element.kind ≡ ComplexKind b
      → place w.file s.at ≡ place v.file b.at → ⊥
  both_in_place w v p q s b simple_kind complex_kind same =
      let d = p.0 in
      let file : d.file ≡ q.0.file = sym p.2 ∙ ap (λ (x : Place). x.file) same ∙ q.2 in
      let is = one_document d q.0 p.1 q.1 file in
      let at : s.at ≡ b.at = ap (λ (x : Place). x.at) same in
      let one = part d.file (Some w.element.at) s.at (what.SimpleDefinition None s) in
      let other = part q.0.file (Some v.element.at) b.at (what.ComplexDefinition None b) in
      let sd = simple.defined None (place d.file s.at) (place d.file s.body_at) s.how in
      let cd = defined q.0.file None b in
      let one_there = p.3 one (subst (λ k. HasItem (in_kind d.file w.element.at k) one) (sym simple_kind) (inl refl)) in
      let other_there = q.3 other (subst (λ k. HasItem (in_kind q.0.file v.element.at k) other) (sym complex_kind) (inl refl)) in
      let complexes = subst (λ (x : Document). HasItem (of_document x) cd) (sym is) (in_flat complex.of_part (in_document q.0) other cd other_there (inl refl)) in
      let x = some_count (λ (y : SimpleDefinition). nat_eq s.at y.place.at) (flat_map simple.of_part (in_document d)) sd
      (in_flat simple.of_part (in_document d) one sd one_there (inl refl)) (eq-eqb s.at s.at refl) in
      let y = some_count (λ (z : ComplexDefinition). nat_eq s.at z.place.at) (of_document d) cd complexes (eq-eqb s.at b.at at) in
      let both = types_by_places (nat_eq s.at) d in
      let k = h.kept d p.1 in
      let once_there = one_place_once (all_places d) d.counted k.ascending k.all_counted s.at in
      omega (arith, x, y, both, once_there)

  -- one type, one number
  same_kinds : (w v : WrittenElement) → StandsIn docs w → StandsIn docs v → (k l : Kind) → w.element.kind ≡ k → v.element.kind ≡ l → identity w.file k ≡ identity v.file l
      → type_of_kind (numbers docs) w.file k ≡ type_of_kind (numbers docs) v.file l
  same_kinds w v p q (NamedKind (reference.Builtin a)) (NamedKind (reference.Builtin b)) e f same = ap (λ x. type_of_kind (numbers docs) w.file (NamedKind (reference.Builtin x))) (let is : a ≡ b = cc in is)
  same_kinds w v p q (NamedKind (reference.Builtin a)) (NamedKind (reference.Other b)) e f same = absurd cc
  same_kinds w v p q (NamedKind (reference.Builtin a)) (SimpleKind t) e f same = absurd cc
  same_kinds w v p q (NamedKind (reference.Builtin a)) (ComplexKind t) e f same = absurd cc
  same_kinds w v p q (NamedKind (reference.Other a)) (NamedKind (reference.Builtin b)) e f same = absurd cc
  same_kinds w v p q (NamedKind (reference.Other a)) (NamedKind (reference.Other b)) e f same = ap (λ x. type_of_kind (numbers docs) w.file (NamedKind (reference.Other x))) (let is : a ≡ b = cc in is)
  same_kinds w v p q (NamedKind (reference.Other a)) (SimpleKind t) e f same = absurd cc
  same_kinds w v p q (NamedKind (reference.Other a)) (ComplexKind t) e f same = absurd cc
  same_kinds w v p q (SimpleKind s) (NamedKind (reference.Builtin b)) e f same = absurd cc
  same_kinds w v p q (SimpleKind s) (NamedKind (reference.Other b)) e f same = absurd cc
  same_kinds w v p q (SimpleKind s) (SimpleKind t) e f same =
      let is : place w.file s.at ≡ place v.file t.at = cc in ap (λ x. type.Simple (or_zero ((numbers docs).simples.placed x))) is
  same_kinds w v p q (SimpleKind s) (ComplexKind t) e f same = absurd (both_in_place w v p q s t e f (let is : place w.file s.at ≡ place v.file t.at = cc in is))
  same_kinds w v p q (ComplexKind s) (NamedKind (reference.Builtin b)) e f same = absurd cc
  same_kinds w v p q (ComplexKind s) (NamedKind (reference.Other b)) e f same = absurd cc
  same_kinds w v p q (ComplexKind s) (SimpleKind t) e f same = absurd (both_in_place v w q p t s f e (let is : place v.file t.at ≡ place w.file s.at = cc in is))
  same_kinds w v p q (ComplexKind s) (ComplexKind t) e f same =
      let is : place w.file s.at ≡ place v.file t.at = cc in ap (λ x. type.Complex (or_zero ((numbers docs).complexes.placed x))) is

-- ---- element particles in the set

module _ (docs : List Document) (h : AreFaultless docs) where
  -- the declaration that a particle of the content model of a complex type names
  pub record LeafIs (d : Document) (c : ComplexDefinition) (a : ℕ × Name) : Type 0 where
    pub local : Local
    pub local_there : slice_get d.locals a.0 ≡ Some local
    pub written : WrittenElement
    pub is : IsDeclared docs h d.file local written
    pub number : number_of_declaration (numbers docs) docs c.place.file a.0 ≡ number_of_local (numbers docs) d.file local
    pub there : slice_get (sets.elements (numbers docs) (lists_of docs)) (number_of_declaration (numbers docs) docs c.place.file a.0) ≡ Some (element (numbers docs) written)
    pub name : written.element.name ≡ a.1
    pub typed : type_at (type_named (typed_elements docs)) d a.0 ≡ Some (identity written.file written.element.kind)

  pub leaf_is : (d : Document) → HasItem docs d → (c : ComplexDefinition) → HasItem (of_document d) c → c.place.file ≡ d.file → (a : ℕ × Name) → HasItem (type_leaves c) a → LeafIs d c a
  leaf_is d i c j file a leaf =
      let k = h.kept d i in
      let l = leaf_declared d k c j a leaf in
      let w = declared docs h d i l.0 (item_at d.locals a.0 l.0 l.1) in
      let number : number_of_declaration (numbers docs) docs c.place.file a.0 ≡ number_of_local (numbers docs) d.file l.0 =
      ap (λ f. number_of_declaration (numbers docs) docs f a.0) file ∙ number_same docs h d i a.0 ∙ ap (number_of_found (numbers docs) d.file) l.1 in
      record {
        local = l.0;
        local_there = l.1;
        written = w.0;
        is = w.1;
        number = number;
        there = ap (slice_get (sets.elements (numbers docs) (lists_of docs))) number ∙ w.1.there;
        name = w.1.name ∙ l.2;
        typed = ap (type_of_found (type_named (typed_elements docs)) d.file) l.1 ∙ w.1.typed;
      }

-- ---- sizes

mixed_size : (m : Rose ParticleLabel) → length (places_in_model m) ≤ length (places_in_mixed m) + 1
mixed_size (node l rose.none) = kind_one l.kind refl
  where
    kind_one : (k : ParticleKind) → l.kind ≡ k → length (group_place l ++ []) ≤ 1
    kind_one (particle.Element decl name) e =
        let b : length {A = ℕ} (group_place l ++ []) ≡ 0 = ap (λ x. length {A = ℕ} (elim x [ particle.Element c d ↦ [] | particle.Sequence ↦ l.at ∷ [] | particle.Choice ↦ l.at ∷ [] | particle.All ↦ l.at ∷ [] ] ++ [])) e in
        omega (arith, b)
    kind_one particle.Sequence e =
        let b : length {A = ℕ} (group_place l ++ []) ≡ 1 = ap (λ x. length {A = ℕ} (elim x [ particle.Element c d ↦ [] | particle.Sequence ↦ l.at ∷ [] | particle.Choice ↦ l.at ∷ [] | particle.All ↦ l.at ∷ [] ] ++ [])) e in
        omega (arith, b)
    kind_one particle.Choice e =
        let b : length {A = ℕ} (group_place l ++ []) ≡ 1 = ap (λ x. length {A = ℕ} (elim x [ particle.Element c d ↦ [] | particle.Sequence ↦ l.at ∷ [] | particle.Choice ↦ l.at ∷ [] | particle.All ↦ l.at ∷ [] ] ++ [])) e in
        omega (arith, b)
    kind_one particle.All e =
        let b : length {A = ℕ} (group_place l ++ []) ≡ 1 = ap (λ x. length {A = ℕ} (elim x [ particle.Element c d ↦ [] | particle.Sequence ↦ l.at ∷ [] | particle.Choice ↦ l.at ∷ [] | particle.All ↦ l.at ∷ [] ] ++ [])) e in
        omega (arith, b)
mixed_size (node l (rose.more t ts)) = omega arith

content_size : (c : RawContent) (m : Rose ParticleLabel) → model_of c ≡ Some m → length (places_in_model m) ≤ length (places_in_content c) + 1
content_size content.Empty m e = absurd cc
content_size (content.Simple base at) m e = absurd cc
content_size (content.ElementOnly n) m e = let same : length (places_in_model n) ≡ length (places_in_model m) = ap (λ t. length (places_in_model t)) (let is : n ≡ m = cc in is) in omega (arith, same)
content_size (content.Mixed n) m e =
    let same : length (places_in_model n) ≡ length (places_in_model m) = ap (λ t. length (places_in_model t)) (let is : n ≡ m = cc in is) in
    let less = mixed_size n in
    omega (arith, same, less)

content_leaves : (c : RawContent) (m : Rose ParticleLabel) → model_of c ≡ Some m → leaves_of_content c ≡ leaves_of_model m
content_leaves content.Empty m e = absurd cc
content_leaves (content.Simple base at) m e = absurd cc
content_leaves (content.ElementOnly n) m e = ap leaves_of_model (let is : n ≡ m = cc in is)
content_leaves (content.Mixed n) m e = ap leaves_of_model (let is : n ≡ m = cc in is)

content_fitting : (c : RawContent) (m : Rose ParticleLabel) → model_of c ≡ Some m → content_fits c ≡ true → fits m ≡ true
content_fitting content.Empty m e is = absurd cc
content_fitting (content.Simple base at) m e is = absurd cc
content_fitting (content.ElementOnly n) m e is = ap fits (let same : m ≡ n = cc in same) ∙ is
content_fitting (content.Mixed n) m e is = ap fits (let same : m ≡ n = cc in same) ∙ is

numbered_length : (n : ℕ) (ls : List Local) → length (coherent.numbered n ls) ≡ length ls
numbered_length n [] = refl
numbered_length n (l ∷ ls) = let rest = numbered_length (n + 1) ls in omega (arith, rest)

each_local : (ls : List Local) → length ls ≤ length (flat_map places_in_local ls)
each_local [] = omega arith
each_local (Reference name at ∷ ls) = let rest = each_local ls in omega (arith, rest)
each_local (Own e ∷ ls) =
    let a = length-append (places_in_local (Own e)) (flat_map places_in_local ls) in
    let rest = each_local ls in
    omega (arith, a, rest)

module _ (docs : List Document) (h : AreFaultless docs) (ts : List SimpleDef) (enough : length ts ≡ simple_count docs) where
  abbrev pub linked_set : Set
  linked_set =
      components (sets.elements (numbers docs) (lists_of docs)) (length (lists_of docs).globals) ts (sets.complexes (numbers docs) docs (lists_of docs))
      (sets.attributes (numbers docs) (lists_of docs).attributes)

  module _ (c : ComplexDefinition) (known : HasItem (complex_types docs) c) where
    leaves_few : length (type_leaves c) ≤ 10000
    leaves_few =
        let r = of_known docs h c known in
        let d = r.0 in
        let a = count_all (type_leaves c) in
        let b = count_of_part (λ (x : ℕ × Name). true) type_leaves (of_document d) c r.2 in
        let e : count_by (λ (x : ℕ × Name). true) (leaves_in d) ≡ count_by (λ (x : ℕ × Name). true) (flat_map type_leaves (of_document d)) = ap (count_by (λ (x : ℕ × Name). true)) (document_leaves d) in
        let f = once d (h.kept d r.1) (λ (x : ℕ × Name). true) in
        let g = count_all (coherent.numbered 0 d.locals) in
        let i = numbered_length 0 d.locals in
        let j = each_local d.locals in
        let es = flat_map places_in_element d.elements in
        let as_ = flat_map places_in_attribute d.attributes in
        let ds = flat_map places_in_definition d.types in
        let ls = flat_map places_in_local d.locals in
        let k = length-append es (as_ ++ (ds ++ ls)) in
        let l = length-append as_ (ds ++ ls) in
        let m = length-append ds ls in
        let n = one_of_sum (λ (x : Document). length (all_places x)) docs d r.1 in
        let few = places_few docs h in
        omega (arith, a, b, e, f, g, i, j, k, l, m, n, few)

    content_few : length (places_in_content c.body.content) ≤ 10000
    content_few =
        let few = places_of_complex docs h c known in
        let a = length-append (places_in_content c.body.content) (flat_map places_in_use c.body.uses) in
        omega (arith, few, a)

    module _ (m : Rose ParticleLabel) (is : model_of c.body.content ≡ Some m) where
      of_leaf : (x : ℕ × Name) → HasItem (leaves_of_model (numbered (number_of_declaration (numbers docs) docs c.place.file) m)) x
          → (a : ℕ × Name) × HasItem (type_leaves c) a × (renumbered (number_of_declaration (numbers docs) docs c.place.file) a ≡ x)
      of_leaf x i =
          let f = number_of_declaration (numbers docs) docs c.place.file in
          let r = of_mapped (renumbered f) (leaves (seen m)) x (subst (λ xs. HasItem xs x) (leaves_numbered f m) i) in
          (r.0, subst (λ xs. HasItem xs r.0) (sym (content_leaves c.body.content m is)) r.1, r.2)

      the_leaf : (a : ℕ × Name) → HasItem (type_leaves c) a → LeafIs docs h (of_known docs h c known).0 c a
      the_leaf a i =
          let r = of_known docs h c known in
          leaf_is docs h r.0 r.1 c r.2 (ap (λ (p : Place). p.file) r.3.file) a i

      leaf_named : (a : ℕ × Name) → HasItem (type_leaves c) a → IsNamed linked_set (renumbered (number_of_declaration (numbers docs) docs c.place.file) a)
      leaf_named a i = let leaf = the_leaf a i in subst (λ o. IsSomeAnd o (λ (e : ElementDecl). e.name ≡ a.1)) (sym leaf.there) leaf.name

      leaf_type : (a : ℕ × Name) (i : HasItem (type_leaves c) a) → element_type linked_set (number_of_declaration (numbers docs) docs c.place.file a.0)
          ≡ Some (type_of_kind (numbers docs) (the_leaf a i).written.file (the_leaf a i).written.element.kind)
      leaf_type a i = ap (option_map (λ (e : ElementDecl). e.kind)) (the_leaf a i).there

      leaves_agree : (a b : ℕ × Name) → HasItem (type_leaves c) a → HasItem (type_leaves c) b → a.1 ≡ b.1
          → element_type linked_set (number_of_declaration (numbers docs) docs c.place.file a.0) ≡ element_type linked_set (number_of_declaration (numbers docs) docs c.place.file b.0)
      leaves_agree a b i j name =
          let r = of_known docs h c known in
          let x = the_leaf a i in
          let y = the_leaf b j in
          let types = same_type docs h r.0 r.1 c r.2 a b i j name in
          let both : Some (identity x.written.file x.written.element.kind) ≡ Some (identity y.written.file y.written.element.kind) = sym x.typed ∙ types ∙ y.typed in
          let one : identity x.written.file x.written.element.kind ≡ identity y.written.file y.written.element.kind = cc in
          leaf_type a i
          ∙ ap (λ (t : TypeOf). Some t)
          (same_kinds docs h x.written y.written (element_stands docs x.written x.is.known) (element_stands docs y.written y.is.known) x.written.element.kind y.written.element.kind refl refl one)
          ∙ sym (leaf_type b j)

      pub model_good : Allowed MayHave (numbered (number_of_declaration (numbers docs) docs c.place.file) m)
          → IsModel linked_set (numbered (number_of_declaration (numbers docs) docs c.place.file) m)
      model_good allowed =
          let f = number_of_declaration (numbers docs) docs c.place.file in
          let r = of_known docs h c known in
          let fine = content_fitting c.body.content m is (complex_fits r.0 (h.kept r.0 r.1) c r.2) in
          let two = and_parts (nat_le (height m) 17) (all_allow_one m) fine in
          record {
            few =
                let size = model_size (numbered f m) allowed in
                let places : length (places_in_model (numbered f m)) ≡ length (places_in_model m) = ap length (places_numbered f m) in
                let same : length (leaves (seen (numbered f m))) ≡ length (map (renumbered f) (leaves (seen m))) = ap length (leaves_numbered f m) in
                let long = length-map (leaves (seen m)) (renumbered f) in
                let own : length (type_leaves c) ≡ length (leaves_of_model m) = ap length (content_leaves c.body.content m is) in
                let few_leaves = leaves_few in
                let few_places = content_few in
                let most = content_size c.body.content m is in
                omega (arith, size, places, same, long, own, few_leaves, few_places, most);
            shallow = let le = leb-true (height m) 17 two.0 in let same = height_numbered f m in omega (arith, le, same);
            occurring = may_occur (numbered f m) allowed (bounds_numbered f m ∙ two.1);
            clear = model_clear docs h c known m is f;
            named = each_item (IsNamed linked_set) (leaves_of_model (numbered f m)) (λ x i. let a = of_leaf x i in subst (IsNamed linked_set) a.2 (leaf_named a.0 a.1));
            consistent =
                each_item (λ (x : ℕ × Name). All (λ (y : ℕ × Name). x.1 ≡ y.1 → element_type linked_set x.0 ≡ element_type linked_set y.0) (leaves_of_model (numbered f m)))
                (leaves_of_model (numbered f m))
                (λ x i. each_item (λ (y : ℕ × Name). x.1 ≡ y.1 → element_type linked_set x.0 ≡ element_type linked_set y.0) (leaves_of_model (numbered f m)) (λ y j name.
                let a = of_leaf x i in
                let b = of_leaf y j in
                ap (λ (z : ℕ × Name). element_type linked_set z.0) (sym a.2)
                ∙ leaves_agree a.0 b.0 a.1 b.1 (ap (λ (z : ℕ × Name). z.1) a.2 ∙ name ∙ ap (λ (z : ℕ × Name). z.1) (sym b.2))
                ∙ ap (λ (z : ℕ × Name). element_type linked_set z.0) b.2));
          }

    content_good : (k : RawContent) → c.body.content ≡ k
        → IfSome (parts_of_set.model_of (content_of (numbers docs) (number_of_declaration (numbers docs) docs c.place.file) k)) (Allowed MayHave)
        → IsContent linked_set (content_of (numbers docs) (number_of_declaration (numbers docs) docs c.place.file) k)
    content_good content.Empty e whole = tt
    content_good (content.Simple base at) e whole = let lt = text_good docs h c known base at e in omega (arith, lt, enough)
    content_good (content.ElementOnly m) e whole = model_good m (ap model_of e) whole
    content_good (content.Mixed m) e whole = model_good m (ap model_of e) whole

    pub complex_good : IfSome (parts_of_set.model_of (sets.complex (numbers docs) (named_attribute (sets.attributes (numbers docs) (lists_of docs).attributes)) docs c).content) (Allowed MayHave)
        → IsJoinedType linked_set (sets.complex (numbers docs) (named_attribute (sets.attributes (numbers docs) (lists_of docs).attributes)) docs c)
    complex_good whole = record {
      named = complexes_named docs h c known;
      few = let few = uses_few docs h c known in omega (arith, few);
      uses =
          each_item (IsUse linked_set) (sets.uses (numbers docs) (named_attribute (sets.attributes (numbers docs) (lists_of docs).attributes)) c)
          (λ v i. let good = each_use_good docs h c known v i in let lt = good.1 in (good.0, omega (arith, lt, enough)));
      fitting =
          each_item (λ (u : AttributeUse). MayBeFor u.required u.standard) (sets.uses (numbers docs) (named_attribute (sets.attributes (numbers docs) (lists_of docs).attributes)) c)
          (λ v i. use_fits docs h c known v i);
      ascending = uses_ascend docs h c known;
      content = content_good c.body.content refl whole;
    }

  pub complexes_good : All (λ (x : ComplexDef). IfSome (parts_of_set.model_of x.content) (Allowed MayHave)) (sets.complexes (numbers docs) docs (lists_of docs))
      → All (IsJoinedType linked_set) (sets.complexes (numbers docs) docs (lists_of docs))
  complexes_good whole =
      let made = sets.complex (numbers docs) (named_attribute (sets.attributes (numbers docs) (lists_of docs).attributes)) docs in
      each_item (IsJoinedType linked_set) (sets.complexes (numbers docs) docs (lists_of docs)) (λ x i.
      let r = of_mapped made (lists_of docs).complexes x i in
      subst (IsJoinedType linked_set) r.2
      (complex_good r.0 (item_of_order complex_before (complex_types docs) r.0 r.1)
      (item_of_all (λ (y : ComplexDef). IfSome (parts_of_set.model_of y.content) (Allowed MayHave)) (sets.complexes (numbers docs) docs (lists_of docs)) whole (made r.0)
      (in_mapped made (lists_of docs).complexes r.0 r.1))))
