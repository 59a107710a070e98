-- The set of documents without a fault: how many components it has, their names and their types.
use Rattle.std.proofs.Common.{◌≡◌, ◌<◌, ◌≤◌, arith, true, inl, inr, List, [], ◌∷◌, ◌++◌, length, map, refl, sym, ap, ap₂, ◌∙◌, subst, length-append}
use Rattle.std.specs.Prelude.{take}
use Rattle.std.specs.List.{flat_map, IsDistinct}
use Rattle.std.proofs.Math.Seq.{take-append_seam}
use Rattle.std.proofs.lemmas.Bool.{and_parts}
use Rattle.std.proofs.lemmas.List.{length-map, map-append}
use Rattle.std.proofs.lemmas.List.Sums.{length-filter, count_by-le-length}
use Rattle.base_texts.specs.Lists.{HasItem}
use Rattle.base_texts.specs.Names.{name_eq}
use Rattle.simple_types.specs.Space.{Space}
use Rattle.schema_components.specs.Declarable.{is_declarable, is_declarable_attribute}
use Rattle.schema_components.specs.DeclaredNames.{kind_named}
use Rattle.schema_components.specs.Raw.{Element, Local, Reference, Own, Attribute, Document}
use Rattle.schema_components.specs.declared.components.ElementDecl.{ElementDecl}
use Rattle.schema_components.specs.declared.components.SimpleDef.{SimpleDef}
use Rattle.schema_components.specs.declared.components.GlobalAttribute.{GlobalAttribute}
use Rattle.link_names.specs.Globals.{GlobalComponent, elements, attributes}
use Rattle.link_names.specs.SimpleTypes.{SimpleDefinition, simple_types}
use Rattle.link_complex.specs.ComplexTypes.{complex_types}
use Rattle.link_set.specs.Builtins.{all_builtins, is_among, used_builtins}
use Rattle.link_set.specs.Ordered.{in_order}
use Rattle.link_set.specs.Sets as sets
use Rattle.link_set.specs.Sets.{NamedSpace, named_space, named_spaces, MadeType, made_type, made_types, made_before, space_of_made, space_of_builtin, element, attribute, simples, named_attribute}
use Rattle.link_set.specs.Written as written
use Rattle.link_set.specs.Written.{WrittenElement, WrittenAttribute, written_element, written_attribute, declared_by, local_elements, global_attributes, lists_of, simple_before, complex_before}
use Rattle.link_schemas.proofs.DeclaredParts.{element_fits, local_fits, attribute_fits, element_once, attribute_once}
use Rattle.link_schemas.proofs.FewComponents.{few_elements, few_attributes, few_simples, few_complexes}
use Rattle.link_schemas.proofs.GlobalLists.{elements_listed, attributes_listed, global_element, global_attribute}
use Rattle.link_schemas.proofs.InOrder.{length_in_order}
use Rattle.link_schemas.proofs.Items.{of_flat, of_mapped, count_mapped}
use Rattle.link_schemas.proofs.Kept.{AreFaultless}
use Rattle.link_schemas.proofs.Members.{element_part, local_part, attribute_part}
use Rattle.link_schemas.proofs.OnceNamed.{distinct_names}
use Rattle.link_schemas.proofs.TypedNumbers.{numbers, simple_count, IsTypeNumber, kind_typed, simple_base}

-- ---- how many

made_length : (ds : List SimpleDefinition) (spaces : List Space) → length spaces ≡ length ds → length (made_types ds spaces) ≡ length ds
made_length [] spaces long = refl
made_length (d ∷ ds) [] long = absurd (omega (arith, long))
made_length (d ∷ ds) (s ∷ spaces) long = let rest = made_length ds spaces (omega (arith, long)) in omega (arith, rest)

module _ (docs : List Document) (spaces : List Space) (long : length spaces ≡ length (simple_types docs)) (ts : List SimpleDef)
    (named : named_spaces ts ≡ simples (simple_types docs) spaces (used_builtins (lists_of docs))) where
  pub simples_count : length ts ≡ simple_count docs
  simples_count =
      let ds = simple_types docs in
      let used = used_builtins (lists_of docs) in
      let made = in_order made_before (made_types ds spaces) in
      let a = length-map ts named_space in
      let b : length (named_spaces ts) ≡ length (simples ds spaces used) = ap length named in
      let c = length-append (map space_of_made made) (map space_of_builtin used) in
      let e = length-map made space_of_made in
      let f = length-map used space_of_builtin in
      let g = length_in_order made_before (made_types ds spaces) in
      let i = made_length ds spaces long in
      let j = length_in_order simple_before ds in
      omega (arith, a, b, c, e, f, g, i, j)

pub few_builtins : (docs : List Document) → length (used_builtins (lists_of docs)) ≤ 23
few_builtins docs =
    let test = is_among (lists_of docs).named in
    let a = length-filter test all_builtins in
    let b = count_by-le-length test all_builtins in
    omega (arith, a, b)

module _ (docs : List Document) (h : AreFaultless docs) where
  pub simple_count_few : simple_count docs ≤ 10023
  simple_count_few =
      let a = few_simples docs h in
      let b = few_builtins docs in
      let c = length_in_order simple_before (simple_types docs) in
      omega (arith, a, b, c)

  pub elements_count : length (sets.elements (numbers docs) (lists_of docs)) ≤ 10000
  elements_count =
      let few = few_elements docs h in
      let a = length-append (map (element (numbers docs)) (lists_of docs).globals) (map (element (numbers docs)) (lists_of docs).locals) in
      let b = length-map (lists_of docs).globals (element (numbers docs)) in
      let c = length-map (lists_of docs).locals (element (numbers docs)) in
      omega (arith, few, a, b, c)

  pub globals_within : length (lists_of docs).globals ≤ length (sets.elements (numbers docs) (lists_of docs))
  globals_within =
      let a = length-append (map (element (numbers docs)) (lists_of docs).globals) (map (element (numbers docs)) (lists_of docs).locals) in
      let b = length-map (lists_of docs).globals (element (numbers docs)) in
      omega (arith, a, b)

  pub complexes_count : length (sets.complexes (numbers docs) docs (lists_of docs)) ≤ 10000
  complexes_count =
      let ns = numbers docs in
      let few = few_complexes docs h in
      let a = length-map (lists_of docs).complexes (sets.complex ns (named_attribute (sets.attributes ns (lists_of docs).attributes)) docs) in
      let b = length_in_order complex_before (complex_types docs) in
      omega (arith, few, a, b)

  pub attributes_count : length (sets.attributes (numbers docs) (lists_of docs).attributes) ≤ 10000
  attributes_count =
      let few = few_attributes docs h in
      let a = length-map (lists_of docs).attributes (attribute (numbers docs)) in
      omega (arith, few, a)

  -- ---- elements

  IsGood : WrittenElement → Type 0
  IsGood w = (is_declarable w.element.name ≡ true) × IsTypeNumber docs (sets.type_of_kind (numbers docs) w.file w.element.kind)

  pub global_good : (w : WrittenElement) → HasItem (lists_of docs).globals w → (is_declarable w.element.name ≡ true) × IsTypeNumber docs (sets.type_of_kind (numbers docs) w.file w.element.kind)
  global_good w i =
      let r = of_flat (λ (d : Document). map (written_element d.file) d.elements) docs w i in
      let d = r.0 in
      let e = of_mapped (written_element d.file) d.elements w r.2 in
      let fits = and_parts (is_declarable e.0.name) (kind_named e.0.kind) (element_fits d (h.kept d r.1) e.0 e.1) in
      subst (λ (x : WrittenElement). (is_declarable x.element.name ≡ true) × IsTypeNumber docs (sets.type_of_kind (numbers docs) x.file x.element.kind)) e.2
      (fits.0, kind_typed docs h.resolved d.file e.0.at e.0.kind (λ q k. element_part docs d r.1 e.0 e.1 q (inr k)))

  local_good_in : (d : Document) → HasItem docs d → (l : Local) → HasItem d.locals l → (w : WrittenElement) → HasItem (declared_by d.file l) w
      → (is_declarable w.element.name ≡ true) × IsTypeNumber docs (sets.type_of_kind (numbers docs) w.file w.element.kind)
  local_good_in d i (Reference name at) j w k = absurd k
  local_good_in d i (Own e) j w (inr none) = absurd none
  local_good_in d i (Own e) j w (inl same) =
      let fits = and_parts (is_declarable e.name) (kind_named e.kind) (local_fits d (h.kept d i) (Own e) j) in
      subst (λ (x : WrittenElement). (is_declarable x.element.name ≡ true) × IsTypeNumber docs (sets.type_of_kind (numbers docs) x.file x.element.kind)) same
      (fits.0, kind_typed docs h.resolved d.file e.at e.kind (λ q k. local_part docs d i (Own e) j q (inr k)))

  pub local_good : (w : WrittenElement) → HasItem (lists_of docs).locals w → (is_declarable w.element.name ≡ true) × IsTypeNumber docs (sets.type_of_kind (numbers docs) w.file w.element.kind)
  local_good w i =
      let r = of_flat (λ (d : Document). flat_map (declared_by d.file) d.locals) docs w i in
      let l = of_flat (declared_by r.0.file) r.0.locals w r.2 in
      local_good_in r.0 r.1 l.0 l.1 w l.2

  -- ---- attributes

  pub attribute_good : (g : GlobalAttribute) → HasItem (sets.attributes (numbers docs) (lists_of docs).attributes) g → (is_declarable_attribute g.name ≡ true) × (g.simple < simple_count docs)
  attribute_good g i =
      let m = of_mapped (attribute (numbers docs)) (lists_of docs).attributes g i in
      let r = of_flat (λ (d : Document). map (written_attribute d.file) d.attributes) docs m.0 m.1 in
      let d = r.0 in
      let a = of_mapped (written_attribute d.file) d.attributes m.0 r.2 in
      subst (λ (x : GlobalAttribute). (is_declarable_attribute x.name ≡ true) × (x.simple < simple_count docs)) (ap (attribute (numbers docs)) a.2 ∙ m.2)
      (attribute_fits d (h.kept d r.1) a.0 a.1, simple_base docs h.resolved d.file a.0.at a.0.kind (λ q k. attribute_part docs d r.1 a.0 a.1 q (inr k)))

  -- ---- names apart

  element_names : map (λ (e : ElementDecl). e.name) (map (element (numbers docs)) (lists_of docs).globals) ≡ map (λ (g : GlobalComponent). g.name) (elements docs)
  element_names =
      maps (λ (e : ElementDecl). e.name) (element (numbers docs)) (λ (w : WrittenElement). w.element.name) (λ w. refl) (lists_of docs).globals
      ∙ names_in docs ∙ ap (map (λ (g : GlobalComponent). g.name)) (sym (elements_listed docs))
    where
      maps : {A B C : Type 0} (f : B → C) (g : A → B) (k : A → C) → ((x : A) → f (g x) ≡ k x) → (xs : List A) → map f (map g xs) ≡ map k xs
      maps f g k same [] = refl
      maps f g k same (x ∷ xs) = ap₂ (λ y ys. y ∷ ys) (same x) (maps f g k same xs)

      names_in : (ds : List Document) → map (λ (w : WrittenElement). w.element.name) (written.global_elements ds)
          ≡ map (λ (g : GlobalComponent). g.name) (flat_map (λ (d : Document). map (global_element d.file) d.elements) ds)
      names_in [] = refl
      names_in (d ∷ ds) =
          map-append (λ (w : WrittenElement). w.element.name) (map (written_element d.file) d.elements) (written.global_elements ds)
          ∙ ap₂ (λ xs ys. xs ++ ys)
          (maps (λ (w : WrittenElement). w.element.name) (written_element d.file) (λ (e : Element). e.name) (λ e. refl) d.elements
          ∙ sym (maps (λ (g : GlobalComponent). g.name) (global_element d.file) (λ (e : Element). e.name) (λ e. refl) d.elements))
          (names_in ds)
          ∙ sym (map-append (λ (g : GlobalComponent). g.name) (map (global_element d.file) d.elements) (flat_map (λ (x : Document). map (global_element x.file) x.elements) ds))

  pub attribute_names : map (λ (a : GlobalAttribute). a.name) (sets.attributes (numbers docs) (lists_of docs).attributes) ≡ map (λ (g : GlobalComponent). g.name) (attributes docs)
  attribute_names =
      maps (λ (a : GlobalAttribute). a.name) (attribute (numbers docs)) (λ (w : WrittenAttribute). w.attribute.name) (λ w. refl) (lists_of docs).attributes
      ∙ names_in docs ∙ ap (map (λ (g : GlobalComponent). g.name)) (sym (attributes_listed docs))
    where
      maps : {A B C : Type 0} (f : B → C) (g : A → B) (k : A → C) → ((x : A) → f (g x) ≡ k x) → (xs : List A) → map f (map g xs) ≡ map k xs
      maps f g k same [] = refl
      maps f g k same (x ∷ xs) = ap₂ (λ y ys. y ∷ ys) (same x) (maps f g k same xs)

      names_in : (ds : List Document) → map (λ (w : WrittenAttribute). w.attribute.name) (global_attributes ds)
          ≡ map (λ (g : GlobalComponent). g.name) (flat_map (λ (d : Document). map (global_attribute d.file) d.attributes) ds)
      names_in [] = refl
      names_in (d ∷ ds) =
          map-append (λ (w : WrittenAttribute). w.attribute.name) (map (written_attribute d.file) d.attributes) (global_attributes ds)
          ∙ ap₂ (λ xs ys. xs ++ ys)
          (maps (λ (w : WrittenAttribute). w.attribute.name) (written_attribute d.file) (λ (e : Attribute). e.name) (λ e. refl) d.attributes
          ∙ sym (maps (λ (g : GlobalComponent). g.name) (global_attribute d.file) (λ (e : Attribute). e.name) (λ e. refl) d.attributes))
          (names_in ds)
          ∙ sym (map-append (λ (g : GlobalComponent). g.name) (map (global_attribute d.file) d.attributes) (flat_map (λ (x : Document). map (global_attribute x.file) x.attributes) ds))

  pub elements_apart : IsDistinct name_eq (map (λ (e : ElementDecl). e.name) (take (length (lists_of docs).globals) (sets.elements (numbers docs) (lists_of docs))))
  elements_apart =
      let gs = map (element (numbers docs)) (lists_of docs).globals in
      let ls = map (element (numbers docs)) (lists_of docs).locals in
      let same : take (length (lists_of docs).globals) (gs ++ ls) ≡ gs =
      ap (λ n. take n (gs ++ ls)) (sym (length-map (lists_of docs).globals (element (numbers docs)))) ∙ take-append_seam gs ls in
      subst (λ xs. IsDistinct name_eq xs) (sym (ap (map (λ (e : ElementDecl). e.name)) same ∙ element_names))
      (distinct_names (map (λ (g : GlobalComponent). g.name) (elements docs))
      (λ a. let once = element_once docs h a in let mapped = count_mapped (name_eq a) (λ (g : GlobalComponent). g.name) (elements docs) in omega (arith, once, mapped)))

  pub attributes_apart : IsDistinct name_eq (map (λ (a : GlobalAttribute). a.name) (sets.attributes (numbers docs) (lists_of docs).attributes))
  attributes_apart =
      subst (λ xs. IsDistinct name_eq xs) (sym attribute_names)
      (distinct_names (map (λ (g : GlobalComponent). g.name) (attributes docs))
      (λ a. let once = attribute_once docs h a in let mapped = count_mapped (name_eq a) (λ (g : GlobalComponent). g.name) (attributes docs) in omega (arith, once, mapped)))
