-- The names of components of documents without a fault may be declared, and no two of a kind have one.
use Rattle.std.proofs.Common.{◌≡◌, ℕ, ◌≤◌, arith, true, inl, inr, List, ◌++◌, map, Option, Some, None, refl, sym, ap, ◌∙◌, subst}
use Rattle.std.specs.Prelude.{◌&&◌, nat_eq}
use Rattle.std.specs.List.{flat_map, count_by}
use Rattle.std.proofs.lemmas.Bool.{and_parts}
use Rattle.base_texts.specs.declared.texts.Name.{Name}
use Rattle.base_texts.specs.Lists.{HasItem}
use Rattle.base_texts.specs.Names.{name_eq}
use Rattle.schema_components.specs.Bounds.{ascend}
use Rattle.schema_components.specs.Declarable.{is_declarable, is_declarable_attribute}
use Rattle.schema_components.specs.DeclaredNames.{uses_named, kind_named, element_named, local_named, attribute_named, type_named, elements_named, attributes_named, types_named, locals_named}
use Rattle.schema_components.specs.Places.{element_place, attribute_place, type_place, local_place}
use Rattle.schema_components.specs.Raw.{Element, Local, Attribute, TypeDefinition, SimpleType, ComplexType, Document}
use Rattle.link_names.specs.Parts as what
use Rattle.link_names.specs.Parts.{What, Part, in_document, parts}
use Rattle.link_names.specs.Globals.{GlobalComponent, global, named_at, type_name, elements, attributes, types, repeated}
use Rattle.link_names.specs.declared.faults.LinkWhy.TheVariants.{Duplicate}
use Rattle.link_names.specs.declared.places.Place.{Place}
use Rattle.link_names.specs.Order.{place}
use Rattle.link_names.specs.SimpleTypes as simple
use Rattle.link_names.specs.SimpleTypes.{SimpleDefinition, simple_types}
use Rattle.link_complex.specs.ComplexTypes as complex
use Rattle.link_complex.specs.ComplexTypes.{ComplexDefinition, complex_types}
use Rattle.base_texts.proofs.Lists.{has_left, has_right}
use Rattle.link_schemas.proofs.GlobalLists.{as_type, global_element, global_attribute, global_type, elements_listed, attributes_listed, types_listed, by_documents}
use Rattle.link_schemas.proofs.Items.{in_flat, of_flat, of_mapped, by_and, count_mapped}
use Rattle.link_schemas.proofs.Kept.{Keeps, AreFaultless}
use Rattle.link_schemas.proofs.OnceNamed.{named_once, none_repeated}
use Rattle.link_schemas.proofs.OncePlaced.{ArePlacedOnce, of_documents_once, ascending_once}

-- ---- what a document keeps of each component

module _ (d : Document) (k : Keeps d) where
  named_lists : (elements_named d.elements ≡ true) × (attributes_named d.attributes ≡ true) × (types_named d.types ≡ true) × (locals_named d.locals ≡ true)
  named_lists =
      let one = and_parts (elements_named d.elements) (attributes_named d.attributes && (types_named d.types && locals_named d.locals)) k.named in
      let two = and_parts (attributes_named d.attributes) (types_named d.types && locals_named d.locals) one.1 in
      let three = and_parts (types_named d.types) (locals_named d.locals) two.1 in
      (one.0, two.0, three.0, three.1)

  pub element_fits : (e : Element) → HasItem d.elements e → element_named e ≡ true
  element_fits e h = by_and elements_named element_named (λ x xs. refl) d.elements named_lists.0 e h

  pub attribute_fits : (a : Attribute) → HasItem d.attributes a → attribute_named a ≡ true
  attribute_fits a h = by_and attributes_named attribute_named (λ x xs. refl) d.attributes named_lists.1 a h

  pub type_fits : (t : TypeDefinition) → HasItem d.types t → type_named t ≡ true
  type_fits t h = by_and types_named type_named (λ x xs. refl) d.types named_lists.2 t h

  pub local_fits : (l : Local) → HasItem d.locals l → local_named l ≡ true
  local_fits l h = by_and locals_named local_named (λ x xs. refl) d.locals named_lists.3 l h

  pub ascending_lists : (ascend (map element_place d.elements) ≡ true) × (ascend (map attribute_place d.attributes) ≡ true)
      × (ascend (map type_place d.types) ≡ true) × (ascend (map local_place d.locals) ≡ true)
  ascending_lists =
      let es = ascend (map element_place d.elements) in
      let as_ = ascend (map attribute_place d.attributes) in
      let ts = ascend (map type_place d.types) in
      let ls = ascend (map local_place d.locals) in
      let one = and_parts es (as_ && (ts && ls)) k.ordered in
      let two = and_parts as_ (ts && ls) one.1 in
      let three = and_parts ts ls two.1 in
      (one.0, two.0, three.0, three.1)

pub type_declarable : (t : TypeDefinition) (file : ℕ) → type_named t ≡ true → is_declarable (global_type file t).name ≡ true
type_declarable (SimpleType name body) file h = h
type_declarable (ComplexType name body) file h = (and_parts (is_declarable name) (uses_named body.uses) h).0

-- ---- components of one kind have places of their own

module _ {A : Type 0} (g : ℕ → A → GlobalComponent) (place_of : A → ℕ) (list : Document → List A)
    (is : (file : ℕ) (x : A) → (g file x).place ≡ place file (place_of x)) where
  abbrev placed : GlobalComponent → Place
  placed c = c.place

  listed_once : (docs : List Document) → AreFaultless docs → ((d : Document) → HasItem docs d → ascend (map place_of (list d)) ≡ true)
      → ArePlacedOnce placed (flat_map (λ d. map (g d.file) (list d)) docs)
  listed_once docs h ascends =
      of_documents_once placed (λ d. map (g d.file) (list d)) docs h.numbered
      (λ d i c j. let r = of_mapped (g d.file) (list d) c j in ap (λ (x : GlobalComponent). x.place.file) (sym r.2) ∙ ap (λ (p : Place). p.file) (is d.file r.0))
      (λ d i n.
      let once = ascending_once place_of (list d) (ascends d i) n in
      let same = count_mapped (λ (c : GlobalComponent). nat_eq n c.place.at) (g d.file) (list d) in
      let tests : count_by (λ x. nat_eq n (g d.file x).place.at) (list d) ≡ count_by (λ x. nat_eq n (place_of x)) (list d) =
      ap (λ f. count_by f (list d)) (λ j x. nat_eq n (is d.file x j).at) in
      omega (arith, once, same, tests))

type_placed : (file : ℕ) (t : TypeDefinition) → (global_type file t).place ≡ place file (type_place t)
type_placed file (SimpleType name body) = refl
type_placed file (ComplexType name body) = refl

module _ (docs : List Document) (h : AreFaultless docs) where
  elements_placed : ArePlacedOnce (λ (g : GlobalComponent). g.place) (elements docs)
  elements_placed =
      subst (ArePlacedOnce (λ (g : GlobalComponent). g.place)) (sym (elements_listed docs))
      (listed_once global_element element_place (λ d. d.elements) (λ file e. refl) docs h (λ d i. (ascending_lists d (h.kept d i)).0))

  attributes_placed : ArePlacedOnce (λ (g : GlobalComponent). g.place) (attributes docs)
  attributes_placed =
      subst (ArePlacedOnce (λ (g : GlobalComponent). g.place)) (sym (attributes_listed docs))
      (listed_once global_attribute attribute_place (λ d. d.attributes) (λ file e. refl) docs h (λ d i. (ascending_lists d (h.kept d i)).1))

  types_placed : ArePlacedOnce (λ (g : GlobalComponent). g.place) (types docs)
  types_placed =
      subst (ArePlacedOnce (λ (g : GlobalComponent). g.place)) (sym (types_listed docs))
      (listed_once global_type type_place (λ d. d.types) type_placed docs h (λ d i. (ascending_lists d (h.kept d i)).2))

  pub element_once : (a : Name) → count_by (λ (g : GlobalComponent). name_eq a g.name) (elements docs) ≤ 1
  element_once =
      named_once (elements docs)
      (none_repeated Duplicate (elements docs) (λ f i. h.apart f (has_left (repeated Duplicate (elements docs) ++ repeated Duplicate (attributes docs)) (repeated Duplicate (types docs)) f (has_left (repeated Duplicate (elements docs)) (repeated Duplicate (attributes docs)) f i))))
      elements_placed

  pub attribute_once : (a : Name) → count_by (λ (g : GlobalComponent). name_eq a g.name) (attributes docs) ≤ 1
  attribute_once =
      named_once (attributes docs)
      (none_repeated Duplicate (attributes docs) (λ f i. h.apart f (has_left (repeated Duplicate (elements docs) ++ repeated Duplicate (attributes docs)) (repeated Duplicate (types docs)) f
      (has_right (repeated Duplicate (elements docs)) (repeated Duplicate (attributes docs)) f i))))
      attributes_placed

  pub type_once : (a : Name) → count_by (λ (g : GlobalComponent). name_eq a g.name) (types docs) ≤ 1
  type_once =
      named_once (types docs)
      (none_repeated Duplicate (types docs) (λ f i. h.apart f (has_right (repeated Duplicate (elements docs) ++ repeated Duplicate (attributes docs)) (repeated Duplicate (types docs)) f i)))
      types_placed

  -- ---- names of components

  pub element_declarable : (g : GlobalComponent) → HasItem (elements docs) g → is_declarable g.name ≡ true
  element_declarable g i =
      let r = of_flat (λ (d : Document). map (global_element d.file) d.elements) docs g (subst (λ gs. HasItem gs g) (elements_listed docs) i) in
      let e = of_mapped (global_element r.0.file) r.0.elements g r.2 in
      let fits = element_fits r.0 (h.kept r.0 r.1) e.0 e.1 in
      ap (λ (x : GlobalComponent). is_declarable x.name) (sym e.2) ∙ (and_parts (is_declarable e.0.name) (kind_named e.0.kind) fits).0

  pub attribute_declarable : (g : GlobalComponent) → HasItem (attributes docs) g → is_declarable_attribute g.name ≡ true
  attribute_declarable g i =
      let r = of_flat (λ (d : Document). map (global_attribute d.file) d.attributes) docs g (subst (λ gs. HasItem gs g) (attributes_listed docs) i) in
      let a = of_mapped (global_attribute r.0.file) r.0.attributes g r.2 in
      ap (λ (x : GlobalComponent). is_declarable_attribute x.name) (sym a.2) ∙ attribute_fits r.0 (h.kept r.0 r.1) a.0 a.1

  pub types_declarable : (g : GlobalComponent) → HasItem (types docs) g → is_declarable g.name ≡ true
  types_declarable g i =
      let r = of_flat (λ (d : Document). map (global_type d.file) d.types) docs g (subst (λ gs. HasItem gs g) (types_listed docs) i) in
      let t = of_mapped (global_type r.0.file) r.0.types g r.2 in
      ap (λ (x : GlobalComponent). is_declarable x.name) (sym t.2) ∙ type_declarable t.0 r.0.file (type_fits r.0 (h.kept r.0 r.1) t.0 t.1)

-- ---- types with a name are global ones

named_here : (o : Option Name) (p : Place) (a : Name) → o ≡ Some a → HasItem (named_at o p) (global a p)
named_here None p a e = absurd cc
named_here (Some b) p a e = inl (ap (λ n. global n p) (let same : b ≡ a = cc in same))

simple_global : (file at : ℕ) (w : What) (d : SimpleDefinition) → HasItem (simple.of_what file at w) d → (a : Name) → d.name ≡ Some a
    → HasItem (named_at (type_name w) (place file at)) (global a (place file at))
simple_global file at (what.SimpleDefinition name s) d (inl same) a e = named_here name (place file at) a (ap (λ (x : SimpleDefinition). x.name) same ∙ e)
simple_global file at (what.SimpleDefinition name s) d (inr none) a e = absurd none
simple_global file at (what.ComplexDefinition name c) d h a e = absurd h
simple_global file at (what.GlobalElement x) d h a e = absurd h
simple_global file at (what.LocalElement x) d h a e = absurd h
simple_global file at (what.ElementReference x) d h a e = absurd h
simple_global file at (what.GlobalAttribute x) d h a e = absurd h
simple_global file at (what.AttributeUse x) d h a e = absurd h
simple_global file at (what.Particle x) d h a e = absurd h
simple_global file at (what.MixedGroup x) d h a e = absurd h
simple_global file at (what.TypeReference r x) d h a e = absurd h

complex_global : (file at : ℕ) (w : What) (c : ComplexDefinition) → HasItem (complex.of_what file w) c → (a : Name) → c.name ≡ Some a
    → HasItem (named_at (type_name w) (place file at)) (global a (place file at))
complex_global file at (what.ComplexDefinition name b) c (inl same) a e = named_here name (place file at) a (ap (λ (x : ComplexDefinition). x.name) same ∙ e)
complex_global file at (what.ComplexDefinition name b) c (inr none) a e = absurd none
complex_global file at (what.SimpleDefinition name s) c h a e = absurd h
complex_global file at (what.GlobalElement x) c h a e = absurd h
complex_global file at (what.LocalElement x) c h a e = absurd h
complex_global file at (what.ElementReference x) c h a e = absurd h
complex_global file at (what.GlobalAttribute x) c h a e = absurd h
complex_global file at (what.AttributeUse x) c h a e = absurd h
complex_global file at (what.Particle x) c h a e = absurd h
complex_global file at (what.MixedGroup x) c h a e = absurd h
complex_global file at (what.TypeReference r x) c h a e = absurd h

module _ (docs : List Document) (h : AreFaultless docs) where
  pub simple_declarable : (d : SimpleDefinition) → HasItem (simple_types docs) d → (a : Name) → d.name ≡ Some a → is_declarable a ≡ true
  simple_declarable d i a e =
      let p = of_flat simple.of_part (parts docs) d i in
      types_declarable docs h (global a (place p.0.file p.0.at))
      (in_flat (as_type) (parts docs) p.0 (global a (place p.0.file p.0.at)) p.1 (simple_global p.0.file p.0.at p.0.what d p.2 a e))

  pub complex_declarable : (c : ComplexDefinition) → HasItem (complex_types docs) c → (a : Name) → c.name ≡ Some a → is_declarable a ≡ true
  complex_declarable c i a e =
      let p = of_flat complex.of_part (parts docs) c (subst (λ cs. HasItem cs c) (sym (by_documents complex.of_part docs)) i) in
      types_declarable docs h (global a (place p.0.file p.0.at))
      (in_flat (as_type) (parts docs) p.0 (global a (place p.0.file p.0.at)) p.1 (complex_global p.0.file p.0.at p.0.what c p.2 a e))
