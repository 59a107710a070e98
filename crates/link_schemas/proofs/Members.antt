-- The parts of what stands in documents are among the parts of the documents.
use Rattle.std.proofs.Common.{ℕ, inl, inr, List, ◌++◌, subst}
use Rattle.std.specs.List.{flat_map}
use Rattle.base_texts.specs.Lists.{HasItem}
use Rattle.base_texts.proofs.Lists.{has_left, has_right}
use Rattle.schema_components.specs.Raw.{Kind, NamedKind, SimpleKind, ComplexKind, Element, Local, Reference, Own, Attribute, TypeDefinition, SimpleType, ComplexType, Document}
use Rattle.link_names.specs.Parts.{Part, in_content, in_use, in_kind, in_element, in_attribute, in_definition, in_local, in_document, parts}
use Rattle.link_complex.specs.ComplexTypes.{ComplexDefinition, of_document, complex_types}
use Rattle.link_schemas.proofs.FewComponents.{each_complex}
use Rattle.link_schemas.proofs.GlobalLists.{by_kind_of, of_definition, of_local, complexes_listed}
use Rattle.link_schemas.proofs.Items.{in_flat, of_flat}

module _ (docs : List Document) (d : Document) (known : HasItem docs d) where
  pub element_part : (e : Element) → HasItem d.elements e → (q : Part) → HasItem (in_element d.file e) q → HasItem (parts docs) q
  element_part e i q h =
      let es = flat_map (in_element d.file) d.elements in
      let as_ = flat_map (in_attribute d.file) d.attributes in
      let ts = flat_map (in_definition d.file) d.types in
      in_flat in_document docs d q known
      (has_left (es ++ (as_ ++ ts)) (flat_map (in_local d.file) d.locals) q (has_left es (as_ ++ ts) q (in_flat (in_element d.file) d.elements e q i h)))

  pub attribute_part : (a : Attribute) → HasItem d.attributes a → (q : Part) → HasItem (in_attribute d.file a) q → HasItem (parts docs) q
  attribute_part a i q h =
      let es = flat_map (in_element d.file) d.elements in
      let as_ = flat_map (in_attribute d.file) d.attributes in
      let ts = flat_map (in_definition d.file) d.types in
      in_flat in_document docs d q known
      (has_left (es ++ (as_ ++ ts)) (flat_map (in_local d.file) d.locals) q
      (has_right es (as_ ++ ts) q (has_left as_ ts q (in_flat (in_attribute d.file) d.attributes a q i h))))

  pub definition_part : (t : TypeDefinition) → HasItem d.types t → (q : Part) → HasItem (in_definition d.file t) q → HasItem (parts docs) q
  definition_part t i q h =
      let es = flat_map (in_element d.file) d.elements in
      let as_ = flat_map (in_attribute d.file) d.attributes in
      let ts = flat_map (in_definition d.file) d.types in
      in_flat in_document docs d q known
      (has_left (es ++ (as_ ++ ts)) (flat_map (in_local d.file) d.locals) q
      (has_right es (as_ ++ ts) q (has_right as_ ts q (in_flat (in_definition d.file) d.types t q i h))))

  pub local_part : (l : Local) → HasItem d.locals l → (q : Part) → HasItem (in_local d.file l) q → HasItem (parts docs) q
  local_part l i q h =
      let es = flat_map (in_element d.file) d.elements in
      let as_ = flat_map (in_attribute d.file) d.attributes in
      let ts = flat_map (in_definition d.file) d.types in
      in_flat in_document docs d q known
      (has_right (es ++ (as_ ++ ts)) (flat_map (in_local d.file) d.locals) q (in_flat (in_local d.file) d.locals l q i h))

  abbrev pub Within : ComplexDefinition → Type 0
  Within c = (q : Part) → HasItem (in_content c.place.file c.body.at c.body.content ++ flat_map (in_use c.place.file c.body.at) c.body.uses) q → HasItem (parts docs) q

  of_kind : (at : ℕ) (k : Kind) → ((q : Part) → HasItem (in_kind d.file at k) q → HasItem (parts docs) q) → (c : ComplexDefinition) → HasItem (by_kind_of d.file k) c → Within c
  of_kind at (NamedKind r) all c h = absurd h
  of_kind at (SimpleKind s) all c h = absurd h
  of_kind at (ComplexKind b) all c (inl same) = subst Within same (λ q i. all q (inr i))
  of_kind at (ComplexKind b) all c (inr none) = absurd none

  of_types : (t : TypeDefinition) → ((q : Part) → HasItem (in_definition d.file t) q → HasItem (parts docs) q) → (c : ComplexDefinition) → HasItem (of_definition d.file t) c → Within c
  of_types (SimpleType name s) all c h = absurd h
  of_types (ComplexType name b) all c (inl same) = subst Within same (λ q i. all q (inr i))
  of_types (ComplexType name b) all c (inr none) = absurd none

  of_locals : (l : Local) → ((q : Part) → HasItem (in_local d.file l) q → HasItem (parts docs) q) → (c : ComplexDefinition) → HasItem (of_local d.file l) c → Within c
  of_locals (Reference name at) all c h = absurd h
  of_locals (Own e) all c h = of_kind e.at e.kind (λ q i. all q (inr i)) c h

  pub complex_parts : (c : ComplexDefinition) → HasItem (of_document d) c → Within c
  complex_parts c h =
      each_complex d Within (
        (λ e i c j. of_kind e.at e.kind (λ q k. element_part e i q (inr k)) c j),
        (λ t i c j. of_types t (definition_part t i) c j),
        (λ l i c j. of_locals l (local_part l i) c j),
      )
      c (subst (λ cs. HasItem cs c) (complexes_listed d) h)

pub complex_part : (docs : List Document) (c : ComplexDefinition) → HasItem (complex_types docs) c → (q : Part)
    → HasItem (in_content c.place.file c.body.at c.body.content ++ flat_map (in_use c.place.file c.body.at) c.body.uses) q → HasItem (parts docs) q
complex_part docs c h q i = let r = of_flat of_document docs c h in complex_parts docs r.0 r.1 c r.2 q i
