-- The components of the children of `schema` one after the other.
use Rattle.std.proofs.Common.{◌≡◌, ℕ, true, ◌<◌, ◌≤◌, ◌+◌, List, ◌∷◌, ◌++◌, length, map, drop, get_or, ap, sym, ◌∙◌, append_assoc}
use Rattle.schema_read.proofs.Words.{append-nil, drop_all, drop_more, Rose, label_of, ItemLabel, Element, Name, is_schema_name, own_attributes, Attribute, TypeDefinition, Local, Document, element_of, attribute_of, type_of, local_of, Globals, Settings, Parts, no_parts, parts_named, parts_by, parts_among, document_with, Adds, Are, cond-true}
use Rattle.schema_components.specs.Raw as raw
use Rattle.schema_components.specs.Parts.{parts_of}
use Rattle.schema_read.specs.Raw.{and_parts}
use Rattle.schema_read.proofs.Making.{length_after}

-- what is added so far, and the parts of the rest, are all
pub record PartsAhead (so_far : Globals) (rest all : Parts) : Type 0 where
  pub elements_are : map element_of so_far.elements.items ++ rest.elements ≡ all.elements
  pub attributes_are : map attribute_of so_far.attributes.items ++ rest.attributes ≡ all.attributes
  pub types_are : map type_of so_far.types.items ++ rest.types ≡ all.types
  pub locals_are : map local_of so_far.locals.items ++ rest.locals ≡ all.locals

module _ (said : Settings) (scope : List (List ℕ × List ℕ)) (kids : List (Rose ItemLabel)) (i : ℕ) (all : Parts) (so_far : Globals)
    (h : PartsAhead so_far (parts_among said scope (length so_far.locals.items) (drop i kids)) all) where
  pub all_parts : length kids ≤ i → Are so_far all
  all_parts end =
      let none : parts_among said scope (length so_far.locals.items) (drop i kids) ≡ no_parts = ap (parts_among said scope (length so_far.locals.items)) (drop_all i kids end) in
      record {
        elements_are = sym (append-nil (map element_of so_far.elements.items)) ∙ (ap (λ (p : Parts). map element_of so_far.elements.items ++ p.elements) (sym none) ∙ h.elements_are);
        attributes_are = sym (append-nil (map attribute_of so_far.attributes.items)) ∙ (ap (λ (p : Parts). map attribute_of so_far.attributes.items ++ p.attributes) (sym none) ∙ h.attributes_are);
        types_are = sym (append-nil (map type_of so_far.types.items)) ∙ (ap (λ (p : Parts). map type_of so_far.types.items ++ p.types) (sym none) ∙ h.types_are);
        locals_are = sym (append-nil (map local_of so_far.locals.items)) ∙ (ap (λ (p : Parts). map local_of so_far.locals.items ++ p.locals) (sym none) ∙ h.locals_are);
      }

  module _ (kid : Rose ItemLabel) (at : i < length kids) (here : kid ≡ get_or kids i kid) (more : Globals)
      (added : Adds so_far more (parts_by said scope (length so_far.locals.items) (label_of kid) kid)) where
    pub more_parts : PartsAhead more (parts_among said scope (length more.locals.items) (drop (i + 1) kids)) all
    more_parts =
        let p : Parts = parts_by said scope (length so_far.locals.items) (label_of kid) kid in
        let r : Parts = parts_among said scope (length so_far.locals.items + length p.locals) (drop (i + 1) kids) in
        let cut : and_parts p r ≡ parts_among said scope (length so_far.locals.items) (drop i kids) =
        ap (λ k. parts_among said scope (length so_far.locals.items) (k ∷ drop (i + 1) kids)) here ∙ ap (parts_among said scope (length so_far.locals.items)) (sym (drop_more kids i kid at)) in
        let on : parts_among said scope (length more.locals.items) (drop (i + 1) kids) ≡ r = ap (λ n. parts_among said scope n (drop (i + 1) kids)) (length_after so_far.locals.items more.locals.items p.locals added.locals_are) in
        record {
          elements_are =
              ap (λ (q : Parts). map element_of more.elements.items ++ q.elements) on
              ∙ (ap (λ l. l ++ r.elements) added.elements_are
              ∙ (append_assoc (map element_of so_far.elements.items) p.elements r.elements
              ∙ (ap (λ (q : Parts). map element_of so_far.elements.items ++ q.elements) cut ∙ h.elements_are)));
          attributes_are =
              ap (λ (q : Parts). map attribute_of more.attributes.items ++ q.attributes) on
              ∙ (ap (λ l. l ++ r.attributes) added.attributes_are
              ∙ (append_assoc (map attribute_of so_far.attributes.items) p.attributes r.attributes
              ∙ (ap (λ (q : Parts). map attribute_of so_far.attributes.items ++ q.attributes) cut ∙ h.attributes_are)));
          types_are =
              ap (λ (q : Parts). map type_of more.types.items ++ q.types) on
              ∙ (ap (λ l. l ++ r.types) added.types_are
              ∙ (append_assoc (map type_of so_far.types.items) p.types r.types
              ∙ (ap (λ (q : Parts). map type_of so_far.types.items ++ q.types) cut ∙ h.types_are)));
          locals_are =
              ap (λ (q : Parts). map local_of more.locals.items ++ q.locals) on
              ∙ (ap (λ l. l ++ r.locals) added.locals_are
              ∙ (append_assoc (map local_of so_far.locals.items) p.locals r.locals
              ∙ (ap (λ (q : Parts). map local_of so_far.locals.items ++ q.locals) cut ∙ h.locals_are)));
        }

-- an element by its label
pub its_parts : (said : Settings) (outer : List (List ℕ × List ℕ)) (n : ℕ) (t : Rose ItemLabel) (name : Name) (attributes : List (Name × List ℕ)) (declares : List (List ℕ × List ℕ)) (at : ℕ)
    (m : List ℕ) (o d : List (List ℕ × List ℕ)) → label_of t ≡ Element name attributes declares at → is_schema_name name ≡ true → m ≡ name.local → o ≡ own_attributes attributes → d ≡ declares
    → parts_named said outer n m o (d ++ outer) at t ≡ parts_by said outer n (label_of t) t
its_parts said outer n t name attributes declares at m o d label is names owns scopes =
    ap (λ x. parts_named said outer n x o (d ++ outer) at t) names
    ∙ (ap (λ x. parts_named said outer n name.local x (d ++ outer) at t) owns
    ∙ (ap (λ x. parts_named said outer n name.local (own_attributes attributes) (x ++ outer) at t) scopes
    ∙ sym (ap (λ l. parts_by said outer n l t) label
    ∙ cond-true (is_schema_name name) (parts_named said outer n name.local (own_attributes attributes) (declares ++ outer) at t) no_parts is)))

-- the document of these parts
pub same_document : (file : ℕ) (target : List ℕ) (globals : Globals) (counted : List ℕ) (p : Parts) → Are globals p
    → parts_of file target globals.elements.items globals.attributes.items globals.types.items globals.locals.items counted ≡ document_with file target counted p
same_document file target globals counted p are =
    let whole : List raw.Element → List Attribute → List TypeDefinition → List Local → Document = λ elements attributes types declared.
    record { file = file; target = target; elements = elements; attributes = attributes; types = types; locals = declared; counted = counted } in
    let attributes = map attribute_of globals.attributes.items in
    let types = map type_of globals.types.items in
    let declared = map local_of globals.locals.items in
    ap (λ x. whole x attributes types declared) are.elements_are
    ∙ (ap (λ x. whole p.elements x types declared) are.attributes_are
    ∙ (ap (λ x. whole p.elements p.attributes x declared) are.types_are
    ∙ ap (λ x. whole p.elements p.attributes p.types x) are.locals_are))
