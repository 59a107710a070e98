-- The global components of documents by their names, as the documents list them.
use Rattle.std.proofs.Common.{◌≡◌, ℕ, List, [], ◌∷◌, ◌++◌, map, Some, None, append-nil, append_assoc, refl, ap, ap₂, ◌∙◌}
use Rattle.std.specs.List.{flat_map}
use Rattle.std.proofs.lemmas.List.Concat.{flat_map_single}
use Rattle.schema_components.specs.Raw.{Complex, Kind, NamedKind, SimpleKind, ComplexKind, Element, Local, Reference, Own, Attribute, TypeDefinition, SimpleType, ComplexType, Document}
use Rattle.link_names.specs.Parts.{Part, in_document, parts}
use Rattle.link_names.specs.Globals.{GlobalComponent, global, named_at, element_name, attribute_name, type_name, complex_name, elements, attributes, types}
use Rattle.link_names.specs.Order.{place}
use Rattle.link_complex.specs.ComplexTypes.{ComplexDefinition, defined, of_document, complex_types}
use Rattle.link_complex.specs.ComplexTypes as complex
use Rattle.link_schemas.proofs.Items.{flat_flat, flat_same}
use Rattle.link_schemas.proofs.WalkedParts.{GivesAtTop, by_kind, by_element, by_attribute, by_definition, by_local, by_document, document_gives}

-- the global component of each kind that a part is, if it is one
abbrev pub as_element : Part → List GlobalComponent
as_element p = named_at (element_name p.what) (place p.file p.at)

abbrev pub as_attribute : Part → List GlobalComponent
as_attribute p = named_at (attribute_name p.what) (place p.file p.at)

abbrev pub as_type : Part → List GlobalComponent
as_type p = named_at (type_name p.what) (place p.file p.at)

abbrev pub as_complex : Part → List GlobalComponent
as_complex p = named_at (complex_name p.what) (place p.file p.at)

-- what the parts of all documents give, document by document
pub by_documents : {A : Type 0} (f : Part → List A) (docs : List Document) → flat_map f (parts docs) ≡ flat_map (λ d. flat_map f (in_document d)) docs
by_documents f docs = flat_flat f in_document (λ d. flat_map f (in_document d)) (λ d. refl) docs

flat_none : {X A : Type 0} (f : X → List A) → ((x : X) → f x ≡ []) → (xs : List X) → flat_map f xs ≡ []
flat_none f none [] = refl
flat_none f none (x ∷ xs) = ap (λ ys. ys ++ flat_map f xs) (none x) ∙ flat_none f none xs

-- where only one of the lists of a document gives anything
module _ {A : Type 0} (f : Part → List A) where
  only_elements : (d : Document) → ((a : Attribute) → by_attribute f d.file a ≡ []) → ((t : TypeDefinition) → by_definition f d.file t ≡ [])
      → ((l : Local) → by_local f d.file l ≡ []) → by_document f d ≡ flat_map (by_element f d.file) d.elements
  only_elements d as_ ts ls =
      let es = flat_map (by_element f d.file) d.elements in
      ap₂ (λ xs ys. (es ++ xs) ++ ys)
      (ap₂ (λ xs ys. xs ++ ys) (flat_none (by_attribute f d.file) as_ d.attributes) (flat_none (by_definition f d.file) ts d.types))
      (flat_none (by_local f d.file) ls d.locals)
      ∙ append-nil (es ++ []) ∙ append-nil es

  only_attributes : (d : Document) → ((e : Element) → by_element f d.file e ≡ []) → ((t : TypeDefinition) → by_definition f d.file t ≡ [])
      → ((l : Local) → by_local f d.file l ≡ []) → by_document f d ≡ flat_map (by_attribute f d.file) d.attributes
  only_attributes d es ts ls =
      let as_ = flat_map (by_attribute f d.file) d.attributes in
      ap₂ (λ xs ys. (xs ++ (as_ ++ ys)) ++ flat_map (by_local f d.file) d.locals) (flat_none (by_element f d.file) es d.elements) (flat_none (by_definition f d.file) ts d.types)
      ∙ ap (λ ys. (as_ ++ []) ++ ys) (flat_none (by_local f d.file) ls d.locals) ∙ append-nil (as_ ++ []) ∙ append-nil as_

  only_types : (d : Document) → ((e : Element) → by_element f d.file e ≡ []) → ((a : Attribute) → by_attribute f d.file a ≡ [])
      → ((l : Local) → by_local f d.file l ≡ []) → by_document f d ≡ flat_map (by_definition f d.file) d.types
  only_types d es as_ ls =
      let ts = flat_map (by_definition f d.file) d.types in
      ap₂ (λ xs ys. (xs ++ (ys ++ ts)) ++ flat_map (by_local f d.file) d.locals) (flat_none (by_element f d.file) es d.elements) (flat_none (by_attribute f d.file) as_ d.attributes)
      ∙ ap (λ ys. ts ++ ys) (flat_none (by_local f d.file) ls d.locals) ∙ append-nil ts

  -- and where no element has anything to give by its type
  no_complex : ((file at : ℕ) (c : Complex) → by_kind f file at (ComplexKind c) ≡ []) → (file at : ℕ) (k : Kind) → by_kind f file at k ≡ []
  no_complex none file at (NamedKind r) = refl
  no_complex none file at (SimpleKind s) = refl
  no_complex none file at (ComplexKind c) = none file at c

-- ---- elements

abbrev pub global_element : ℕ → Element → GlobalComponent
global_element file e = global e.name (place file e.at)

elements_at_top : GivesAtTop (as_element)
elements_at_top = record { reference = λ f w at r ref. refl; inner = λ f w at s. refl; particle = λ f w at l. refl; group = λ f w at l. refl; use_of = λ f w at u. refl }

elements_in : (d : Document) → flat_map (as_element) (in_document d) ≡ map (global_element d.file) d.elements
elements_in d =
    let f = as_element in
    document_gives f elements_at_top d
    ∙ only_elements f d (λ a. refl) (by_types d.file) (by_locals d.file)
    ∙ flat_same (by_element f d.file) (λ e. global_element d.file e ∷ [])
    (λ e. ap (λ xs. global_element d.file e ∷ xs) (no_complex f (λ file at c. refl) d.file e.at e.kind)) d.elements
    ∙ flat_map_single (global_element d.file) d.elements
  where
    by_types : (file : ℕ) (t : TypeDefinition) → by_definition (as_element) file t ≡ []
    by_types file (SimpleType name body) = refl
    by_types file (ComplexType name body) = refl

    by_locals : (file : ℕ) (l : Local) → by_local (as_element) file l ≡ []
    by_locals file (Reference name at) = refl
    by_locals file (Own e) = no_complex (as_element) (λ f at c. refl) file e.at e.kind

pub elements_listed : (docs : List Document) → elements docs ≡ flat_map (λ d. map (global_element d.file) d.elements) docs
elements_listed docs = by_documents (as_element) docs ∙ flat_same (λ d. flat_map (as_element) (in_document d)) (λ d. map (global_element d.file) d.elements) elements_in docs

-- ---- attributes

abbrev pub global_attribute : ℕ → Attribute → GlobalComponent
global_attribute file a = global a.name (place file a.at)

attributes_at_top : GivesAtTop (as_attribute)
attributes_at_top = record { reference = λ f w at r ref. refl; inner = λ f w at s. refl; particle = λ f w at l. refl; group = λ f w at l. refl; use_of = λ f w at u. refl }

attributes_in : (d : Document) → flat_map (as_attribute) (in_document d) ≡ map (global_attribute d.file) d.attributes
attributes_in d =
    let f = as_attribute in
    document_gives f attributes_at_top d
    ∙ only_attributes f d (λ e. no_complex f (λ file at c. refl) d.file e.at e.kind) (by_types d.file) (by_locals d.file)
    ∙ flat_map_single (global_attribute d.file) d.attributes
  where
    by_types : (file : ℕ) (t : TypeDefinition) → by_definition (as_attribute) file t ≡ []
    by_types file (SimpleType name body) = refl
    by_types file (ComplexType name body) = refl

    by_locals : (file : ℕ) (l : Local) → by_local (as_attribute) file l ≡ []
    by_locals file (Reference name at) = refl
    by_locals file (Own e) = no_complex (as_attribute) (λ f at c. refl) file e.at e.kind

pub attributes_listed : (docs : List Document) → attributes docs ≡ flat_map (λ d. map (global_attribute d.file) d.attributes) docs
attributes_listed docs = by_documents (as_attribute) docs ∙ flat_same (λ d. flat_map (as_attribute) (in_document d)) (λ d. map (global_attribute d.file) d.attributes) attributes_in docs

-- ---- types

abbrev pub global_type : ℕ → TypeDefinition → GlobalComponent
global_type file (SimpleType name body) = global name (place file body.at)
global_type file (ComplexType name body) = global name (place file body.at)

types_at_top : GivesAtTop (as_type)
types_at_top = record { reference = λ f w at r ref. refl; inner = λ f w at s. refl; particle = λ f w at l. refl; group = λ f w at l. refl; use_of = λ f w at u. refl }

types_in : (d : Document) → flat_map (as_type) (in_document d) ≡ map (global_type d.file) d.types
types_in d =
    let f = as_type in
    document_gives f types_at_top d
    ∙ only_types f d (λ e. no_complex f (λ file at c. refl) d.file e.at e.kind) (λ a. refl) (by_locals d.file)
    ∙ flat_same (by_definition f d.file) (λ t. global_type d.file t ∷ []) (by_types d.file) d.types
    ∙ flat_map_single (global_type d.file) d.types
  where
    by_types : (file : ℕ) (t : TypeDefinition) → by_definition (as_type) file t ≡ global_type file t ∷ []
    by_types file (SimpleType name body) = refl
    by_types file (ComplexType name body) = refl

    by_locals : (file : ℕ) (l : Local) → by_local (as_type) file l ≡ []
    by_locals file (Reference name at) = refl
    by_locals file (Own e) = no_complex (as_type) (λ f at c. refl) file e.at e.kind

pub types_listed : (docs : List Document) → types docs ≡ flat_map (λ d. map (global_type d.file) d.types) docs
types_listed docs = by_documents (as_type) docs ∙ flat_same (λ d. flat_map (as_type) (in_document d)) (λ d. map (global_type d.file) d.types) types_in docs

-- ---- complex types, also those in place

abbrev pub by_kind_of : ℕ → Kind → List ComplexDefinition
by_kind_of file (NamedKind r) = []
by_kind_of file (SimpleKind s) = []
by_kind_of file (ComplexKind c) = defined file None c ∷ []

abbrev pub of_element : ℕ → Element → List ComplexDefinition
of_element file e = by_kind_of file e.kind

abbrev pub of_definition : ℕ → TypeDefinition → List ComplexDefinition
of_definition file (SimpleType name body) = []
of_definition file (ComplexType name body) = defined file (Some name) body ∷ []

abbrev pub of_local : ℕ → Local → List ComplexDefinition
of_local file (Reference name at) = []
of_local file (Own e) = by_kind_of file e.kind

abbrev pub listed : Document → List ComplexDefinition
listed d = flat_map (of_element d.file) d.elements ++ (flat_map (of_definition d.file) d.types ++ flat_map (of_local d.file) d.locals)

complexes_at_top : GivesAtTop complex.of_part
complexes_at_top = record { reference = λ f w at r ref. refl; inner = λ f w at s. refl; particle = λ f w at l. refl; group = λ f w at l. refl; use_of = λ f w at u. refl }

pub complexes_listed : (d : Document) → of_document d ≡ listed d
complexes_listed d =
    let f = complex.of_part in
    let ts = flat_map (by_definition f d.file) d.types in
    document_gives f complexes_at_top d
    ∙ ap (λ ys. (flat_map (by_element f d.file) d.elements ++ (ys ++ ts)) ++ flat_map (by_local f d.file) d.locals) (flat_none (by_attribute f d.file) (λ a. refl) d.attributes)
    ∙ append_assoc (flat_map (by_element f d.file) d.elements) ts (flat_map (by_local f d.file) d.locals)
    ∙ ap₂ (λ xs ys. xs ++ ys) (flat_same (by_element f d.file) (of_element d.file) (λ e. kinds d.file e.at e.kind) d.elements)
    (ap₂ (λ xs ys. xs ++ ys) (flat_same (by_definition f d.file) (of_definition d.file) (definitions d.file) d.types)
    (flat_same (by_local f d.file) (of_local d.file) (locals d.file) d.locals))
  where
    kinds : (file at : ℕ) (k : Kind) → by_kind complex.of_part file at k ≡ by_kind_of file k
    kinds file at (NamedKind r) = refl
    kinds file at (SimpleKind s) = refl
    kinds file at (ComplexKind c) = refl

    definitions : (file : ℕ) (t : TypeDefinition) → by_definition complex.of_part file t ≡ of_definition file t
    definitions file (SimpleType name body) = refl
    definitions file (ComplexType name body) = refl

    locals : (file : ℕ) (l : Local) → by_local complex.of_part file l ≡ of_local file l
    locals file (Reference name at) = refl
    locals file (Own e) = kinds file e.at e.kind
