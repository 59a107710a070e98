-- The components of a schema document (XML Schema Part 1, section 3.15.2).
use Rattle.std.specs.Prelude.{◌≡◌, ℕ, ◌+◌, List, [], ◌∷◌, ◌++◌, map, length, bytes_eq, codes, Option, Some, None, if◌then◌else◌}
use Rattle.base_texts.specs.declared.texts.Name.{Name}
use Rattle.base_texts.specs.Namespaces.{xml_prefix, xml_space}
use Rattle.base_trees.specs.Rose.{Rose, roses_of, label_of, kids_of}
use Rattle.xml_items.specs.declared.label.ItemLabel.{ItemLabel}
use Rattle.xml_items.specs.declared.label.ItemLabel.TheVariants as label
use Rattle.schema_components.specs.Raw.{Simple, Complex, Element, Local, Attribute, TypeDefinition, SimpleType, ComplexType, Document}
use Rattle.schema_components.specs.Seen.{element_of, attribute_of, type_of, local_of}
use Rattle.schema_syntax.specs.Elements.{is_schema_name}
use Rattle.schema_syntax.specs.Attributes.{own_attributes}
use Rattle.schema_components.specs.declared.documents.RawComponents.{RawComponents as Globals}
use Rattle.schema_read.specs.Names.{declared_name}
use Rattle.schema_read.specs.SimpleTypes.{simple_type}
use Rattle.schema_read.specs.Attributes.{global_attribute}
use Rattle.schema_read.specs.Counted.{counted_among}
use Rattle.schema_read.specs.Settings.{Settings, settings_of}
use Rattle.schema_read.specs.Particles.{Made, element_by, kind_by, inner_kind, complex_type}

-- The components of some children of `schema`, with the local declarations in them.
pub record Parts : Type 0 where
  pub elements : List Element
  pub attributes : List Attribute
  pub types : List TypeDefinition
  pub locals : List Local

abbrev pub no_parts : Parts
no_parts = record { elements = []; attributes = []; types = []; locals = [] }

abbrev pub and_parts : Parts → Parts → Parts
and_parts first rest =
    record {
      elements = first.elements ++ rest.elements;
      attributes = first.attributes ++ rest.attributes;
      types = first.types ++ rest.types;
      locals = first.locals ++ rest.locals;
    }

-- ---- one child

abbrev pub element_parts : Made Element → Parts
element_parts m = record { elements = m.value ∷ []; attributes = []; types = []; locals = m.locals }

abbrev pub attribute_parts : Option Attribute → Parts
attribute_parts None = no_parts
attribute_parts (Some a) = record { elements = []; attributes = a ∷ []; types = []; locals = [] }

abbrev pub simple_type_parts : Name → Option Simple → Parts
simple_type_parts name None = no_parts
simple_type_parts name (Some body) = record { elements = []; attributes = []; types = SimpleType name body ∷ []; locals = [] }

abbrev pub complex_types : Name → Option Complex → List TypeDefinition
complex_types name None = []
complex_types name (Some body) = ComplexType name body ∷ []

abbrev pub complex_type_parts : Name → Made (Option Complex) → Parts
complex_type_parts name m = record { elements = []; attributes = []; types = complex_types name m.value; locals = m.locals }

-- A global element declaration (section 3.3.2).
abbrev pub global_element : Settings → ℕ → ℕ → List (List ℕ × List ℕ) → List (List ℕ × List ℕ) → List (Rose ItemLabel) → Made Element
global_element said n at scope own kids = element_by (declared_name said.target own) own at (kind_by scope own (inner_kind said scope n (roses_of kids)))

abbrev pub parts_named : Settings → List (List ℕ × List ℕ) → ℕ → List ℕ → List (List ℕ × List ℕ) → List (List ℕ × List ℕ) → ℕ → Rose ItemLabel → Parts
parts_named said outer n name own scope at t =
    if bytes_eq name (codes "element") then element_parts (global_element said n at scope own (kids_of t))
    else if bytes_eq name (codes "attribute") then attribute_parts (global_attribute said.target outer (label_of t) (kids_of t))
    else if bytes_eq name (codes "simpleType") then simple_type_parts (declared_name said.target own) (simple_type outer t)
    else if bytes_eq name (codes "complexType") then complex_type_parts (declared_name said.target own) (complex_type said outer n t)
    else no_parts

abbrev pub parts_by : Settings → List (List ℕ × List ℕ) → ℕ → ItemLabel → Rose ItemLabel → Parts
parts_by said outer n (label.Element name attributes declares at) t =
    if is_schema_name name then parts_named said outer n name.local (own_attributes attributes) (declares ++ outer) at t else no_parts
parts_by said outer n (label.Text text at) t = no_parts

-- ---- all of them

-- The components of some children, given the number n of local declarations that precede them.
abbrev pub parts_among : Settings → List (List ℕ × List ℕ) → ℕ → List (Rose ItemLabel) → Parts
parts_among said scope n [] = no_parts
parts_among said scope n (t ∷ ts) =
    and_parts (parts_by said scope n (label_of t) t) (parts_among said scope (n + length (parts_by said scope n (label_of t) t).locals) ts)

abbrev pub document_with : ℕ → List ℕ → List ℕ → Parts → Document
document_with file target counted parts =
    record {
      file = file;
      target = target;
      elements = parts.elements;
      attributes = parts.attributes;
      types = parts.types;
      locals = parts.locals;
      counted = counted;
    }

abbrev pub document_by : ℕ → List (List ℕ × List ℕ) → List (List ℕ × List ℕ) → List (Rose ItemLabel) → Document
document_by file own scope kids =
    document_with file (settings_of file own).target (counted_among (roses_of kids)) (parts_among (settings_of file own) scope 0 kids)

-- The components of a document by its root. `xml` is bound everywhere (Namespaces in XML 1.0, section 3).
abbrev pub raw_by : ℕ → ItemLabel → List (Rose ItemLabel) → Document
raw_by file (label.Element name attributes declares at) kids = document_by file (own_attributes attributes) (declares ++ (xml_prefix, xml_space) ∷ []) kids
raw_by file (label.Text text at) kids = document_with file [] [] no_parts

-- The components of the document with this root, which has this number in its set.
abbrev pub raw_of : ℕ → Rose ItemLabel → Document
raw_of file root = raw_by file (label_of root) (kids_of root)

-- ---- values of the code

-- The parts are added after those before.
pub record Adds (before after : Globals) (parts : Parts) : Type 0 where
  pub elements_are : map element_of after.elements.items ≡ map element_of before.elements.items ++ parts.elements
  pub attributes_are : map attribute_of after.attributes.items ≡ map attribute_of before.attributes.items ++ parts.attributes
  pub types_are : map type_of after.types.items ≡ map type_of before.types.items ++ parts.types
  pub locals_are : map local_of after.locals.items ≡ map local_of before.locals.items ++ parts.locals

-- There are exactly these parts.
pub record Are (all : Globals) (parts : Parts) : Type 0 where
  pub elements_are : map element_of all.elements.items ≡ parts.elements
  pub attributes_are : map attribute_of all.attributes.items ≡ parts.attributes
  pub types_are : map type_of all.types.items ≡ parts.types
  pub locals_are : map local_of all.locals.items ≡ parts.locals
