-- The document that parts of the code's types make up.
use Rattle.std.specs.Prelude.{ℕ, List, map}
use Rattle.schema_components.specs.Raw.{Document}
use Rattle.schema_components.specs.Seen.{element_of, attribute_of, type_of, local_of}
use Rattle.schema_components.specs.declared.declarations.RawElement.{RawElement}
use Rattle.schema_components.specs.declared.declarations.RawAttribute.{RawAttribute}
use Rattle.schema_components.specs.declared.declarations.RawType.{RawType}
use Rattle.schema_components.specs.declared.declarations.RawLocal.{RawLocal}

abbrev pub parts_of : ℕ → List ℕ → List RawElement → List RawAttribute → List RawType → List RawLocal → List ℕ → Document
parts_of file target elements attributes types locals counted =
    record {
      file = file;
      target = target;
      elements = map element_of elements;
      attributes = map attribute_of attributes;
      types = map type_of types;
      locals = map local_of locals;
      counted = counted;
    }
