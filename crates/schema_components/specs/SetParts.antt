-- A linked set with the spaces of its simple types, but not their representation: what the documents of a set determine.
use Rattle.std.specs.Prelude.{ℕ, List, map, Option}
use Rattle.base_texts.specs.declared.texts.Name.{Name}
use Rattle.simple_types.specs.Seen.{space_of}
use Rattle.simple_types.specs.Space.{Space}
use Rattle.schema_components.specs.declared.components.ElementDecl.{ElementDecl}
use Rattle.schema_components.specs.declared.components.SimpleDef.{SimpleDef}
use Rattle.schema_components.specs.declared.components.ComplexDef.{ComplexDef}
use Rattle.schema_components.specs.declared.components.GlobalAttribute.{GlobalAttribute}
use Rattle.schema_components.specs.Components.{Set}

-- A simple type by its name, if it has one, and its space.
pub record NamedSpace : Type 0 where
  pub name : Option Name
  pub space : Space

pub record SetParts : Type 0 where
  pub elements : List ElementDecl
  pub globals : ℕ
  pub simples : List NamedSpace
  pub complexes : List ComplexDef
  pub attributes : List GlobalAttribute

abbrev pub named_space : SimpleDef → NamedSpace
named_space t = record { name = t.name; space = space_of t.space }

abbrev pub named_spaces : List SimpleDef → List NamedSpace
named_spaces ts = map named_space ts

abbrev pub parts_of : Set → SetParts
parts_of s =
    record {
      elements = s.elements;
      globals = s.globals;
      simples = named_spaces s.simples;
      complexes = s.complexes;
      attributes = s.attributes;
    }
