-- The numbers of the components of several documents. Each kind is numbered from 0, in its order: the global elements and
-- then the local ones, the simple types and then the built-in ones that are used, the complex types.
use Rattle.std.specs.Prelude.{ℕ, Bool, false, ◌&&◌, nat_eq, List, length, map, Option, Some, None}
use Rattle.std.specs.List.{position_from}
use Rattle.base_texts.specs.declared.texts.Name.{Name}
use Rattle.base_texts.specs.Names.{name_eq}
use Rattle.simple_types.specs.declared.simples.Builtin.{Builtin}
use Rattle.link_names.specs.declared.places.Place.{Place}
use Rattle.link_names.specs.Order.{place}
use Rattle.link_names.specs.SimpleTypes.{SimpleDefinition}
use Rattle.link_complex.specs.ComplexTypes.{ComplexDefinition}
use Rattle.link_set.specs.Builtins.{is_builtin, used_builtins}
use Rattle.link_set.specs.Written.{WrittenElement, Lists}

-- A component by its name, if it has one, and by its place.
pub record NamedPlace : Type 0 where
  pub name : Option Name
  pub place : Place

abbrev pub entry : Option Name → Place → NamedPlace
entry name p = record { name = name; place = p }

abbrev pub element_entry : WrittenElement → NamedPlace
element_entry e = entry (Some e.element.name) (place e.file e.element.at)

abbrev pub simple_entry : SimpleDefinition → NamedPlace
simple_entry d = entry d.name d.place

abbrev pub complex_entry : ComplexDefinition → NamedPlace
complex_entry d = entry d.name d.place

abbrev pub is_called : Option Name → Name → Bool
is_called None a = false
is_called (Some b) a = name_eq b a

abbrev pub has_name : Name → NamedPlace → Bool
has_name a e = is_called e.name a

abbrev pub stands_at : Place → NamedPlace → Bool
stands_at p e = nat_eq e.place.file p.file && nat_eq e.place.at p.at

-- A number is the place in a list whose first entry has the number n.

abbrev pub number_named : ℕ → List NamedPlace → Name → Option ℕ
number_named n es a = position_from (has_name a) n es

abbrev pub number_placed : ℕ → List NamedPlace → Place → Option ℕ
number_placed n es p = position_from (stands_at p) n es

-- The numbers of one kind of types, by their names and by their places.
pub record TypeNumbers : Type 0 where
  pub named : Name → Option ℕ
  pub placed : Place → Option ℕ

abbrev pub type_numbers : List NamedPlace → TypeNumbers
type_numbers es = record { named = number_named 0 es; placed = number_placed 0 es }

-- The numbers of all components: of global elements by their names, of local ones by their places.
pub record ComponentNumbers : Type 0 where
  pub elements : Name → Option ℕ
  pub locals : Place → Option ℕ
  pub simples : TypeNumbers
  pub builtins : Builtin → Option ℕ
  pub complexes : TypeNumbers

abbrev pub builtin_numbers : ℕ → List Builtin → Builtin → Option ℕ
builtin_numbers n used which = position_from (is_builtin which) n used

abbrev pub numbers_in : Lists → ComponentNumbers
numbers_in ls =
    record {
      elements = number_named 0 (map element_entry ls.globals);
      locals = number_placed (length ls.globals) (map element_entry ls.locals);
      simples = type_numbers (map simple_entry ls.simples);
      builtins = builtin_numbers (length ls.simples) (used_builtins ls);
      complexes = type_numbers (map complex_entry ls.complexes);
    }
