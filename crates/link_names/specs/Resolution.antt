-- The references that name what they need (XML Schema Part 1, sections 3.15.3 and 3.14.6).
use Rattle.std.specs.Prelude.{Bool, List, Option, Some, None, if◌then◌else◌}
use Rattle.std.specs.List.{filter_map}
use Rattle.std.specs.Option.{option_map}
use Rattle.base_texts.specs.declared.texts.Name.{Name}
use Rattle.schema_components.specs.Raw.{Document}
use Rattle.link_names.specs.Parts.{Part, parts}
use Rattle.link_names.specs.declared.faults.LinkingFault.{LinkingFault}
use Rattle.link_names.specs.declared.faults.LinkWhy.{LinkWhy}
use Rattle.link_names.specs.declared.faults.LinkWhy.TheVariants.{Unresolved, ComplexBase}
use Rattle.link_names.specs.declared.references.Need.{Need}
use Rattle.link_names.specs.declared.references.Need.TheVariants as need
use Rattle.link_names.specs.Order.{fault}
use Rattle.link_names.specs.declared.global_names.NameKind.TheVariants as kind
use Rattle.link_names.specs.Globals.{globals_among, is_there}
use Rattle.link_names.specs.References.{Mention, mentions}

-- The names of the global components of each kind, as tests.
pub record Names : Type 0 where
  pub elements : Name → Bool
  pub attributes : Name → Bool
  pub types : Name → Bool
  pub complexes : Name → Bool

abbrev pub names_among : List Part → Names
names_among ps =
    record {
      elements = is_there (globals_among kind.Element ps);
      attributes = is_there (globals_among kind.Attribute ps);
      types = is_there (globals_among kind.Type ps);
      complexes = is_there (globals_among kind.ComplexType ps);
    }

abbrev pub names_in : List Document → Names
names_in docs = names_among (parts docs)

abbrev pub unless_there : Bool → Option LinkWhy
unless_there there = if there then None else Some Unresolved

-- What is wrong with a reference, if anything is.
abbrev pub wrong : Names → Need → Name → Option LinkWhy
wrong names need.Element a = unless_there (names.elements a)
wrong names need.Attribute a = unless_there (names.attributes a)
wrong names need.Type a = unless_there (names.types a)
wrong names need.Simple a = if names.complexes a then Some ComplexBase else unless_there (names.types a)

abbrev pub fault_of : Names → Mention → Option LinkingFault
fault_of names m = option_map (λ w. fault w m.place) (wrong names m.need m.name)

abbrev pub unresolved : List Document → List LinkingFault
unresolved docs = filter_map (fault_of (names_in docs)) (mentions docs)
