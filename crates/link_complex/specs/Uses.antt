-- Attributes of one name in a complex type (XML Schema Part 1, section 3.4.6, 'Complex Type Definition Properties
-- Correct').
use Rattle.std.specs.Prelude.{ℕ, List, map}
use Rattle.std.specs.List.{flat_map}
use Rattle.schema_components.specs.Raw.{Use, Document}
use Rattle.link_names.specs.declared.faults.LinkingFault.{LinkingFault}
use Rattle.link_names.specs.declared.faults.LinkWhy.TheVariants.{DuplicateUse}
use Rattle.link_names.specs.Order.{place}
use Rattle.link_names.specs.Globals.{GlobalComponent, global, repeated}
use Rattle.link_complex.specs.ComplexTypes.{ComplexDefinition, complex_types}

abbrev pub use_part : ℕ → Use → GlobalComponent
use_part file u = global u.name (place file u.at)

abbrev pub uses_of_type : ComplexDefinition → List GlobalComponent
uses_of_type c = map (use_part c.place.file) c.body.uses

-- The faults of the attributes whose name an earlier one has.
abbrev pub double_uses_of : ComplexDefinition → List LinkingFault
double_uses_of c = repeated DuplicateUse (uses_of_type c)

abbrev pub double_uses : List Document → List LinkingFault
double_uses docs = flat_map double_uses_of (complex_types docs)
