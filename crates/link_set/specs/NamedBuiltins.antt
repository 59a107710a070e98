-- The built-in types that elements, attributes and extensions name (XML Schema Part 1, sections 3.2.2, 3.3.2 and 3.4.2). A
-- base, an item or a member of another simple type isn't counted.
use Rattle.std.specs.Prelude.{List, [], ◌∷◌}
use Rattle.std.specs.List.{flat_map}
use Rattle.simple_types.specs.declared.simples.Builtin.{Builtin}
use Rattle.schema_components.specs.declared.simple_definitions.RawRef.{RawRef}
use Rattle.schema_components.specs.declared.simple_definitions.RawRef.TheVariants as reference
use Rattle.schema_components.specs.Raw.{Document}
use Rattle.link_names.specs.Parts as part
use Rattle.link_names.specs.Parts.{What, Part, parts}
use Rattle.link_names.specs.declared.parts.TypeRole.{TypeRole}
use Rattle.link_names.specs.declared.parts.TypeRole.TheVariants as role

abbrev pub in_reference : RawRef → List Builtin
in_reference (reference.Builtin which) = which ∷ []
in_reference (reference.Other name) = []

abbrev pub in_role : TypeRole → RawRef → List Builtin
in_role role.Element r = in_reference r
in_role role.Attribute r = in_reference r
in_role role.Content r = in_reference r
in_role role.SimpleType r = []

abbrev pub in_what : What → List Builtin
in_what (part.TypeReference told r) = in_role told r
in_what other = []

abbrev pub in_part : Part → List Builtin
in_part p = in_what p.what

-- The built-in types, once for each time that they are named.
abbrev pub named_builtins : List Document → List Builtin
named_builtins docs = flat_map in_part (parts docs)
