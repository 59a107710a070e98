use Rattle.std.proofs.Common.{◌≡◌, ◌++◌, map, take}
use Rattle.std.specs.List.{flat_map}
use Rattle.schema_components.specs.Seen.{element_of, attribute_of, type_of}
use Rattle.link_names.specs.Parts.{in_element, in_attribute, in_definition}
use Rattle.link_names.specs.WalkSeen.{parts_of}
use Rattle.link_names.proofs.walk.push_globals.Given as goal

-- In each loop those of the ones before this one were put behind.
abbrev pub invariant-elements : goal.invariant-elements
invariant-elements l =
    parts_of l.out.items ≡ parts_of l.initial.out.items ++ flat_map (in_element l.file) (map element_of (take l.element-index l.elements))

abbrev pub invariant-attributes : goal.invariant-attributes
invariant-attributes l =
    parts_of l.out.items ≡ parts_of l.initial.out.items ++ flat_map (in_attribute l.file) (map attribute_of (take l.attribute-index l.attributes))

abbrev pub invariant-definitions : goal.invariant-definitions
invariant-definitions l =
    parts_of l.out.items ≡ parts_of l.initial.out.items ++ flat_map (in_definition l.file) (map type_of (take l.definition-index l.types))
