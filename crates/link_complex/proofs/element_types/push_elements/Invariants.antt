use Rattle.std.proofs.Common.{◌≡◌, ◌++◌, map, take}
use Rattle.schema_components.specs.Seen.{element_of}
use Rattle.link_complex.specs.ElementTypes.{typed_element}
use Rattle.link_complex.specs.Private.Identities.{elements_of}
use Rattle.link_complex.proofs.element_types.push_elements.Given as goal

-- those before this one were put behind
abbrev pub invariant-elements : goal.invariant-elements
invariant-elements l =
    elements_of l.out.items ≡ elements_of l.fn.out.items ++ map (typed_element l.file) (map element_of (take l.element-index l.element-items))
