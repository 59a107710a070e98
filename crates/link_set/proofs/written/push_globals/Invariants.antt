use Rattle.std.proofs.Common.{◌≡◌, ◌++◌, map, take}
use Rattle.schema_components.specs.Seen.{element_of}
use Rattle.link_set.specs.Written.{written_element}
use Rattle.link_set.specs.Private.Seen.{elements_of}
use Rattle.link_set.proofs.written.push_globals.Given as goal

-- those before this one were put behind
abbrev pub invariant-elements : goal.invariant-elements
invariant-elements l =
    elements_of l.out.items ≡ elements_of l.fn.out.items ++ map (written_element l.file) (map element_of (take l.element-index l.element-items))
