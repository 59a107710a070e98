use Rattle.std.proofs.Common.{◌≡◌, ◌++◌, map, take}
use Rattle.link_set.specs.Private.Seen.{elements_of}
use Rattle.link_set.specs.Sets.{element}
use Rattle.link_set.specs.Private.Told.{told_by}
use Rattle.link_set.proofs.tables.ComponentNumbers.push_elements.Given as goal

-- those of the ones before this one were put behind
abbrev pub invariant-elements : goal.invariant-elements
invariant-elements l = l.out.items ≡ l.fn.out.items ++ map (element (told_by l.self)) (elements_of (take l.written-index l.elements))
