use Rattle.std.proofs.Common.{◌≡◌, ◌++◌, map, take}
use Rattle.std.specs.List.{flat_map}
use Rattle.schema_components.specs.Seen.{use_of}
use Rattle.link_names.specs.Parts.{in_use}
use Rattle.link_names.specs.WalkSeen.{parts_of}
use Rattle.link_names.proofs.walk.push_uses.Given as goal

-- those of the ones before this one were put behind
abbrev pub invariant-uses : goal.invariant-uses
invariant-uses l =
    parts_of l.out.items ≡ parts_of l.fn.out.items ++ flat_map (in_use l.file l.within) (map use_of (take l.attribute-index l.uses))
