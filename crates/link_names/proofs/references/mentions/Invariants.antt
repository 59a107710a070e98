use Rattle.std.proofs.Common.{◌≡◌, take}
use Rattle.std.specs.List.{flat_map}
use Rattle.link_names.specs.WalkSeen.{parts_of}
use Rattle.link_names.specs.References.{of_part}
use Rattle.link_names.specs.Private.Mentioned.{mentions_of}
use Rattle.link_names.proofs.references.mentions.Given as goal

-- those of the parts before this one
abbrev pub invariant-parts : goal.invariant-parts
invariant-parts l = mentions_of l.found.items ≡ flat_map of_part (parts_of (take l.part-index l.parts))
