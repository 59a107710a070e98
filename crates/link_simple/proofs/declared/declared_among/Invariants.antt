use Rattle.std.proofs.Common.{◌≡◌, take}
use Rattle.link_names.specs.WalkSeen.{parts_of}
use Rattle.link_simple.specs.Standards as rule
use Rattle.link_simple.specs.StandardsSeen.{declared_of}
use Rattle.link_simple.proofs.declared.declared_among.Given as goal

-- those of the parts before this one
abbrev pub invariant-parts : goal.invariant-parts
invariant-parts l = declared_of l.found.items ≡ rule.declared_among (parts_of (take l.part-index l.parts))
