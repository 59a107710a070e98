use Rattle.std.proofs.Common.{◌≡◌, take}
use Rattle.link_names.specs.WalkSeen.{parts_of}
use Rattle.link_names.specs.Globals as told
use Rattle.link_names.specs.Seen.{globals_of}
use Rattle.link_names.proofs.global_names.globals_among.Given as goal

-- those of the parts before this one
abbrev pub invariant-parts : goal.invariant-parts
invariant-parts l = globals_of l.found.items ≡ told.globals_among l.kind (parts_of (take l.part-index l.parts))
