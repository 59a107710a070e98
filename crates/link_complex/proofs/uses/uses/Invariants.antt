use Rattle.std.proofs.Common.{◌≡◌, map, take}
use Rattle.schema_components.specs.Seen.{use_of}
use Rattle.link_names.specs.Seen.{globals_of}
use Rattle.link_complex.specs.Uses.{use_part}
use Rattle.link_complex.proofs.uses.uses.Given as goal

-- those before this one
abbrev pub invariant-uses : goal.invariant-uses
invariant-uses l = globals_of l.found.items ≡ map (use_part l.file) (map use_of (take l.attribute-index l.attribute-items))
