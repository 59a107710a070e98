use Rattle.std.proofs.Common.{◌≡◌, take}
use Rattle.base_texts.specs.declared.texts.Name.{Name}
use Rattle.link_names.specs.Globals.{is_there}
use Rattle.link_names.specs.Seen.{globals_of}
use Rattle.link_names.specs.Private.Tables.{holds}
use Rattle.link_names.proofs.resolution.names_of.Given as goal

-- the set has the names before this one
abbrev pub invariant-globals : goal.invariant-globals
invariant-globals l = (a : Name) → holds l.names a ≡ is_there (globals_of (take l.global-index l.globals)) a
