use Rattle.std.proofs.Common.{◌≡◌, ◌++◌, take}
use Rattle.std.specs.List.{flat_map}
use Rattle.link_names.specs.WalkSeen.{parts_of}
use Rattle.link_set.specs.NamedBuiltins.{in_part}
use Rattle.link_set.proofs.builtins.push_parts.Given as goal

-- those of the parts before this one were put behind
abbrev pub invariant-parts : goal.invariant-parts
invariant-parts l = l.out.items ≡ l.fn.out.items ++ flat_map in_part (parts_of (take l.part-index l.parts))
