use Rattle.std.proofs.Common.{◌≡◌, ◌++◌, length}
use Rattle.std.specs.List.{flat_map}
use Rattle.xml_write.specs.Private.Escapes.{escape_in}
use Rattle.xml_write.proofs.writing.write_escaped.Given as goal

-- what is written, with what is still to be written
abbrev pub invariant-runs : goal.invariant-runs
invariant-runs l = l.out.items ++ flat_map (escape_in l.place) l.rest ≡ l.fn.out.items ++ flat_map (escape_in l.place) l.bytes

abbrev pub decreases-runs : goal.decreases-runs
decreases-runs l = length l.rest
