use Rattle.std.proofs.Common.{◌≡◌, take}
use Rattle.std.specs.List.{flat_map}
use Rattle.xml_write.specs.Private.Escapes.{escape_in}
use Rattle.xml_write.proofs.writing.split_plain.Given as goal

abbrev pub invariant-loop-len : goal.invariant-loop-len
invariant-loop-len l = flat_map (escape_in l.place) (take l.len l.bytes) ≡ take l.len l.bytes
