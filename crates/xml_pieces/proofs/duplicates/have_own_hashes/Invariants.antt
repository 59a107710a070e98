use Rattle.std.proofs.Common.{◌≡◌, take}
use Rattle.xml_pieces.proofs.Hashed.{hashes}
use Rattle.xml_pieces.proofs.duplicates.have_own_hashes.Given as goal

abbrev pub invariant-loop-attribute : goal.invariant-loop-attribute
invariant-loop-attribute l = l.hashes.items ≡ hashes (take l.attribute-index l.attributes)
