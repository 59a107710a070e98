use Rattle.std.proofs.Common.{◌∷◌, [], refl}
use Rattle.xml_pieces.proofs.Utf8.{until_utf8}
use Rattle.xml_pieces.proofs.markup.instruction.Goals as goal

pub is_text-requires : goal.is_text-requires
is_text-requires c = (until_utf8 63 (62 ∷ []) _ _ _ refl c.in_ok-inner.ensures c.requires.bytes).0
