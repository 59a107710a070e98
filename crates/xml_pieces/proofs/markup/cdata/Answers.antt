use Rattle.std.proofs.Common.{◌∷◌, [], refl}
use Rattle.xml_pieces.proofs.Utf8.{until_utf8}
use Rattle.xml_pieces.proofs.markup.cdata.Goals as goal

pub is_text-requires : goal.is_text-requires
is_text-requires c = (until_utf8 93 (93 ∷ 62 ∷ []) _ _ _ refl c.in-Some.ensures c.requires).0
