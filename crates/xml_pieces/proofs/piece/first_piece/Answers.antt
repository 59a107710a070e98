use Rattle.std.proofs.Common.{refl, [], ◌∷◌}
use Rattle.xml_pieces.proofs.Utf8.{behind_utf8}
use Rattle.xml_pieces.proofs.piece.first_piece.Goals as goal

pub markup-requires : goal.markup-requires
markup-requires c = behind_utf8 (60 ∷ []) c.args.bytes.now c.in-Some.rest.now refl c.in-Some.ensures c.requires
