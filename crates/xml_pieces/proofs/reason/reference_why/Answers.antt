use Rattle.std.proofs.Common.{refl, [], ◌∷◌}
use Rattle.xml_pieces.proofs.Utf8.{behind_utf8}
use Rattle.xml_pieces.proofs.reason.reference_why.Goals as goal

pub is_loose_tag-requires : goal.is_loose_tag-requires
is_loose_tag-requires c = behind_utf8 (60 ∷ []) c.args.bytes.now c.in-Some.rest.now refl c.in-Some.ensures c.requires
