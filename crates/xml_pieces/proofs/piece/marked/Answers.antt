use Rattle.std.proofs.Common.{refl, [], ◌∷◌}
use Rattle.xml_pieces.proofs.Utf8.{behind_utf8}
use Rattle.xml_pieces.proofs.piece.marked.Goals as goal

pub comment-requires : goal.comment-requires
comment-requires c = behind_utf8 (33 ∷ 45 ∷ 45 ∷ []) c.args.bytes.now c.in-Some.rest.now refl c.in-Some.ensures c.requires

pub cdata-requires : goal.cdata-requires
cdata-requires c = behind_utf8 (33 ∷ 91 ∷ 67 ∷ 68 ∷ 65 ∷ 84 ∷ 65 ∷ 91 ∷ []) c.args.bytes.now c.in-Some-strip.rest.now refl c.in-Some-strip.ensures c.requires

pub question-requires : goal.question-requires
question-requires c = behind_utf8 (63 ∷ []) c.args.bytes.now c.in-Some-strip-2.rest.now refl c.in-Some-strip-2.ensures c.requires

pub end_tag-requires : goal.end_tag-requires
end_tag-requires c = behind_utf8 (47 ∷ []) c.args.bytes.now c.in-Some-strip-3.rest.now refl c.in-Some-strip-3.ensures c.requires
