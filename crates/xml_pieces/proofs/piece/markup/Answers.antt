use Rattle.std.proofs.Common.{refl, sym, ◌∙◌, [], ◌∷◌}
use Rattle.xml_pieces.proofs.Utf8.{behind_utf8}
use Rattle.xml_pieces.proofs.Marked.{end_first, tag_first}
use Rattle.xml_pieces.proofs.piece.markup.Goals as goal

pub end_tag-requires : goal.end_tag-requires
end_tag-requires c = behind_utf8 (47 ∷ []) c.args.bytes.now c.in-Some.rest.now refl c.in-Some.ensures c.requires

pub returns-in-Some : goal.returns-in-Some
returns-in-Some c = rw (end_first c.args.bytes.now c.in-Some.rest.now c.in-Some.ensures) c.end_tag.ensures

pub returns : goal.returns
returns c = rw (tag_first c.args.bytes.now c.in_default.ensures (sym c.is_marked.ensures ∙ c.if-is_marked.false)) c.tag.ensures
