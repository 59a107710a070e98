use Rattle.xml_pieces.proofs.Utf8.{name_rest_utf8}
use Rattle.xml_pieces.proofs.markup.question.Goals as goal

pub instruction-requires-clause-target : goal.instruction-requires-clause-target
instruction-requires-clause-target c = (name_rest_utf8 _ _ _ c.in_ok-target.ensures c.requires).0

pub instruction-requires-clause-bytes : goal.instruction-requires-clause-bytes
instruction-requires-clause-bytes c = (name_rest_utf8 _ _ _ c.in_ok-target.ensures c.requires).1
