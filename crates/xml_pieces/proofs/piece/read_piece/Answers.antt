use Rattle.xml_pieces.specs.Found.{seen}
use Rattle.xml_pieces.proofs.PieceLaws.{read_by_grammar}
use Rattle.xml_pieces.proofs.piece.read_piece.Goals as goal

pub returns : goal.returns
returns c = read_by_grammar c.args.bytes.now (λ x. seen x.0) (λ x. x.1.now) c.first_piece.result c.requires c.first_piece.ensures
