use Rattle.std.proofs.Common.{rules}
use Rattle.xml_pieces.proofs.Spelled.{spelled, unspelled, ascii_spelled}
use Rattle.xml_pieces.proofs.qnames.spells_ncname.Goals as goal

pub returns-in-Ok : goal.returns-in-Ok
returns-in-Ok c = spelled c.args.bytes.now _ (search rules) (search rules)

pub returns-in-Err : goal.returns-in-Err
returns-in-Err c = unspelled c.args.bytes.now (search rules)

pub returns-then-is_ascii_ncname : goal.returns-then-is_ascii_ncname
returns-then-is_ascii_ncname c = ascii_spelled c.args.bytes.now (search rules)
