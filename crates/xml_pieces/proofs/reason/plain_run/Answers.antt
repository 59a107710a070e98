use Rattle.xml_pieces.proofs.PlainLaws.{run_is_plain}
use Rattle.xml_pieces.proofs.reason.plain_run.Goals as goal

pub returns-clause-run : goal.returns-clause-run
returns-clause-run c = rw c.plain_len.ensures.value (run_is_plain c.args.bytes.now c.requires).0

pub returns-clause-rest : goal.returns-clause-rest
returns-clause-rest c = rw c.plain_len.ensures.value (run_is_plain c.args.bytes.now c.requires).1
