use Rattle.xml_pieces.proofs.ReasonLaws.{reason_holds}
use Rattle.xml_pieces.proofs.reason.why_none.Goals as goal

pub returns : goal.returns
returns c = rw c.why_at.ensures (reason_holds c.args.is_first c.args.bytes.now c.requires)
