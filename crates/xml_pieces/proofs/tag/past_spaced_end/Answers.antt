use Rattle.xml_pieces.proofs.Shutting.{ends_now}
use Rattle.xml_pieces.proofs.tag.past_spaced_end.Goals as goal

pub returns-in-Some : goal.returns-in-Some
returns-in-Some c = ends_now c.args.bytes.now _ c.in-Some.ensures
