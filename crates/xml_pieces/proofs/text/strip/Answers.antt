use Rattle.std.proofs.lemmas.Slice.Eq.{strip_prefix_is}
use Rattle.std.proofs.lemmas.Bool.Decides.{Decides-eqb}
use Rattle.xml_pieces.proofs.Strips.{strips}
use Rattle.xml_pieces.proofs.text.strip.Goals as goal

pub returns : goal.returns
returns c = strips c.args.front.now c.args.bytes.now c.strip_prefix.result (strip_prefix_is Decides-eqb c.args.bytes.now c.args.front.now c.strip_prefix.result c.strip_prefix.ensures.cases)
