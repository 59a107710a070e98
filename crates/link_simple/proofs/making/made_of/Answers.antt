use Rattle.link_names.specs.CyclesSeen.{definitions_of}
use Rattle.link_simple.proofs.making.made_of.Goals as goal

pub returns : goal.returns
returns c = c.end.ensures (definitions_of c.args.definitions.now) c.in_ok-work.ensures
