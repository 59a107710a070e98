use Rattle.link_simple.proofs.Varied.{few_items}
use Rattle.link_simple.proofs.leaving.restricted.Goals as goal

pub restrict-requires-clause-few : goal.restrict-requires-clause-few
restrict-requires-clause-few c = few_items c.args.facets.now c.requires.few
