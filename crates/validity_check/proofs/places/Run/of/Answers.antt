use Rattle.validity_check.proofs.places.Run.of.Goals as goal

pub returns-else-self : goal.returns-else-self
returns-else-self c = c.none.ensures c.args.uses.now c.args.name.now.space
