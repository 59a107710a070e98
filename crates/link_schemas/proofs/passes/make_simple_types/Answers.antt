use Rattle.link_schemas.proofs.passes.make_simple_types.Goals as goal

pub made-requires-clause-resolved : goal.made-requires-clause-resolved
made-requires-clause-resolved c = c.requires.1.1.0

pub made-requires-clause-acyclic : goal.made-requires-clause-acyclic
made-requires-clause-acyclic c = c.requires.1.1.1.0
