use Rattle.link_complex.proofs.Clearing.{some_answered, none_answered}
use Rattle.link_complex.proofs.content.first_in_model.Goals as goal

pub returns-in-Some : goal.returns-in-Some
returns-in-Some c = some_answered c.args.model.now c.in_ok-found.found c.in-Some.breach c.in_ok-found.ensures c.in-Some.is

pub returns-in-None : goal.returns-in-None
returns-in-None c = none_answered c.args.model.now c.in_ok-found.found c.in_ok-found.ensures c.in-None.is
