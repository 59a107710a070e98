use Rattle.std.proofs.Common.{arith}
use Rattle.content_models.specs.Seen.{seen}
use Rattle.content_match.proofs.Bounding.{bounds_allow}
use Rattle.validity_check.proofs.Declaring.{model_kept}
use Rattle.validity_check.proofs.plans.Plans.compiled.Goals as goal

pub compile-requires-clause-clear : goal.compile-requires-clause-clear
compile-requires-clause-clear c = (model_kept c.args.self.now c.requires.linked c.args.complex c.args.model.now c.requires.model).clear

pub compile-requires-clause-bounds : goal.compile-requires-clause-bounds
compile-requires-clause-bounds c = bounds_allow (seen c.args.model.now) (model_kept c.args.self.now c.requires.linked c.args.complex c.args.model.now c.requires.model).occurring

pub compile-requires-clause-few : goal.compile-requires-clause-few
compile-requires-clause-few c = let few = (model_kept c.args.self.now c.requires.linked c.args.complex c.args.model.now c.requires.model).few in omega (arith, few)
