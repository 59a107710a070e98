use Rattle.std.proofs.Common.{sym}
use Rattle.content_match.proofs.Guessing.{guessed}
use Rattle.content_match.proofs.guesses.find_kid.Goals as goal

pub returns-then-is_kid_of : goal.returns-then-is_kid_of
returns-then-is_kid_of c =
    sym (guessed c.requires.plan.0 c.requires.plan.1 c.args.plan.now c.args.group.now c.args.from c.args.name.now c.requires.plan.2 c.requires.group c.requires.from (c.is_kid_of.ensures.kid c.if-is_kid_of.true))
