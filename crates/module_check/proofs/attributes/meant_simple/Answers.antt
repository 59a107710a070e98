use Rattle.std.proofs.Common.{arith}
use Rattle.module_check.proofs.Listing.{simples-length, simple-at}
use Rattle.module_check.proofs.attributes.meant_simple.Goals as goal

pub bounds-simples-number : goal.bounds-simples-number
bounds-simples-number c =
    let long = simples-length c.args.context.now.simples.now c.args.context.now.assignments.now c.requires.simples in
    let below = c.in-Some.ensures.0 in
    omega (arith, long, below)

pub returns-in-Some : goal.returns-in-Some
returns-in-Some c =
    simple-at c.args.context.now.assignments.now c.args.context.now.simples.now c.requires.simples c.in-Some.number c.index-simples-number.result _
    c.in-Some.ensures.0 c.index-simples-number.is c.in-Some.ensures.1
