use Rattle.std.proofs.Common.{arith}
use Rattle.validity_check.proofs.Ordered.{alone, reaches_down, reaches_up}
use Rattle.validity_check.proofs.places.Run.with.Goals as goal

pub returns-then-self : goal.returns-then-self
returns-then-self c = λ us space sorted there here run. alone us sorted space c.args.place there here c.args.self.last c.args.self.next

pub returns-then-place-self : goal.returns-then-place-self
returns-then-place-self c = λ us space sorted there here run. reaches_down us sorted space c.args.self (omega (arith, c.if-self.false)) c.args.place here run c.if-place-self.true

pub returns-then-self-place : goal.returns-then-self-place
returns-then-self-place c = λ us space sorted there here run.
    reaches_up us sorted space c.args.self (omega (arith, c.if-self.false)) c.args.place here run c.if-self-place.true there

pub returns-else-self-place : goal.returns-else-self-place
returns-else-self-place c = λ us space sorted there here run. run
