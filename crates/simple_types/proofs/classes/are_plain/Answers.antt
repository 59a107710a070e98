use Rattle.std.proofs.Common.{refl, arith, subst}
use Rattle.std.specs.List.{All}
use Rattle.std.proofs.lemmas.List.{take_all}
use Rattle.std.proofs.lemmas.List.Elements.{All-more}
use Rattle.simple_types.proofs.PlainTexts.{IsPlain}
use Rattle.simple_types.proofs.classes.are_plain.Goals as goal

pub loop-b-preserved : goal.loop-b-preserved
loop-b-preserved c = All-more IsPlain c.args.bytes.now c.loop-b.b-index 0 c.loop-b-test.true c.loop-b.invariant (omega arith, omega arith)

pub returns : goal.returns
returns c =
    let all = subst (All IsPlain) (take_all c.loop-b.b-index c.args.bytes.now (omega arith)) c.loop-b.invariant in
    (λ _. all, λ _. refl)
