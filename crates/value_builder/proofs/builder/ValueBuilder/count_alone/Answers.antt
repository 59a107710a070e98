use Rattle.std.proofs.Common.{◌+◌, ◌-◌, ◌^◌, ◌<◌, min, refl, sym, subst, arith}
use Rattle.value_builder.specs.Built.{Built}
use Rattle.value_builder.proofs.Putting.{puts-more}
use Rattle.value_builder.proofs.builder.ValueBuilder.count_alone.Goals as goal

pub returns : goal.returns
returns c = λ f more shown counts.
    rw (← c.self.view_is)
    (puts-more f more _ _ counts refl (let n = c.saturating_add-self-inside.ensures in omega (arith, n, shown))
    (λ within.
    let n = c.saturating_add-self-inside.ensures in
    let over = subst (λ (b : Built). b.most < min (b.nodes + c.args.nodes) (2 ^ 64 - 1)) (sym c.self.view_is) c.requires in
    absurd (omega (arith, n, over, within))))
