use Rattle.std.proofs.Common.{◌≡◌, suc, ◌-◌, sym, ap, ◌∙◌, arith}
use Rattle.std.proofs.lemmas.Result.{IfOk-weaker}
use Rattle.module_check.specs.Known.{all_within}
use Rattle.module_check.proofs.Chaining.{within-zero, within-next}
use Rattle.module_check.proofs.chains.+within.Goals as goal

pub returns-then-n-eq0 : goal.returns-then-n-eq0
returns-then-n-eq0 t c =
    IfOk-weaker c.one_more.result _ _
    (λ x is. is ∙ within-zero c.args.assignments.now ∙ ap (λ n. all_within n c.args.assignments.now) (sym c.if-n-eq0.true))
    c.one_more.ensures

pub returns : goal.returns
returns t c =
    let P = c.args.assignments.now in
    let is_next : c.args.n ≡ suc (c.args.n - 1) = omega arith in
    IfOk-weaker c.one_more-2.result _ _
    (λ x is. within-next P c.args.n (c.args.n - 1) c.deref.result.now x.items (c.deref.ensures.value ∙ c.in_ok-less.ensures) is_next is)
    c.one_more-2.ensures
