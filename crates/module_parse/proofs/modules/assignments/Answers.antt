use Rattle.std.proofs.Common.{◌∙◌, ap, ◌++◌, ◌≡◌}
use Rattle.std.proofs.lemmas.Result.{err_from_is_err_and}
use Rattle.module_grammar.specs.ModuleReading.{assignment_at}
use Rattle.module_parse.proofs.Chaining.{going_again}
use Rattle.module_parse.proofs.Looping.{more_none, more_next, more_ends}
use Rattle.module_parse.proofs.modules.assignments.Goals as goal

pub assignments-init : goal.assignments-init
assignments-init c = more_none (assignment_at c.args.most) c.args.bytes.now c.args.from c.new-assignments.result.items c.requires

pub assignments-preserved : goal.assignments-preserved
assignments-preserved c = more_next c.assignments.invariant c.in-Ok.ensures.value c.in-Ok.ensures.within c.in_ok-push-in-Ok.ensures.items

pub returns-in_err-end-in-Err-clause-value : goal.returns-in_err-end-in-Err-clause-value
returns-in_err-end-in-Err-clause-value c =
    let p = err_from_is_err_and c.from_residual-in_err-end-in-Err.result c.from_residual-in_err-end-in-Err.ensures.1 in
    rw (p.1, p.2) (going_again c.assignments.invariant.going c.in-Err.ensures.value c.in_err-end-in-Err.ensures)

pub returns-in-Err-clause-value : goal.returns-in-Err-clause-value
returns-in-Err-clause-value c = let e : c.assignments.assignments.items ≡ c.assignments.invariant.values = c.assignments.invariant.are ∙ ap (λ l. l ++ c.assignments.invariant.values) c.new-assignments.ensures.items in
    rw e (more_ends c.assignments.invariant c.in-Err.ensures.value c.in_ok-end-in-Err.ensures)
