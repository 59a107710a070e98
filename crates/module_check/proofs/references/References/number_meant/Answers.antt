use Rattle.std.proofs.Common.{◌≡◌, suc, ◌+◌, ◌-◌, Some, get_or, sym, ap, ◌∙◌, arith}
use Rattle.module_text.specs.declared.modules.PlainAssignment.{PlainAssignment}
use Rattle.module_check.proofs.Tables.{follow-stays, follow-on, follow-ended, body-read, meant-here}
use Rattle.module_check.proofs.references.References.number_meant.Goals as goal

pub returns-in_default : goal.returns-in_default
returns-in_default c =
    meant-here c.args.assignments.now c.args.node.now c.references.at.now c.references.found
    (sym (follow-stays c.args.assignments.now (4 - c.references.step) c.references.at.now c.in_default.ensures) ∙ c.references.invariant.leads)
    c.references.invariant.is

pub references-preserved : goal.references-preserved
references-preserved c =
    let P = c.args.assignments.now in
    let a = get_or P c.in-Some.number c.index-assignments-number.result in
    let body = body-read P c.in-Some.number c.index-assignments-number.result c.in-Some.ensures.0 c.index-assignments-number.is
    ∙ ap (λ (x : PlainAssignment). Some x.body) c.index-assignments-number.is in
    let fewer : 4 - c.references.step ≡ suc (4 - (c.references.step + 1)) = omega (arith, c.references-test.true) in
    record {
      leads = sym (follow-on P (4 - (c.references.step + 1)) (4 - c.references.step) c.references.at.now a.body fewer (c.in-Some.ensures.1 ∙ body)) ∙ c.references.invariant.leads;
      is = (c.in-Some.ensures.0, body);
    }

pub returns : goal.returns
returns c =
    meant-here c.args.assignments.now c.args.node.now c.references.at.now c.references.found
    (sym (follow-ended c.args.assignments.now (4 - c.references.step) c.references.at.now (omega (arith, c.references-test.false))) ∙ c.references.invariant.leads)
    c.references.invariant.is
