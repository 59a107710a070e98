use Rattle.std.proofs.Common.{sym}
use Rattle.std.proofs.lemmas.Result.{err_from_is_err_and}
use Rattle.module_parse.specs.Readers.{type_mark_at}
use Rattle.module_parse.proofs.Chaining.{going_again}
use Rattle.module_parse.proofs.Looping.{more_none, more_next, more_ends}
use Rattle.module_parse.proofs.marks.more_type_marks.Goals as goal

pub marks-init : goal.marks-init
marks-init c = more_none (type_mark_at c.args.rank) c.args.bytes.now c.args.from c.args.marks.items c.requires

pub marks-preserved : goal.marks-preserved
marks-preserved c = more_next c.marks.invariant c.in-Ok.ensures.value c.in-Ok.ensures.within c.in_ok-push-in-Ok.ensures.items

pub returns-in_err-end-in-Err-clause-value : goal.returns-in_err-end-in-Err-clause-value
returns-in_err-end-in-Err-clause-value c =
    let p = err_from_is_err_and c.from_residual-in_err-end-in-Err.result c.from_residual-in_err-end-in-Err.ensures.1 in
    rw (p.1, p.2) (going_again c.marks.invariant.going c.in-Err.ensures.value c.in_err-end-in-Err.ensures)

pub returns-in-Err-clause-value : goal.returns-in-Err-clause-value
returns-in-Err-clause-value c = record { value = c.marks.invariant.values; read = more_ends c.marks.invariant c.in-Err.ensures.value c.in_ok-end-in-Err.ensures; same = sym c.marks.invariant.are }
