use Rattle.std.proofs.Common.{sym, subst}
use Rattle.std.specs.Str.{IsValidUpTo}
use Rattle.module_read.proofs.Answering.{as_answer, as_told}
use Rattle.module_read.proofs.reading.read_module.Goals as goal

pub returns-in-Err-clause-answers : goal.returns-in-Err-clause-answers
returns-in-Err-clause-answers c =
    (c.in-Err.ensures.cases.0, subst (IsValidUpTo c.args.bytes.now) (sym c.valid_up_to.ensures) c.in-Err.ensures.cases.1)

pub returns-clause-answers : goal.returns-clause-answers
returns-clause-answers c = as_answer c.args.bytes.now c.read_utf8.result c.read_utf8.ensures

pub returns-clause-told : goal.returns-clause-told
returns-clause-told c = as_told c.args.bytes.now c.read_utf8.result c.read_utf8.ensures
