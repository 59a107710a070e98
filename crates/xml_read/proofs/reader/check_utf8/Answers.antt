use Rattle.std.proofs.Common.{subst, sym, refl, inl}
use Rattle.std.specs.Str.{IsValidUpTo}
use Rattle.xml_read.proofs.reader.check_utf8.Goals as goal

pub returns-in-Err-clause-err : goal.returns-in-Err-clause-err
returns-in-Err-clause-err c = inl (c.in-Err.ensures.cases.0, subst (IsValidUpTo c.args.bytes.now) (sym c.valid_up_to.ensures) c.in-Err.ensures.cases.1, refl)
