use Rattle.std.proofs.Common.{inl}
use Rattle.std.proofs.lemmas.Result.{err_from_is_err_and}
use Rattle.module_grammar.specs.Reading.{byte_at}
use Rattle.module_parse.proofs.Chaining.{or_first, or_again}
use Rattle.module_parse.proofs.Looping.{start_reads}
use Rattle.module_text.specs.Names.{is_capital}
use Rattle.module_parse.proofs.marks.start.Goals as goal

pub returns-in-Ok : goal.returns-in-Ok
returns-in-Ok c = record { value = inl c.in-Ok.ensures.value; read = or_first (byte_at is_capital) c.in-Ok.ensures.read }

pub returns-in_err-letter-in-Err : goal.returns-in_err-letter-in-Err
returns-in_err-letter-in-Err c =
    let p = err_from_is_err_and c.from_residual.result c.from_residual.ensures.1 in
    rw (p.1, p.2) (or_again (byte_at is_capital) c.in-Err.ensures c.in_err-letter-in-Err.ensures)

pub returns-in_ok-letter-in-Err : goal.returns-in_ok-letter-in-Err
returns-in_ok-letter-in-Err c = start_reads c.args.bytes.now c.args.from c.in_ok-letter-in-Err.letter c.in-Err.stop c.byte.result c.in-Err.ensures c.in_ok-letter-in-Err.ensures c.byte.ensures.value
