use Rattle.std.proofs.lemmas.Result.{err_from_is_err_and}
use Rattle.std.specs.Prelude.{codes}
use Rattle.module_grammar.specs.Reading.{byte_at, behind_at}
use Rattle.module_parse.proofs.Chaining.{behind_stops, or_second_stops, or_again}
use Rattle.module_parse.proofs.Naming.{letter_piece, hyphen_piece}
use Rattle.module_text.specs.Names.{is_letter_or_digit}
use Rattle.module_parse.proofs.names.piece.Goals as goal

pub returns-in-Ok-clause-value : goal.returns-in-Ok-clause-value
returns-in-Ok-clause-value c = letter_piece c.args.bytes.now c.args.from c.in-Ok.next c.in-Ok.ensures.value c.in-Ok.ensures.within

pub returns-in_err-hyphen-in-Err-clause-value : goal.returns-in_err-hyphen-in-Err-clause-value
returns-in_err-hyphen-in-Err-clause-value c =
    let p = err_from_is_err_and c.from_residual.result c.from_residual.ensures.1 in
    rw (p.1, p.2) (or_again (behind_at (codes "-") (byte_at is_letter_or_digit)) c.in-Err.ensures.value c.in_err-hyphen-in-Err.ensures)

pub returns-in_err-letter-clause-value : goal.returns-in_err-letter-clause-value
returns-in_err-letter-clause-value c =
    let p = err_from_is_err_and c.from_residual-in_err-letter.result c.from_residual-in_err-letter.ensures.1 in
    rw (p.1, p.2) (or_second_stops c.in-Err.ensures.value c.in_ok-hyphen-in-Err.ensures (behind_stops (codes "-") (byte_at is_letter_or_digit) c.in_err-letter.ensures.value))

pub returns-clause-value : goal.returns-clause-value
returns-clause-value c = hyphen_piece c.args.bytes.now c.args.from c.in_ok-hyphen-in-Err.hyphen c.in_ok-letter.letter c.in-Err.stop c.byte-2.result c.in-Err.ensures.value c.in_ok-hyphen-in-Err.ensures c.in_ok-letter.ensures.value c.in_ok-letter.ensures.within c.byte-2.ensures.value c.byte-2.ensures.within
