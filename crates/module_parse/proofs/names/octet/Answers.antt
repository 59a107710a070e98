use Rattle.std.proofs.lemmas.Result.{err_from_is_err_and}
use Rattle.module_grammar.specs.Reading.{byte_at}
use Rattle.module_parse.proofs.Chaining.{then_stops}
use Rattle.module_parse.proofs.Naming.{octet_span}
use Rattle.module_text.specs.Names.{is_hexadecimal_digit}
use Rattle.module_parse.proofs.names.octet.Goals as goal

pub returns-in_err-low-clause-value : goal.returns-in_err-low-clause-value
returns-in_err-low-clause-value c =
    let p = err_from_is_err_and c.from_residual.result c.from_residual.ensures.1 in
    rw (p.1, p.2) (then_stops (λ _. byte_at is_hexadecimal_digit) c.in_err-low.ensures.value)

pub returns-clause-value : goal.returns-clause-value
returns-clause-value c = octet_span c.args.bytes.now c.args.from c.in_ok-low.low c.byte-2.result c.in_ok-low.ensures.value c.in_ok-low.ensures.within c.byte-2.ensures.value c.byte-2.ensures.within
