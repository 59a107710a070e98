use Rattle.std.proofs.lemmas.Result.{err_from_is_err_and}
use Rattle.module_grammar.specs.Reading.{many_at}
use Rattle.module_grammar.specs.NameReading.{piece_at, begun}
use Rattle.module_parse.proofs.Chaining.{as_stops, then_stops}
use Rattle.module_parse.proofs.Naming.{name_span}
use Rattle.module_text.specs.Names.{is_capital}
use Rattle.module_parse.proofs.names.behind_reference.Goals as goal

pub returns-in_err-next-clause-value : goal.returns-in_err-next-clause-value
returns-in_err-next-clause-value c =
    let p = err_from_is_err_and c.from_residual.result c.from_residual.ensures.1 in
    rw (p.1, p.2) (as_stops begun (then_stops (λ _. many_at piece_at) c.in_err-next.ensures.value))

pub returns-clause-value : goal.returns-clause-value
returns-clause-value c = name_span is_capital c.args.bytes.now c.args.from c.in_ok-next.next c.behind_pieces.result c.in_ok-next.ensures.value c.in_ok-next.ensures.within c.behind_pieces.ensures.value c.behind_pieces.ensures.within
