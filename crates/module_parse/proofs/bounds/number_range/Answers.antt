use Rattle.module_grammar.specs.BoundReading.{some_range_at}
use Rattle.module_parse.proofs.Chaining.{optional_reads}
use Rattle.module_parse.proofs.bounds.number_range.Goals as goal

pub returns-clause-value : goal.returns-clause-value
returns-clause-value c = rw c.optional.ensures (optional_reads some_range_at c.args.bytes.now c.args.from c.range_in_parentheses.result c.range_in_parentheses.ensures.value)
