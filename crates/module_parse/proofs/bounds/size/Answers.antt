use Rattle.module_grammar.specs.BoundReading.{some_size_at}
use Rattle.module_parse.proofs.Chaining.{optional_reads}
use Rattle.module_parse.proofs.bounds.size.Goals as goal

pub returns-clause-value : goal.returns-clause-value
returns-clause-value c = rw c.optional.ensures (optional_reads some_size_at c.args.bytes.now c.args.from c.size_in_parentheses.result c.size_in_parentheses.ensures.value)
