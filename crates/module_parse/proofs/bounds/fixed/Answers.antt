use Rattle.module_grammar.specs.BoundReading.{some_fixed_at}
use Rattle.module_parse.proofs.Chaining.{optional_reads}
use Rattle.module_parse.proofs.bounds.fixed.Goals as goal

pub returns-clause-value : goal.returns-clause-value
returns-clause-value c = rw c.optional.ensures (optional_reads some_fixed_at c.args.bytes.now c.args.from c.octets_in_comment.result c.octets_in_comment.ensures.value)
