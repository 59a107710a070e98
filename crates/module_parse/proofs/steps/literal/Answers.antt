use Rattle.std.proofs.Common.{length}
use Rattle.module_parse.proofs.Wording.{word_reads, word_passes}
use Rattle.module_parse.proofs.steps.literal.Goals as goal

pub returns-clause-value : goal.returns-clause-value
returns-clause-value c = word_reads c.args.text.now c.args.bytes.now c.args.from c.word.result c.word.ensures.value

pub returns-clause-within : goal.returns-clause-within
returns-clause-within c = word_passes c.args.text.now c.args.bytes.now (length c.args.bytes.now) c.args.from c.word.result c.word.ensures.value c.word.ensures.within
