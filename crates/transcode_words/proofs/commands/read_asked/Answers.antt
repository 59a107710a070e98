use Rattle.transcode_words.proofs.FewAsked.{few_read}
use Rattle.transcode_words.proofs.commands.read_asked.Goals as goal

pub returns-clause-within : goal.returns-clause-within
returns-clause-within c = few_read c.args.words.now c.asked_by.result c.ok_or.result c.asked_by.ensures c.ok_or.ensures.value
