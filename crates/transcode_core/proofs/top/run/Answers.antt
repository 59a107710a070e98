use Rattle.transcode_words.specs.Commands.{asked_by}
use Rattle.transcode_core.proofs.Agendas.{begins_asked}
use Rattle.transcode_core.proofs.top.run.Goals as goal

pub answer-requires-clause-named : goal.answer-requires-clause-named
answer-requires-clause-named g c = begins_asked _ (asked_by c.args.words.now) _ c.in-Ok.ensures.due c.requires
