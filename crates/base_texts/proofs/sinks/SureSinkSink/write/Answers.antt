use Rattle.std.proofs.Common.{ap}
use Rattle.base_texts.proofs.Moving.{drop-behind}
use Rattle.base_texts.proofs.sinks.SureSinkSink.write.Goals as goal

pub returns-then-self-len-clause-pieces : goal.returns-then-self-len-clause-pieces
returns-then-self-len-clause-pieces c = drop-behind c.self.inside.turn c.self.inside.pieces.items _ (ap (λ s. s.pieces) c.self.view_is)
