use Rattle.std.proofs.Common.{sym, ap}
use Rattle.base_texts.proofs.Moving.{read_in_memory, drop-behind}
use Rattle.base_texts.proofs.sources.SureSourceSource.read.Goals as goal

pub returns-then-self-len-clause-bytes : goal.returns-then-self-len-clause-bytes
returns-then-self-len-clause-bytes c =
    read_in_memory _ _ _ _ _ _ _ _ (sym (ap (λ s. s.left) c.self.view_is)) c.left-rest.ensures c.min.ensures
    c.piece_at-count.ensures.most c.piece_at-count.ensures.some c.copy_front.ensures

pub returns-then-self-len-clause-pieces : goal.returns-then-self-len-clause-pieces
returns-then-self-len-clause-pieces c = drop-behind c.self.inside.turn c.self.inside.pieces.items _ (ap (λ s. s.pieces) c.self.view_is)

pub returns-else-self-len-clause-bytes : goal.returns-else-self-len-clause-bytes
returns-else-self-len-clause-bytes c =
    read_in_memory _ _ _ _ _ _ _ _ (sym (ap (λ s. s.left) c.self.view_is)) c.left-rest.ensures c.min.ensures
    c.piece_at-count.ensures.most c.piece_at-count.ensures.some c.copy_front.ensures
