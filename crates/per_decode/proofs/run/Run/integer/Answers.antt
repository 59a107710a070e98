use Rattle.std.proofs.Common.{rules, arith}
use Rattle.std.proofs.lemmas.Result.{on_ok_weaker}
use Rattle.per_fields.specs.Nodes.{int_at}
use Rattle.per_decode.proofs.Newest.{newest-told, pushed-told, newest_shows}
use Rattle.per_decode.proofs.run.Run.integer.Goals as goal

pub returns-clause-pushed : goal.returns-clause-pushed
returns-clause-pushed g c = pushed-told c.put_leaf.result _ _ _ c.put_leaf.ensures.ok

pub returns-clause-leaf : goal.returns-clause-leaf
returns-clause-leaf g c = on_ok_weaker c.put_leaf.result (λ h. rw h (search rules)) (newest-told c.put_leaf.result _ _ _ c.put_leaf.ensures.ok)

pub returns-clause-gives : goal.returns-clause-gives
unfolding int_at
returns-clause-gives g c = λ told.
    newest_shows g.K.Origin.limit g.K.Origin.whole _ _ c.put_leaf.result _ _ _ _ (newest-told c.put_leaf.result _ _ _ c.put_leaf.ensures.ok) c.put_leaf.ensures.memory
    (search (rules, c.in_ok-z.ensures.gives told)) (omega (arith, c.in_ok-z.ensures.reads.on.1))
