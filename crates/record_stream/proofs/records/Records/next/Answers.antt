use Rattle.std.proofs.Common.{refl}
use Rattle.record_stream.proofs.Taking.{answers_end, answers_failed, kept_left}
use Rattle.record_stream.proofs.records.Records.next.Goals as goal

pub returns-in-Ok-None-clause-answer : goal.returns-in-Ok-None-clause-answer
returns-in-Ok-None-clause-answer g c = λ left is.
    let h = rw c.in-Ok-None.field-0-is at c.in-Ok-None.ensures in
    answers_end _ _ _ _ left _ (h.end left is refl) (kept_left _ _ left h.left is)

pub returns-in-Err-clause-answer : goal.returns-in-Err-clause-answer
returns-in-Err-clause-answer g c = λ left is. answers_failed _ _ _ _ left _ (kept_left _ _ left c.in-Err.ensures.left is)
