use Rattle.base_texts.specs.Faults.{one_more}
use Rattle.record_stream.proofs.Taking.{answers_taken, room_left, none_held}
use Rattle.record_stream.proofs.records.Records.take.Goals as goal

pub returns-in-Ok-clause-answer : goal.returns-in-Ok-clause-answer
returns-in-Ok-clause-answer g c = λ left is.
    let b = c.decode_behind-behind in
    rw c.in-Ok.is at (answers_taken c.args.module.now c.args.t (one_more c.args.self.now.records) c.args.self.now.room c.args.octet c.args.self.now.octet b.result.octet (g.S.Source.left c.args.self.now.source.now) (g.S.Source.left b.result.source.now) left c.requires.held is b.new.answer (λ l e. rw c.min-limit.ensures at (b.ensures.answer l e)))

pub returns-in-Ok-clause-octets : goal.returns-in-Ok-clause-octets
returns-in-Ok-clause-octets g c = λ left is.
    let b = c.decode_behind-behind in
    room_left c.args.module.now c.args.t 0 c.args.self.now.room c.args.octet _ b.result.octet _ (g.S.Source.left b.result.source.now) left c.requires.held is b.new.answer (λ l e. rw c.min-limit.ensures at (b.ensures.answer l e)) c.in-Ok.decoded c.in-Ok.is

pub returns-in-Ok-clause-alone : goal.returns-in-Ok-clause-alone
returns-in-Ok-clause-alone g c = λ left is.
    let b = c.decode_behind-behind in
    none_held c.args.module.now c.args.t 0 c.args.self.now.room c.args.octet _ b.result.octet _ (g.S.Source.left b.result.source.now) left c.requires.held is b.new.answer (λ l e. rw c.min-limit.ensures at (b.ensures.answer l e)) c.in-Ok.decoded c.in-Ok.is
    b.ensures.untouched

pub returns-in-Err-clause-answer : goal.returns-in-Err-clause-answer
returns-in-Err-clause-answer g c = λ left is.
    let b = c.decode_behind-behind in
    rw c.told.ensures (rw c.in-Err.is at (answers_taken c.args.module.now c.args.t (one_more c.args.self.now.records) c.args.self.now.room c.args.octet c.args.self.now.octet b.result.octet (g.S.Source.left c.args.self.now.source.now) (g.S.Source.left b.result.source.now) left c.requires.held is b.new.answer (λ l e. rw c.min-limit.ensures at (b.ensures.answer l e))))

pub returns-in-Ok-clause-untouched : goal.returns-in-Ok-clause-untouched
returns-in-Ok-clause-untouched g c = λ held is. (c.decode_behind-behind.ensures.untouched held is).1

pub returns-in-Err-clause-untouched : goal.returns-in-Err-clause-untouched
returns-in-Err-clause-untouched g c = λ held is. (c.decode_behind-behind.ensures.untouched held is).1
