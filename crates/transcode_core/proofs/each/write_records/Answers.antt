use Rattle.std.proofs.Common.{rules, sym, subst}
use Rattle.transcode_core.specs.Private.Seen.{opened_seen, type_seen}
use Rattle.transcode_core.specs.Requests.Answers.{TakesRecords}
use Rattle.transcode_core.specs.Requests.Records.{EndsRecords, streams_of}
use Rattle.transcode_core.proofs.each.write_records.Goals as goal

-- At last the input is what the source of the records was at last.
pub returns-clause-streams : goal.returns-clause-streams
returns-clause-streams g c =
    subst (λ input. EndsRecords (opened_seen c.args.opened.now) (type_seen c.args.typed.now) (streams_of g.S.Source g.K.Sink c.args.input.now c.args.output.now) (streams_of g.S.Source g.K.Sink input c.write_each.new.output) c.write_each.result)
    (search (rules, sym)) (rw c.new-records.ensures.source at c.write_each.ensures.streams)

pub returns-clause-taken : goal.returns-clause-taken
returns-clause-taken g c =
    subst (λ input. TakesRecords (type_seen c.args.typed.now) (g.S.Source.left c.args.input.now) (g.S.Source.left input)) (search (rules, sym)) (rw c.new-records.ensures.source at c.write_each.ensures.taken)
