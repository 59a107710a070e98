use Rattle.std.proofs.Common.{ap, refl, ◌∙◌, inl, inr, arith, Ok, Err, None, Some}
use Rattle.transcode_core.specs.Private.Seen.{opened_seen, type_seen}
use Rattle.transcode_core.proofs.Requests.Looping.{kept_none, kept_more, unwritten, at_end, no_next, took_records, over, over_taken}
use Rattle.transcode_core.proofs.each.write_each.Goals as goal

pub records-init : goal.records-init
records-init g c = record {
  same = refl;
  reads = omega arith;
  writes = omega arith;
  kept = kept_none (opened_seen c.args.opened.now) (type_seen c.args.typed.now) (g.S.Source.left c.args.records.now.source.now) c.args.records.now.octet c.args.records.now.room c.args.records.now.records (g.K.Sink.written c.args.output.now)
      (g.K.Sink.free c.args.output.now) c.requires.start.0 c.requires.start.1 c.requires.start.2;
}

pub records-preserved : goal.records-preserved
records-preserved g c =
    let n = rw c.in-Ok-Some.field-0-is at c.in-Ok-Some.ensures in
    let w = c.in-Ok.ensures.wrote in
    record {
      same = c.next.ensures.same_reference ∙ c.records.invariant.same;
      reads = omega (arith, c.records.invariant.reads, c.next.ensures.cause.later);
      writes = omega (arith, c.records.invariant.writes, c.write_record.ensures.later);
      kept = kept_more (opened_seen c.args.opened.now) (type_seen c.args.typed.now) c.requires.typed _ _ _ _ _ _ _ _ _ _ c.records.invariant.kept c.next.new.self.octet (g.S.Source.left c.next.new.self.source.now) (Ok (Some c.in-Ok-Some.value)) n.answer 0 0 0 0
          c.in-Ok-Some.value refl n.value c.next.new.self.room c.next.new.self.records n.room.1 n.octets n.alone w.0 (g.K.Sink.written c.write_record.new.output) (g.K.Sink.free c.write_record.new.output) w.1 w.2 w.3 w.4;
    }

pub returns-in-Err-write_record-clause-streams : goal.returns-in-Err-write_record-clause-streams
returns-in-Err-write_record-clause-streams g c =
    let n = rw c.in-Ok-Some.field-0-is at c.in-Ok-Some.ensures in
    unwritten (opened_seen c.args.opened.now) (type_seen c.args.typed.now) c.requires.typed _ _ _ _ _ _ _ _ _ _ c.records.invariant.kept c.next.new.self.octet (g.S.Source.left c.next.new.self.source.now) (Ok (Some c.in-Ok-Some.value)) n.answer
    (g.S.Source.faults c.args.records.now.source.now) (g.S.Source.faults c.next.new.self.source.now) (g.K.Sink.faults c.args.output.now) (g.K.Sink.faults c.write_record.new.output)
    c.in-Ok-Some.value refl n.value c.next.new.self.room c.next.new.self.records n.room.1 n.octets n.alone (g.K.Sink.written c.write_record.new.output) (g.K.Sink.free c.write_record.new.output) c.in-Err-write_record.outcome
    (elim c.in-Err-write_record.ensures.stopped [
      | inl (memory, same) ↦ inl (memory, ap g.K.Sink.written same)
      | inr (write, rose, text) ↦ inr (write, omega (arith, rose, c.records.invariant.writes), text)
    ])

pub returns-in-Err-write_record-clause-taken : goal.returns-in-Err-write_record-clause-taken
returns-in-Err-write_record-clause-taken g c =
    let n = rw c.in-Ok-Some.field-0-is at c.in-Ok-Some.ensures in
    took_records (opened_seen c.args.opened.now) (type_seen c.args.typed.now) c.requires.typed _ _ _ _ _ _ _ _ _ _ c.records.invariant.kept c.next.new.self.octet (g.S.Source.left c.next.new.self.source.now) (Ok (Some c.in-Ok-Some.value)) n.answer 0 0 0 0 n.held

pub returns-in-Ok-None-clause-streams : goal.returns-in-Ok-None-clause-streams
returns-in-Ok-None-clause-streams g c =
    let n = rw c.in-Ok-None.field-0-is at c.in-Ok-None.ensures in
    at_end (opened_seen c.args.opened.now) (type_seen c.args.typed.now) c.requires.typed _ _ _ _ _ _ _ _ _ _ c.records.invariant.kept c.next.new.self.octet (g.S.Source.left c.next.new.self.source.now) (Ok None) n.answer
    (g.S.Source.faults c.args.records.now.source.now) (g.S.Source.faults c.next.new.self.source.now) (g.K.Sink.faults c.args.output.now) (g.K.Sink.faults c.records.output) refl

pub returns-in-Ok-None-clause-taken : goal.returns-in-Ok-None-clause-taken
returns-in-Ok-None-clause-taken g c =
    let n = rw c.in-Ok-None.field-0-is at c.in-Ok-None.ensures in
    took_records (opened_seen c.args.opened.now) (type_seen c.args.typed.now) c.requires.typed _ _ _ _ _ _ _ _ _ _ c.records.invariant.kept c.next.new.self.octet (g.S.Source.left c.next.new.self.source.now) (Ok None) n.answer 0 0 0 0 n.held

pub returns-in-Err-clause-streams : goal.returns-in-Err-clause-streams
returns-in-Err-clause-streams g c =
    rw c.ended.ensures (no_next (opened_seen c.args.opened.now) (type_seen c.args.typed.now) c.requires.typed _ _ _ _ _ _ _ _ _ _ c.records.invariant.kept c.next.new.self.octet (g.S.Source.left c.next.new.self.source.now) (Err c.in-Err.error) c.in-Err.ensures.answer
    (g.S.Source.faults c.args.records.now.source.now) (g.S.Source.faults c.next.new.self.source.now) (g.K.Sink.faults c.args.output.now) (g.K.Sink.faults c.records.output) c.in-Err.ensures.held c.in-Err.error refl c.in-Err.ensures.failed
    (λ e. omega (arith, c.in-Err.ensures.cause.rose e, c.records.invariant.reads)))

pub returns-in-Err-clause-taken : goal.returns-in-Err-clause-taken
returns-in-Err-clause-taken g c =
    took_records (opened_seen c.args.opened.now) (type_seen c.args.typed.now) c.requires.typed _ _ _ _ _ _ _ _ _ _ c.records.invariant.kept c.next.new.self.octet (g.S.Source.left c.next.new.self.source.now) (Err c.in-Err.error) c.in-Err.ensures.answer 0 0 0 0 c.in-Err.ensures.held

pub returns-clause-streams : goal.returns-clause-streams
returns-clause-streams g c =
    over (opened_seen c.args.opened.now) (type_seen c.args.typed.now) _ _ _ _ _ _ _ _ _ _ c.records.invariant.kept (omega (arith, c.records-test.false))
    (g.S.Source.faults c.args.records.now.source.now) (g.S.Source.faults c.records.records.source.now) (g.K.Sink.faults c.args.output.now) (g.K.Sink.faults c.records.output)

pub returns-clause-taken : goal.returns-clause-taken
returns-clause-taken g c =
    over_taken (opened_seen c.args.opened.now) (type_seen c.args.typed.now) _ _ _ _ _ _ _ _ _ _ c.records.invariant.kept (omega (arith, c.records-test.false))
