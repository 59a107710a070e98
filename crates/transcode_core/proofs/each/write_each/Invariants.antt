use Rattle.std.proofs.Common.{◌≡◌, ◌≤◌}
use Rattle.transcode_core.specs.Private.Seen.{opened_seen, type_seen}
use Rattle.transcode_core.proofs.Requests.Looping.{Kept}
use Rattle.transcode_core.proofs.each.write_each.Given as goal

abbrev pub invariant-records : goal.invariant-records
invariant-records g l = record {
  same : l.records.source.ghost_name ≡ l.fn.records.source.ghost_name;
  reads : g.S.Source.faults l.fn.records.source.now ≤ g.S.Source.faults l.records.source.now;
  writes : g.K.Sink.faults l.fn.output ≤ g.K.Sink.faults l.output;
  kept : Kept (opened_seen l.opened) (type_seen l.typed) (g.S.Source.left l.fn.records.source.now) l.records.octet (g.S.Source.left l.records.source.now) l.records.room l.records.records l.turn
      (g.K.Sink.written l.fn.output) (g.K.Sink.written l.output) (g.K.Sink.free l.fn.output) (g.K.Sink.free l.output);
}
