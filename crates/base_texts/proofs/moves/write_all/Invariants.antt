use Rattle.std.proofs.Common.{length, take, ◌-◌, ◌≤◌}
use Rattle.std.specs.Io.KnownBytes.{Appends}
use Rattle.base_texts.specs.Bytes.{LeavesRoom}
use Rattle.base_texts.proofs.moves.write_all.Given as goal

abbrev pub invariant-loop-done : goal.invariant-loop-done
invariant-loop-done g l =
    let sink = g.K.Sink in
    record {
      within : l.done ≤ length l.piece;
      written : Appends (sink.written l.initial.sink) (sink.written l.sink) (take l.done l.piece);
      leaves : LeavesRoom (sink.free l.initial.sink) (sink.free l.sink) l.done;
      later : sink.faults l.initial.sink ≤ sink.faults l.sink;
    }

abbrev pub decreases-loop-done : goal.decreases-loop-done
decreases-loop-done g l = length l.piece - l.done
