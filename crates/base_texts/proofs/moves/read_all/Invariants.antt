use Rattle.std.proofs.Common.{◌-◌, ◌+◌, ◌≤◌, vec_len}
use Rattle.std.specs.Io.KnownBytes.{Consumes}
use Rattle.base_texts.proofs.moves.read_all.Given as goal

-- what was read so far was taken from the source
abbrev pub invariant-reads : goal.invariant-reads
invariant-reads g l =
    let source = g.S.Source in
    record {
      within : vec_len l.bytes ≤ l.limit + 1;
      read : Consumes (source.left l.initial.source) (source.left l.source) l.bytes.items;
      later : source.faults l.initial.source ≤ source.faults l.source;
    }

abbrev pub decreases-reads : goal.decreases-reads
decreases-reads g l = l.limit + 1 - vec_len l.bytes
