use Rattle.std.proofs.Common.{◌-◌, ◌≤◌, take}
use Rattle.std.specs.Io.KnownBytes.{Consumes}
use Rattle.base_codecs.proofs.fetch.fetch.Given as goal

abbrev pub invariant-reads : goal.invariant-reads
invariant-reads g l = record {
  inside : l.have ≤ l.want;
  bytes : Consumes (g.S.Source.left l.fn.source) (g.S.Source.left l.source) (take l.have l.buf);
  later : g.S.Source.faults l.fn.source ≤ g.S.Source.faults l.source;
}

abbrev pub decreases-reads : goal.decreases-reads
decreases-reads g l = l.want - l.have
