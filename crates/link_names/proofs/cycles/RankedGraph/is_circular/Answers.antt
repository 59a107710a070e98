use Rattle.std.proofs.Common.{ℕ, get_or, sym}
use Rattle.std.proofs.lemmas.Bool.{true≢false}
use Rattle.link_names.specs.Graphs.{rows_of}
use Rattle.link_names.proofs.Walks.{off_cycles}
use Rattle.link_names.proofs.cycles.RankedGraph.is_circular.Goals as goal

pub returns-then-falls_from : goal.returns-then-falls_from
returns-then-falls_from c = (
  λ e. absurd (true≢false (sym e)),
  λ h. absurd (off_cycles (rows_of c.args.self.graph.now) (λ (n : ℕ). get_or c.args.self.ranks.now n 0) (c.requires.falls c.if-self.true) c.args.n
      (c.falls_from.ensures c.if-falls_from.true) h),
)
