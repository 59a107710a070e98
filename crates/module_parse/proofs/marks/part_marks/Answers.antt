use Rattle.std.proofs.Common.{drop, drop_of_length-le, ◌+◌}
use Rattle.std.proofs.lemmas.Result.{err_from_is_err_and}
use Rattle.module_parse.specs.Readers.{part_mark_at, part_ranks}
use Rattle.module_parse.proofs.Ranking.{rank_here, ranked_none, ranked_next, ranked_stops, ranked_ends}
use Rattle.module_parse.proofs.marks.part_marks.Goals as goal

pub ranks-init : goal.ranks-init
ranks-init c = ranked_none part_mark_at part_ranks c.args.bytes.now c.args.from c.new-marks.result.items c.new-marks.ensures.items c.requires

pub ranks-preserved : goal.ranks-preserved
ranks-preserved c = ranked_next c.ranks.invariant _ (drop (c.ranks.rank-index + 1) part_ranks) (rank_here part_ranks c.ranks.rank-index _ c.ranks-test.true) c.in_ok-more.ensures.value c.in_ok-more.ensures.within

pub returns-in_err-more-clause-value : goal.returns-in_err-more-clause-value
returns-in_err-more-clause-value c =
    let p = err_from_is_err_and c.from_residual.result c.from_residual.ensures.1 in
    rw (p.1, p.2) (ranked_stops c.ranks.invariant _ (drop (c.ranks.rank-index + 1) part_ranks) (rank_here part_ranks c.ranks.rank-index _ c.ranks-test.true) c.in_err-more.field-0.0 c.in_err-more.ensures.value)

pub returns-clause-value : goal.returns-clause-value
returns-clause-value c = rw c.of.ensures (ranked_ends c.ranks.invariant (drop_of_length-le part_ranks c.ranks-test.false) c.nothing.ensures)
