use Rattle.std.proofs.Common.{refl, drop, drop_of_length-le, ◌+◌}
use Rattle.std.proofs.lemmas.Result.{err_from_is_err_and}
use Rattle.module_parse.specs.Readers.{earlier_ranks}
use Rattle.module_parse.proofs.Ranking.{rank_here, trying_next, trying_found, trying_stops, last_found, last_stops}
use Rattle.module_parse.proofs.marks.own_mark.Goals as goal

pub ranks-init : goal.ranks-init
ranks-init c = record { same = refl; place = refl }

pub ranks-preserved : goal.ranks-preserved
ranks-preserved c = trying_next c.ranks.invariant _ (drop (c.ranks.rank-index + 1) earlier_ranks) (rank_here earlier_ranks c.ranks.rank-index _ c.ranks-test.true) c.in-Err.ensures.value c.in_ok-next-in-Err.ensures

pub returns-in-Ok : goal.returns-in-Ok
returns-in-Ok c = trying_found c.ranks.invariant _ (drop (c.ranks.rank-index + 1) earlier_ranks) (rank_here earlier_ranks c.ranks.rank-index _ c.ranks-test.true) c.in-Ok.ensures.value

pub returns-in_err-next-in-Err : goal.returns-in_err-next-in-Err
returns-in_err-next-in-Err c =
    let p = err_from_is_err_and c.from_residual.result c.from_residual.ensures.1 in
    rw (p.1, p.2) (trying_stops c.ranks.invariant _ (drop (c.ranks.rank-index + 1) earlier_ranks) (rank_here earlier_ranks c.ranks.rank-index _ c.ranks-test.true) c.in-Err.ensures.value c.in_err-next-in-Err.ensures)

pub returns-in_err-behind : goal.returns-in_err-behind
returns-in_err-behind c =
    let p = err_from_is_err_and c.from_residual-in_err-behind.result c.from_residual-in_err-behind.ensures.1 in
    rw (p.1, p.2) (last_stops c.ranks.invariant (drop_of_length-le earlier_ranks c.ranks-test.false) c.in_err-behind.ensures.value)

pub returns : goal.returns
returns c = last_found c.ranks.invariant (drop_of_length-le earlier_ranks c.ranks-test.false) c.in_ok-behind.ensures.value
