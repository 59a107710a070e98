use Rattle.std.proofs.Common.{◌-◌, ◌<◌, arith, get_or, length}
use Rattle.std.proofs.lemmas.List.{get_or_default}
use Rattle.simple_types.specs.declared.simples.Builtin.TheVariants.{Boolean}
use Rattle.link_set.proofs.Numbering.{one_ranked}
use Rattle.link_set.proofs.numbers.by_rank.Goals as goal

pub last_first-preserved : goal.last_first-preserved
last_first-preserved c =
    let within = c.last_first.invariant.0 in
    let above = c.last_first-test.true in
    let used = c.args.used.now in
    let which = get_or used (c.last_first.i - 1) Boolean in
    let inside : c.last_first.i - 1 < length used = omega (arith, within, above) in (
      omega (arith, within, above),
      one_ranked used c.args.first c.last_first.i which above within (get_or_default used (c.last_first.i - 1) Boolean which inside)
          c.last_first.table c.insert.new.self c.last_first.invariant.1 c.rank-rank.result c.rank-rank.ensures c.in_ok-insert.ensures.updates,
    )
