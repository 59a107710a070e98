use Rattle.std.proofs.Common.{sym, ◌∙◌, ap, arith}
use Rattle.content_match.specs.Private.Plans.{is_needed}
use Rattle.content_match.proofs.Picked.{wanted_here, wanted_long}
use Rattle.content_match.proofs.alls.count_needed.Goals as goal

pub overflow_add-count : goal.overflow_add-count
overflow_add-count c =
    let need = ap is_needed (sym c.label.ensures) ∙ sym c.is_needed.ensures ∙ c.if-is_needed.true in
    let one = wanted_here c.args.kids.now c.kids.kid-index c.kid-item.result c.kids-test.true c.kid-item.is need in
    let long = wanted_long c.args.kids.now in
    let so_far = c.kids.invariant in
    let few = c.requires in
    omega (arith, one, long, so_far, few)
