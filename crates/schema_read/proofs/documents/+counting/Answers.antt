use Rattle.std.proofs.Common.{sym, ◌∙◌, ap, ◌++◌, ◌+◌, drop, arith}
use Rattle.schema_read.proofs.Words.{roses_of, kid-count-le, node_count-kids, counted_here, counted_inside, counted_at, counted_among}
use Rattle.schema_read.proofs.Counting.{counted_at-element, one_more_counted, inside_counted}
use Rattle.schema_read.proofs.documents.+counting.Goals as goal

pub count_among-count_at-requires : goal.count_among-count_at-requires
count_among-count_at-requires t c =
    let d = c.decreases in
    let k = kid-count-le c.args.kids.now c.loop-kid.kid-index c.kid-item.result c.loop-kid-test.true c.kid-item.is in
    (omega (arith, d, k), tt)

pub count_among-loop-kid-preserved : goal.count_among-loop-kid-preserved
count_among-loop-kid-preserved t c =
    ap (λ l. l ++ counted_among (roses_of (drop (c.loop-kid.kid-index + 1) c.args.kids.now))) c.in_ok-count_at.ensures
    ∙ (one_more_counted c.args.kids.now c.loop-kid.kid-index c.kid-item.result c.loop-kid-test.true c.kid-item.is c.loop-kid.counted.items ∙ c.loop-kid.invariant)

pub count_at-count_among-requires : goal.count_at-count_among-requires
count_at-count_among-requires t c =
    let d = c.decreases in
    let k = node_count-kids c.args.tree.now in
    (rw c.kids.ensures (omega (arith, d, k)), tt)

pub count_at-returns-then-is_looked_into : goal.count_at-returns-then-is_looked_into
count_at-returns-then-is_looked_into t c =
    let inside = counted_among (roses_of c.kids.result.now) in
    let here = counted_here c.in-Element.name c.in-Element.at in
    let whole = ap (λ l. here ++ counted_inside c.in-Element.name (counted_among (roses_of l))) c.kids.ensures
    ∙ counted_at-element c.args.tree.now c.in-Element.name c.in-Element.attributes c.in-Element.declares c.in-Element.at (sym c.label.ensures ∙ c.in-Element.is) in
    let all = ap (λ l. l ++ inside) c.in_ok-count_one.ensures
    ∙ inside_counted c.in-Element.name c.args.counted.now.items inside here (counted_at c.args.tree.now) (sym c.is_looked_into.ensures ∙ c.if-is_looked_into.true) whole in
    rw (← all) c.count_among.ensures
