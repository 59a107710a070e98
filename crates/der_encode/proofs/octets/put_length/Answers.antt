use Rattle.std.proofs.Common.{arith}
use Rattle.der_encode.proofs.Least.{at_most_eight}
use Rattle.der_encode.proofs.octets.put_length.Goals as goal

pub overflow_cast-count : goal.overflow_cast-count
overflow_cast-count c =
    let old = c.args.back.now in
    let new = c.put_least.new.back in
    let g = at_most_eight old.items new.items c.args.length c.ranges.length.fits c.in_ok-put_least.ensures in omega (arith, g.0, g.1, old.ok.0, new.ok.0, c.len.ensures, c.len-before.ensures)

pub overflow_add-count : goal.overflow_add-count
overflow_add-count c =
    let old = c.args.back.now in
    let new = c.put_least.new.back in
    let g = at_most_eight old.items new.items c.args.length c.ranges.length.fits c.in_ok-put_least.ensures in omega (arith, g.0, g.1, old.ok.0, new.ok.0, c.len.ensures, c.len-before.ensures)
