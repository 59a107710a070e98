use Rattle.std.proofs.Common.{◌≡◌, ◌<◌, ◌≤◌, ◌+◌, ◌*◌, arith, refl, get_or}
use Rattle.base_codecs.proofs.BitLemmas.{gather_below, gather_more, sum_fits}
use Rattle.base_codecs.proofs.gather.gather.Goals as goal

pub overflow_mul-all : goal.overflow_mul-all
overflow_mul-all c = let w : c.args.unread + 8 * c.loop-octet.octet-index ≤ 71 = omega arith in
    omega (arith, sum_fits (c.args.unread + 8 * c.loop-octet.octet-index) c.loop-octet.all 0 c.loop-octet.invariant.below w (omega arith))

pub overflow_add-all : goal.overflow_add-all
overflow_add-all c = let x : get_or c.args.buf.now c.loop-octet.octet-index 0 < 256 = omega (arith, c.type_inv.buf c.loop-octet.octet-index) in
    let w : c.args.unread + 8 * c.loop-octet.octet-index ≤ 71 = omega arith in
    omega (arith, sum_fits (c.args.unread + 8 * c.loop-octet.octet-index) c.loop-octet.all _ c.loop-octet.invariant.below w x)

pub loop-octet-preserved : goal.loop-octet-preserved
loop-octet-preserved c =
    let x : get_or c.args.buf.now c.loop-octet.octet-index 0 < 256 = omega (arith, c.type_inv.buf c.loop-octet.octet-index) in
    let e : c.args.unread + 8 * (c.loop-octet.octet-index + 1) ≡ c.args.unread + 8 * c.loop-octet.octet-index + 8 = omega arith in
    record {
      below = rw e (gather_below (c.args.unread + 8 * c.loop-octet.octet-index) c.loop-octet.all _ c.loop-octet.invariant.below x);
      same = gather_more c.args.unread c.args.held c.loop-octet.all c.loop-octet.octet-index _ c.args.buf.now c.loop-octet-test.true refl x c.loop-octet.invariant.same;
    }
