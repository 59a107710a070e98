use Rattle.std.specs.Result.{IsOk}
use Rattle.transcode_words.proofs.Pieces.{on_ok, part_fits, part_joined}
use Rattle.transcode_words.proofs.lines.joined.Goals as goal

pub loop-part-preserved : goal.loop-part-preserved
loop-part-preserved c =
    let fits = part_fits (λ part. part.now) c.args.parts.now c.loop-part.part-index _ _ 256 c.loop-part-test.true c.loop-part.invariant c.requires in
    let is_ok : IsOk c.try_extend_from_slice.result = c.try_extend_from_slice.ensures.variant.1 fits in
    part_joined (λ part. part.now) c.args.parts.now c.loop-part.part-index _ _ _ c.loop-part-test.true c.loop-part.invariant (on_ok _ _ is_ok c.try_extend_from_slice.ensures.ok)
