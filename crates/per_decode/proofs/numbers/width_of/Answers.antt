use Rattle.std.proofs.Common.{sym, ◌<◌, ◌^◌, arith}
use Rattle.per_fields.proofs.WidthLaws.{width_leading}
use Rattle.per_decode.proofs.numbers.width_of.Goals as goal

pub returns-clause-same : goal.returns-clause-same
returns-clause-same c = let h : c.args.x < 2 ^ 128 = omega arith in sym (width_leading c.args.x h)
