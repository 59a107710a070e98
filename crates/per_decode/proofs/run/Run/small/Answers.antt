use Rattle.std.proofs.Common.{arith, ◌<◌, ◌^◌}
use Rattle.per_fields.proofs.WidthLaws.{width_le}
use Rattle.per_decode.proofs.run.Run.small.Goals as goal

pub within-requires-clause-few : goal.within-requires-clause-few
within-requires-clause-few g c = let few : c.args.top < 2 ^ 8 = omega arith in omega (arith, c.width_of.ensures.same, width_le c.args.top 8 few)
