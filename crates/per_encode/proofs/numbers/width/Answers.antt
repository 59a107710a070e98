use Rattle.std.proofs.Common.{◌<◌, ◌^◌, sym, arith}
use Rattle.per_fields.proofs.WidthLaws.{width_leading}
use Rattle.per_encode.proofs.numbers.width.Goals as goal

pub returns-clause-width : goal.returns-clause-width
returns-clause-width c =
    let fits : c.args.number < 2 ^ 128 = omega arith in
    sym (width_leading c.args.number fits)
