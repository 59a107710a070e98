use Rattle.std.proofs.Common.{◌<◌, ◌^◌, sym, subst, arith}
use Rattle.per_fields.specs.Widths.{width_of}
use Rattle.per_fields.proofs.WidthLaws.{width_fits}
use Rattle.per_encode.proofs.numbers.put_number.Goals as goal

pub put_wide-requires-clause-fits : goal.put_wide-requires-clause-fits
put_wide-requires-clause-fits g c =
    let f : c.args.number < 2 ^ width_of c.args.top = omega (arith, width_fits c.args.top, c.requires) in
    subst (λ w. c.args.number < 2 ^ w) (sym c.width.ensures.width) f
