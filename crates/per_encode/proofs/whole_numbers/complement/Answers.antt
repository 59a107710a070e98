use Rattle.std.proofs.Common.{◌-◌, arith}
use Rattle.per_fields.proofs.WidthLaws.{pow_le}
use Rattle.per_encode.proofs.whole_numbers.complement.Goals as goal

pub overflow_add-result : goal.overflow_add-result
overflow_add-result c = let few = pow_le (c.args.width - 1) 127 (omega arith) in omega (arith, few)
