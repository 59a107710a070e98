use Rattle.per_encode.proofs.Puts.{on_ok}
use Rattle.per_encode.proofs.Bits.{wide_put}
use Rattle.per_encode.proofs.numbers.put_halves.Goals as goal

pub returns : goal.returns
returns c =
    on_ok c.put_bits-2.result
    (λ e. wide_put c.args.sink.now c.put_bits.new.self c.put_bits-2.new.self c.args.n c.args.number c.requires.many c.in_ok-put_bits.ensures.ok e)
    c.put_bits-2.ensures.ok
