use Rattle.std.proofs.Common.{◌+◌, ◌*◌, ◌++◌, length, ap, ◌∙◌, arith}
use Rattle.base_codecs.specs.Bits.{bits, padding}
use Rattle.per_fields.specs.Widths.{width_of, more_of}
use Rattle.per_fields.proofs.WidthLaws.{width_le}
use Rattle.per_encode.proofs.Puts.{on_ok, large_put}
use Rattle.per_encode.proofs.numbers.put_large.Goals as goal

pub put_bits-requires : goal.put_bits-requires
put_bits-requires c = omega (arith, c.width.ensures.width, width_le c.octets_behind-most.result 64 (omega (arith, c.octets_behind-most.ensures.few)))

pub returns : goal.returns
returns c =
    let old = c.args.sink.now in
    let mid = c.put_bits.new.self in
    let top = c.args.top in
    let x = c.args.number in
    let behind = c.octets_behind-behind.result in
    on_ok c.put_aligned.result
    (λ e. large_put top x old mid c.put_aligned.new.sink
    (c.in_ok-put_bits.ensures.ok ∙ ap (λ n. old ++ bits n behind) (c.width.ensures.width ∙ ap width_of c.octets_behind-most.ensures.octets)
    ∙ ap (λ b. old ++ bits (width_of (more_of top)) b) c.octets_behind-behind.ensures.octets)
    (e ∙ ap (λ b. mid ++ (padding (length mid) ++ bits (8 * (b + 1)) x)) c.octets_behind-behind.ensures.octets))
    c.put_aligned.ensures
