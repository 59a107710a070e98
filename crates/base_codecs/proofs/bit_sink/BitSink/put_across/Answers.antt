use Rattle.std.proofs.Common.{◌++◌, ap, ◌∙◌}
use Rattle.base_codecs.specs.Bits.{bits, octet_bits}
use Rattle.base_codecs.proofs.bit_sink.BitSink.put_across.Goals as goal

pub returns-clause-ok : goal.returns-clause-ok
returns-clause-ok c =
    let s = c.self.inside in
    c.append_across-part.ensures.bits ∙ ap (λ xs. (octet_bits xs ++ bits s.used s.part) ++ octet_bits c.args.octets.now) c.in_ok-reserve.ensures.items
    ∙ ap (λ bs. bs ++ octet_bits c.args.octets.now) c.self.view_is
