use Rattle.std.proofs.Common.{arith, ◌≡◌, ◌-◌, ◌%◌, ◌++◌, ap, ◌∙◌}
use Rattle.base_codecs.specs.Bits.{bits, octet_bits}
use Rattle.base_codecs.proofs.BitSplit.{writes_octet}
use Rattle.base_codecs.proofs.bit_sink.append_whole.Goals as goal

pub octets-preserved : goal.octets-preserved
octets-preserved c =
    let left = c.octets.left in
    let inv = c.octets.invariant in
    record {
      long = omega (arith, c.push_reserved.ensures.len, inv.long, c.octets-test.true);
      bytes = omega (arith, inv.bytes, c.octets-test.true);
      few = omega (arith, inv.few, c.octets-test.true);
      room = c.push_reserved.ensures.capacity ∙ inv.room;
      same = ap (λ xs. octet_bits xs ++ bits (left - 8) c.args.number) c.push_reserved.ensures.items
          ∙ writes_octet c.octets.octets.items left c.args.number _ c.octets-test.true inv.same;
    }

pub push_reserved-requires : goal.push_reserved-requires
push_reserved-requires c = omega (arith, c.octets.invariant.long, c.octets.invariant.room, c.octets.invariant.few, c.requires.room, c.octets-test.true)

pub returns-clause-bits : goal.returns-clause-bits
returns-clause-bits c =
    let e : c.args.width % 8 ≡ c.octets.left = omega (arith, c.octets.invariant.bytes, c.octets-test.false) in
    ap (λ n. octet_bits c.octets.octets.items ++ bits n c.args.number) e ∙ c.octets.invariant.same
