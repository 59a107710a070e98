use Rattle.std.proofs.Common.{arith, ◌≡◌, ◌<◌, ◌+◌, ◌*◌, ◌++◌, sym, subst, take}
use Rattle.std.proofs.lemmas.Nat.{one_shl}
use Rattle.base_codecs.specs.Bits.{bits, octet_bits}
use Rattle.base_codecs.proofs.Across.{left_below, appended}
use Rattle.base_codecs.proofs.bit_sink.append_across.Goals as goal

pub octets-preserved : goal.octets-preserved
octets-preserved c =
    let x = c.from-in-octets.result in
    let left = c.from.result in
    let items = c.octets.octets.items in
    let more = c.args.more.now in
    let i = c.octets.i in
    let u = c.args.used in
    let base = c.args.octets.now.items in
    let inv = c.octets.invariant in
    let p = one_shl u 32 (omega (arith, c.requires.few)) in
    let small : x < 256 = omega (arith, c.type_inv.more i, c.from-in-octets.ensures) in
    let so_far : octet_bits items ++ bits u left ≡ (octet_bits base ++ bits u c.args.part) ++ octet_bits (take i more) =
    subst (λ l. octet_bits items ++ bits u l ≡ (octet_bits base ++ bits u c.args.part) ++ octet_bits (take i more)) (sym c.from.ensures) inv.same in
    record {
      below = rw p (left_below u (left * 256 + x));
      long = omega (arith, c.push_reserved.ensures.len, inv.long);
      room = omega (arith, inv.room, c.push_reserved.ensures.capacity);
      same = rw p (appended u left x i _ items _ more c.octets-test.true c.from-in-octets.ensures small c.push_reserved.ensures.items so_far);
    }

pub push_reserved-requires : goal.push_reserved-requires
push_reserved-requires c = omega (arith, c.octets.invariant.long, c.octets.invariant.room, c.requires.room, c.octets-test.true)
