use Rattle.std.proofs.Common.{arith, refl, sym, ◌+◌, ◌/◌, ◌%◌}
use Rattle.std.proofs.lemmas.Nat.{one_shl}
use Rattle.base_codecs.proofs.Writing.{octets_fit, writes_bits}
use Rattle.base_codecs.proofs.bit_sink.BitSink.put_many.Goals as goal

pub overflow_cast-all-5 : goal.overflow_cast-all-5
overflow_cast-all-5 c =
    let s = c.self.inside in
    let p = one_shl c.args.n 128 (omega (arith, c.requires)) in
    rw p (omega (arith, octets_fit s.part c.args.number s.used c.args.n _ c.self.invariant.1 c.self.invariant.0 c.requires refl))

pub returns-clause-ok : goal.returns-clause-ok
returns-clause-ok c =
    let s = c.self.inside in
    let n = c.args.n in
    let left = (s.used + n) % 8 in
    let p = one_shl n 128 (omega (arith, c.requires)) in
    let q = one_shl left 128 (omega arith) in
    rw (p, q) (writes_bits c.append_octets.new.octets.items s.octets.items s.used s.part n c.args.number ((s.used + n) / 8) left _ c.args.self.now
    (sym c.self.view_is) refl (omega arith) (rw (p, c.in_ok-reserve.ensures.items) at c.in_ok-append_octets.ensures.ok))
