use Rattle.std.proofs.Common.{arith, refl, sym, ◌+◌, ◌%◌}
use Rattle.std.proofs.lemmas.Nat.{one_shl}
use Rattle.base_codecs.proofs.Writing.{joined_small, joined_octet, joined_fit, joins_bits, leaves_bits}
use Rattle.base_codecs.proofs.bit_sink.BitSink.put_bits.Goals as goal

pub overflow_mul-all : goal.overflow_mul-all
overflow_mul-all c =
    let s = c.self.inside in
    let p = one_shl c.args.n 64 (omega (arith, c.if-width-ge64.false)) in
    rw p (omega (arith, joined_small s.part c.args.number s.used c.args.n c.self.invariant.1 c.if-width-ge64.false))

pub overflow_add-all : goal.overflow_add-all
overflow_add-all c =
    let s = c.self.inside in
    let p = one_shl c.args.n 64 (omega (arith, c.if-width-ge64.false)) in
    rw p (omega (arith, joined_small s.part c.args.number s.used c.args.n c.self.invariant.1 c.if-width-ge64.false))

pub overflow_cast-self : goal.overflow_cast-self
overflow_cast-self c =
    let s = c.self.inside in
    let p = one_shl c.args.n 64 (omega (arith, c.if-width-ge64.false)) in
    rw p (omega (arith, joined_octet s.part c.args.number s.used c.args.n c.self.invariant.1 c.if-width-lt8.true))

pub invariant_of-self : goal.invariant_of-self
invariant_of-self c =
    let s = c.self.inside in
    let p = one_shl c.args.n 64 (omega (arith, c.if-width-ge64.false)) in
    (omega (arith, c.if-width-lt8.true), rw p (joined_fit s.part c.args.number s.used c.args.n _ c.self.invariant.1 refl), λ _. omega (arith, c.if-capacity-len-lt8.false, c.capacity.ensures, c.len.ensures))

pub returns-then-width-lt8-clause-ok : goal.returns-then-width-lt8-clause-ok
returns-then-width-lt8-clause-ok c =
    let s = c.self.inside in
    let p = one_shl c.args.n 64 (omega (arith, c.if-width-ge64.false)) in
    rw p (joins_bits s.octets.items s.used s.part c.args.n c.args.number _ c.args.self.now (sym c.self.view_is) refl)

pub returns-clause-ok : goal.returns-clause-ok
returns-clause-ok c =
    let s = c.self.inside in
    let n = c.args.n in
    let left = (s.used + n) % 8 in
    let p = one_shl n 64 (omega (arith, c.if-width-ge64.false)) in
    let q = one_shl left 64 (omega arith) in
    rw (p, q) (leaves_bits c.append_whole.new.octets.items s.octets.items s.used s.part n c.args.number left _ c.args.self.now
    (sym c.self.view_is) refl (rw p at c.append_whole.ensures.bits))
