use Rattle.std.proofs.Common.{arith, ◌≡◌, ◌+◌, ◌-◌, ◌*◌, ◌<◌, ◌^◌, subst}
use Rattle.std.proofs.lemmas.Result.{err_from_is_err_and}
use Rattle.per_decode.specs.Private.Giving.{halt_of, input, spot}
use Rattle.per_decode.proofs.Standing.{stands_inside}
use Rattle.per_decode.proofs.Twice.{both_below, high_fails, low_fails, both_told}
use Rattle.per_decode.proofs.run.Run.take_both.Goals as goal

pub returns-in_err-high-clause-gives : goal.returns-in_err-high-clause-gives
returns-in_err-high-clause-gives g c = λ told.
    let p = err_from_is_err_and c.from_residual.result c.from_residual.ensures.1 in
    let old = c.args.self.now in
    let new = c.take_bits.new.self in
    let i = stands_inside old.bits.position old.bits.taken old.bits.held old.bits.limit g.K.Origin.limit g.K.Origin.whole _ old.limited old.bits.behind old.bits.within (old.here told) in
    rw (p.1, p.2) (high_fails c.args.begin c.args.n c.requires.many (input g.K.Origin.limit g.K.Origin.whole) (spot old.bits.position old.nodes) i g.K.Origin.limit g.K.Origin.whole (halt_of c.in_err-high.field-0.0 new.stop) new.bits.taken (c.in_err-high.ensures.gives told))

pub returns-in_err-low-clause-gives : goal.returns-in_err-low-clause-gives
returns-in_err-low-clause-gives g c = λ told.
    let p = err_from_is_err_and c.from_residual-in_err-low.result c.from_residual-in_err-low.ensures.1 in
    let old = c.args.self.now in
    let mid = c.take_bits.new.self in
    let new = c.take_bits-2.new.self in
    let i = stands_inside old.bits.position old.bits.taken old.bits.held old.bits.limit g.K.Origin.limit g.K.Origin.whole _ old.limited old.bits.behind old.bits.within (old.here told) in
    let j = stands_inside mid.bits.position mid.bits.taken mid.bits.held mid.bits.limit g.K.Origin.limit g.K.Origin.whole _ mid.limited mid.bits.behind mid.bits.within (mid.here told) in
    rw (p.1, p.2) (low_fails c.args.begin c.args.n c.requires.many (input g.K.Origin.limit g.K.Origin.whole) (spot old.bits.position old.nodes) i c.in_ok-high.high (spot mid.bits.position mid.nodes) (c.in_ok-high.ensures.gives told) j g.K.Origin.limit g.K.Origin.whole (halt_of c.in_err-low.field-0.0 new.stop) new.bits.taken (c.in_err-low.ensures.gives told))

pub returns-clause-below : goal.returns-clause-below
returns-clause-below g c =
    let e : c.args.n - 64 + 64 ≡ c.args.n = omega (arith, c.requires.many) in
    subst (λ w. c.in_ok-high.high * 2 ^ 64 + c.in_ok-low.low < 2 ^ w) e (both_below (c.args.n - 64) 64 c.in_ok-high.high c.in_ok-low.low c.in_ok-high.ensures.below c.in_ok-low.ensures.below)

pub returns-clause-gives : goal.returns-clause-gives
returns-clause-gives g c = λ told.
    let old = c.args.self.now in
    let mid = c.take_bits.new.self in
    let new = c.take_bits-2.new.self in
    let i = stands_inside old.bits.position old.bits.taken old.bits.held old.bits.limit g.K.Origin.limit g.K.Origin.whole _ old.limited old.bits.behind old.bits.within (old.here told) in
    let j = stands_inside mid.bits.position mid.bits.taken mid.bits.held mid.bits.limit g.K.Origin.limit g.K.Origin.whole _ mid.limited mid.bits.behind mid.bits.within (mid.here told) in
    both_told c.args.begin c.args.n c.requires.many (input g.K.Origin.limit g.K.Origin.whole) (spot old.bits.position old.nodes) i c.in_ok-high.high (spot mid.bits.position mid.nodes) (c.in_ok-high.ensures.gives told) j c.in_ok-low.low (spot new.bits.position new.nodes) (c.in_ok-low.ensures.gives told)
