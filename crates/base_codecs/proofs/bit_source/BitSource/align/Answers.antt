use Rattle.std.proofs.Common.{arith, ◌≡◌, ◌-◌, ◌*◌, ◌<◌, ◌^◌, subst, rules}
use Rattle.base_codecs.specs.Bits.{gap}
use Rattle.base_codecs.proofs.Padding.{has_one, no_one}
use Rattle.base_codecs.proofs.bit_source.BitSource.align.Goals as goal

pub returns-then-self-ne0-clause-padding : goal.returns-then-self-ne0-clause-padding
returns-then-self-ne0-clause-padding g c =
    let s = c.args.self.now in
    let e : 8 * s.taken - s.position ≡ gap s.position = omega (arith, c.requires) in
    (λ _. has_one (gap s.position) s.held (subst (λ w. s.held < 2 ^ w) e s.fits) (omega arith), λ _. search rules)

pub returns-clause-padding : goal.returns-clause-padding
returns-clause-padding g c =
    let s = c.args.self.now in
    let z : s.held ≡ 0 = omega arith in
    (λ e. cc, λ h. absurd (no_one (gap s.position) (rw z at h)))
