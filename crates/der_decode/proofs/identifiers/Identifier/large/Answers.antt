use Rattle.std.proofs.Common.{◌≡◌, ◌+◌, ◌-◌, ◌%◌, ◌<◌, ◌≤◌, ◌∙◌, refl, arith, length}
use Rattle.std.proofs.Math.ListN.{set, length-set}
use Rattle.der_decode.proofs.Sevens.{sevens_are, two_left, fewer, seven_put, first_put}
use Rattle.der_decode.proofs.identifiers.Identifier.large.Goals as goal

pub sevens-init : goal.sevens-init
sevens-init c = record { behind = sevens_are c.args.number; long = refl; some = omega arith; within = omega arith; few = omega arith }

pub sevens-preserved : goal.sevens-preserved
sevens-preserved c =
    let n = c.sevens.left in
    let i = c.sevens.begin in
    let inv = c.sevens.invariant in
    let left : 0 < n = omega arith in
    let inside : i ≤ length c.sevens.octets = omega (arith, inv.within, inv.long) in
    let two : 2 ≤ i = two_left n i inv.some left inv.few in
    let long : length (set c.sevens.octets (i - 1) (128 + n % 128)) ≡ 6 = length-set c.sevens.octets (i - 1) (128 + n % 128) ∙ inv.long in
    record { behind = seven_put c.sevens.octets n i c.args.number left inv.some inside inv.behind; long = long; some = omega (arith, two); within = omega (arith, inv.within); few = fewer n i inv.some inv.few }

pub returns : goal.returns
returns c =
    let inv = c.sevens.invariant in
    let inside : c.sevens.begin ≤ length c.sevens.octets = omega (arith, inv.within, inv.long) in
    first_put c.args.constructed c.sevens.octets c.sevens.left c.sevens.begin c.args.number c.form_bit.result c.requires (omega arith) c.form_bit.ensures.same inv.some inside inv.behind
