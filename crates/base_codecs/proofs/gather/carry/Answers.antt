use Rattle.std.proofs.Common.{rules, arith, ◌≡◌, ◌<◌, ◌*◌, ◌+◌, ◌++◌, length, sym, subst, ◌∙◌, take}
use Rattle.std.proofs.lemmas.Nat.{one_shl}
use Rattle.std.proofs.lemmas.List.{length-set}
use Rattle.base_codecs.specs.Bits.{bits, octet_bits}
use Rattle.base_codecs.proofs.Across.{left_below, carried}
use Rattle.base_codecs.proofs.gather.carry.Goals as goal

pub octets-preserved : goal.octets-preserved
octets-preserved c =
    let x = c.from-in-octets.result in
    let left = c.from.result in
    let xs = c.octets.octets in
    let orig = c.args.octets.now in
    let i = c.octets.i in
    let u = c.args.unread in
    let inv = c.octets.invariant in
    let p = one_shl u 32 (omega (arith, c.requires.part)) in
    let small : x < 256 = search rules in
    let here : i < length xs = omega (arith, inv.long, c.octets-test.true) in
    let so_far : octet_bits (take i xs) ++ bits u left ≡ bits u c.args.held ++ octet_bits (take i orig) =
    subst (λ l. octet_bits (take i xs) ++ bits u l ≡ bits u c.args.held ++ octet_bits (take i orig)) (sym c.from.ensures) inv.same in
    let k = carried u left x i (bits u c.args.held) xs orig here c.octets-test.true c.from-in-octets.ensures small inv.rest so_far in
    record {
      below = rw p (left_below u (left * 256 + x));
      long = length-set xs i _ ∙ inv.long;
      rest = k.0;
      same = rw p k.1;
    }
