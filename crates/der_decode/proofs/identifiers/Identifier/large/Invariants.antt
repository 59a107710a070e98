use Rattle.std.proofs.Common.{◌≡◌, ◌*◌, ◌<◌, ◌≤◌, ◌^◌, drop, length}
use Rattle.der_fields.specs.Octets.{sevens}
use Rattle.der_decode.proofs.Sevens.{before}
use Rattle.der_decode.proofs.identifiers.Identifier.large.Given as goal

abbrev pub invariant-sevens : goal.invariant-sevens
invariant-sevens l = record {
  behind : before l.left (drop l.begin l.octets) ≡ sevens l.number;
  long : length l.octets ≡ 6;
  some : 1 ≤ l.begin;
  within : l.begin ≤ 5;
  few : l.left * 128 < 2 ^ (7 * l.begin);
}

abbrev pub decreases-sevens : goal.decreases-sevens
decreases-sevens l = l.left
