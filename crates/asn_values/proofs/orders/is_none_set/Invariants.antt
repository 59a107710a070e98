use Rattle.std.proofs.Common.{◌≡◌, drop}
use Rattle.std.specs.List.{list_any}
use Rattle.asn_values.proofs.orders.is_none_set.Given as goal

abbrev pub invariant-flags : goal.invariant-flags
invariant-flags l = list_any (λ flag. flag) l.flags ≡ list_any (λ flag. flag) (drop l.flag-index l.flags)
