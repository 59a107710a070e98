use Rattle.std.proofs.Common.{◌≡◌, ℕ, List, ◌++◌, string_bytes}
use Rattle.asn_names.specs.Conversion.{converted}
use Rattle.asn_names.proofs.Converting.{ends}
use Rattle.asn_names.proofs.conversion.convert.Given as goal

-- whatever follows
abbrev pub invariant-characters : goal.invariant-characters
invariant-characters l = (cs : List ℕ) → converted l.kind (l.yielded ++ cs) ≡ ends l.kind (string_bytes l.made) l.is_apart cs
