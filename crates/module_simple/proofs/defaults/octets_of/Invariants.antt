use Rattle.std.proofs.Common.{◌≡◌, length}
use Rattle.module_text.specs.Defaults.{octets_of}
use Rattle.module_simple.specs.Made.{behind_it}
use Rattle.module_simple.proofs.defaults.octets_of.Given as goal

abbrev pub invariant-octets : goal.invariant-octets
invariant-octets l = behind_it l.octets.items (octets_of l.rest) ≡ octets_of l.digits

abbrev pub decreases-octets : goal.decreases-octets
decreases-octets l = length l.rest
