use Rattle.asn_types.proofs.Chaining.{well-formed, parts-of-module, have-parts, resolved-of-module}
use Rattle.asn_types.proofs.laws.types_of_modules.Goals as goal

pub returns : goal.returns
returns c = record { well_formed = well-formed; parts = parts-of-module; all = have-parts; resolved = resolved-of-module }
