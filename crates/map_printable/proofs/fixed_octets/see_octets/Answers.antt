use Rattle.std.proofs.Common.{◌<◌}
use Rattle.std.proofs.lemmas.List.Elements.{All-from_get_or}
use Rattle.map_printable.proofs.fixed_octets.see_octets.Goals as goal

pub returns : goal.returns
returns c = All-from_get_or (λ x. x < 256) c.args.octets.now 0 (λ i _. c.see_octet.ensures i)
