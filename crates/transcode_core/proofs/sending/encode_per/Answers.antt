use Rattle.std.proofs.Common.{rules}
use Rattle.transcode_core.specs.Private.Seen.{type_seen}
use Rattle.transcode_core.proofs.Syntaxes.{encoding_per, bits_per}
use Rattle.transcode_core.proofs.sending.encode_per.Goals as goal

pub returns-in-Ok-clause-due : goal.returns-in-Ok-clause-due
returns-in-Ok-clause-due g c =
    let type = type_seen c.args.typed.now in
    (encoding_per type.assignments type.number c.in-Ok.octets.items g.V.Variant.ALIGNED c.args.value.now c.in-Ok.ensures, bits_per g.V.Variant.ALIGNED c.in-Ok.octets.items (search rules))
