use Rattle.std.proofs.Common.{ap, ◌∙◌, drop}
use Rattle.der_fields.specs.Octets.{begins}
use Rattle.der_decode.proofs.Octets.{from_octet, all_left}
use Rattle.der_decode.proofs.Sevens.{begins_same}
use Rattle.der_decode.proofs.identifiers.begins_so.Goals as goal

pub returns : goal.returns
returns c =
    let X = c.args.octets.now in
    let at = c.args.at in
    let head = c.items.result.now in
    c.starts_with.ensures.value ∙ begins_same head (from_octet at X) ∙ ap (begins head) (all_left at X) ∙ ap (λ h. begins h (drop at X)) (c.items.ensures.same ∙ c.of-identifier.ensures)
