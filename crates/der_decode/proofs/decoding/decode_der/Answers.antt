use Rattle.std.proofs.Common.{sym, ◌≡◌, length, subst}
use Rattle.asn_types.proofs.Inside.{body-of}
use Rattle.asn_values.specs.Values.{In}
use Rattle.der_fields.specs.Encoding.{distinguished}
use Rattle.der_fields.specs.Laws.{Begins}
use Rattle.asn_values.proofs.Allowing.{fits-allowed}
use Rattle.der_decode.proofs.Final.{fits_body, in_module, begins_with, as_long, fault_told}
use Rattle.der_decode.proofs.Octets.{octets_of_bytes}
use Rattle.der_decode.proofs.decoding.decode_der.Goals as goal

pub root-requires-clause-of : goal.root-requires-clause-of
root-requires-clause-of c = rw c.root-body.ensures.root (body-of c.args.module.now c.args.t c.assignment.result.now c.assignment.ensures.assignment)

pub of-requires : goal.of-requires
of-requires c =
    let M = c.args.module.now in
    fits-allowed M 1 c.assignment.result.now.body c.in-Ok.read.0 (fits_body M c.count.ensures.module c.count.ensures.bounded c.args.t c.assignment.result.now c.assignment.ensures.assignment c.requires.assigned c.args.octets.now (octets_of_bytes c.args.octets.now c.see_octets.ensures) c.in-Ok.read.0 c.in-Ok.read.1 (rw c.root-body.ensures.root at c.in-Ok.ensures.gives))

pub returns-in-Ok-clause-value : goal.returns-in-Ok-clause-value
returns-in-Ok-clause-value c =
    let M = c.args.module.now in
    subst (In M c.args.t) (sym c.of.ensures)
    (in_module M c.count.ensures.module c.count.ensures.bounded c.args.t c.assignment.result.now c.assignment.ensures.assignment c.requires.assigned c.args.octets.now (octets_of_bytes c.args.octets.now c.see_octets.ensures) c.in-Ok.read.0 c.in-Ok.read.1 (rw c.root-body.ensures.root at c.in-Ok.ensures.gives))

pub returns-in-Ok-clause-answer : goal.returns-in-Ok-clause-answer
returns-in-Ok-clause-answer c =
    let M = c.args.module.now in
    let X = c.args.octets.now in
    let fine = octets_of_bytes X c.see_octets.ensures in
    let read = rw c.root-body.ensures.root at c.in-Ok.ensures.gives in
    subst (λ v. Begins M c.args.t X v × (c.in-Ok.read.1.at ≡ length (distinguished M c.args.t v))) (sym c.of.ensures) (
      begins_with M c.count.ensures.module c.count.ensures.bounded c.args.t c.assignment.result.now c.assignment.ensures.assignment c.requires.assigned X fine c.in-Ok.read.0 c.in-Ok.read.1 read,
      as_long M c.count.ensures.module c.count.ensures.bounded c.args.t c.assignment.result.now c.assignment.ensures.assignment c.requires.assigned X fine c.in-Ok.read.0 c.in-Ok.read.1 read,
    )

pub returns-in-Err-clause-answer : goal.returns-in-Err-clause-answer
returns-in-Err-clause-answer c =
    let M = c.args.module.now in
    rw c.told.ensures (fault_told M c.count.ensures.module c.count.ensures.bounded c.args.t c.assignment.result.now c.assignment.ensures.assignment c.requires.assigned c.args.octets.now (octets_of_bytes c.args.octets.now c.see_octets.ensures) c.in-Err.fault (rw c.root-body.ensures.root at c.in-Err.ensures.gives))
