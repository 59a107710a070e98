use Rattle.std.proofs.Common.{ap, sym, ◌∙◌, rules}
use Rattle.std.specs.Prelude.{FitsSigned}
use Rattle.std.proofs.lemmas.Int.{to_z-of_z}
use mir.Syntax.{w128}
use Rattle.std.proofs.lemmas.Result.{err_from_is_err_and}
use Rattle.der_fields.specs.Reading.{item_with}
use Rattle.der_decode.proofs.Contents.{enum_is, enum_range, enum_stops}
use Rattle.der_decode.proofs.leaves.enumerated.Goals as goal

pub returns-in_err-z-clause-reads : goal.returns-in_err-z-clause-reads
returns-in_err-z-clause-reads c =
    let p = err_from_is_err_and c.from_residual.result c.from_residual.ensures.1 in
    let e = enum_stops c.args.form.now c.args.octets.now c.args.spot c.in_err-z.field-0.0 c.in_err-z.ensures.err in
    let same = p.2 in
    rw p.1 (cc (e, same))

pub returns-in-Some-clause-reads : goal.returns-in-Some-clause-reads
returns-in-Some-clause-reads c =
    let f = c.args.form.now in
    let z = c.in_ok-z.z in
    let fits : FitsSigned w128 z = search rules in
    enum_is f c.args.octets.now c.args.spot z c.in-Some.i c.in_ok-z.ensures.ok (sym (ap (λ y. item_with f y) (to_z-of_z w128 z fits)) ∙ sym c.item_with.ensures ∙ c.in-Some.is)

pub returns-in-None-clause-reads : goal.returns-in-None-clause-reads
returns-in-None-clause-reads c =
    let f = c.args.form.now in
    let z = c.in_ok-z.z in
    let fits : FitsSigned w128 z = search rules in
    enum_range f c.args.octets.now c.args.spot z c.in_ok-z.ensures.ok (sym (ap (λ y. item_with f y) (to_z-of_z w128 z fits)) ∙ sym c.item_with.ensures ∙ c.in-None.is)
