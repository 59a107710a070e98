use Rattle.std.proofs.Common.{sym, subst, Ok, Err}
use Rattle.std.proofs.lemmas.Result.{err_from_is_err_and}
use Rattle.asn_values.specs.Values.{In}
use Rattle.asn_types.proofs.Inside.{body-of}
use Rattle.per_decode.specs.Answers.{AnswersBy}
use Rattle.per_decode.proofs.Final.{in_module, answers_told}
use Rattle.asn_values.proofs.Allowing.{fits-allowed}
use Rattle.per_decode.proofs.decoding.decode_by.Goals as goal

pub of-requires : goal.of-requires
of-requires g c = fits-allowed c.args.module.now 1 c.root-body.result.now c.in_ok-found.found.0 c.in_ok-found.ensures.fits.0

pub decode_from-requires-clause-of : goal.decode_from-requires-clause-of
decode_from-requires-clause-of g c = rw c.root-body.ensures.root (body-of c.args.module.now c.args.t c.assignment.result.now c.assignment.ensures.assignment)

pub returns-clause-value : goal.returns-clause-value
returns-clause-value g c =
    subst (λ v. In c.args.module.now c.args.t v) (sym c.of.ensures)
    (in_module g.V.Variant.ALIGNED c.args.module.now (c.count.ensures.module, c.count.ensures.bounded) c.args.t c.assignment.result.now c.assignment.ensures.assignment c.requires.assigned c.in_ok-found.found.0
    (rw c.root-body.ensures.root at c.in_ok-found.ensures.fits.0) c.in_ok-found.ensures.fits.1)

pub returns-clause-answer : goal.returns-clause-answer
returns-clause-answer g c = λ left is.
    subst (λ v. AnswersBy g.V.Variant.ALIGNED c.args.module.now c.args.t c.args.limit left (g.S.Source.left c.decode_from.new.source) (Ok (record { value = v; octets = c.in_ok-found.found.1 }))) (sym c.of.ensures)
    (answers_told g.V.Variant.ALIGNED c.args.module.now (c.count.ensures.module, c.count.ensures.bounded) c.args.t c.assignment.result.now c.assignment.ensures.assignment c.requires.assigned
    c.args.limit left _ _ (Ok c.in_ok-found.found) is (rw c.root-body.ensures.root at c.in_ok-found.ensures.told))

pub returns-in_err-found-clause-answer : goal.returns-in_err-found-clause-answer
returns-in_err-found-clause-answer g c = λ left is.
    let p = err_from_is_err_and c.from_residual.result c.from_residual.ensures.1 in
    rw (p.1, p.2) (answers_told g.V.Variant.ALIGNED c.args.module.now (c.count.ensures.module, c.count.ensures.bounded) c.args.t c.assignment.result.now c.assignment.ensures.assignment c.requires.assigned
    c.args.limit left _ _ (Err c.in_err-found.field-0.0) is (rw c.root-body.ensures.root at c.in_err-found.ensures.told))
