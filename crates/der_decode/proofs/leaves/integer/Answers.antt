use Rattle.std.proofs.Common.{ap, sym, ◌∙◌, ◌&&◌, rules, Ok}
use Rattle.std.specs.Prelude.{FitsSigned}
use Rattle.std.proofs.lemmas.Int.{to_z-of_z}
use Rattle.std.proofs.lemmas.Result.{err_from_is_err_and}
use mir.Syntax.{w128}
use Rattle.simple_types.specs.declared.labels.ValueLabel.TheVariants as value
use Rattle.simple_types.specs.Lexical.{is_from, is_to}
use Rattle.der_fields.specs.Reading.{leaf_of}
use Rattle.der_decode.specs.Private.Leaves.{end_of}
use Rattle.der_decode.proofs.Contents.{int_is, int_range, int_stops}
use Rattle.der_decode.proofs.leaves.integer.Goals as goal

pub returns-in_err-z-clause-reads : goal.returns-in_err-z-clause-reads
returns-in_err-z-clause-reads c =
    let p = err_from_is_err_and c.from_residual.result c.from_residual.ensures.1 in
    let e = int_stops c.args.lo c.args.hi c.args.octets.now c.args.spot c.in_err-z.field-0.0 c.in_err-z.ensures.err in
    let same = p.2 in
    rw p.1 (cc (e, same))

pub returns-then-is_within-clause-reads : goal.returns-then-is_within-clause-reads
returns-then-is_within-clause-reads c =
    let z = c.in_ok-z.z in
    let fits : FitsSigned w128 z = search rules in
    int_is c.args.lo c.args.hi c.args.octets.now c.args.spot z c.in_ok-z.ensures.ok (sym (ap (λ y. is_from c.args.lo y && is_to c.args.hi y) (to_z-of_z w128 z fits)) ∙ sym c.is_within.ensures ∙ c.if-is_within.true)
    ∙ ap (λ y. Ok (leaf_of (value.Int y), end_of c.args.octets.now c.args.spot)) (sym (to_z-of_z w128 z fits) ∙ sym c.of.ensures)

pub returns-clause-reads : goal.returns-clause-reads
returns-clause-reads c =
    let z = c.in_ok-z.z in
    let fits : FitsSigned w128 z = search rules in
    int_range c.args.lo c.args.hi c.args.octets.now c.args.spot z c.in_ok-z.ensures.ok (sym (ap (λ y. is_from c.args.lo y && is_to c.args.hi y) (to_z-of_z w128 z fits)) ∙ sym c.is_within.ensures ∙ c.if-is_within.false)
