use Rattle.std.proofs.Common.{arith, ap, sym, ◌∙◌, length, Ok}
use Rattle.std.proofs.lemmas.Bool.{eqb-true}
use Rattle.std.proofs.lemmas.Result.{err_from_is_err_and}
use Rattle.der_decode.specs.Private.Newest.{newest}
use Rattle.der_decode.proofs.Final.{positive, root_there, root_none}
use Rattle.der_decode.proofs.Shows.{fails_as}
use Rattle.der_decode.proofs.decoding.root.Goals as goal

pub returns-then-is_empty : goal.returns-then-is_empty
returns-then-is_empty c = record { gives = root_none c.args.module.now c.args.body.now c.args.octets.now (omega (arith, eqb-true (length c.args.octets.now) 0 (sym c.is_empty.ensures ∙ c.if-is_empty.true))) }

pub returns-in_err-behind : goal.returns-in_err-behind
returns-in_err-behind c =
    let p = err_from_is_err_and c.from_residual.result c.from_residual.ensures.1 in
    let some = positive (length c.args.octets.now) (sym c.is_empty.ensures ∙ c.if-is_empty.false) in
    rw (p.1, p.2) (record { gives = fails_as c.in_err-behind.field-0.0 _ _ (root_there c.args.module.now c.args.body.now c.args.octets.now some) c.in_err-behind.ensures.gives })

pub returns : goal.returns
returns c =
    let some = positive (length c.args.octets.now) (sym c.is_empty.ensures ∙ c.if-is_empty.false) in
    record { gives = root_there c.args.module.now c.args.body.now c.args.octets.now some ∙ c.in_ok-behind.ensures.gives ∙ ap (λ v. Ok (v, c.in_ok-behind.behind)) (ap newest c.finish_one.ensures) }
