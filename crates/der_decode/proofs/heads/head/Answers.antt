use Rattle.std.proofs.Common.{arith, sym, ap, ◌∙◌, Err}
use Rattle.std.proofs.lemmas.Result.{err_from_is_err_and}
use Rattle.der_fields.specs.Encoding.{identifier}
use Rattle.der_decode.proofs.Heading.{head-inside, head_other, head_over, head_windowless, head_window}
use Rattle.der_decode.proofs.heads.head.Goals as goal

pub sized-requires : goal.sized-requires
sized-requires c =
    let k = head-inside (identifier c.args.tag c.args.form.now) c.args.octets.now c.args.spot.at c.requires.inside (sym c.begins_so.ensures ∙ c.if-not-begins_so.false) in
    omega (arith, k, c.identifier_size.ensures.size)

pub returns-then-not-begins_so-clause-gives : goal.returns-then-not-begins_so-clause-gives
returns-then-not-begins_so-clause-gives c = λ contents.
    head_other c.args.depth (identifier c.args.tag c.args.form.now) c.args.octets.now c.args.spot contents (sym c.begins_so.ensures ∙ c.if-not-begins_so.true)

pub returns-in_err-enter-clause-gives : goal.returns-in_err-enter-clause-gives
returns-in_err-enter-clause-gives c =
    let p = err_from_is_err_and c.from_residual.result c.from_residual.ensures.1 in
    rw (p.1, p.2) (λ contents.
    head_over c.args.depth (identifier c.args.tag c.args.form.now) c.args.octets.now c.args.spot contents (sym c.begins_so.ensures ∙ c.if-not-begins_so.false) c.in_err-enter.ensures.err.0 ∙ ap Err (sym c.in_err-enter.ensures.err.1))

pub returns-in_err-window-clause-gives : goal.returns-in_err-window-clause-gives
returns-in_err-window-clause-gives c =
    let p = err_from_is_err_and c.from_residual-in_err-window.result c.from_residual-in_err-window.ensures.1 in
    rw (p.1, p.2) (head_windowless c.args.depth (identifier c.args.tag c.args.form.now) c.args.octets.now c.args.spot c.identifier_size.result c.identifier_size.ensures.size (sym c.begins_so.ensures ∙ c.if-not-begins_so.false) c.in_ok-enter.ensures.ok c.in_err-window.field-0.0 c.in_err-window.ensures.err)

pub returns-clause-gives : goal.returns-clause-gives
returns-clause-gives c =
    head_window c.args.depth (identifier c.args.tag c.args.form.now) c.args.octets.now c.args.spot c.identifier_size.result c.identifier_size.ensures.size (sym c.begins_so.ensures ∙ c.if-not-begins_so.false) c.in_ok-enter.ensures.ok c.in_ok-window.window c.in_ok-window.ensures.ok
