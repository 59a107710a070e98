use Rattle.std.proofs.lemmas.Result.{err_from_is_err_and}
use Rattle.module_grammar.specs.NameReading.{quoted_byte_at, byte_of}
use Rattle.module_parse.proofs.Chaining.{going_again}
use Rattle.module_parse.proofs.Looping.{formed_none, formed_next, formed_ends}
use Rattle.module_parse.proofs.names.quoted_bytes.Goals as goal

pub text-init : goal.text-init
text-init c = formed_none quoted_byte_at byte_of c.args.bytes.now c.args.from c.new-text.result.items c.requires c.new-text.ensures.items

pub text-preserved : goal.text-preserved
text-preserved c = formed_next c.text.invariant c.in-Ok.ensures.value c.in-Ok.ensures.within c.in_ok-push-in-Ok.ensures.items

pub returns-in_err-end-in-Err-clause-value : goal.returns-in_err-end-in-Err-clause-value
returns-in_err-end-in-Err-clause-value c =
    let p = err_from_is_err_and c.from_residual-in_err-end-in-Err.result c.from_residual-in_err-end-in-Err.ensures.1 in
    rw (p.1, p.2) (going_again c.text.invariant.going c.in-Err.ensures.value c.in_err-end-in-Err.ensures)

pub returns-in-Err-clause-value : goal.returns-in-Err-clause-value
returns-in-Err-clause-value c = rw c.of.ensures (formed_ends c.text.invariant c.in-Err.ensures.value c.in_ok-end-in-Err.ensures)
