use Rattle.std.proofs.Common.{◌∙◌, ap, [], ◌∷◌, ◌++◌, ◌≡◌}
use Rattle.std.proofs.lemmas.Result.{err_from_is_err_and}
use Rattle.std.specs.Prelude.{codes}
use Rattle.module_grammar.specs.Reading.{many_at, behind_at}
use Rattle.module_grammar.specs.NameReading.{plain_identifier_at}
use Rattle.module_grammar.specs.ValueReading.{listed_of}
use Rattle.module_parse.proofs.Chaining.{as_read, as_stops, then_read, then_stops, then_next_stops, going_again}
use Rattle.module_parse.proofs.Looping.{more_none, more_next, more_ends}
use Rattle.module_parse.proofs.items.listed_names.Goals as goal

pub returns-in_err-first-clause-value : goal.returns-in_err-first-clause-value
returns-in_err-first-clause-value c =
    let p = err_from_is_err_and c.from_residual.result c.from_residual.ensures.1 in
    rw (p.1, p.2) (as_stops listed_of (then_stops (λ _. many_at (behind_at (codes ", ") plain_identifier_at)) c.in_err-first.ensures.value))

pub names-init : goal.names-init
names-init c = more_none (behind_at (codes ", ") plain_identifier_at) c.args.bytes.now c.in_ok-first.behind c.push.new.self.items c.in_ok-first.ensures.within.1

pub names-preserved : goal.names-preserved
names-preserved c = more_next c.names.invariant c.in-Ok.ensures.value c.in-Ok.ensures.within c.in_ok-push-in-Ok.ensures.items

pub returns-in_err-end-in-Err-clause-value : goal.returns-in_err-end-in-Err-clause-value
returns-in_err-end-in-Err-clause-value c =
    let p = err_from_is_err_and c.from_residual-in_err-end-in-Err.result c.from_residual-in_err-end-in-Err.ensures.1 in
    rw (p.1, p.2) (as_stops listed_of (then_next_stops (λ _. many_at (behind_at (codes ", ") plain_identifier_at)) c.in_ok-first.ensures.value (going_again c.names.invariant.going c.in-Err.ensures.value c.in_err-end-in-Err.ensures)))

pub returns-in-Err-clause-value : goal.returns-in-Err-clause-value
returns-in-Err-clause-value c = let e : c.names.names.items ≡ c.in_ok-first.first ∷ c.names.invariant.values = c.names.invariant.are ∙ ap (λ l. l ++ c.names.invariant.values) (c.in_ok-push.ensures.items ∙ ap (λ l. l ++ c.in_ok-first.first ∷ []) c.new-names.ensures.items) in
    rw e (as_read listed_of (then_read (λ _. many_at (behind_at (codes ", ") plain_identifier_at)) c.in_ok-first.ensures.value (more_ends c.names.invariant c.in-Err.ensures.value c.in_ok-end-in-Err.ensures)))
