use Rattle.std.proofs.Common.{length, sym, ap, ◌∙◌}
use Rattle.std.specs.Prelude.{Ok, Some}
use Rattle.transcode_core.specs.Due.{ItemsIn}
use Rattle.transcode_core.specs.Trial.{trial_document}
use Rattle.transcode_core.specs.Causes.{StepsFrom}
use Rattle.validity_check.proofs.Counting.{always-ok}
use Rattle.transcode_core.proofs.Trials.{told, refuses, steps_of, steps_from}
use Rattle.transcode_core.proofs.trial.try_out.Goals as goal

pub returns-clause-due : goal.returns-clause-due
returns-clause-due g c =
    told c.args.lines c.length_of-length.result c.deref-2.result.now c.in_ok-octets.octets.items c.deref-3.result.now c.tell.result (c.deref-2.ensures.value ∙ c.in-Ok.ensures)
    (c.length_of-length.ensures ∙ ap length (c.deref.ensures.value ∙ sym c.deref-2.ensures.value)) c.deref-3.ensures.value c.in_ok-octets.ensures.due c.tell.ensures

pub returns-clause-few : goal.returns-clause-few
returns-clause-few g c =
    steps_of c.args.lines c.args.steps.now c.encode_trial.new.steps c.deref-2.result.now (c.deref-2.ensures.value ∙ c.in-Ok.ensures) c.encode_trial.ensures.few

pub returns-in_err-octets-clause-due : goal.returns-in_err-octets-clause-due
returns-in_err-octets-clause-due g c =
    refuses c.args.lines c.deref-2.result.now c.from_residual.result c.in_err-octets.field-0.0 c.from_residual.ensures.1 (c.deref-2.ensures.value ∙ c.in-Ok.ensures) c.in_err-octets.ensures.due

pub returns-in_err-octets-clause-few : goal.returns-in_err-octets-clause-few
returns-in_err-octets-clause-few g c =
    steps_of c.args.lines c.args.steps.now c.encode_trial.new.steps c.deref-2.result.now (c.deref-2.ensures.value ∙ c.in-Ok.ensures) c.encode_trial.ensures.few

pub returns-clause-many : goal.returns-clause-many
returns-clause-many g c =
    always-ok c.tell.result (StepsFrom (λ items. ItemsIn (Some (trial_document c.args.lines)) (Ok items)) c.args.steps.now c.encode_trial.new.steps)
    (steps_from c.args.lines c.args.steps.now c.encode_trial.new.steps c.deref-2.result.now (c.deref-2.ensures.value ∙ c.in-Ok.ensures) c.in_ok-octets.ensures.many)
