use Rattle.std.proofs.Common.{ℕ, inl}
use Rattle.std.proofs.lemmas.Result.{IfOk-weaker}
use Rattle.std.specs.Prelude.{Vec}
use Rattle.std.specs.declared.alloc.Global.{Global}
use Rattle.base_trees.specs.Rose.{Rose}
use Rattle.simple_types.specs.declared.labels.ValueLabel.{ValueLabel}
use Rattle.transcode_core.specs.Private.Seen.{type_seen}
use Rattle.transcode_core.specs.Steps.{Decoded, Written}
use Rattle.transcode_words.specs.Answers.{NoMemory}
use Rattle.transcode_core.specs.Causes.{OneRead}
use Rattle.transcode_words.proofs.Joined.{passed}
use Rattle.transcode_core.proofs.Exits.{refused_by}
use Rattle.transcode_core.proofs.receiving.write_input.Goals as goal

pub returns-clause-due : goal.returns-clause-due
returns-clause-due g c =
    let type = type_seen c.args.typed.now in
    let cause = OneRead (g.S.Source.faults c.args.input.now) (g.S.Source.faults c.decode_input.new.input) in
    passed (Decoded c.args.syntax type (g.S.Source.left c.args.input.now)) (λ (value : Rose ValueLabel). Written type value) NoMemory cause
    (λ (bytes : Vec ℕ Global). bytes.items) c.in_ok-value.value c.write_value.result c.in_ok-value.ensures.due c.write_value.ensures.due (λ o h. inl h)

pub returns-in_err-value-clause-due : goal.returns-in_err-value-clause-due
returns-in_err-value-clause-due g c =
    let type = type_seen c.args.typed.now in
    let cause = OneRead (g.S.Source.faults c.args.input.now) (g.S.Source.faults c.decode_input.new.input) in
    refused_by (Decoded c.args.syntax type (g.S.Source.left c.args.input.now)) (λ (value : Rose ValueLabel). Written type value) cause cause
    (λ (bytes : Vec ℕ Global). bytes.items) c.from_residual.result c.in_err-value.field-0.0 c.from_residual.ensures.1 c.in_err-value.ensures.due (λ h. h)

pub returns-clause-back : goal.returns-clause-back
returns-clause-back g c = IfOk-weaker c.write_value.result _ _ (λ text back. (c.in_ok-value.value, c.in_ok-value.ensures.due, back)) c.write_value.ensures.back
