use Rattle.std.proofs.Common.{ℕ}
use Rattle.std.specs.Prelude.{Vec}
use Rattle.std.specs.declared.alloc.Global.{Global}
use Rattle.base_trees.specs.Rose.{Rose}
use Rattle.simple_types.specs.declared.labels.ValueLabel.{ValueLabel}
use Rattle.transcode_words.specs.Answers.{NoMemory}
use Rattle.transcode_words.proofs.Joined.{passed}
use Rattle.transcode_core.specs.Private.Seen.{opened_seen, type_seen}
use Rattle.transcode_core.specs.Steps.{ValueIn, Encoding}
use Rattle.transcode_core.proofs.Exits.{refused_by}
use Rattle.transcode_core.proofs.Ready.{of_type}
use Rattle.transcode_core.proofs.prepared.Prepared.encode_items.Goals as goal

pub returns-clause-due : goal.returns-clause-due
returns-clause-due g c =
    let opened = c.self.inside.opened in
    let type = type_seen c.self.inside.typed in
    of_type c.args.syntax opened.set opened.root c.args.self.now type c.self.view_is c.self.invariant c.args.items.now c.encode_value.result
    (passed (ValueIn (opened_seen opened) type c.args.items.now) (λ (value : Rose ValueLabel). Encoding c.args.syntax type value) NoMemory NoMemory
    (λ (bytes : Vec ℕ Global). bytes.items) c.in_ok-value.value c.encode_value.result (c.in_ok-value.ensures.due type c.self.invariant) c.encode_value.ensures.due (λ o h. h))

pub returns-in_err-value-clause-due : goal.returns-in_err-value-clause-due
returns-in_err-value-clause-due g c =
    let opened = c.self.inside.opened in
    let type = type_seen c.self.inside.typed in
    of_type c.args.syntax opened.set opened.root c.args.self.now type c.self.view_is c.self.invariant c.args.items.now c.from_residual.result
    (refused_by (ValueIn (opened_seen opened) type c.args.items.now) (λ (value : Rose ValueLabel). Encoding c.args.syntax type value) NoMemory NoMemory
    (λ (bytes : Vec ℕ Global). bytes.items) c.from_residual.result c.in_err-value.field-0.0 c.from_residual.ensures.1 (c.in_err-value.ensures.due type c.self.invariant) (λ h. h))

pub encode_value-requires : goal.encode_value-requires
encode_value-requires g c = c.in_ok-value.ensures.kept (type_seen c.self.inside.typed) c.self.invariant
