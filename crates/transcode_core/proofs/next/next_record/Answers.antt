use Rattle.std.proofs.Common.{ℕ, List, refl, inl}
use Rattle.std.specs.Prelude.{Vec}
use Rattle.std.specs.declared.alloc.Global.{Global}
use Rattle.base_trees.specs.Rose.{Rose}
use Rattle.simple_types.specs.declared.labels.ValueLabel.{ValueLabel}
use Rattle.transcode_words.specs.Answers.{NoMemory}
use Rattle.transcode_words.specs.Order.{Give, Then}
use Rattle.transcode_words.proofs.Joined.{passed}
use Rattle.transcode_core.specs.declared.next.NextRecord.{NextRecord}
use Rattle.transcode_core.specs.Private.Seen.{type_seen}
use Rattle.transcode_core.specs.Steps.{Written}
use Rattle.transcode_core.specs.Causes.{OneRead}
use Rattle.transcode_core.specs.Next.{FirstRecord}
use Rattle.transcode_core.proofs.Exits.{refused_by}
use Rattle.transcode_core.proofs.next.next_record.Goals as goal

pub decode_first-requires : goal.decode_first-requires
decode_first-requires g c = (c.args.opened.now.set, c.args.opened.now.root, c.requires)

pub record_text-requires : goal.record_text-requires
record_text-requires g c = record { typed = c.requires; value = c.in_ok-first.ensures.value }

pub returns-clause-due : goal.returns-clause-due
returns-clause-due g c = (
  (c.in_ok-first.first.value, c.in_ok-first.first.octets),
  c.in_ok-first.ensures.due,
  (c.in_ok-text.text.items, c.in_ok-text.ensures.due, refl),
)

pub returns-clause-back : goal.returns-clause-back
returns-clause-back g c = (c.in_ok-first.first.value, c.in_ok-first.ensures.due, c.in_ok-text.ensures.back)

pub returns-in_err-first-clause-due : goal.returns-in_err-first-clause-due
returns-in_err-first-clause-due g c =
    let type = type_seen c.args.typed.now in
    let cause = OneRead (g.S.Source.faults c.args.input.now) (g.S.Source.faults c.decode_first.new.input) in
    refused_by (FirstRecord type (g.S.Source.left c.args.input.now)) (λ (first : Rose ValueLabel × ℕ). Then (Written type first.0) (λ text. Give (text, first.1))) cause cause
    (λ (next : NextRecord). (next.text.items, next.octets)) c.from_residual.result c.in_err-first.field-0.0 c.from_residual.ensures.1 c.in_err-first.ensures.due (λ h. h)

pub returns-in_err-text-clause-due : goal.returns-in_err-text-clause-due
returns-in_err-text-clause-due g c =
    let type = type_seen c.args.typed.now in
    let cause = OneRead (g.S.Source.faults c.args.input.now) (g.S.Source.faults c.decode_first.new.input) in
    let view : NextRecord → List ℕ × ℕ = λ next. (next.text.items, next.octets) in
    let first : Rose ValueLabel × ℕ = (c.in_ok-first.first.value, c.in_ok-first.first.octets) in
    passed (FirstRecord type (g.S.Source.left c.args.input.now)) (λ (first : Rose ValueLabel × ℕ). Then (Written type first.0) (λ text. Give (text, first.1))) NoMemory cause
    view first c.from_residual-in_err-text.result c.in_ok-first.ensures.due
    (refused_by (Written type first.0) (λ (text : List ℕ). Give (text, first.1)) NoMemory NoMemory view c.from_residual-in_err-text.result c.in_err-text.field-0.0 c.from_residual-in_err-text.ensures.1 c.in_err-text.ensures.due (λ h. h))
    (λ o h. inl h)
