use Rattle.std.proofs.lemmas.Result.{IfOk-weaker}
use Rattle.transcode_words.proofs.Joined.{passed}
use Rattle.transcode_core.specs.declared.next.NextRecord.{NextRecord}
use Rattle.transcode_core.specs.Private.Seen.{type_seen}
use Rattle.transcode_core.specs.Preparing.{prepared_seen}
use Rattle.transcode_core.specs.Steps.{RootType, Typed}
use Rattle.transcode_core.specs.Causes.{OneRead}
use Rattle.transcode_core.specs.Next.{FirstDocument}
use Rattle.transcode_core.proofs.Ready.{typed_of}
use Rattle.transcode_core.proofs.FirstRecords.{back_of}
use Rattle.transcode_core.proofs.prepared.Prepared.next.Goals as goal

pub next_record-requires : goal.next_record-requires
next_record-requires g c = c.self.invariant

pub returns-clause-due : goal.returns-clause-due
returns-clause-due g c =
    let left = g.S.Source.left c.args.input.now in
    let cause = OneRead (g.S.Source.faults c.args.input.now) (g.S.Source.faults c.next_record.new.input) in
    passed (Typed (prepared_seen c.args.self.now)) (λ (type : RootType). FirstDocument type left) cause cause
    (λ (next : NextRecord). (next.text.items, next.octets)) (type_seen c.self.inside.typed) c.next_record.result (typed_of c.self.inside.opened.set c.self.inside.opened.root c.args.self.now (type_seen c.self.inside.typed) c.self.view_is c.self.invariant) c.next_record.ensures.due (λ o h. h)

pub returns-clause-back : goal.returns-clause-back
returns-clause-back g c =
    let type = type_seen c.self.inside.typed in
    let left = g.S.Source.left c.args.input.now in
    IfOk-weaker c.next_record.result _ _ (λ next back. (
      type,
      typed_of c.self.inside.opened.set c.self.inside.opened.root c.args.self.now type c.self.view_is c.self.invariant,
      back_of c.self.inside.opened.set c.self.inside.opened.root c.args.self.now type left (next.text.items, next.octets) c.self.view_is back,
    )) c.next_record.ensures.back
