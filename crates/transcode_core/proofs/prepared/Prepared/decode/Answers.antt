use Rattle.std.proofs.Common.{ℕ}
use Rattle.std.proofs.lemmas.Result.{IfOk-weaker}
use Rattle.std.specs.Prelude.{Vec}
use Rattle.std.specs.declared.alloc.Global.{Global}
use Rattle.transcode_words.specs.Order.{Then}
use Rattle.transcode_words.proofs.Joined.{passed}
use Rattle.transcode_core.specs.Private.Seen.{type_seen}
use Rattle.transcode_core.specs.Preparing.{prepared_seen}
use Rattle.transcode_core.specs.Steps.{RootType, Typed, Decoded, Written}
use Rattle.transcode_core.specs.Causes.{OneRead}
use Rattle.transcode_core.proofs.Again.{documented_back}
use Rattle.transcode_core.proofs.Ready.{typed_of}
use Rattle.transcode_core.proofs.prepared.Prepared.decode.Goals as goal

pub write_input-requires : goal.write_input-requires
write_input-requires g c = (c.self.inside.opened.set, c.self.inside.opened.root, c.self.invariant)

pub returns-clause-due : goal.returns-clause-due
returns-clause-due g c =
    let left = g.S.Source.left c.args.input.now in
    let cause = OneRead (g.S.Source.faults c.args.input.now) (g.S.Source.faults c.write_input.new.input) in
    passed (Typed (prepared_seen c.args.self.now)) (λ (type : RootType). Then (Decoded c.args.syntax type left) (λ value. Written type value)) cause cause
    (λ (bytes : Vec ℕ Global). bytes.items) (type_seen c.self.inside.typed) c.write_input.result (typed_of c.self.inside.opened.set c.self.inside.opened.root c.args.self.now (type_seen c.self.inside.typed) c.self.view_is c.self.invariant) c.write_input.ensures.due (λ o h. h)

pub returns-clause-taken : goal.returns-clause-taken
returns-clause-taken g c = (type_seen c.self.inside.typed, typed_of c.self.inside.opened.set c.self.inside.opened.root c.args.self.now (type_seen c.self.inside.typed) c.self.view_is c.self.invariant, c.write_input.ensures.taken)

pub returns-clause-back : goal.returns-clause-back
returns-clause-back g c =
    IfOk-weaker c.write_input.result _ _ (λ text back.
    documented_back c.documents_of_values.ensures (prepared_seen c.args.self.now) c.args.syntax (g.S.Source.left c.args.input.now) text.items (type_seen c.self.inside.typed) (typed_of c.self.inside.opened.set c.self.inside.opened.root c.args.self.now (type_seen c.self.inside.typed) c.self.view_is c.self.invariant) back) c.write_input.ensures.back
