use Rattle.std.proofs.Common.{◌≡◌, ℕ, List, inr, Result, Ok, Err}
use Rattle.std.specs.Prelude.{IfOk, IfErr}
use Rattle.schema_components.specs.SetParts.{SetParts}
use Rattle.transcode_words.specs.declared.outcome.Outcome.{Outcome}
use Rattle.transcode_words.specs.Answers.{Answers, NoMemory}
use Rattle.transcode_core.specs.Private.Seen.{type_seen}
use Rattle.transcode_core.specs.Preparing.{prepared_seen}
use Rattle.transcode_core.specs.Steps.{RootType, Typed}
use Rattle.transcode_core.specs.Requests.Due.{stamp_of}
use Rattle.transcode_core.specs.Stamps.{Stamped}
use Rattle.transcode_core.proofs.Ready.{typed_of}
use Rattle.transcode_core.proofs.prepared.Prepared.stamp.Goals as goal

-- the stamp of the root's type is that of the set
stamped : (opened : SetParts × ℕ) (type : RootType) (v : Result (List ℕ) Outcome) → Typed opened (Ok type) → IfOk v (λ stamp. stamp ≡ stamp_of type.assignments) → IfErr v NoMemory
    → Answers (λ (stamp : List ℕ). stamp) (Stamped opened) NoMemory v
stamped opened type (Ok stamp) typed is memory = (type, typed, is)
stamped opened type (Err o) typed is memory = inr memory

pub returns : goal.returns
returns c =
    stamped (prepared_seen c.args.self.now) (type_seen c.self.inside.typed) c.module_stamp.result
    (typed_of c.self.inside.opened.set c.self.inside.opened.root c.args.self.now (type_seen c.self.inside.typed) c.self.view_is c.self.invariant) c.module_stamp.ensures.stamp c.module_stamp.ensures.memory
