use Rattle.transcode_core.specs.Private.Seen.{type_seen}
use Rattle.transcode_core.proofs.Ready.{typed_of}
use Rattle.transcode_core.proofs.prepared.Prepared.see_type.Goals as goal

pub returns : goal.returns
returns c =
    let type = type_seen c.self.inside.typed in
    (type, typed_of c.self.inside.opened.set c.self.inside.opened.root c.args.self.now type c.self.view_is c.self.invariant)
