use Rattle.transcode_core.specs.Private.Seen.{type_seen}
use Rattle.transcode_core.specs.Requests.Records.{streams_of}
use Rattle.transcode_core.proofs.Ready.{typed_of, ends_of}
use Rattle.transcode_core.proofs.prepared.Prepared.write_each.Goals as goal

pub write_records-requires : goal.write_records-requires
write_records-requires g c = c.self.invariant

pub returns-clause-streams : goal.returns-clause-streams
returns-clause-streams g c = (
  type_seen c.self.inside.typed,
  typed_of c.self.inside.opened.set c.self.inside.opened.root c.args.self.now (type_seen c.self.inside.typed) c.self.view_is c.self.invariant,
  ends_of c.self.inside.opened.set c.self.inside.opened.root c.args.self.now (type_seen c.self.inside.typed)
      (streams_of g.S.Source g.K.Sink c.args.input.now c.args.output.now) (streams_of g.S.Source g.K.Sink c.write_records.new.input c.write_records.new.output)
      c.write_records.result c.self.view_is c.write_records.ensures.streams,
  c.write_records.ensures.taken,
)
