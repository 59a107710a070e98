use Rattle.std.proofs.Common.{◌≡◌, ◌≤◌, take, drop, IsTrue}
use Rattle.base_codecs.specs.Cursors.{IsInStep}
use Rattle.per_fields.specs.Laws.{Present}
use Rattle.per_fields.specs.Reading.{each_at}
use Rattle.per_fields.specs.Nodes.{flag_at}
use Rattle.per_decode.specs.Private.Giving.{input, spot}
use Rattle.per_decode.proofs.Loop.{with_front}
use Rattle.per_decode.proofs.run.Run.presence.Given as goal

abbrev pub invariant-parts : goal.invariant-parts
invariant-parts g l = record {
  in_step : IsInStep l.self.bits.position l.self.bits.taken;
  on : l.fn.self.bits.position ≤ l.self.bits.position;
  nodes : l.self.nodes ≡ l.fn.self.nodes;
  same : l.self.bits.source.ghost_name ≡ l.fn.self.bits.source.ghost_name;
  present : Present (take l.part-index l.parts) l.present;
  so_far : IsTrue g.K.Origin.told → with_front l.present (each_at flag_at (drop l.part-index l.parts) (input g.K.Origin.limit g.K.Origin.whole) (spot l.self.bits.position l.self.nodes))
      ≡ each_at flag_at l.parts (input g.K.Origin.limit g.K.Origin.whole) (spot l.fn.self.bits.position l.fn.self.nodes);
}
