use Rattle.std.proofs.Common.{◌≡◌, ◌≤◌, ◌+◌, ◌-◌, ◌*◌, suc, length, None, IsTrue}
use Rattle.base_codecs.specs.Cursors.{IsInStep}
use Rattle.per_fields.specs.Reading.{octets_at}
use Rattle.per_fields.specs.Fields.{fragments_at}
use Rattle.per_decode.specs.Private.Giving.{input, spot}
use Rattle.per_decode.specs.Private.Kept.{octets_more}
use Rattle.per_decode.proofs.Loop.{with_front}
use Rattle.per_decode.proofs.run.Run.more_octets.Given as goal

abbrev pub invariant-fragments : goal.invariant-fragments
invariant-fragments g l = record {
  in_step : IsInStep l.self.bits.position l.self.bits.taken;
  on : l.fn.self.bits.position ≤ l.self.bits.position;
  nodes : l.self.nodes ≡ l.fn.self.nodes;
  same : l.self.bits.source.ghost_name ≡ l.fn.self.bits.source.ghost_name;
  so_far : IsTrue g.K.Origin.told → with_front l.text.items (fragments_at g.V.Variant.ALIGNED 0 None octets_at (suc (length (input g.K.Origin.limit g.K.Origin.whole))) l.before (length l.text.items) (input g.K.Origin.limit g.K.Origin.whole) (spot l.self.bits.position l.self.nodes))
      ≡ octets_more g.V.Variant.ALIGNED l.fn.first.items l.fn.units (length l.fn.first.items) (input g.K.Origin.limit g.K.Origin.whole) (spot l.fn.self.bits.position l.fn.self.nodes);
}

abbrev pub decreases-fragments : goal.decreases-fragments
decreases-fragments g l = 8 * g.K.Origin.limit + 8 - l.self.bits.position
