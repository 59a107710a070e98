use Rattle.std.proofs.Common.{◌≡◌, ◌≤◌, ◌-◌, ◌++◌, length, drop, map}
use Rattle.per_fields.specs.Fields.{counted_bits}
use Rattle.per_fields.specs.Encoding.{octet_writer}
use Rattle.per_encode.proofs.texts.put_fragments.Given as goal

abbrev pub invariant-fragments : goal.invariant-fragments
invariant-fragments g l = record {
  inside : l.at ≤ length l.text;
  whole : l.sink ++ counted_bits g.V.Variant.ALIGNED (map octet_writer (drop l.at l.text)) (length l.sink) ≡ l.fn.sink ++ counted_bits g.V.Variant.ALIGNED (map octet_writer l.text) (length l.fn.sink);
}

abbrev pub decreases-fragments : goal.decreases-fragments
decreases-fragments g l = length l.text - l.at
