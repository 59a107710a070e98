use Rattle.std.proofs.Common.{◌≡◌, ◌≤◌, ◌<◌, ◌^◌, ◌++◌, drop}
use Rattle.base_codecs.specs.Bits.{bits}
use Rattle.per_fields.specs.Encoding.{flag_bits}
use Rattle.per_encode.proofs.flags.put_flags.Given as goal

abbrev pub invariant-parts : goal.invariant-parts
invariant-parts l = record {
  few : l.count ≤ 64;
  fits : l.held < 2 ^ l.count;
  whole : (l.sink ++ bits l.count l.held) ++ flag_bits (drop l.i l.parts) (drop l.i l.present) ≡ l.fn.sink ++ flag_bits l.parts l.present;
}
