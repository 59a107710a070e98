use Rattle.std.proofs.Common.{ℕ, ◌+◌, ◌≤◌, List, length, Option, Result}
use Rattle.base_texts.specs.Bytes.{TakesFirst}
use Rattle.transcode_words.specs.declared.outcome.Outcome.{Outcome}
use Rattle.transcode_core.specs.Requests.Due.{AfterStamp}
use Rattle.transcode_core.proofs.stamped.take_stamp.Given as goal

-- what follows the rest of the stamp follows all of it, and the rest has the octets that aren't taken
abbrev pub invariant-octets : goal.invariant-octets
invariant-octets g l = record {
  follows : (v : Result (Option (List ℕ)) Outcome) → AfterStamp l.rest (g.S.Source.left l.input) v → AfterStamp l.fn.stamp (g.S.Source.left l.initial.input) v;
  few : (n : ℕ) × (n + length l.rest ≤ 8) × TakesFirst (g.S.Source.left l.initial.input) (g.S.Source.left l.input) n;
  later : g.S.Source.faults l.initial.input ≤ g.S.Source.faults l.input;
}

abbrev pub decreases-octets : goal.decreases-octets
decreases-octets g l = length l.rest
