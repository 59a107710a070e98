use Rattle.std.proofs.Common.{◌≡◌, drop, true}
use Rattle.base_texts.proofs.Collapsing.{well_spaced}
use Rattle.base_texts.proofs.white_space.is_collapsed.Given as goal

abbrev pub invariant-loop-b : goal.invariant-loop-b
invariant-loop-b l = well_spaced l.is_apart (drop l.b-index l.bytes) ≡ well_spaced true l.bytes
