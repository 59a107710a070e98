use Rattle.std.proofs.Common.{◌-◌, ◌<◌, ◌≤◌}
use Rattle.validity_check.proofs.Ordered.{Searched}
use Rattle.validity_check.proofs.places.place_of.Given as goal

abbrev pub invariant-halves : goal.invariant-halves
invariant-halves l = record {
  searched : Searched l.uses l.name l.low l.high l.run;
  looks : l.low < l.high → (l.low ≤ l.place) × (l.place < l.high);
}

abbrev pub decreases-halves : goal.decreases-halves
decreases-halves l = l.high - l.low
