use Rattle.std.proofs.Common.{◌≡◌, ◌+◌, drop, true}
use Rattle.base_trees.specs.Rose.{roses_of}
use Rattle.content_models.specs.Clear.{any_empty}
use Rattle.content_models.specs.Seen.{all_seen}
use Rattle.value_contents.specs.Private.Empty.{empty_place, empty_chosen}
use Rattle.value_contents.proofs.emptying.empty_alternative.Given as goal

abbrev pub invariant-particles : goal.invariant-particles
invariant-particles l = record {
  some : any_empty (all_seen (roses_of (drop l.place l.particles))) ≡ true;
  place : empty_place (all_seen (roses_of l.particles)) ≡ l.place + empty_place (all_seen (roses_of (drop l.place l.particles)));
  chosen : empty_chosen (all_seen (roses_of l.particles)) ≡ empty_chosen (all_seen (roses_of (drop l.place l.particles)));
}
