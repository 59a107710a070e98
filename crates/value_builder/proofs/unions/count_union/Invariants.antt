use Rattle.std.proofs.Common.{◌≡◌, ◌<◌, length}
use Rattle.base_trees.specs.Rose.{Rose, shown_count}
use Rattle.simple_types.specs.declared.labels.ValueLabel.{ValueLabel}
use Rattle.simple_types.specs.Space.{UnionOf}
use Rattle.simple_types.specs.Seen.{spaces_in}
use Rattle.simple_types.specs.Reading.{reads, taken_by, spelled_by, goes_on}
use Rattle.value_builder.proofs.unions.count_union.Given as goal

abbrev pub invariant-turns : goal.invariant-turns
invariant-turns l = record {
  member : l.member < length l.members;
  so_far : (value : Rose ValueLabel)
      × (reads (UnionOf (spaces_in l.members)) l.text ≡ goes_on (taken_by (spaces_in l.members)) (spelled_by (spaces_in l.members)) l.turns (l.member, value))
      × (l.kept.nodes ≡ shown_count value) × (l.kept.spelling ≡ spelled_by (spaces_in l.members) l.member value);
}

abbrev pub decreases-turns : goal.decreases-turns
decreases-turns l = l.turns
