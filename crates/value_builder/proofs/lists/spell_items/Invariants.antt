use Rattle.std.proofs.Common.{◌≡◌, List, length, IsUtf8}
use Rattle.std.specs.Prelude.{string_bytes}
use Rattle.base_trees.specs.Rose.{Rose}
use Rattle.base_texts.specs.WhiteSpace.{words_of}
use Rattle.simple_types.specs.declared.labels.ValueLabel.{ValueLabel}
use Rattle.simple_types.specs.Seen.{space_of}
use Rattle.simple_types.specs.Reading.{reads, read_each}
use Rattle.simple_types.proofs.Readings.{behind_values}
use Rattle.value_builder.specs.Private.Kept.{AreCounted, IsSpelledBy}
use Rattle.value_builder.proofs.lists.spell_items.Given as goal

abbrev pub invariant-words : goal.invariant-words
invariant-words l = record {
  text : IsUtf8 l.rest;
  so_far : (values : List (Rose ValueLabel))
      × (read_each (reads (space_of l.item)) (words_of l.initial.rest) ≡ behind_values values (read_each (reads (space_of l.item)) (words_of l.rest)))
      × AreCounted values l.items × IsSpelledBy (space_of l.item) values (string_bytes l.spelling);
}

abbrev pub decreases-words : goal.decreases-words
decreases-words l = length (words_of l.rest)
