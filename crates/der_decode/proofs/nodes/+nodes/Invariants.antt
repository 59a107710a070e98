use Rattle.std.proofs.Common.{◌≡◌, ◌≤◌, ◌*◌, ◌+◌, ◌-◌, length}
use Rattle.base_trees.specs.Rose.{label_of, kids_of}
use Rattle.per_fields.specs.Levels.{levels_needed}
use Rattle.base_codecs.specs.Sequences.{items_at}
use Rattle.der_fields.specs.Reading.{never}
use Rattle.der_decode.specs.Private.Bodies.{part_read, kid_at}
use Rattle.der_decode.proofs.Shows.{with_front}
use Rattle.der_decode.proofs.Sequences.{Through}
use Rattle.der_decode.proofs.Items.{rest_at}
use Rattle.der_decode.proofs.nodes.+nodes.Given as goal

abbrev pub decreases-node : goal.decreases-node
decreases-node l = 10 * levels_needed l.place.now.module.now l.place.now.depth l.place.now.found.now + 8

abbrev pub decreases-ruled : goal.decreases-ruled
decreases-ruled l = 10 * levels_needed l.place.now.module.now l.place.now.depth l.place.now.found.now + 6

abbrev pub decreases-headed : goal.decreases-headed
decreases-headed l = 10 * levels_needed l.place.now.module.now l.place.now.depth l.place.now.found.now + 5

abbrev pub decreases-contents : goal.decreases-contents
decreases-contents l = 10 * levels_needed l.place.now.module.now l.place.now.depth l.place.now.found.now + 4

abbrev pub decreases-sequence : goal.decreases-sequence
decreases-sequence l = 10 * levels_needed l.place.now.module.now l.place.now.depth l.place.now.found.now + 3

abbrev pub decreases-components : goal.decreases-components
decreases-components l = 10 * levels_needed l.place.now.module.now l.place.now.depth l.place.now.found.now + 2

abbrev pub decreases-component : goal.decreases-component
decreases-component l = 10 * levels_needed l.part.now.place.module.now l.part.now.place.depth l.part.now.place.found.now + 10

abbrev pub decreases-standard : goal.decreases-standard
decreases-standard l = 10 * levels_needed l.part.now.place.module.now l.part.now.place.depth l.part.now.place.found.now + 9

abbrev pub decreases-open_choice : goal.decreases-open_choice
decreases-open_choice l = 10 * levels_needed l.place.now.module.now l.place.now.depth l.place.now.found.now + 4

abbrev pub decreases-entered_choice : goal.decreases-entered_choice
decreases-entered_choice l = 10 * levels_needed l.place.now.module.now l.place.now.depth l.place.now.found.now + 3

abbrev pub decreases-choice : goal.decreases-choice
decreases-choice l = 10 * levels_needed l.place.now.module.now l.place.now.depth l.place.now.found.now + 3

abbrev pub decreases-alternative : goal.decreases-alternative
decreases-alternative l = 10 * levels_needed l.place.now.module.now l.place.now.depth l.place.now.found.now + 2

abbrev pub decreases-sequence_of : goal.decreases-sequence_of
decreases-sequence_of l = 10 * levels_needed l.place.now.module.now l.place.now.depth l.place.now.found.now + 3

abbrev pub decreases-items : goal.decreases-items
decreases-items l = 10 * levels_needed l.part.now.place.module.now l.part.now.place.depth l.part.now.place.node.now + 11

abbrev pub invariant-components-parts : goal.invariant-components-parts
invariant-components-parts l = record {
  later : l.input.spot.at ≤ l.reached.at;
  inside : l.reached.at ≤ length l.input.octets.now;
  above : l.values.above ≡ l.fn.values.above;
  through : Through l.place.module.now (kid_at l.place.module.now l.place.depth) (label_of l.place.found.now) l.parts (kids_of l.place.found.now) l.input.octets.now l.input.spot l.i l.present l.values.kids l.reached;
}

abbrev pub invariant-items-items : goal.invariant-items-items
invariant-items-items l = record {
  later : l.input.spot.at ≤ l.reached.at;
  inside : l.reached.at ≤ length l.input.octets.now;
  above : l.values.above ≡ l.fn.values.above;
  counted : l.count ≡ length l.values.kids;
  few : l.count ≤ l.reached.at;
  so_far : with_front l.values.kids (rest_at (part_read l.part.place.module.now l.part.place.depth l.part.place.tag l.part.component.now l.part.place.node.now) l.input.octets.now l.values.kids l.reached l.count)
      ≡ items_at never (part_read l.part.place.module.now l.part.place.depth l.part.place.tag l.part.component.now l.part.place.node.now) l.input.octets.now l.input.spot;
}

abbrev pub decreases-items-items : goal.decreases-items-items
decreases-items-items l = length l.input.octets.now - l.reached.at
