use Rattle.simple_types.specs.Seen.{space_of}
use Rattle.simple_facets.specs.Restricting.{number_item, items_of}
use Rattle.simple_facets.proofs.Soundness.{numbers_made, numbers_sound}
use Rattle.simple_facets.proofs.enumerating.enumerated_numbers.Goals as goal

pub returns-clause-made : goal.returns-clause-made
returns-clause-made c =
    numbers_made (number_item (space_of c.args.now.now)) (items_of c.args.facets.now) c.in_ok-items.items.items c.sort_numbers.new.items.items c.in_ok-numbers.numbers
    c.in_ok-items.ensures c.in_ok-numbers.ensures c.in_ok-sort_numbers.ensures.ascending

pub returns-clause-sound : goal.returns-clause-sound
returns-clause-sound c =
    numbers_sound (number_item (space_of c.args.now.now)) (items_of c.args.facets.now) c.in_ok-items.items.items c.sort_numbers.new.items.items c.in_ok-numbers.numbers
    c.in_ok-items.ensures c.in_ok-numbers.ensures c.in_ok-sort_numbers.ensures.ascending c.in_ok-sort_numbers.ensures.fewer c.requires.some c.requires.few
