use Rattle.simple_types.specs.Seen.{space_of}
use Rattle.simple_facets.specs.Restricting.{items_of}
use Rattle.simple_facets.proofs.Soundness.{words_made, words_sound}
use Rattle.simple_facets.proofs.enumerating.enumerated_words.Goals as goal

pub returns-clause-made : goal.returns-clause-made
returns-clause-made c =
    words_made c.args.space (space_of c.args.now.now) (items_of c.args.facets.now) c.in_ok-words.words.items c.sort_words.new.items.items c.in_ok-words-2.words
    c.in_ok-words.ensures c.in_ok-words-2.ensures c.in_ok-sort_words.ensures.ascending

pub returns-clause-sound : goal.returns-clause-sound
returns-clause-sound c =
    words_sound c.args.space (space_of c.args.now.now) (items_of c.args.facets.now) c.in_ok-words.words.items c.sort_words.new.items.items c.in_ok-words-2.words
    c.in_ok-words.ensures c.in_ok-words-2.ensures c.in_ok-sort_words.ensures.ascending c.requires.texts c.requires.sound c.in_ok-sort_words.ensures.fewer c.requires.some c.requires.few
