use Rattle.std.proofs.Common.{sym, ◌∙◌, true, false}
use Rattle.simple_types.specs.Seen.{space_of}
use Rattle.simple_facets.proofs.Enumerations.{word_within}
use Rattle.simple_facets.proofs.enumerating.word_item.Goals as goal

pub returns-then-has_word : goal.returns-then-has_word
returns-then-has_word c =
    sym (word_within c.args.space (space_of c.args.now.now) c.args.text.now c.in_ok-word.word c.requires.texts c.in_ok-word.ensures true (sym c.if-has_word.true ∙ c.has_word.ensures))

pub returns-else-has_word : goal.returns-else-has_word
returns-else-has_word c =
    sym (word_within c.args.space (space_of c.args.now.now) c.args.text.now c.in_ok-word.word c.requires.texts c.in_ok-word.ensures false (sym c.if-has_word.false ∙ c.has_word.ensures))
