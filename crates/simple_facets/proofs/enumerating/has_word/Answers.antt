use Rattle.std.proofs.Common.{ap, ◌∙◌}
use Rattle.std.specs.Prelude.{is_some}
use Rattle.simple_facets.proofs.Enumerations.{word-among}
use Rattle.simple_facets.proofs.enumerating.has_word.Goals as goal

pub returns-in-Words : goal.returns-in-Words
returns-in-Words c =
    c.is_some.ensures ∙ ap is_some c.place_of_word.ensures ∙ word-among c.args.now.now _ c.in-Words.words c.items.result.now c.args.word.now c.in-Words.is c.items.ensures
