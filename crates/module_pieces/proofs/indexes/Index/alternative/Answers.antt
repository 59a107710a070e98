use Rattle.std.proofs.Common.{sym, ap, ◌∙◌}
use Rattle.module_text.specs.Defaults.{alternative_named}
use Rattle.module_pieces.specs.Indexed.{place_in}
use Rattle.module_pieces.proofs.indexes.Index.alternative.Goals as goal

pub returns-in-Choice : goal.returns-in-Choice
returns-in-Choice c =
    c.place.ensures ∙ c.requires.places c.args.identifier.now
    ∙ ap (λ f. place_in f c.args.identifier.now) c.in-Choice.is
    ∙ sym (ap (λ f. alternative_named f c.args.identifier.now) c.in-Choice.is)
