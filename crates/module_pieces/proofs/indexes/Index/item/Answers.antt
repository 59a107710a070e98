use Rattle.std.proofs.Common.{None, Some, ◌≡◌, ap, ◌∙◌, subst}
use Rattle.std.specs.Prelude.{MatchOption}
use Rattle.module_pieces.specs.Indexed.{number_at}
use Rattle.module_pieces.proofs.IndexNumbers.{found-number, found-word}
use Rattle.module_pieces.proofs.indexes.Index.item.Goals as goal

pub returns-in-Numbers : goal.returns-in-Numbers
returns-in-Numbers c =
    subst (λ due. MatchOption c.number_at.result (due ≡ None) (λ text. due ≡ Some text.now))
    (ap (λ xs. number_at xs c.place.result) c.items.ensures
    ∙ found-number c.args.identifier.now c.args.label.now _ c.place.result c.in-Numbers.is (c.place.ensures ∙ c.requires.places c.args.identifier.now))
    c.number_at.ensures

pub returns-in-Words : goal.returns-in-Words
returns-in-Words c =
    subst (λ due. MatchOption c.word_at.result (due ≡ None) (λ text. due ≡ Some text.now))
    (found-word c.args.identifier.now c.args.label.now _ _ c.place-in-Words.result c.in-Words.is (c.deref.ensures.value ∙ c.requires.words)
    (c.place-in-Words.ensures ∙ c.requires.places c.args.identifier.now))
    c.word_at.ensures
