use Rattle.std.proofs.Common.{◌≢◌, sym, ap, ◌∙◌, subst, length}
use Rattle.base_texts.specs.WhiteSpace.{words_of}
use Rattle.simple_types.proofs.Collapsed.{one_word}
use Rattle.simple_facets.proofs.FacetWords.{no_treatment}
use Rattle.simple_facets.proofs.facet_texts.treatment_of.Goals as goal

pub returns-in-Some : goal.returns-in-Some
returns-in-Some c = rw (one_word c.args.text.now c.in-Some.word.now (sym (ap words_of c.as_str.ensures) ∙ c.in-Some.ensures)) c.treatment_in.ensures

pub returns-in-None : goal.returns-in-None
returns-in-None c = no_treatment c.args.text.now (subst (λ t. length (words_of t) ≢ 1) c.as_str.ensures c.in-None.ensures)
