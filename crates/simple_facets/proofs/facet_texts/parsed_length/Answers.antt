use Rattle.std.proofs.Common.{sym, ap, ◌∙◌}
use Rattle.base_texts.specs.Digits.{is_numeral}
use Rattle.simple_facets.proofs.FacetWords.{too_long}
use Rattle.simple_facets.proofs.facet_texts.parsed_length.Goals as goal

pub returns-in-Err : goal.returns-in-Err
returns-in-Err c =
    let numeral = sym (ap is_numeral c.as_bytes.ensures.value) ∙ sym c.is_numeral.ensures ∙ c.if-not-is_numeral.false in
    too_long c.args.digits.now numeral (λ p. c.in-Err.ensures.value.0 p)
