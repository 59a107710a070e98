use Rattle.std.proofs.Common.{rules, tests, ◌∙◌}
use Rattle.std.proofs.lemmas.Iterator.{YieldsList-from_slice}
use Rattle.std.proofs.lemmas.Iterator.Search.{position_from_yields_List}
use Rattle.simple_types.specs.Lexical.{is_hyphen}
use Rattle.base_texts.proofs.FirstWord.{first_place}
use Rattle.simple_types.proofs.classes.first_length.Goals as goal

pub returns : goal.returns
returns c =
    let bytes = c.args.bytes.now in
    let place = position_from_yields_List is_hyphen _ _ c.position.result c.position.ensures.ran (YieldsList-from_slice bytes cc) (λ x b q k. search (rules, tests)) in
    c.unwrap_or.ensures ∙ first_place is_hyphen bytes c.position.result place
