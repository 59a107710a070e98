use Rattle.std.proofs.Common.{rules, tests, not, ◌∙◌}
use Rattle.std.proofs.lemmas.Iterator.{YieldsList-from_slice}
use Rattle.std.proofs.lemmas.Iterator.Search.{position_from_yields_List}
use Rattle.base_texts.specs.WhiteSpace.{is_white_space}
use Rattle.base_texts.proofs.FirstWord.{first_place}
use Rattle.base_texts.proofs.white_space.white_space_len.Goals as goal

pub returns : goal.returns
returns c =
    let bytes = c.args.bytes.now in
    let place = position_from_yields_List (λ b. not (is_white_space b)) _ _ c.position.result c.position.ensures.ran (YieldsList-from_slice bytes cc) (λ x b q k. search (rules, tests)) in
    c.unwrap_or.ensures ∙ first_place (λ b. not (is_white_space b)) bytes c.position.result place
