use Rattle.std.proofs.Common.{rules, tests, ◌∙◌}
use Rattle.std.proofs.lemmas.Iterator.{YieldsList-from_slice}
use Rattle.std.proofs.lemmas.Iterator.Search.{position_from_yields_List}
use Rattle.base_texts.specs.WhiteSpace.{is_white_space}
use Rattle.base_texts.proofs.FirstWord.{first_place}
use Rattle.base_texts.proofs.white_space.word_len.Goals as goal

pub returns : goal.returns
returns c =
    let bytes = c.args.bytes.now in
    let place = position_from_yields_List is_white_space _ _ c.position.result c.position.ensures.ran (YieldsList-from_slice bytes cc) (λ x b q k. search (rules, tests)) in
    c.unwrap_or.ensures ∙ first_place is_white_space bytes c.position.result place
