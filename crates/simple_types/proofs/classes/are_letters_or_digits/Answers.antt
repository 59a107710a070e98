use Rattle.std.proofs.Common.{rules, tests, ◌||◌}
use Rattle.std.proofs.lemmas.Iterator.{YieldsList-from_slice}
use Rattle.std.proofs.lemmas.Iterator.Search.{all_from_yields_List}
use Rattle.base_texts.specs.Digits.{is_digit}
use Rattle.simple_types.specs.Lexical.{is_letter}
use Rattle.simple_types.proofs.classes.are_letters_or_digits.Goals as goal

pub returns : goal.returns
returns c =
    all_from_yields_List (λ b. is_letter b || is_digit b) _ _ _ c.all.ensures.ran (YieldsList-from_slice c.args.bytes.now c.iter.ensures.rest) (λ x b q k. search (rules, tests))
