use Rattle.std.proofs.Common.{rules, tests}
use Rattle.std.proofs.lemmas.Iterator.Splits.{YieldsList-from_slice_split}
use Rattle.std.proofs.lemmas.Iterator.Search.{all_from_yields_List}
use Rattle.simple_types.specs.Lexical.{is_subtag, is_hyphen}
use Rattle.simple_types.proofs.classes.are_subtags.Goals as goal

pub returns : goal.returns
returns c =
    all_from_yields_List is_subtag _ _ _ c.all.ensures.ran
    (YieldsList-from_slice_split _ is_hyphen c.args.bytes.now c.split.ensures.rest c.split.ensures.done c.split.ensures.closure (λ x b q k. search (rules, tests)))
    (λ x b q k. search (rules, tests))
