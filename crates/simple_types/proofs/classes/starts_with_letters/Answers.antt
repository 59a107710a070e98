use Rattle.std.proofs.Common.{rules, tests, sym, take}
use Rattle.std.proofs.lemmas.Iterator.{YieldsList-from_slice}
use Rattle.std.proofs.lemmas.Iterator.Search.{all_from_yields_List}
use Rattle.simple_types.specs.Lexical.{is_letter}
use Rattle.simple_types.proofs.classes.starts_with_letters.Goals as goal

pub returns : goal.returns
returns c =
    rw (sym c.first_length.ensures) (all_from_yields_List is_letter _ _ _ c.all.ensures.ran (YieldsList-from_slice (take c.first_length.result c.args.bytes.now) c.iter.ensures.rest) (λ x b q k. search (rules, tests)))
