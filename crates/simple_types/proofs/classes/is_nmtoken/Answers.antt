use Rattle.std.proofs.Common.{◌≡◌, rules, tests, sym, ◌∙◌}
use Rattle.std.specs.List.{list_all}
use Rattle.std.specs.Str.{chars}
use Rattle.std.proofs.lemmas.Iterator.{YieldsList-from_chars}
use Rattle.std.proofs.lemmas.Iterator.Search.{all_from_yields_List}
use Rattle.base_texts.specs.Characters.{is_name_char}
use Rattle.simple_types.proofs.WholeNumbers.{nmtoken-nonempty}
use Rattle.simple_types.proofs.classes.is_nmtoken.Goals as goal

pub returns-then-not-is_empty : goal.returns-then-not-is_empty
returns-then-not-is_empty c =
    let text = c.args.text.now in
    let all : c.all.result ≡ list_all is_name_char (chars text) =
    all_from_yields_List is_name_char _ _ _ c.all.ensures.ran (YieldsList-from_chars text c.utf8.text c.chars.ensures.rest) (λ x b q k. search (rules, tests)) in
    all ∙ sym (nmtoken-nonempty text (sym c.is_empty.ensures ∙ c.if-not-is_empty.true))
