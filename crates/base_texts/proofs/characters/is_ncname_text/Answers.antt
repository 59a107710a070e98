use Rattle.std.proofs.Common.{◌≡◌, rules, tests, true, not, ◌==◌}
use Rattle.std.specs.List.{list_all}
use Rattle.std.specs.Str.{chars}
use Rattle.std.proofs.lemmas.Iterator.{YieldsList-from_chars}
use Rattle.std.proofs.lemmas.Iterator.Search.{all_from_yields_List}
use Rattle.base_texts.specs.Characters.{is_name}
use Rattle.base_texts.proofs.characters.is_ncname_text.Goals as goal

-- the text is a Name, and its characters are tried by `all`
pub returns-then-is_name_text : goal.returns-then-is_name_text
returns-then-is_name_text c =
    let text = c.args.text.now in
    let apart : c.all.result ≡ list_all (λ c. not (c == 58)) (chars text) =
    all_from_yields_List (λ c. not (c == 58)) _ _ _ c.all.ensures.ran (YieldsList-from_chars text c.utf8.text c.chars.ensures.rest) (λ x b q k. search (rules, tests)) in
    let named : is_name (chars text) ≡ true = cc in
    rw named apart
