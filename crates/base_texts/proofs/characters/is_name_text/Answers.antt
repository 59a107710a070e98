use Rattle.std.proofs.Common.{◌≡◌, ◌∷◌, ◌++◌, refl, sym, ◌∙◌, rules, tests, true}
use Rattle.std.specs.Prelude.{encode_utf8}
use Rattle.std.specs.List.{list_all}
use Rattle.std.specs.Str.{chars}
use Rattle.std.proofs.lemmas.Str.{IsUtf8-past_char, chars_past_char}
use Rattle.std.proofs.lemmas.Iterator.{YieldsList-from_chars}
use Rattle.std.proofs.lemmas.Iterator.Search.{all_from_yields_List}
use Rattle.base_texts.specs.Characters.{is_name_char, is_name_start}
use Rattle.base_texts.proofs.characters.is_name_text.Goals as goal

-- the first character is a name start, and the others are tried by `all`
pub returns-then-is_name_start : goal.returns-then-is_name_start
returns-then-is_name_start c =
    let text = c.args.text.now in
    let first = c.in-Some.first in
    let behind = c.next.new.self.rest.now in
    let past : text ≡ encode_utf8 first ++ behind = sym c.chars-chars.ensures.rest ∙ c.in-Some.ensures.steps.0 in
    let seen : chars text ≡ first ∷ chars behind = chars_past_char text behind first c.utf8.text past in
    let rest : c.all.result ≡ list_all is_name_char (chars behind) =
    all_from_yields_List is_name_char _ _ _ c.all.ensures.ran (YieldsList-from_chars behind (IsUtf8-past_char text behind first c.utf8.text past) refl) (λ x b q k. search (rules, tests)) in
    let starts : is_name_start first ≡ true = cc in
    rw seen (rw starts rest)
