use Rattle.std.proofs.Common.{rules, tests}
use Rattle.std.proofs.lemmas.Iterator.{YieldsList-from_chars}
use Rattle.std.proofs.lemmas.Iterator.Search.{all_from_yields_List}
use Rattle.base_texts.specs.Characters.{is_xml_char}
use Rattle.simple_types.proofs.classes.are_xml_chars.Goals as goal

pub returns : goal.returns
returns c = all_from_yields_List is_xml_char _ _ _ c.all.ensures.ran (YieldsList-from_chars c.args.text.now c.utf8.text c.chars.ensures.rest) (λ x b q k. search (rules, tests))
