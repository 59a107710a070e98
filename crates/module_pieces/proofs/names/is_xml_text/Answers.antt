use Rattle.std.proofs.Common.{chars, ap, ◌∙◌}
use Rattle.std.specs.List.{list_all}
use Rattle.base_texts.specs.Characters.{is_xml_char}
use Rattle.module_pieces.proofs.XmlTexts.{xml-utf8, xml-not}
use Rattle.module_pieces.proofs.names.is_xml_text.Goals as goal

pub returns-in-Ok : goal.returns-in-Ok
returns-in-Ok c =
    c.are_xml_chars.ensures
    ∙ ap (λ text. list_all is_xml_char (chars text)) c.in-Ok.ensures.0
    ∙ xml-utf8 c.args.bytes.now c.in-Ok.ensures.1

pub returns-in-Err : goal.returns-in-Err
returns-in-Err c = xml-not c.args.bytes.now c.in-Err.ensures
