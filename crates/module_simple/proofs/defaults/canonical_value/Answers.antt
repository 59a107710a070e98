use Rattle.std.proofs.Common.{Err, sym, ap, ◌∙◌, subst}
use Rattle.simple_types.specs.Seen.{space_of}
use Rattle.simple_types.specs.Reading.{Holds}
use Rattle.simple_types.proofs.OwnSpellings.{holds_again}
use Rattle.module_simple.proofs.XmlTexts.{xml-utf8}
use Rattle.module_simple.proofs.defaults.canonical_value.Goals as goal

pub returns-in-Err-NotUtf8 : goal.returns-in-Err-NotUtf8
returns-in-Err-NotUtf8 c =
    let never = c.in-Err-NotUtf8.ensures.not_utf8 (ap Err c.in-Err-NotUtf8.field-0-is) in
    absurd (never (xml-utf8 c.args.text.now (sym c.is_xml_text.ensures ∙ c.if-not-is_xml_text.false)))

pub spell-requires-clause-holds : goal.spell-requires-clause-holds
spell-requires-clause-holds c =
    subst (Holds (space_of c.args.simple.now)) (sym c.root.ensures) (holds_again _ c.requires _ _ c.in-Ok-accept.ensures)
