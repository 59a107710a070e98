use Rattle.std.proofs.Common.{refl}
use Rattle.xml_write.specs.declared.builder.TextBuilder.{TextBuilder}
use Rattle.xml_write.specs.Telling.{space_of}
use Rattle.xml_write.proofs.Written.{OnOk-map}
use Rattle.xml_write.proofs.Telling.{told-words}
use Rattle.xml_write.proofs.builder.TextBuilder.text_element.Goals as goal

pub returns-clause-told : goal.returns-clause-told
returns-clause-told c =
    let ended = c.end_tag.new.self in
    let new : TextBuilder = record { prefixes = c.declared_text.new.self; text = c.write_text_element.new.out; in_tag = ended.in_tag; late = ended.late } in
    OnOk-map c.write_text_element.result _ _
    (λ e. told-words c.args.self.now ended new (record { space = space_of c.args.space; local = c.args.local.now }) _ c.args.text.now c.in_ok-end_tag.ensures c.in_ok-qualifier.ensures.table c.in_ok-qualifier.ensures.qualifier refl refl e)
    c.write_text_element.ensures
