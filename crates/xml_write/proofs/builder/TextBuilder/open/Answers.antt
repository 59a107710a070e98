use Rattle.std.proofs.Common.{refl, true}
use Rattle.xml_write.specs.declared.builder.TextBuilder.{TextBuilder}
use Rattle.xml_write.specs.declared.builder.OpenTag.{OpenTag}
use Rattle.xml_write.specs.Telling.{space_of}
use Rattle.xml_write.proofs.Telling.{begins-element}
use Rattle.xml_write.proofs.builder.TextBuilder.open.Goals as goal

pub returns-clause-told : goal.returns-clause-told
returns-clause-told c =
    let ended = c.end_tag.new.self in
    let new : TextBuilder = record { prefixes = c.declared_text.new.self; text = c.write_start_tag.new.out; in_tag = true; late = ended.late } in
    let tag : OpenTag = record { qualifier = c.in_ok-qualifier.qualifier; local = c.args.local } in
    begins-element c.args.self.now ended new (record { space = space_of c.args.space; local = c.args.local.now }) tag c.in_ok-end_tag.ensures c.in_ok-qualifier.ensures.table c.in_ok-qualifier.ensures.qualifier refl refl refl
    c.in_ok-write_start_tag.ensures
