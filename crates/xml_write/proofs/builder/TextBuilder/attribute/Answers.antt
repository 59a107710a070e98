use Rattle.std.proofs.Common.{refl}
use Rattle.xml_write.specs.declared.builder.TextBuilder.{TextBuilder}
use Rattle.xml_write.proofs.Written.{OnOk-map}
use Rattle.xml_write.proofs.Telling.{told-attribute}
use Rattle.xml_write.proofs.builder.TextBuilder.attribute.Goals as goal

pub returns-clause-told : goal.returns-clause-told
returns-clause-told c =
    let old = c.args.self.now in
    let new : TextBuilder = record { prefixes = c.declared.new.self; text = c.write_value.new.out; in_tag = old.in_tag; late = old.late } in
    OnOk-map c.write_value.result _ _
    (λ e. told-attribute old new (record { space = c.args.space.now; local = c.args.local.now }) c.args.value.now _ _ _ c.if-not-self.false c.in_ok-qualifier.ensures.table c.in_ok-qualifier.ensures.qualifier refl refl
    c.in_ok-push.ensures.items c.in_ok-write_qualified.ensures e)
    c.write_value.ensures
