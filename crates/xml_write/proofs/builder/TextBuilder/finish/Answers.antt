use Rattle.std.proofs.Common.{length, ap, ◌∙◌, arith}
use Rattle.base_texts.specs.declared.texts.Name.{Name}
use Rattle.xml_write.proofs.Finishing.{finished}
use Rattle.xml_write.proofs.builder.TextBuilder.finish.Goals as goal

pub returns : goal.returns
returns c = λ begun attributes items is tells.
    let b = c.args.self in
    let name : Name = record { space = c.args.space.now; local = c.args.local.now } in
    finished begun b name attributes items c.min-at.result c.deref.result.now c.push.new.self.items c.insert.new.out.items is (tells c.if-self.false)
    (c.deref.ensures.value ∙ c.in_ok-declared.ensures) c.in_ok-push.ensures.items
    (λ long. omega (arith, c.min-at.ensures, c.in_ok-begun.ensures, ap length c.as_slice.ensures.value)) c.in_ok-insert.ensures
