use Rattle.std.proofs.Common.{subst, refl, IsUtf8}
use Rattle.xer_write.specs.Private.Receiving.{name_seen}
use Rattle.xer_write.proofs.Gaining.{gains-attribute, on_ok}
use Rattle.xer_write.proofs.contents.Contents.add_attribute.Goals as goal

pub returns : goal.returns
returns c =
    on_ok c.put_attribute.result _ _
    (λ tells. gains-attribute c.args.self.now (record { receiver = c.put_attribute.new.self; texts = c.args.self.now.texts }) (name_seen c.args.name) c.args.text refl (subst IsUtf8 c.as_str.ensures c.as_str.utf8) tells)
    c.put_attribute.ensures
