use Rattle.std.proofs.Common.{refl}
use Rattle.std.specs.Prelude.{codes}
use Rattle.xer_items.specs.Items.{nil_name}
use Rattle.xer_write.proofs.Gaining.{gains-attribute, on_ok, true-utf8}
use Rattle.xer_write.proofs.contents.Contents.add_nil.Goals as goal

pub returns : goal.returns
returns c =
    on_ok c.put_nil.result _ _
    (λ tells. gains-attribute c.args.self.now (record { receiver = c.put_nil.new.self; texts = c.args.self.now.texts }) nil_name (codes "true") refl true-utf8 tells)
    c.put_nil.ensures
