use Rattle.std.proofs.Common.{refl}
use Rattle.xer_write.specs.Private.Receiving.{name_seen}
use Rattle.xer_write.proofs.Gaining.{plain-begun, if_ok}
use Rattle.xer_write.proofs.contents.Contents.begin_plain.Goals as goal

pub returns : goal.returns
returns c =
    if_ok c.open_tag.result _ _ (λ tag opens. plain-begun c.args.self.now (record { receiver = c.open_tag.new.self; texts = c.args.self.now.texts }) tag (name_seen c.args.name.now) c.requires refl opens)
    c.open_tag.ensures
