use Rattle.std.proofs.Common.{ap, ◌∙◌}
use Rattle.xer_write.specs.Private.Receiving.{name_seen}
use Rattle.xer_write.proofs.Gaining.{begun}
use Rattle.xer_write.proofs.contents.Contents.begin_element.Goals as goal

pub returns : goal.returns
returns c =
    begun c.args.self.now c.make_room_for_one.new.self (record { receiver = c.open.new.self; texts = c.replace-texts.new.dest }) (record { tag = c.in_ok-tag.tag; texts = c.replace-texts.result }) (name_seen c.args.name.now)
    c.in_ok-make_room_for_one.ensures (ap (λ v. v.items) c.replace-texts.ensures.value) (ap (λ v. v.items) c.replace-texts.ensures.after ∙ c.new.ensures.items) c.in_ok-tag.ensures
