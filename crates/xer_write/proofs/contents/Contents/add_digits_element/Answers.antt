use Rattle.std.proofs.Common.{refl}
use Rattle.xer_write.specs.declared.contents.Contents.{Contents}
use Rattle.xer_write.specs.Private.Receiving.{name_seen}
use Rattle.xer_write.proofs.Gaining.{text-element-gained, on_ok}
use Rattle.xer_write.proofs.contents.Contents.add_digits_element.Goals as goal

pub returns : goal.returns
returns c =
    let room = c.make_room_for_one.new.self in
    let new : Contents = record { receiver = c.put_digits_element.new.self; texts = room.texts } in
    on_ok c.put_digits_element.result _ _
    (λ takes. text-element-gained c.args.self.now room new (name_seen c.args.name.now) c.args.digits.now c.utf8.digits c.in_ok-make_room_for_one.ensures refl takes)
    c.put_digits_element.ensures
