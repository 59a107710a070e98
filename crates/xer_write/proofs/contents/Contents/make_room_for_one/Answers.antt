use Rattle.std.proofs.Common.{◌==◌, length, sym, ap, ◌∙◌}
use Rattle.xer_write.proofs.Gaining.{room-empty}
use Rattle.xer_write.proofs.contents.Contents.make_room_for_one.Goals as goal

pub returns-then-is_empty : goal.returns-then-is_empty
returns-then-is_empty c = room-empty c.args.self.now (ap (λ s. length s == 0) (sym c.as_slice.ensures.value) ∙ sym c.is_empty.ensures ∙ c.if-is_empty.true)
