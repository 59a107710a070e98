use Rattle.std.proofs.Common.{◌+◌, ◌*◌, length}
use Rattle.xer_write.proofs.contents.Contents.+texts.Given as goal

abbrev pub decreases-add_text : goal.decreases-add_text
decreases-add_text l = 3 * length l.self.now.texts.items + 2

abbrev pub decreases-make_room : goal.decreases-make_room
decreases-make_room l = 3 * length l.self.now.texts.items + 1

abbrev pub decreases-add_next : goal.decreases-add_next
decreases-add_next l = 3 * length l.self.now.texts.items + 3
