use Rattle.std.proofs.Common.{◌≡◌, ◌++◌, drop}
use Rattle.module_text.specs.Told.{words_of}
use Rattle.module_pieces.proofs.words.written_words.Given as goal

abbrev pub invariant-items : goal.invariant-items
invariant-items l = l.words.items ++ words_of l.left (drop l.item-index l.items) ≡ words_of l.marks l.items
