use Rattle.std.proofs.Common.{◌≡◌, drop}
use Rattle.module_text.specs.Simple.{numbers_of}
use Rattle.module_pieces.proofs.Listing.{with_front}
use Rattle.module_pieces.proofs.items.numbers_of.Given as goal

abbrev pub invariant-items : goal.invariant-items
invariant-items l = with_front l.numbers.items (numbers_of (drop l.item-index l.items)) ≡ numbers_of l.items
