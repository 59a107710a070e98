use Rattle.simple_types.specs.Seen.{space_of}
use Rattle.simple_types.proofs.OwnSpellings.{holds_again}
use Rattle.value_builder.proofs.lists.spell_items.Goals as goal

pub write_item-requires-clause-holds : goal.write_item-requires-clause-holds
write_item-requires-clause-holds c = rw c.root.ensures (holds_again (space_of c.args.item.now) c.requires _ c.in_ok-value.value c.in_ok-value.ensures)
