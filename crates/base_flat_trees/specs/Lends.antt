-- The labels after the end of a `&mut` that was returned.
use Rattle.std.specs.Borrow.{Lends, Fml, RattleType, MutBor}
use Rattle.base_flat_trees.specs.Zips.{Zip, relabeled}
use Rattle.base_flat_trees.specs.declared.entries.Entry.{Entry}
use Rattle.base_flat_trees.specs.contracts.entries.Entry as entry
use Rattle.base_flat_trees.specs.contracts.builders.Builder as builder

-- When the borrow r ends, the entry has the last label written through r.
abbrev pub lends_label : (L : RattleType) → MutBor (Entry L.Denot) → MutBor L.Denot → Fml
lends_label L e r = Lends (entry.the_row L) L e r (λ l. record { label = l; below = e.now.below })

-- When the borrow r ends, the innermost open node has the last label written through r.
abbrev pub lends_innermost : (L : RattleType) → MutBor (Zip L.Denot) → MutBor L.Denot → Fml
lends_innermost L z r = Lends (builder.the_row L) L z r (λ l. relabeled l z.now)
