use Rattle.std.proofs.Common.{take}
use Rattle.std.specs.List.{filter_map}
use Rattle.link_names.specs.Private.Mentioned.{mentions_of}
use Rattle.link_names.specs.Private.NameTables.{told_by}
use Rattle.link_names.specs.Order.{IsFirstOf}
use Rattle.link_names.specs.Resolution.{fault_of}
use Rattle.link_names.proofs.name_tables.NameTable.first_wrong.Given as goal

-- the first of those before this one
abbrev pub invariant-mentions : goal.invariant-mentions
invariant-mentions l = IsFirstOf (filter_map (fault_of (told_by l.self)) (mentions_of (take l.mention-index l.mentions))) l.found
