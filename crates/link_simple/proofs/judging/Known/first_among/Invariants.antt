use Rattle.std.proofs.Common.{take}
use Rattle.std.specs.List.{filter_map}
use Rattle.link_names.specs.WalkSeen.{parts_of}
use Rattle.link_names.specs.Order.{IsFirstOf}
use Rattle.link_names.specs.Tables.{told_by}
use Rattle.link_simple.specs.Answering.{made_of}
use Rattle.link_simple.specs.Found.{found_in}
use Rattle.link_simple.specs.Standards as rule
use Rattle.link_simple.proofs.judging.Known.first_among.Given as goal

-- the first of those before this one
abbrev pub invariant-parts : goal.invariant-parts
invariant-parts l =
    IsFirstOf (filter_map (rule.fault_of (told_by l.self.numbers) (made_of l.self.simples.now) (found_in l.self.declared)) (parts_of (take l.part-index l.parts))) l.found
