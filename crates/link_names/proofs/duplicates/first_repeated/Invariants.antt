use Rattle.std.proofs.Common.{◌++◌, List, map, take}
use Rattle.std.specs.List.{filter}
use Rattle.link_names.specs.declared.faults.LinkingFault.{LinkingFault}
use Rattle.link_names.specs.Globals.{is_repeated}
use Rattle.link_names.specs.Order.{fault, IsFirstOf}
use Rattle.link_names.specs.Seen.{globals_of}
use Rattle.link_names.proofs.duplicates.first_repeated.Given as goal

-- the first of what was found before and of those passed
abbrev pub invariant-globals : goal.invariant-globals
invariant-globals l =
    (fs : List LinkingFault) → IsFirstOf fs l.fn.found
    → IsFirstOf (fs ++ map (λ h. fault l.why h.place) (filter (is_repeated (globals_of l.globals)) (globals_of (take l.global-index l.globals)))) l.first
