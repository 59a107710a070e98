use Rattle.std.proofs.Common.{◌≡◌, take, map}
use Rattle.std.specs.Option.{option_map}
use Rattle.module_text.specs.declared.modules.PlainAssignment.{PlainAssignment}
use Rattle.module_text.specs.Resolving.{near_references}
use Rattle.module_check.specs.Known.{leads_in}
use Rattle.module_check.proofs.chains.one_more.Given as goal

abbrev pub invariant-assignments : goal.invariant-assignments
invariant-assignments l =
    l.within.items
    ≡ map (λ (a : PlainAssignment). near_references (leads_in (option_map (λ w. w.now) l.followed.within) l.followed.assignments.now) a.body) (take l.assignment-index l.assignments)
