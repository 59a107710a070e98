-- The first fault of a text is its least.
use Rattle.std.proofs.Common.{◌+◌, ◌*◌, List, [], length, subst}
use Rattle.std.specs.List.{flat_map}
use Rattle.module_print.specs.Printed.{opening}
use Rattle.module_text.specs.declared.modules.PlainAssignment.{PlainAssignment}
use Rattle.module_text.specs.Texts.{assignment_text}
use Rattle.module_text.specs.Faults.{faults_from, faults}
use Rattle.module_laws.specs.Laws.{LeastIsFirst}
use Rattle.module_laws.proofs.Headed.{Run, first_least}
use Rattle.module_laws.proofs.Placed.{from-run}

pub least_first : LeastIsFirst
least_first bytes assignments is f =
    let P : List PlainAssignment → Type 0 = λ others. Run (7 * length opening) (7 * (length opening + length (flat_map assignment_text assignments))) (faults_from assignments [] others) in
    let run = subst P is.places (from-run assignments (length opening) [] assignments) in
    first_least (faults assignments) run.heads f
