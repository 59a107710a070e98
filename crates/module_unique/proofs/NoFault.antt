-- The print of a printable module has no fault, where its texts are UTF-8, and means the module.
use Rattle.std.proofs.Common.{◌≡◌, ◌∙◌, List, [], ap}
use Rattle.module_print.specs.Printed.{printed}
use Rattle.module_text.specs.declared.modules.PlainAssignment.{PlainAssignment}
use Rattle.module_text.specs.Places.{placed}
use Rattle.module_grammar.specs.TextsRead.{AllTextsRead}
use Rattle.module_text.specs.Faults.{faults}
use Rattle.module_laws.specs.Laws.{NoFaultIsPrintable}
use Rattle.module_unique.specs.Faultless.{PrintableHasNoFault}
use Rattle.module_unique.proofs.Telling.{module_told}
use Rattle.module_unique.proofs.Unique.{cleared, told_text}
use Rattle.module_unique.proofs.ClearFaults.{faultless}
use Rattle.module_unique.proofs.CleanModule.{module_clean}
use Rattle.module_unique.proofs.Octets.{module_octets}
use Rattle.module_unique.proofs.OctetsMeant.{meant_is}

pub no_fault : AllTextsRead → NoFaultIsPrintable → PrintableHasNoFault
no_fault read printable M is texts =
    let octets = module_octets M texts in
    let P : List PlainAssignment = placed (module_told M) in
    let text = told_text M is octets in
    let none : faults P ≡ [] = faultless P (ap faults (cleared M is octets) ∙ module_clean M is octets texts) in
    record {
      assignments = P;
      text = text;
      none = none;
      meant = λ short. meant_is read M is octets P (printable (printed M) P short text none);
    }
