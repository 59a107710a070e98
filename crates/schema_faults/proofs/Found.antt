-- What is shown is what is found, the first in the order written.
use Rattle.std.proofs.Common.{◌≡◌, ℕ, refl, Option, Some, None}
use Rattle.base_trees.specs.Rose.{Rose}
use Rattle.xml_read.specs.Tokens.{tokens, Ascend}
use Rattle.xml_items.specs.declared.label.ItemLabel.{ItemLabel}
use Rattle.schema_syntax.specs.declared.why.SchemaWhy.{SchemaWhy}
use Rattle.schema_faults.specs.Faults.{first_fault, reasons, fault_if}
use Rattle.schema_faults.specs.Shown.{Shown, IsSchema}
use Rattle.schema_faults.specs.declared.faults.DocumentFault.{DocumentFault}
use Rattle.schema_faults.proofs.ShownLaws.{shown, no_fault, one_shown}
use Rattle.schema_faults.proofs.Least.{none_stands}

module _ (root : Rose ItemLabel) (bound : ℕ) (ascend : Ascend 0 bound (tokens root)) where
  none_of : (found : Option DocumentFault) → IsSchema root → first_fault (reasons root) ≡ found → found ≡ None
  none_of None is found = refl
  none_of (Some f) is found = absurd (none_stands (reasons root) f.at f.why is (shown root bound f ascend found).0)

  -- a schema has none
  pub found_none : IsSchema root → first_fault (reasons root) ≡ None
  found_none is = none_of (first_fault (reasons root)) is refl

  this_one : (found : Option DocumentFault) (at : ℕ) (why : SchemaWhy) → Shown root at why → first_fault (reasons root) ≡ found → found ≡ fault_if at (Some why)
  this_one None at why is found = absurd (none_stands (reasons root) at why (no_fault root found) is.0)
  this_one (Some f) at why is found =
      let same = one_shown root bound f.at at f.why why ascend (shown root bound f ascend found) is in
      (λ i. Some (record { at = same.0 i; why = same.1 i }))

  -- the one that is shown is found
  pub found_one : (at : ℕ) (why : SchemaWhy) → Shown root at why → first_fault (reasons root) ≡ fault_if at (Some why)
  found_one at why is = this_one (first_fault (reasons root)) at why is refl
