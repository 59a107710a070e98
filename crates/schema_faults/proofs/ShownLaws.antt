-- What is found is what is shown.
use Rattle.std.proofs.Common.{◌≡◌, ◌⊎◌, inl, inr, ℕ, Option, Some, None, refl}
use Rattle.base_trees.specs.Rose.{Rose}
use Rattle.xml_read.specs.Tokens.{tokens, Ascend}
use Rattle.xml_items.specs.declared.label.ItemLabel.{ItemLabel}
use Rattle.schema_faults.specs.Faults.{reasons, first_fault}
use Rattle.schema_faults.specs.Shown.{Shown, IsSchema}
use Rattle.schema_syntax.specs.declared.why.SchemaWhy.{SchemaWhy}
use Rattle.schema_faults.specs.declared.faults.DocumentFault.{DocumentFault}
use Rattle.schema_faults.proofs.Least.{first_shown, none_shown, one_fault}
use Rattle.schema_faults.proofs.Rising.{reasons_rise}

pub shown : (root : Rose ItemLabel) (bound : ℕ) (f : DocumentFault) → Ascend 0 bound (tokens root) → first_fault (reasons root) ≡ Some f → Shown root f.at f.why
shown root bound f ascend is = first_shown 0 (reasons root) f (reasons_rise bound root 0 ascend) is

pub no_fault : (root : Rose ItemLabel) → first_fault (reasons root) ≡ None → IsSchema root
no_fault root is = none_shown (reasons root) is

by_first : (root : Rose ItemLabel) (bound : ℕ) (found : Option DocumentFault) → Ascend 0 bound (tokens root) → first_fault (reasons root) ≡ found
    → IsSchema root ⊎ ((at : ℕ) × (why : SchemaWhy) × Shown root at why)
by_first root bound None ascend is = inl (no_fault root is)
by_first root bound (Some f) ascend is = inr (f.at, f.why, shown root bound f ascend is)

pub answer : (root : Rose ItemLabel) (bound : ℕ) → Ascend 0 bound (tokens root) → IsSchema root ⊎ ((at : ℕ) × (why : SchemaWhy) × Shown root at why)
answer root bound ascend = by_first root bound (first_fault (reasons root)) ascend refl

pub one_shown : (root : Rose ItemLabel) (bound a b : ℕ) (why other : SchemaWhy) → Ascend 0 bound (tokens root) → Shown root a why → Shown root b other → (a ≡ b) × (why ≡ other)
one_shown root bound a b why other ascend x y = one_fault 0 (reasons root) a b why other (reasons_rise bound root 0 ascend) x.0 x.1 y.0 y.1
