-- Each map of a linked set is a module: it has few assignments.
use Rattle.std.proofs.Common.{◌≡◌, ◌<◌, ◌^◌, List, length, sym, subst}
use Rattle.schema_components.specs.Components.{Set}
use Rattle.schema_components.specs.Linked.{IsLinked}
use Rattle.asn_types.specs.declared.modules.Assignment.{Assignment}
use Rattle.asn_types.specs.Modules.{IsModule}
use Rattle.map_subjects.specs.declared.subjects.NamedSubject.{NamedSubject}
use Rattle.map_assignments.specs.Mapped.{IsMapOf}
use Rattle.map_assignments.proofs.Once.{one-entries}
use Rattle.map_assignments.proofs.Whole.{is-module}
use Rattle.map_laws.proofs.Entries.{some-entries}

pub map_module : (s : Set) (M : List Assignment) → IsLinked s → IsMapOf s M → IsModule M
map_module s M linked is =
    let few = some-entries s linked in
    let same : is.entries ≡ few.0 = one-entries s is.entries few.0 is.are_entries few.1 in
    is-module s is.entries M linked is.are_entries is.assignments (subst (λ (es : List NamedSubject). length es < 2 ^ 32) (sym same) few.2)
