use Rattle.std.proofs.Common.{◌<◌, ◌^◌, [], All, length, sym, subst, ◌∙◌}
use Rattle.map_subjects.specs.declared.subjects.NamedSubject.{NamedSubject}
use Rattle.map_subjects.specs.Subjects.{place_in, IsSubject}
use Rattle.map_subjects.proofs.InOrder.{all-subjects}
use Rattle.map_assignments.specs.Mapped.{AreMapped}
use Rattle.map_assignments.proofs.Once.{one-map}
use Rattle.map_assignments.proofs.Whole.{is-module}
use Rattle.map_assignments.proofs.modules.map_set.Goals as goal

pub assignments-requires : goal.assignments-requires
assignments-requires c =
    let s = c.args.set.now in
    let lent = c.deref.ensures.value in
    let made = c.in_ok-ordered.ensures in record {
      linked = c.element_count.ensures.linked;
      few = subst (λ es. length es < 2 ^ 32) (sym lent) made.few;
      entries = subst (All (λ (e : NamedSubject). IsSubject s e.subject)) (sym lent) (all-subjects s c.in_ok-ordered.ordered.items made.entries);
    }

pub of-requires : goal.of-requires
of-requires c =
    let s = c.args.set.now in
    let es = c.in_ok-ordered.ordered.items in
    let made = c.in_ok-made.made.items in
    let mapped = subst (λ es. AreMapped (place_in es) s [] es made) c.deref.ensures.value c.in_ok-made.ensures in
    is-module s es made c.element_count.ensures.linked c.in_ok-ordered.ensures.entries mapped c.in_ok-ordered.ensures.few

pub returns-clause-only : goal.returns-clause-only
returns-clause-only c =
    let s = c.args.set.now in
    let es = c.in_ok-ordered.ordered.items in
    let made = c.in_ok-made.made.items in
    let mapped = subst (λ es. AreMapped (place_in es) s [] es made) c.deref.ensures.value c.in_ok-made.ensures in
    λ other is_map.
    one-map s other made is_map (record { entries = es; are_entries = c.in_ok-ordered.ensures.entries; assignments = mapped }) ∙ sym c.of.ensures
