use Rattle.std.proofs.Common.{Some}
use Rattle.map_subjects.specs.declared.subjects.Subject.TheVariants.{Attribute}
use Rattle.map_subjects.specs.Private.Collecting.{entries_with}
use Rattle.map_subjects.proofs.InOrder.{firsts-next, attribute-entry}
use Rattle.map_subjects.proofs.collecting.push_attributes.Goals as goal

pub attributes-preserved : goal.attributes-preserved
attributes-preserved c =
    let s = c.args.set.now in
    let n = c.attributes.n in
    let e = c.attribute.result.now in
    firsts-next s Attribute n c.args.made.now.items c.attributes.made.items c.push_entry.new.made.items (entries_with (Attribute n) (Some e.name))
    c.attributes.invariant c.in_ok-push_entry.ensures (attribute-entry s n e c.attribute.ensures)
