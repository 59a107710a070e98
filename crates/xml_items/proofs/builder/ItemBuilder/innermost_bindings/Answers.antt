use Rattle.std.proofs.Common.{◌≡◌, ◌∙◌, sym, ap, rules}
use Rattle.std.specs.Prelude.{Some, None}
use Rattle.base_flat_trees.specs.Zips.{first_label}
use Rattle.xml_items.specs.Building.{binding_count}
use Rattle.xml_items.proofs.Steps.{first_is, first_none}
use Rattle.xml_items.proofs.builder.ItemBuilder.innermost_bindings.Goals as goal

pub returns-in-None : goal.returns-in-None
returns-in-None c =
    let e : first_label c.self.inside.builder.above ≡ None = search rules in
    sym (ap binding_count (first_none c.self.inside.store c.self.inside.builder c.args.self.now c.self.view_is e))

pub binding_count-requires : goal.binding_count-requires
binding_count-requires c =
    let e : first_label c.self.inside.builder.above ≡ Some c.in-Some.kept.now = search rules in
    (first_is c.self.inside.store c.self.inside.builder c.args.self.now c.self.view_is c.self.invariant c.in-Some.kept.now e).1

pub returns-in-Some : goal.returns-in-Some
returns-in-Some c =
    let e : first_label c.self.inside.builder.above ≡ Some c.in-Some.kept.now = search rules in
    c.binding_count.ensures ∙ sym (ap binding_count (first_is c.self.inside.store c.self.inside.builder c.args.self.now c.self.view_is c.self.invariant c.in-Some.kept.now e).0)
