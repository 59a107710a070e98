use Rattle.std.proofs.Common.{◌∙◌, sym, ap}
use Rattle.base_trees.specs.Rose.{label_of}
use Rattle.base_trees.proofs.Roses.{allowed-label}
use Rattle.xml_items.specs.Meaning.{meaning, Fits}
use Rattle.xml_items.proofs.Mapped.{label-map}
use Rattle.xml_items.proofs.nodes.ItemNode.label.Goals as goal

pub item-requires : goal.item-requires
item-requires c = rw c.label-kept.ensures (allowed-label (λ kept _. Fits c.self.inside.store.now kept) c.self.inside.node c.self.invariant)

pub returns : goal.returns
returns c =
    let f = meaning c.self.inside.store.now in
    c.item.ensures ∙ ap f c.label-kept.ensures ∙ sym (label-map f c.self.inside.node) ∙ ap label_of c.self.view_is
