use Rattle.std.proofs.Common.{◌∙◌, sym, ap}
use Rattle.base_trees.specs.Rose.{kids_of}
use Rattle.base_trees.proofs.Roses.{allowed-kids}
use Rattle.xml_items.specs.Meaning.{meaning, Fits}
use Rattle.xml_items.proofs.Mapped.{kids-map}
use Rattle.xml_items.proofs.nodes.ItemNode.kids.Goals as goal

pub invariant_of-result : goal.invariant_of-result
invariant_of-result c = rw c.kids-kids.ensures (allowed-kids (λ kept _. Fits c.self.inside.store.now kept) c.self.inside.node c.self.invariant)

pub returns : goal.returns
returns c =
    let f = meaning c.self.inside.store.now in
    rw c.kids-kids.ensures (sym (kids-map f c.self.inside.node) ∙ ap kids_of c.self.view_is)
