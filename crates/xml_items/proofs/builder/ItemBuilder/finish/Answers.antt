use Rattle.std.proofs.Common.{length, map, ◌∙◌, sym, ap, arith}
use Rattle.std.proofs.lemmas.List.{length-map}
use Rattle.xml_items.specs.Building.{Building}
use Rattle.xml_items.specs.Meaning.{map_rose, meaning}
use Rattle.xml_items.proofs.Mapped.{none_open}
use Rattle.xml_items.proofs.Steps.{root_fits}
use Rattle.xml_items.proofs.builder.ItemBuilder.finish.Goals as goal

pub finish_one-tree-requires-clause-closed : goal.finish_one-tree-requires-clause-closed
finish_one-tree-requires-clause-closed c = none_open (meaning c.self.inside.store) c.self.inside.builder.above (ap (λ (b : Building). b.zip.above) c.self.view_is ∙ c.requires.closed)

pub finish_one-tree-requires-clause-one : goal.finish_one-tree-requires-clause-one
finish_one-tree-requires-clause-one c = omega (arith, c.requires.one, ap (λ (b : Building). length b.zip.kids) c.self.view_is, length-map c.self.inside.builder.kids (map_rose (meaning c.self.inside.store)))

pub invariant_of-result : goal.invariant_of-result
invariant_of-result c = root_fits c.self.inside.store c.self.inside.builder c.finish_one-tree.result c.self.invariant c.finish_one-tree.ensures

pub returns : goal.returns
returns c = ap (λ (b : Building). b.zip.kids) (sym c.self.view_is) ∙ ap (map (map_rose (meaning c.self.inside.store))) c.finish_one-tree.ensures
