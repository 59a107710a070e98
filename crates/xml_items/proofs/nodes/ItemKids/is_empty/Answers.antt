use Rattle.std.proofs.Common.{◌∙◌, sym, ap, map}
use Rattle.xml_items.specs.Meaning.{map_rose, meaning}
use Rattle.xml_items.proofs.Mapped.{none_left}
use Rattle.xml_items.proofs.nodes.ItemKids.is_empty.Goals as goal

pub returns : goal.returns
returns c =
    let f = meaning c.self.inside.store.now in (
      λ t. sym c.self.view_is ∙ ap (map (map_rose f)) (c.is_empty.ensures.0 t),
      λ h. c.is_empty.ensures.1 (none_left f c.self.inside.kids (c.self.view_is ∙ h)),
    )
