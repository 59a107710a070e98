use Rattle.std.proofs.Common.{◌∙◌, sym, ap, subst}
use Rattle.std.proofs.lemmas.Str.{IsUtf8-had}
use Rattle.xml_items.specs.Lying.{lying_bytes, LiesWithin}
use Rattle.xml_items.proofs.characters.Characters.front.Goals as goal

pub returns-in-Front : goal.returns-in-Front
returns-in-Front c =
    let lies = subst LiesWithin c.in-Front.is c.self.invariant in
    (lies.0, IsUtf8-had _ lies.1, ap lying_bytes (sym c.in-Front.is) ∙ c.self.view_is)
