use Rattle.std.proofs.Common.{◌∙◌, sym, ap, subst, IsUtf8}
use Rattle.std.proofs.lemmas.Str.{IsUtf8-had}
use Rattle.xml_items.specs.Lying.{lying_bytes, LiesWithin}
use Rattle.xml_items.proofs.characters.Characters.bytes.Goals as goal

pub returns-in-Front-clause-utf8 : goal.returns-in-Front-clause-utf8
returns-in-Front-clause-utf8 c =
    subst IsUtf8 (ap lying_bytes (sym c.in-Front.is) ∙ c.self.view_is) (IsUtf8-had _ (subst LiesWithin c.in-Front.is c.self.invariant).1)
