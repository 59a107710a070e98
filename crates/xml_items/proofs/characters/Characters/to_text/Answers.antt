use Rattle.std.proofs.Common.{subst}
use Rattle.std.proofs.lemmas.Str.{IsUtf8-had}
use Rattle.xml_items.specs.Lying.{LiesWithin}
use Rattle.xml_items.proofs.characters.Characters.to_text.Goals as goal

pub of_front-requires-clause-utf8 : goal.of_front-requires-clause-utf8
of_front-requires-clause-utf8 c = IsUtf8-had _ (subst LiesWithin c.in-Front.is c.self.invariant).1
