-- The references that values of the code represent.
use Rattle.std.specs.Prelude.{List, map}
use Rattle.link_names.specs.References.{Mention, mention}
use Rattle.link_names.specs.declared.references.Mention.{Mention as Kept}

abbrev pub mention_of : Kept → Mention
mention_of m = mention m.need m.place m.name.now

abbrev pub mentions_of : List Kept → List Mention
mentions_of ms = map mention_of ms
