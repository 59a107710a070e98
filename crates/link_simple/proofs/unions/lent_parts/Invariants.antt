use Rattle.std.proofs.Common.{◌≡◌, drop}
use Rattle.simple_types.specs.Joining.{joined}
use Rattle.simple_facets.specs.Making.{lent_spaces}
use Rattle.link_simple.specs.Private.Parts.{seen_all}
use Rattle.link_simple.proofs.unions.lent_parts.Given as goal

abbrev pub invariant-parts : goal.invariant-parts
invariant-parts l = joined (lent_spaces l.lent.items) (seen_all (drop l.part-index l.parts)) ≡ seen_all l.parts
