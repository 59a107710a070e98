-- The spaces of the types that the code has.
use Rattle.simple_types.specs.Seen.{space_of}
use Rattle.simple_types.specs.Space.{Space}
use Rattle.link_simple.specs.declared.parts.Part.{Part}
use Rattle.link_simple.specs.declared.parts.Part.TheVariants as part

abbrev pub seen : Part → Space
seen (part.Own simple) = space_of simple
seen (part.Lent simple) = space_of simple.now
