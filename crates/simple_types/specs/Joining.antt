-- Members of unions, one after another.
use Rattle.simple_types.specs.Space.{Spaces, none, more, UnionOf}

abbrev pub joined : Spaces → Spaces → Spaces
joined none others = others
joined (more s ss) others = more s (joined ss others)

-- The members, with each inner union replaced by its members.
abbrev pub flattened : Spaces → Spaces
flattened none = none
flattened (more (UnionOf members) ss) = joined members (flattened ss)
flattened (more s ss) = more s (flattened ss)
