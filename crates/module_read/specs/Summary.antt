-- A summary of a module.
use Rattle.std.specs.Prelude.{ℕ, List, ◌++◌, codes, decimal}
use Rattle.std.specs.List.{flat_map}
use Rattle.base_trees.specs.Rose.{shown_count}
use Rattle.asn_types.specs.declared.modules.Assignment.{Assignment}
use Rattle.asn_types.specs.Names.{local_told, space_told}

-- The reference, and the namespace of the name that it represents.
abbrev pub head : Assignment → List ℕ
head a = a.reference ++ codes " {" ++ space_told a.marks ++ codes "}"

-- The line of an assignment: its reference, its namespace and local name, and the number of its types.
abbrev pub line : Assignment → List ℕ
line a = head a ++ local_told a.reference a.marks ++ codes " " ++ decimal (shown_count a.body) ++ codes "\n"

abbrev pub summary : List Assignment → List ℕ
summary M = flat_map line M
