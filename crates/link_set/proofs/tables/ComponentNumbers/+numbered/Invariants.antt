use Rattle.std.proofs.Common.{◌≡◌, map, take}
use Rattle.base_trees.specs.Rose.{node_count}
use Rattle.schema_components.specs.Documents.{doc_of}
use Rattle.link_set.specs.Sets.{numbered, number_of_declaration}
use Rattle.link_set.specs.Private.Told.{told_by}
use Rattle.link_set.proofs.tables.ComponentNumbers.+numbered.Given as goal

abbrev pub decreases-numbered : goal.decreases-numbered
decreases-numbered l = node_count l.tree.now

-- those of the kids before this one
abbrev pub invariant-kids : goal.invariant-kids
invariant-kids l = l.made.items ≡ map (numbered (number_of_declaration (told_by l.self) (map doc_of l.docs) l.file)) (take l.kid-index l.kids)
