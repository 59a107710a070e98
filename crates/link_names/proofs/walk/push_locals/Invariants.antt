use Rattle.std.proofs.Common.{◌≡◌, ◌++◌, take}
use Rattle.std.specs.List.{flat_map}
use Rattle.schema_components.specs.Documents.{doc_of}
use Rattle.link_names.specs.Parts.{in_local}
use Rattle.link_names.specs.WalkSeen.{parts_of}
use Rattle.link_names.proofs.walk.push_locals.Given as goal

-- those of the declarations before this one were put behind
abbrev pub invariant-locals : goal.invariant-locals
invariant-locals l =
    parts_of l.out.items ≡ parts_of l.fn.out.items ++ flat_map (in_local l.file) (take l.n (doc_of l.doc).locals)
