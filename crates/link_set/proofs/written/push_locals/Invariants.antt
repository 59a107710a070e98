use Rattle.std.proofs.Common.{◌≡◌, ◌++◌, take}
use Rattle.std.specs.List.{flat_map}
use Rattle.schema_components.specs.Documents.{doc_of}
use Rattle.link_set.specs.Written.{declared_by}
use Rattle.link_set.specs.Private.Seen.{elements_of}
use Rattle.link_set.proofs.written.push_locals.Given as goal

-- those of the declarations before this one were put behind
abbrev pub invariant-locals : goal.invariant-locals
invariant-locals l =
    elements_of l.out.items ≡ elements_of l.fn.out.items ++ flat_map (declared_by l.file) (take l.n (doc_of l.doc).locals)
