use Rattle.std.proofs.Common.{◌≡◌, map, take, All}
use Rattle.schema_components.specs.Documents.{doc_of}
use Rattle.link_complex.specs.Seen.{definitions_of}
use Rattle.link_set.specs.Parts.{HasWholeModel}
use Rattle.link_set.specs.Sets.{complex}
use Rattle.link_set.specs.Private.Told.{found_in, told_by}
use Rattle.link_set.proofs.tables.ComponentNumbers.complexes.Given as goal

-- those of the ones before this one
abbrev pub invariant-complexes : goal.invariant-complexes
invariant-complexes l = record {
  numbered : l.made.items ≡ map (complex (told_by l.self) (found_in l.globals) (map doc_of l.docs)) (definitions_of (take l.complex-index l.complexes));
  whole : All HasWholeModel l.made.items;
}
