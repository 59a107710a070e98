use Rattle.std.proofs.Common.{map, Some, sym, ◌∙◌}
use Rattle.std.proofs.lemmas.List.{length-map}
use Rattle.simple_types.specs.Seen.{space_of}
use Rattle.schema_components.specs.Documents.{doc_of}
use Rattle.link_schemas.proofs.Spaces.{links}
use Rattle.link_schemas.proofs.linking.link.Goals as goal

pub assembled-requires : goal.assembled-requires
assembled-requires c =
    let spaces = c.in_ok-spaces.spaces.items in
    let answered = c.in_ok-spaces.ensures in
    record {
      numbered = c.requires.numbered;
      passed = answered.0;
      all = sym (length-map spaces (λ s. Some (space_of s))) ∙ answered.1.0;
      sound = answered.2;
    }

pub returns : goal.returns
returns c = links (map doc_of c.args.docs.now) c.in_ok-spaces.spaces c.in_ok-set.set c.in_ok-spaces.ensures c.in_ok-set.ensures
