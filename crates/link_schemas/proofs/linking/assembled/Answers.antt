use Rattle.std.proofs.Common.{map, ap, ◌∙◌}
use Rattle.std.proofs.lemmas.List.{length-map}
use Rattle.simple_types.specs.Seen.{space_of}
use Rattle.schema_components.specs.Components.{components}
use Rattle.schema_components.specs.Documents.{doc_of}
use Rattle.link_set.specs.Sets.{parts_of}
use Rattle.link_set.proofs.Soundness.{sound_parts}
use Rattle.link_schemas.proofs.LinkedSet.{set_few, set_linked}
use Rattle.link_schemas.proofs.linking.assembled.Goals as goal

pub set_parts-requires-clause-few : goal.set_parts-requires-clause-few
set_parts-requires-clause-few c = set_few c.args.docs.now c.requires.numbered c.requires.passed

pub of-requires : goal.of-requires
of-requires c =
    let p = c.in_ok-parts.parts in
    let spaces = c.args.spaces.items in
    let made = c.in_ok-parts.ensures in
    set_linked c.args.docs.now (components p.elements.items p.globals p.simples.items p.complexes.items p.attributes.items) (map space_of spaces) c.requires.numbered
    c.requires.passed (length-map spaces space_of ∙ c.requires.all) made.set (sound_parts p (map doc_of c.args.docs.now) spaces made.set c.requires.sound) made.whole

pub returns : goal.returns
returns c = ap parts_of c.of.ensures ∙ c.in_ok-parts.ensures.set
