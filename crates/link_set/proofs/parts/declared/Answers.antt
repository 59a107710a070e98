use Rattle.std.proofs.Common.{arith, ap, ◌∙◌}
use Rattle.std.proofs.lemmas.List.{length-map}
use Rattle.link_set.specs.Private.Seen.{written_of, attributes_of}
use Rattle.link_set.specs.Private.Told.{told_by}
use Rattle.link_set.specs.Sets.{attributes}
use Rattle.link_set.proofs.parts.declared.Goals as goal

pub returns-clause-numbered : goal.returns-clause-numbered
returns-clause-numbered c =
    let globals = c.args.listed.now.elements.globals in
    let many = length-map globals.items written_of in
    let own = globals.ok in
    let told = c.len.ensures in
    let count = c.count-globals.ensures in (
      c.in_ok-elements.ensures,
      omega (arith, many, own.0, told, count),
      c.in_ok-complexes.ensures.numbered,
      c.in_ok-attributes.ensures ∙ ap (λ ws. attributes (told_by c.args.numbers.now) (attributes_of ws)) c.deref.ensures.value,
    )
