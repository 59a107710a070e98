use Rattle.std.proofs.Common.{ap, ◌∙◌}
use Rattle.simple_types.specs.Space.{ListOf}
use Rattle.simple_types.specs.Seen.{space_of}
use Rattle.simple_types.proofs.Seen.{list_space}
use Rattle.simple_facets.specs.Restricting.{least_length}
use Rattle.simple_facets.proofs.narrowing.narrowed_list.Goals as goal

pub returns : goal.returns
returns c =
    let item = space_of c.args.item.now in
    list_space c.in_ok-item-2.item c.least_length.result c.greatest_length.result
    ∙ ap (λ s. ListOf s c.least_length.result c.greatest_length.result) (ap space_of c.in_ok-item-2.ensures.ok ∙ c.in_ok-item.ensures)
    ∙ ap (λ n. ListOf item n c.greatest_length.result) c.least_length.ensures
    ∙ ap (ListOf item (least_length c.args.asked c.args.min)) c.greatest_length.ensures
