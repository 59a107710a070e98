use Rattle.std.proofs.Common.{None, sym, ap, ◌∙◌, subst}
use Rattle.simple_types.specs.Space.{ListOf}
use Rattle.simple_types.specs.Seen.{space_of}
use Rattle.simple_types.specs.Sound.{Sound}
use Rattle.simple_types.proofs.Seen.{list_space}
use Rattle.simple_facets.proofs.making.list_of.Goals as goal

pub returns-in-Ok-new-clause-made : goal.returns-in-Ok-new-clause-made
returns-in-Ok-new-clause-made c =
    let space = list_space c.in-Ok-new.item 0 None ∙ ap (λ s. ListOf s 0 None) (ap space_of c.in-Ok-new.ensures.ok ∙ c.in-Ok.ensures) in
    (sym c.has_list.ensures ∙ c.if-has_list.false, space)

pub returns-in-Ok-new-clause-sound : goal.returns-in-Ok-new-clause-sound
returns-in-Ok-new-clause-sound c =
    let space = list_space c.in-Ok-new.item 0 None ∙ ap (λ s. ListOf s 0 None) (ap space_of c.in-Ok-new.ensures.ok ∙ c.in-Ok.ensures) in
    subst Sound (sym space) (c.requires, sym c.has_list.ensures ∙ c.if-has_list.false, tt)
