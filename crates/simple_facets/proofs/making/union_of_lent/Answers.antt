use Rattle.std.proofs.Common.{sym, ap, ◌∙◌, subst, arith}
use Rattle.simple_types.specs.Space.{UnionOf}
use Rattle.simple_types.specs.Sound.{Sound}
use Rattle.simple_types.proofs.Seen.{union_space}
use Rattle.simple_facets.specs.Making.{lent_spaces}
use Rattle.simple_facets.proofs.Unions.{flattened_sound, flattened_some}
use Rattle.simple_facets.proofs.Counting.{count_lent}
use Rattle.simple_facets.proofs.making.union_of_lent.Goals as goal

pub returns-in-Ok-clause-made : goal.returns-in-Ok-clause-made
returns-in-Ok-clause-made c =
    let few = c.are_few_members.ensures.0 c.if-not-are_few_members.false in
    let few_items = c.are_few_items.ensures.0 c.if-not-are_few_items.false in
    ((few, few_items), union_space c.of.result ∙ ap UnionOf (c.of.ensures ∙ c.in-Ok.ensures))

pub returns-in-Ok-clause-sound : goal.returns-in-Ok-clause-sound
returns-in-Ok-clause-sound c =
    let ms = c.args.members.now in
    let ss = lent_spaces ms in
    let few = c.are_few_members.ensures.0 c.if-not-are_few_members.false in
    let space = union_space c.of.result ∙ ap UnionOf (c.of.ensures ∙ c.in-Ok.ensures) in
    let all = count_lent ms in
    let some = c.requires.some in
    subst Sound (sym space) ((flattened_some ss c.requires.sound (omega (arith, all, some)), omega (arith, few)), flattened_sound ss c.requires.sound)
