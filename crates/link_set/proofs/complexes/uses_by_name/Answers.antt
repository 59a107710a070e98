use Rattle.std.proofs.Common.{rules}
use Rattle.std.proofs.lemmas.List.Sorted.{answers_always, ranks_by}
use Rattle.base_texts.proofs.NameLaws.{name_cmp_total}
use Rattle.link_set.specs.Sets.{use_before}
use Rattle.link_set.proofs.Sorted.{sorted_once}
use Rattle.link_set.proofs.complexes.uses_by_name.Goals as goal

pub returns : goal.returns
returns c =
    let ordered = ranks_by name_cmp_total (λ u. u.name) in
    let sorted = c.in_ok-sort_by.ensures.sorted use_before ordered (answers_always _ _ _ (λ f a r g h. search rules)) in
    let stable = c.in_ok-sort_by.ensures.stable use_before ordered (answers_always _ _ _ (λ f a r g h. search rules)) in
    sorted_once use_before ordered c.args.uses.items c.sort_by.new.self.items sorted stable
