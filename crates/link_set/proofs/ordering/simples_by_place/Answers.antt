use Rattle.std.proofs.Common.{refl, rules}
use Rattle.std.proofs.lemmas.List.Sorted.{answers_always}
use Rattle.link_names.specs.CyclesSeen.{definition_of}
use Rattle.link_set.specs.Written.{simple_before}
use Rattle.link_set.proofs.Sorted.{by_places}
use Rattle.link_set.proofs.ordering.simples_by_place.Goals as goal

pub returns : goal.returns
returns c =
    let sorted = c.in_ok-sort_by_key.ensures.sorted (λ t. (t.place.file, t.place.at)) (answers_always _ _ _ (λ f a r g h. search rules)) in
    let stable = c.in_ok-sort_by_key.ensures.stable (λ t. (t.place.file, t.place.at)) (answers_always _ _ _ (λ f a r g h. search rules)) in
    by_places definition_of (λ t. t.place) simple_before (λ a b. refl) c.args.found.items c.sort_by_key.new.self.items sorted stable
