use Rattle.std.proofs.Common.{refl, rules}
use Rattle.std.proofs.lemmas.List.Sorted.{answers_always}
use Rattle.link_set.specs.Private.Made.{made_one}
use Rattle.link_set.specs.Sets.{made_before}
use Rattle.link_set.proofs.Sorted.{by_places}
use Rattle.link_set.proofs.simples.made_by_place.Goals as goal

pub returns : goal.returns
returns c =
    let sorted = c.in_ok-sort_by_key.ensures.sorted (λ t. (t.definition.place.file, t.definition.place.at)) (answers_always _ _ _ (λ f a r g h. search rules)) in
    let stable = c.in_ok-sort_by_key.ensures.stable (λ t. (t.definition.place.file, t.definition.place.at)) (answers_always _ _ _ (λ f a r g h. search rules)) in
    by_places made_one (λ t. t.definition.place) made_before (λ a b. refl) c.args.made.items c.sort_by_key.new.self.items sorted stable
