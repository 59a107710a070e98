use Rattle.std.proofs.Common.{◌≡◌, None, refl, inl, sym, ◌∙◌, ap}
use Rattle.schema_components.specs.Components.{global_elements}
use Rattle.transcode_words.specs.Seen.{root_seen}
use Rattle.transcode_core.specs.Steps.{number_named}
use Rattle.transcode_core.proofs.Roots.{number-none, number-some}
use Rattle.transcode_core.proofs.linking.root_number.Goals as goal

pub returns-in-Some : goal.returns-in-Some
returns-in-Some c =
    let globals = global_elements c.args.set.now in
    ap (λ a. number_named a globals) (sym c.in_ok-name.ensures.ok)
    ∙ number-some c.in_ok-name.name globals c.in-Some.n c.element_count.ensures.linked.elements_apart c.in-Some.ensures

pub returns : goal.returns
returns c =
    let globals = global_elements c.args.set.now in
    let absent : number_named (root_seen c.args.root) globals ≡ None =
    ap (λ a. number_named a globals) (sym c.in_ok-name.ensures.ok) ∙ number-none c.in_ok-name.name globals c.in-None.ensures in
    inl ((absent, refl), tt)
