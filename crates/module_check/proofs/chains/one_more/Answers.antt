use Rattle.std.proofs.Common.{Bool, ◌++◌, ◌∷◌, [], take, map, ap, sym, ◌∙◌}
use Rattle.std.specs.Option.{option_map}
use Rattle.std.proofs.lemmas.List.{take_all}
use Rattle.module_text.specs.declared.modules.PlainAssignment.{PlainAssignment}
use Rattle.module_text.specs.Resolving.{near_references}
use Rattle.module_check.specs.Known.{leads_in}
use Rattle.module_check.proofs.Chaining.{map-more}
use Rattle.module_check.proofs.chains.one_more.Goals as goal

pub assignments-preserved : goal.assignments-preserved
assignments-preserved c =
    let P = c.args.followed.now.assignments.now in
    let i = c.assignments.assignment-index in
    let f : PlainAssignment → Bool = λ (a : PlainAssignment). near_references (leads_in (option_map (λ w. w.now) c.args.followed.now.within) P) a.body in
    c.in_ok-push.ensures.items
    ∙ ap (λ bs. bs ++ c.near.result ∷ []) c.assignments.invariant
    ∙ ap (λ b. map f (take i P) ++ b ∷ []) c.near.ensures
    ∙ sym (map-more f P i c.assignment-item.result c.assignments-test.true c.assignment-item.is)

pub returns : goal.returns
returns c =
    let P = c.args.followed.now.assignments.now in
    let f : PlainAssignment → Bool = λ (a : PlainAssignment). near_references (leads_in (option_map (λ w. w.now) c.args.followed.now.within) P) a.body in
    c.assignments.invariant ∙ ap (map f) (take_all c.assignments.assignment-index P c.assignments-test.false)
