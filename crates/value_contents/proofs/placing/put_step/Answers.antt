use Rattle.std.proofs.Common.{◌≡◌, ◌<◌, Some, sym, ◌∙◌, ap, subst}
use Rattle.base_trees.specs.Rose.{node_count}
use Rattle.content_models.specs.Seen.{seen}
use Rattle.content_models.specs.Clear.{IsNoAll}
use Rattle.content_models.specs.Spots.{enter, next}
use Rattle.content_models.specs.SpotLaws.{step_from}
use Rattle.content_match.specs.Private.Standing.{spot_of, spot_now}
use Rattle.value_builder.specs.Built.{Puts}
use Rattle.value_contents.specs.Private.Moves.{top_entered, top_moved}
use Rattle.value_contents.proofs.Kids.{on-ok}
use Rattle.value_contents.proofs.Tops.{fillable-no-all, now-is, now-some, now-none, turns-none, turns-some, first-promised, next-promised}
use Rattle.value_contents.proofs.placing.put_step.Goals as goal

pub put_first-requires-clause-no_all : goal.put_first-requires-clause-no_all
put_first-requires-clause-no_all c = subst (λ t. IsNoAll (seen t)) (sym c.root.ensures.root) (fillable-no-all (seen c.args.model.now) c.requires.fillable)

pub put_first-requires-clause-few : goal.put_first-requires-clause-few
put_first-requires-clause-few c = subst (λ t. node_count t < 2147483648) (sym c.root.ensures.root) c.requires.few

pub put_first-requires-clause-leads : goal.put_first-requires-clause-leads
put_first-requires-clause-leads c =
    let a = c.requires.step.0 in
    let from = c.args.from in
    let to = c.args.to in
    let there = sym (now-is to.turns.now to.kids.now c.requires.step.1 c.requires.step.3) in
    let start = now-none from.turns.now from.kids.now (turns-none from.turns.now c.if-is_empty.ensures) in
    let e = subst (λ o. step_from (seen c.args.model.now) o a ≡ Some (spot_of to.turns.now to.kids.now)) start (c.requires.step.2 ∙ ap Some there) in
    (a, subst (λ t. enter (seen t) a ≡ Some (spot_of to.turns.now to.kids.now)) (sym c.root.ensures.root) e)

pub returns-then-is_empty : goal.returns-then-is_empty
returns-then-is_empty c =
    let p = seen c.args.model.now in
    let a = c.requires.step.0 in
    let from = c.args.from in
    let to = c.args.to in
    let u = spot_of to.turns.now to.kids.now in
    let there = sym (now-is to.turns.now to.kids.now c.requires.step.1 c.requires.step.3) in
    let start = now-none from.turns.now from.kids.now (turns-none from.turns.now c.if-is_empty.ensures) in
    let old = c.args.values.now in
    let new = c.put_first.new.values in
    record {
      most = on-ok c.put_first.result _ _ (λ put. put.most) c.put_first.ensures;
      reached = on-ok c.put_first.result _ _
          (λ put. first-promised p (spot_now from.turns.now from.kids.now) (spot_now to.turns.now to.kids.now) u a old new c.requires.fillable start
          (c.requires.step.3 ∙ ap Some there) (c.requires.step.2 ∙ ap Some there) (subst (λ t. Puts (top_entered (seen t) u) old new) c.root.ensures.root put))
          c.put_first.ensures;
    }

pub put_next-requires-clause-no_all : goal.put_next-requires-clause-no_all
put_next-requires-clause-no_all c = subst (λ t. IsNoAll (seen t)) (sym c.root-else-is_empty.ensures.root) (fillable-no-all (seen c.args.model.now) c.requires.fillable)

pub put_next-requires-clause-few : goal.put_next-requires-clause-few
put_next-requires-clause-few c = subst (λ t. node_count t < 2147483648) (sym c.root-else-is_empty.ensures.root) c.requires.few

pub put_next-requires-clause-leads : goal.put_next-requires-clause-leads
put_next-requires-clause-leads c =
    let a = c.requires.step.0 in
    let from = c.args.from in
    let to = c.args.to in
    let s = spot_of from.turns.now from.kids.now in
    let there = sym (now-is to.turns.now to.kids.now c.requires.step.1 c.requires.step.3) in
    let some = now-some from.turns.now from.kids.now (turns-some from.turns.now c.if-is_empty.ensures) in
    let e = subst (λ o. step_from (seen c.args.model.now) o a ≡ Some (spot_of to.turns.now to.kids.now)) some (c.requires.step.2 ∙ ap Some there) in
    (a, subst (λ t. next (seen t) s a ≡ Some (spot_of to.turns.now to.kids.now)) (sym c.root-else-is_empty.ensures.root) e)

pub returns-else-is_empty : goal.returns-else-is_empty
returns-else-is_empty c =
    let p = seen c.args.model.now in
    let a = c.requires.step.0 in
    let from = c.args.from in
    let to = c.args.to in
    let s = spot_of from.turns.now from.kids.now in
    let u = spot_of to.turns.now to.kids.now in
    let there = sym (now-is to.turns.now to.kids.now c.requires.step.1 c.requires.step.3) in
    let some = now-some from.turns.now from.kids.now (turns-some from.turns.now c.if-is_empty.ensures) in
    let old = c.args.values.now in
    let new = c.put_next.new.values in
    record {
      most = on-ok c.put_next.result _ _ (λ put. put.most) c.put_next.ensures;
      reached = on-ok c.put_next.result _ _
          (λ put. next-promised p (spot_now from.turns.now from.kids.now) (spot_now to.turns.now to.kids.now) s u a old new c.requires.fillable some
          (c.requires.step.3 ∙ ap Some there) (c.requires.step.2 ∙ ap Some there) (subst (λ t. Puts (top_moved (seen t) s u) old new) c.root-else-is_empty.ensures.root put))
          c.put_next.ensures;
    }
