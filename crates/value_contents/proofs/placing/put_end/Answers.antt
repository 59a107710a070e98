use Rattle.std.proofs.Common.{◌≡◌, ◌<◌, true, sym, subst}
use Rattle.base_trees.specs.Rose.{node_count}
use Rattle.content_models.specs.Seen.{seen}
use Rattle.content_models.specs.Clear.{IsNoAll}
use Rattle.content_models.specs.Clear.{empties}
use Rattle.content_models.specs.Spots.{finishes}
use Rattle.content_models.specs.SpotLaws.{may_end}
use Rattle.content_match.specs.Private.Standing.{spot_of, spot_now}
use Rattle.value_builder.specs.Built.{Puts}
use Rattle.value_contents.specs.Private.Moves.{top_ended, top_emptied}
use Rattle.value_contents.proofs.Kids.{on-ok}
use Rattle.value_contents.proofs.Tops.{fillable-no-all, now-some, now-none, turns-none, turns-some, last-finished, none-finished}
use Rattle.value_contents.proofs.placing.put_end.Goals as goal

pub put_none-requires-clause-no_all : goal.put_none-requires-clause-no_all
put_none-requires-clause-no_all c = subst (λ t. IsNoAll (seen t)) (sym c.root.ensures.root) (fillable-no-all (seen c.args.model.now) c.requires.fillable)

pub put_none-requires-clause-few : goal.put_none-requires-clause-few
put_none-requires-clause-few c = subst (λ t. node_count t < 2147483648) (sym c.root.ensures.root) c.requires.few

pub put_none-requires-clause-empty : goal.put_none-requires-clause-empty
put_none-requires-clause-empty c =
    let from = c.args.from in
    let start = now-none from.turns.now from.kids.now (turns-none from.turns.now c.if-is_empty.ensures) in
    subst (λ t. empties (seen t) ≡ true) (sym c.root.ensures.root) (subst (λ o. may_end (seen c.args.model.now) o ≡ true) start c.requires.ends)

pub returns-then-is_empty : goal.returns-then-is_empty
returns-then-is_empty c =
    let p = seen c.args.model.now in
    let from = c.args.from in
    let start = now-none from.turns.now from.kids.now (turns-none from.turns.now c.if-is_empty.ensures) in
    let old = c.args.values.now in
    let new = c.put_none.new.values in
    record {
      most = on-ok c.put_none.result _ _ (λ put. put.most) c.put_none.ensures;
      made = on-ok c.put_none.result _ _
          (λ put. none-finished p (spot_now from.turns.now from.kids.now) old new c.requires.fillable start c.requires.ends (subst (λ t. Puts (top_emptied (seen t)) old new) c.root.ensures.root put))
          c.put_none.ensures;
    }

pub put_last-requires-clause-no_all : goal.put_last-requires-clause-no_all
put_last-requires-clause-no_all c = subst (λ t. IsNoAll (seen t)) (sym c.root-else-is_empty.ensures.root) (fillable-no-all (seen c.args.model.now) c.requires.fillable)

pub put_last-requires-clause-few : goal.put_last-requires-clause-few
put_last-requires-clause-few c = subst (λ t. node_count t < 2147483648) (sym c.root-else-is_empty.ensures.root) c.requires.few

pub put_last-requires-clause-done : goal.put_last-requires-clause-done
put_last-requires-clause-done c =
    let from = c.args.from in
    let s = spot_of from.turns.now from.kids.now in
    let some = now-some from.turns.now from.kids.now (turns-some from.turns.now c.if-is_empty.ensures) in
    subst (λ t. finishes (seen t) s ≡ true) (sym c.root-else-is_empty.ensures.root) (subst (λ o. may_end (seen c.args.model.now) o ≡ true) some c.requires.ends)

pub returns-else-is_empty : goal.returns-else-is_empty
returns-else-is_empty c =
    let p = seen c.args.model.now in
    let from = c.args.from in
    let s = spot_of from.turns.now from.kids.now in
    let some = now-some from.turns.now from.kids.now (turns-some from.turns.now c.if-is_empty.ensures) in
    let old = c.args.values.now in
    let new = c.put_last.new.values in
    record {
      most = on-ok c.put_last.result _ _ (λ put. put.most) c.put_last.ensures;
      made = on-ok c.put_last.result _ _
          (λ put. last-finished p (spot_now from.turns.now from.kids.now) s old new c.requires.fillable some c.requires.ends (subst (λ t. Puts (top_ended (seen t) s) old new) c.root-else-is_empty.ensures.root put))
          c.put_last.ensures;
    }
