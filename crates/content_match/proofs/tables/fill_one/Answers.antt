use Rattle.std.proofs.Common.{◌≡◌, suc, ◌+◌, ◌-◌, ◌++◌, drop, Some, cond, sym, ◌∙◌, ap, subst, arith}
use Rattle.indexmap.specs.IndexMap.{get}
use Rattle.base_trees.specs.Rose.{roses_of}
use Rattle.base_texts.specs.declared.texts.Name.{Name}
use Rattle.base_texts.specs.Names.{name_eq}
use Rattle.content_models.specs.Particle.{more}
use Rattle.content_models.specs.Clear.{first}
use Rattle.content_models.specs.Private.Deciding.{has, lent}
use Rattle.content_models.specs.Seen.{seen, all_seen}
use Rattle.content_models.proofs.Steps.{kids_back}
use Rattle.content_match.specs.Private.Plans.{pick_one}
use Rattle.content_models.specs.Spots.{over}
use Rattle.content_match.proofs.Tabling.{one_more, from_first}
use Rattle.content_match.proofs.tables.fill_one.Goals as goal

pub kids-preserved : goal.kids-preserved
kids-preserved c =
    let kid = c.index-kids-i.result in
    let rest = all_seen (roses_of (drop c.kids.i c.args.kids.now)) in
    let within = c.kids.invariant.within in
    let positive = c.kids-test.true in
    let back : all_seen (roses_of (drop (c.kids.i - 1) c.args.kids.now)) ≡ more (seen kid) rest =
    ap all_seen (kids_back c.args.kids.now c.kids.i kid positive within c.index-kids-i.is) in
    let one : c.kids.i ≡ suc (c.kids.i - 1) = omega (arith, positive) in
    let names : lent c.deref.result.now ≡ first (seen kid) =
    ap lent c.deref.ensures.value ∙ c.in_ok-push_first.ensures.0 ∙ ap (λ xs. lent xs ++ first (seen kid)) c.new-names.ensures.items in
    let built = subst (λ i. (a : Name) → get name_eq c.kids.table a ≡ over (λ k. i + k) (pick_one rest a)) one c.kids.invariant.built in
    record {
      within = omega (arith, within);
      built = subst (λ ps. (a : Name) → get name_eq c.insert_all.new.table a ≡ over (λ k. (c.kids.i - 1) + k) (pick_one ps a)) (sym back)
          (one_more (c.kids.i - 1) (seen kid) rest (get name_eq c.kids.table) (get name_eq c.insert_all.new.table) built
          (λ a. c.in_ok-insert_all.ensures a ∙ ap (λ xs. cond (has xs a) (Some (c.kids.i - 1)) (get name_eq c.kids.table a)) names));
    }

pub returns : goal.returns
returns c =
    let zero : c.kids.i ≡ 0 = let t = c.kids-test.false in omega (arith, t) in
    let built = subst (λ i. (a : Name) → get name_eq c.kids.table a ≡ over (λ k. i + k) (pick_one (all_seen (roses_of (drop i c.args.kids.now))) a)) zero c.kids.invariant.built in
    λ a. built a ∙ from_first (pick_one (all_seen (roses_of c.args.kids.now)) a)
