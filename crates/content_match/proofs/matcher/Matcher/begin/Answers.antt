use Rattle.std.proofs.Common.{◌∙◌, sym, subst}
use Rattle.content_models.specs.Clear.{IsNoAll}
use Rattle.content_match.specs.Private.Tops.{particle_of_top}
use Rattle.content_match.proofs.Readying.{roomy, within, unmarked, unrequired}
use Rattle.content_match.proofs.Standing.{stands_first}
use Rattle.content_match.proofs.Taken.{start_took}
use Rattle.content_match.proofs.matcher.Matcher.begin.Goals as goal

pub invariant_of-result : goal.invariant_of-result
invariant_of-result c =
    let top = c.plan.inside.top in
    let kept = c.plan.invariant in
    let ready = c.requires.ready in
    let no_all : IsNoAll (particle_of_top top) = subst IsNoAll (sym c.plan.view_is) c.requires.no_all in
    record {
      plan = kept.plan;
      clear = kept.clear;
      may_occur = kept.may_occur;
      empty_is = kept.empty_is;
      room = (roomy c.args.plan.now top _ c.plan.view_is kept.plan ready.turns_room, roomy c.args.plan.now top _ c.plan.view_is kept.plan ready.kids_room);
      stands = stands_first top (record { turns = c.args.lists.turns; kids = c.args.lists.kids; marks = c.new.result; wanted = 0 })
          kept.plan kept.clear ready.turns ready.kids (c.new.ensures.items ∙ sym (unmarked top no_all)) (sym (unrequired top no_all));
      small = within c.args.lists.turns.items ready.turns;
    }

pub returns-clause-took : goal.returns-clause-took
returns-clause-took c =
    start_took (particle_of_top c.plan.inside.top) c.args.lists.turns.items c.args.lists.kids.items c.new.result.items
    c.plan.invariant.clear c.plan.invariant.may_occur c.requires.ready.turns c.requires.ready.kids
