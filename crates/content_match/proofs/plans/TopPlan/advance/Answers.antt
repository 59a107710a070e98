use Rattle.std.proofs.Common.{refl, sym, subst}
use Rattle.content_match.specs.Private.Plans.{particle_of}
use Rattle.content_match.specs.Private.Tops.{IsTop, Gone}
use Rattle.content_match.specs.declared.places.Position.{Position}
use Rattle.content_match.proofs.Standing.{tree_gone}
use Rattle.content_match.proofs.plans.TopPlan.advance.Goals as goal

pub returns-in-Tree-clause-gone : goal.returns-in-Tree-clause-gone
returns-in-Tree-clause-gone g c =
    let old = c.args.position.now in
    let t = c.in-Tree.tree in
    let plan = subst (λ top. IsTop top) c.in-Tree.is c.requires.plan in
    let new : Position = record { turns = c.go_on.new.turns; kids = c.go_on.new.kids; marks = old.marks; wanted = old.wanted } in
    subst (λ top. Gone top old new c.args.name.now c.go_on.result) (sym c.in-Tree.is)
    (tree_gone t old new c.args.name.now plan refl refl c.go_on.result (c.go_on.ensures.gone 0 (particle_of t) plan))
