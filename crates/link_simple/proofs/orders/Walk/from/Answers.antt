use Rattle.std.proofs.Common.{◌≡◌, ◌<◌, ◌∷◌, ◌++◌, [], ℕ, Bool, List, arith, true, inl, inr, length, sym, ap, ◌∙◌, subst, Vec}
use Rattle.std.specs.Global.{Global}
use Rattle.std.proofs.lemmas.List.{length-map}
use Rattle.link_names.specs.Graphs.{rows_of}
use Rattle.link_names.specs.Private.Searching.{mark}
use Rattle.link_names.proofs.Walks.{mark_is}
use Rattle.link_simple.specs.Private.Ordering.{Walked, IsHeld, step}
use Rattle.link_simple.proofs.Following.{walked_start, held_first, smaller}
use Rattle.link_simple.proofs.orders.Walk.from.Goals as goal

nodes : (g : List (Vec ℕ Global)) (n : ℕ) → n < length g → n < length (rows_of g)
nodes g n lt = let long = length-map g (λ (v : Vec ℕ Global). v.items) in omega (arith, long, lt)

within : (g : List (Vec ℕ Global)) (n : ℕ) (done : List Bool) → n < length g → length done ≡ length (rows_of g) → n < length done
within g n done lt long = let node = nodes g n lt in omega (arith, long, node)

pub returns-then-index-clause-kept : goal.returns-then-index-clause-kept
returns-then-index-clause-kept c = λ n h.
    let done = c.args.self.now.done.items in
    let lt = within c.args.graph.now c.args.node done c.requires.node c.requires.walked.long in
    elim h [
      | inl e ↦ e
      | inr same ↦ subst (λ x. mark done x ≡ true) same (mark_is done c.args.node c.index.result.now lt c.index.ensures ∙ c.if-index.true)
    ]

pub way-init : goal.way-init
way-init c =
    let w = c.args.self.now in
    let done = w.done.items in
    let g = rows_of c.args.graph.now in
    let lt = within c.args.graph.now c.args.node done c.requires.node c.requires.walked.long in
    let free = mark_is done c.args.node c.index.result.now lt c.index.ensures ∙ c.if-index.false in
    let way = c.in_ok-push.ensures.items ∙ ap (λ ss. ss ++ step c.args.node 0 ∷ []) c.requires.none in
    let start = walked_start g done w.order.items c.args.node c.requires.walked (nodes c.args.graph.now c.args.node c.requires.node) free in (
      subst (λ ss. Walked g ss done w.order.items) (sym way) start,
      λ n h. subst (λ ss. IsHeld ss done n) (sym way) (held_first done c.args.node n h),
    )

pub way-smaller : goal.way-smaller
way-smaller c =
    let new = c.go_on.new.self in
    smaller (rows_of c.args.graph.now) c.requires.acyclic c.way.self.way.items new.way.items c.pop.new.self.items c.in-Some.step c.way.self.done.items new.done.items new.order.items
    c.in-Some.ensures.items c.in_ok-go_on.ensures.walked c.in_ok-go_on.ensures.less
