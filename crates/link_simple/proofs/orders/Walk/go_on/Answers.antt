use Rattle.std.proofs.Common.{rules, ◌≡◌, ◌<◌, ◌≤◌, ◌+◌, ◌*◌, ◌∷◌, ◌++◌, [], ℕ, Bool, List, arith, true, length, take, set, get_or, sym, ◌∙◌, subst, Vec, Some, None, Option}
use Rattle.std.specs.Global.{Global}
use Rattle.std.proofs.lemmas.List.{length-map}
use Rattle.std.proofs.lemmas.Result.{on_ok_weaker}
use Rattle.base_texts.specs.Lists.{HasItem}
use Rattle.link_names.specs.Graphs.{rows_of, row}
use Rattle.link_names.specs.Private.Searching.{mark, unseen}
use Rattle.link_names.proofs.Walks.{row_is}
use Rattle.link_simple.specs.declared.orders.Step.{Step}
use Rattle.link_simple.specs.Private.Ordering.{IsAcyclic, IsInside, IsFirstOpen, Walked, IsHeld, step}
use Rattle.link_simple.proofs.Following.{is_node, edges_within, edges_followed, edge_found, walked_on, walked_back, held_on, held_back, less_back}
use Rattle.link_simple.proofs.orders.Walk.go_on.Goals as goal

module _
    (g : List (Vec ℕ Global)) (inside : IsInside (rows_of g)) (acyclic : IsAcyclic (rows_of g)) (way : List Step) (s : Step) (done : List Bool) (order : List ℕ)
    (h : Walked (rows_of g) (way ++ s ∷ []) done order) where
  node_within : s.node < length g
  node_within =
      let long = length-map g (λ (v : Vec ℕ Global). v.items) in
      let lt = is_node (rows_of g) inside acyclic way s done order h in
      omega (arith, long, lt)

  -- the edges of the node
  nodes_are : (v : Vec ℕ Global) (nodes : List ℕ) → v ≡ get_or g s.node v → nodes ≡ v.items → nodes ≡ row (rows_of g) s.node
  nodes_are v nodes at is = is ∙ sym (row_is g s.node v node_within at)

  -- what was found among them
  found_is : (nodes : List ℕ) (marks : List Bool) (found : Option ℕ) → nodes ≡ row (rows_of g) s.node → marks ≡ done → IsFirstOpen nodes marks found
      → IsFirstOpen (row (rows_of g) s.node) done found
  found_is nodes marks found is same first = subst (λ ns. IsFirstOpen ns done found) is (subst (λ bs. IsFirstOpen nodes bs found) same first)

pub offset_bounds-graph-step : goal.offset_bounds-graph-step
offset_bounds-graph-step c =
    let w = c.args.self.now in
    let lt = node_within c.args.graph.now c.requires.inside c.requires.acyclic w.way.items c.args.step w.done.items w.order.items c.requires.walked in
    search rules

pub bounds-graph-step : goal.bounds-graph-step
bounds-graph-step c =
    let w = c.args.self.now in
    node_within c.args.graph.now c.requires.inside c.requires.acyclic w.way.items c.args.step w.done.items w.order.items c.requires.walked

pub first_open-requires-clause-within : goal.first_open-requires-clause-within
first_open-requires-clause-within c =
    let w = c.args.self.now in
    let g = rows_of c.args.graph.now in
    let nodes = nodes_are c.args.graph.now c.requires.inside c.requires.acyclic w.way.items c.args.step w.done.items w.order.items c.requires.walked
    c.index-graph-step.result c.deref.result.now c.index-graph-step.is c.deref.ensures.value in
    λ m edge.
    subst (λ bs. m < length bs) (sym c.deref-2.ensures.value)
    (edges_within g c.requires.inside c.requires.acyclic w.way.items c.args.step w.done.items w.order.items c.requires.walked m (subst (λ ns. HasItem ns m) nodes edge))

pub first_open-requires-clause-followed : goal.first_open-requires-clause-followed
first_open-requires-clause-followed c =
    let w = c.args.self.now in
    let s = c.args.step in
    let g = rows_of c.args.graph.now in
    let nodes = nodes_are c.args.graph.now c.requires.inside c.requires.acyclic w.way.items s w.done.items w.order.items c.requires.walked
    c.index-graph-step.result c.deref.result.now c.index-graph-step.is c.deref.ensures.value in
    λ m edge.
    subst (λ bs. mark bs m ≡ true) (sym c.deref-2.ensures.value)
    (edges_followed g c.requires.inside c.requires.acyclic w.way.items s w.done.items w.order.items c.requires.walked m
    (subst (λ ns. HasItem (take s.followed ns) m) nodes edge))

pub finish-requires : goal.finish-requires
finish-requires c =
    let w = c.args.self.now in
    let lt = is_node (rows_of c.args.graph.now) c.requires.inside c.requires.acyclic w.way.items c.args.step w.done.items w.order.items c.requires.walked in
    let long = c.requires.walked.long in
    omega (arith, lt, long)

pub returns-in-Some-clause-walked : goal.returns-in-Some-clause-walked
returns-in-Some-clause-walked c =
    let w = c.args.self.now in
    let s = c.args.step in
    let g = rows_of c.args.graph.now in
    let k = c.in-Some.edge in
    let n = c.index.result.now in
    let v = c.index-graph-step.result in
    let nodes = nodes_are c.args.graph.now c.requires.inside c.requires.acyclic w.way.items s w.done.items w.order.items c.requires.walked
    v c.deref.result.now c.index-graph-step.is c.deref.ensures.value in
    let first = found_is c.args.graph.now c.requires.inside c.requires.acyclic w.way.items s w.done.items w.order.items c.requires.walked
    c.deref.result.now c.deref-2.result.now (Some k) nodes c.deref-2.ensures.value c.in-Some.ensures in
    let at = subst (λ ns. n ≡ get_or ns k n) (sym c.deref.ensures.value ∙ nodes) c.index.ensures in
    let edge = edge_found g c.requires.inside c.requires.acyclic w.way.items s w.done.items w.order.items c.requires.walked k n first at in
    let next = walked_on g c.requires.inside c.requires.acyclic w.way.items s w.done.items w.order.items c.requires.walked k n edge.0 edge.1 first.2 in
    on_ok_weaker c.follow.result
    (λ is. subst (λ ss. Walked g ss c.follow.new.self.done.items c.follow.new.self.order.items) (sym is)
    (subst (λ bs. Walked g (w.way.items ++ step s.node k ∷ [] ++ step n 0 ∷ []) bs c.follow.new.self.order.items) (sym c.follow.ensures.done)
    (subst (Walked g (w.way.items ++ step s.node k ∷ [] ++ step n 0 ∷ []) w.done.items) (sym c.follow.ensures.order) next)))
    c.follow.ensures.way

pub returns-in-Some-clause-held : goal.returns-in-Some-clause-held
returns-in-Some-clause-held c =
    let w = c.args.self.now in
    let s = c.args.step in
    let g = rows_of c.args.graph.now in
    on_ok_weaker c.follow.result
    (λ is m held. subst (λ ss. IsHeld ss c.follow.new.self.done.items m) (sym is)
    (subst (λ bs. IsHeld (w.way.items ++ step s.node c.in-Some.edge ∷ [] ++ step c.index.result.now 0 ∷ []) bs m) (sym c.follow.ensures.done)
    (held_on g c.requires.inside c.requires.acyclic w.way.items s w.done.items w.order.items c.requires.walked c.in-Some.edge c.index.result.now m held)))
    c.follow.ensures.way

pub returns-in-None-clause-walked : goal.returns-in-None-clause-walked
returns-in-None-clause-walked c =
    let w = c.args.self.now in
    let s = c.args.step in
    let g = rows_of c.args.graph.now in
    let nodes = nodes_are c.args.graph.now c.requires.inside c.requires.acyclic w.way.items s w.done.items w.order.items c.requires.walked
    c.index-graph-step.result c.deref.result.now c.index-graph-step.is c.deref.ensures.value in
    let all = found_is c.args.graph.now c.requires.inside c.requires.acyclic w.way.items s w.done.items w.order.items c.requires.walked
    c.deref.result.now c.deref-2.result.now None nodes c.deref-2.ensures.value c.in-None.ensures in
    let next = walked_back g c.requires.inside c.requires.acyclic w.way.items s w.done.items w.order.items c.requires.walked all in
    on_ok_weaker c.finish.result
    (λ is. subst (Walked g c.finish.new.self.way.items c.finish.new.self.done.items) (sym is)
    (subst (λ bs. Walked g c.finish.new.self.way.items bs (w.order.items ++ s.node ∷ [])) (sym c.finish.ensures.done)
    (subst (λ ss. Walked g ss (set w.done.items s.node true) (w.order.items ++ s.node ∷ [])) (sym c.finish.ensures.way) next)))
    c.finish.ensures.order

pub returns-in-None-clause-held : goal.returns-in-None-clause-held
returns-in-None-clause-held c =
    let w = c.args.self.now in
    let s = c.args.step in
    let g = rows_of c.args.graph.now in
    on_ok_weaker c.finish.result
    (λ is m held. subst (λ ss. IsHeld ss c.finish.new.self.done.items m) (sym c.finish.ensures.way)
    (subst (λ bs. IsHeld w.way.items bs m) (sym c.finish.ensures.done)
    (held_back g c.requires.inside c.requires.acyclic w.way.items s w.done.items w.order.items c.requires.walked m held)))
    c.finish.ensures.order

pub returns-in-None-clause-less : goal.returns-in-None-clause-less
returns-in-None-clause-less c =
    let w = c.args.self.now in
    let s = c.args.step in
    let less = less_back (rows_of c.args.graph.now) c.requires.inside c.requires.acyclic w.way.items s w.done.items w.order.items c.requires.walked in
    on_ok_weaker c.finish.result
    (λ is. subst (λ bs. 2 * unseen bs + length w.way.items + 2 ≤ 2 * unseen w.done.items + length c.finish.new.self.way.items) (sym c.finish.ensures.done)
    (subst (λ ss. 2 * unseen (set w.done.items s.node true) + length w.way.items + 2 ≤ 2 * unseen w.done.items + length ss) (sym c.finish.ensures.way) less))
    c.finish.ensures.order
