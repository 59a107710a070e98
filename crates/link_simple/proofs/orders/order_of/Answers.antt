use Rattle.std.proofs.Common.{◌≡◌, [], ℕ, arith, false, length, replicate, sym, ap, ◌∙◌, subst, Vec}
use Rattle.std.specs.Global.{Global}
use Rattle.std.proofs.lemmas.List.{length-map}
use Rattle.link_names.specs.Graphs.{rows_of}
use Rattle.link_simple.specs.Private.Ordering.{Walked}
use Rattle.link_simple.proofs.Following.{walked_first, walked_end}
use Rattle.link_simple.proofs.orders.order_of.Goals as goal

pub nodes-init : goal.nodes-init
nodes-init c =
    let g = rows_of c.args.graph.now in
    let w = c.in_ok-walk.walk in
    let done : w.done.items ≡ replicate (length g) false = c.in_ok-walk.ensures.done ∙ ap (λ k. replicate k false) (sym (length-map c.args.graph.now (λ (v : Vec ℕ Global). v.items))) in (
      subst (Walked g [] w.done.items) (sym c.in_ok-walk.ensures.order) (subst (λ bs. Walked g [] bs []) (sym done) (walked_first g)),
      c.in_ok-walk.ensures.way,
      λ n none. absurd (omega (arith, none)),
    )

pub returns : goal.returns
returns c =
    let g = rows_of c.args.graph.now in
    let w = c.nodes.walk in
    let long = length-map c.args.graph.now (λ (v : Vec ℕ Global). v.items) in
    let past = c.nodes-test.false in
    record {
      follow = c.nodes.invariant.0.follow;
      long = walked_end g w.done.items w.order.items c.nodes.invariant.0 (λ n lt. c.nodes.invariant.2 n (omega (arith, lt, long, past)));
    }
