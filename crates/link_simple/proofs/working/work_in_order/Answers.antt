use Rattle.std.proofs.Common.{◌≡◌, ◌+◌, ◌<◌, ◌∷◌, ℕ, Bool, true, false, List, arith, drop, length, replicate, set, get_or, ◌∙◌, subst}
use Rattle.std.proofs.lemmas.List.{length-map, drop_more}
use Rattle.link_names.specs.Cycles.{numbers_in, parts_in, edges}
use Rattle.link_names.specs.Private.Searching.{unseen}
use Rattle.link_names.specs.CyclesSeen.{definition_of, definitions_of}
use Rattle.link_names.specs.declared.definitions.SimpleType.{SimpleType}
use Rattle.link_names.proofs.Walks.{set_less}
use Rattle.link_simple.specs.Private.Ordering.{Follow}
use Rattle.link_simple.proofs.Finishing.{none_unseen, all_unseen}
use Rattle.link_simple.proofs.working.work_in_order.Goals as goal

-- as many nodes as types
nodes : (xs : List SimpleType) → length (edges (definitions_of xs)) ≡ length xs
nodes xs = length-map (definitions_of xs) (parts_in (numbers_in (definitions_of xs))) ∙ length-map xs definition_of

-- the next of the order and those behind it
next : (g : List (List ℕ)) (done : List Bool) (order : List ℕ) (i : ℕ) → i < length order → Follow g done (drop i order) → Follow g done (get_or order i 0 ∷ drop (i + 1) order)
next g done order i lt f = subst (Follow g done) (drop_more order i 0 lt) f

pub order-init : goal.order-init
order-init c =
    let xs = c.args.definitions.now in
    let g = edges (definitions_of xs) in (
      replicate (length xs) false,
      c.in_ok-work.ensures,
      subst (λ k. Follow g (replicate k false) c.args.order.now) (nodes xs) c.requires.order.follow,
      (let none = all_unseen (length xs) in omega (arith, none)),
    )

pub make-requires-clause-ready : goal.make-requires-clause-ready
make-requires-clause-ready c =
    let i = c.order.invariant in
    let f = next (edges (definitions_of c.args.definitions.now)) i.0 c.args.order.now c.order.n-index c.order-test.true i.2 in
    (i.0, i.1, f.0)

pub order-preserved : goal.order-preserved
order-preserved c =
    let i = c.order.invariant in
    let n = get_or c.args.order.now c.order.n-index 0 in
    let f = next (edges (definitions_of c.args.definitions.now)) i.0 c.args.order.now c.order.n-index c.order-test.true i.2 in
    let less = set_less i.0 n f.0.within f.0.free in
    let count = i.3 in (
      set i.0 n true,
      c.in_ok-make.ensures i.0 i.1 f.0,
      f.1,
      omega (arith, less, count),
    )

pub returns : goal.returns
returns c =
    let past = c.order-test.false in
    let long = c.requires.order.long in
    let same = nodes c.args.definitions.now in
    let i = c.order.invariant in
    let count = i.3 in
    let none : unseen i.0 ≡ 0 = omega (arith, past, long, same, count) in
    (i.0, record { stands = i.1; all = none_unseen i.0 none })
