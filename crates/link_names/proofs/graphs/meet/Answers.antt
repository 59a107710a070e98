use Rattle.std.proofs.Common.{◌++◌, ◌∷◌, [], arith, inl, inr, sym, ◌∙◌, subst, true}
use Rattle.std.proofs.Math.ListN.{set}
use Rattle.link_names.specs.Private.Searching.{Opened}
use Rattle.link_names.proofs.Walks.{opened_old, opened_new, mark_is}
use Rattle.link_names.proofs.graphs.meet.Goals as goal

pub returns-then-n-len : goal.returns-then-n-len
returns-then-n-len c = λ s w ns h.
    let beyond = c.if-n-len.true in
    let long = c.len.ensures in
    opened_old s w c.args.seen.now.items c.args.waiting.now.items ns c.args.n h (inl (omega arith))

pub returns-then-index : goal.returns-then-index
returns-then-index c = λ s w ns h.
    let a = c.index.ensures in
    let b = c.len.ensures in
    let d = c.if-index.true in
    opened_old s w c.args.seen.now.items c.args.waiting.now.items ns c.args.n h (inr (mark_is c.args.seen.now.items c.args.n c.index.result.now (omega arith) a ∙ d))

pub returns : goal.returns
returns c = λ s w ns h.
    let a = c.index.ensures in
    let b = c.len.ensures in
    let d = c.if-index.false in
    subst (λ p. Opened s w (set c.args.seen.now.items c.args.n true) p (ns ++ c.args.n ∷ [])) (sym c.in_ok-push.ensures.items)
    (opened_new s w c.args.seen.now.items c.args.waiting.now.items ns c.args.n h (omega arith) (mark_is c.args.seen.now.items c.args.n c.index.result.now (omega arith) a ∙ d))
