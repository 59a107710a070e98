use Rattle.std.proofs.Common.{rules, ◌≡◌, ◌++◌, true, sym, ◌∙◌, ap, ◌+◌, drop, arith}
use Rattle.schema_read.proofs.Words.{drop_all, roses_of, kids_of, own_attributes, kid-count-le, node_count-kids, bases_in, bindings_in, joined, and_inner, placed, defined, inner_types, is_in, Varieties, SimpleTypes}
use Rattle.schema_read.proofs.Bases.{joined-none, not_false}
use Rattle.schema_read.proofs.Simple.{inner_cut, its_simple_type, its_variety, made_same}
use Rattle.schema_read.proofs.simple_definitions.+simple_types.Goals as goal

pub inner_types-simple_type-requires : goal.inner_types-simple_type-requires
inner_types-simple_type-requires t c =
    let d = c.decreases in
    let k = kid-count-le c.args.kids.now c.loop-kid.kid-index c.kid-item.result c.loop-kid-test.true c.kid-item.is in
    (omega (arith, d, k), tt)

pub inner_types-loop-kid-preserved : goal.inner_types-loop-kid-preserved
inner_types-loop-kid-preserved t c =
    let scope = bindings_in c.args.scope.now in
    let rest = inner_types scope (roses_of (drop (c.loop-kid.kid-index + 1) c.args.kids.now)) in
    c.in_ok-push_inner.ensures rest
    ∙ (ap (λ f. joined (bases_in c.loop-kid.inner.items) (and_inner f rest)) c.in_ok-found.ensures
    ∙ (ap (joined (bases_in c.loop-kid.inner.items)) (sym (inner_cut scope c.args.kids.now c.loop-kid.kid-index c.kid-item.result c.loop-kid-test.true c.kid-item.is))
    ∙ c.loop-kid.invariant))

pub simple_type-variety_among-requires : goal.simple_type-variety_among-requires
simple_type-variety_among-requires t c =
    let d = c.decreases in
    let k = node_count-kids c.args.tree.now in
    (rw c.kids.ensures (omega (arith, d, k)), tt)

pub variety_among-variety_at-requires : goal.variety_among-variety_at-requires
variety_among-variety_at-requires t c =
    let d = c.decreases in
    let k = kid-count-le c.args.kids.now c.loop-kid.kid-index c.kid-item.result c.loop-kid-test.true c.kid-item.is in
    (omega (arith, d, k), tt)

pub variety_at-inner_types-requires : goal.variety_at-inner_types-requires
variety_at-inner_types-requires t c =
    let d = c.decreases in
    let k = node_count-kids c.args.tree.now in
    (rw c.kids.ensures (omega (arith, d, k)), tt)

pub inner_types-returns : goal.inner_types-returns
inner_types-returns t c =
    let scope = bindings_in c.args.scope.now in
    sym (joined-none (bases_in c.loop-kid.inner.items))
    ∙ (ap (λ l. joined (bases_in c.loop-kid.inner.items) (inner_types scope (roses_of l))) (sym (drop_all c.loop-kid.kid-index c.args.kids.now c.loop-kid-test.false))
    ∙ c.loop-kid.invariant)

pub simple_type-returns : goal.simple_type-returns
simple_type-returns t c =
    let found = rw (c.in_ok-inside.ensures, c.kids.ensures) at c.in_ok-found.ensures in
    let is : c.is_in.result ≡ true = first_of (assumption c.if-not-is_in.false, search (rules, not_false, c.if-not-is_in.false)) in
    c.defined.ensures
    ∙ (ap (defined c.in-Element.at) found
    ∙ its_simple_type (bindings_in c.args.scope.now) c.args.tree.now c.in-Element.name c.in-Element.attributes c.in-Element.declares c.in-Element.at (sym c.label.ensures ∙ c.in-Element.is)
    (sym (c.is_in.ensures ∙ ap (is_in SimpleTypes) c.label-2.ensures) ∙ is))

pub variety_at-returns : goal.variety_at-returns
variety_at-returns t c =
    let inner = rw (c.in_ok-inside.ensures, c.kids.ensures) at c.in_ok-inner.ensures in
    let own = rw c.items.ensures at c.in_ok-own.ensures in
    let made = c.in_ok-made.ensures
    ∙ made_same c.as_str.result.now c.in-Element.name.local (bindings_in c.in_ok-inside.inside) (c.in-Element.declares ++ bindings_in c.args.scope.now)
    c.deref.result.now (own_attributes c.in-Element.attributes) (bases_in c.in_ok-inner.inner.items)
    (inner_types (c.in-Element.declares ++ bindings_in c.args.scope.now) (roses_of (kids_of c.args.tree.now))) c.kids-2.result.now (kids_of c.args.tree.now)
    c.as_str.ensures c.in_ok-inside.ensures (c.deref.ensures.value ∙ own) inner c.kids-2.ensures in
    let is : c.is_in.result ≡ true = first_of (assumption c.if-not-is_in.false, search (rules, not_false, c.if-not-is_in.false)) in
    c.placed.ensures
    ∙ (ap (placed c.in-Element.at) made
    ∙ its_variety (bindings_in c.args.scope.now) c.args.tree.now c.in-Element.name c.in-Element.attributes c.in-Element.declares c.in-Element.at (sym c.label.ensures ∙ c.in-Element.is)
    (sym (c.is_in.ensures ∙ ap (is_in Varieties) c.label-2.ensures) ∙ is))
