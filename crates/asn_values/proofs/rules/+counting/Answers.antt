use Rattle.std.proofs.Common.{◌≡◌, ◌+◌, ◌-◌, ◌^◌, min, Some, None, length, drop, sym, ◌∙◌, ap, subst, arith}
use Rattle.std.specs.Prelude.{map, replicate}
use Rattle.base_trees.specs.Rose.{roses_of, count_all}
use Rattle.base_trees.proofs.Roses.{node_count-kids}
use Rattle.asn_values.specs.Private.Placing.{place_seen, Found}
use Rattle.asn_values.specs.Values.{places, child_count, count_in}
use Rattle.asn_values.proofs.Counting.{if_ok, places-drop, drop-past, found_count, count_in-none, count_in-[], count_step}
use Rattle.asn_values.proofs.rules.+counting.Goals as goal

pub child_count-count_each-requires : goal.child_count-count_each-requires
child_count-count_each-requires t c =
    let d = c.decreases in
    let k = node_count-kids c.args.value.now in
    (rw c.kids-values.ensures (omega (arith, d, k)), tt)

pub child_count-count_all-requires : goal.child_count-count_all-requires
child_count-count_all-requires t c =
    let d = c.decreases in
    let k = node_count-kids c.args.value.now in
    (rw c.kids-values.ensures (omega (arith, d, k)), tt)

pub count_all-count_at-requires : goal.count_all-count_at-requires
count_all-count_at-requires t c =
    let d = c.decreases in
    let k = ap (λ us. count_all (roses_of us)) c.in-Some.ensures.steps in
    (omega (arith, d, k, c.values.invariant.fewer), tt)

pub count_each-count_at-requires : goal.count_each-count_at-requires
count_each-count_at-requires t c =
    let d = c.decreases in
    let k = ap (λ us. count_all (roses_of us)) c.in-Some.ensures.steps in
    (omega (arith, d, k, c.places.invariant.fewer), tt)

pub count_all-values-preserved : goal.count_all-values-preserved
count_all-values-preserved t c =
    let m = c.args.module.now in
    let values = c.args.values.now in
    let place = place_seen c.args.place.now in
    let next = c.in-Some.ensures.steps in
    let step = count_step m place (replicate (length c.values.value-iterator) place) (replicate (length c.next.new.self) place) c.in-Some.value c.values.value-iterator c.next.new.self c.values.count
    (min (count_in m (replicate (length values) place) (roses_of values)) (2 ^ 64 - 1)) next (ap (λ us. replicate (length us) place) next) c.values.invariant.so_far in
    let sum = c.saturating_add-count.ensures ∙ ap (λ x. min (c.values.count + x) (2 ^ 64 - 1)) c.in_ok-count_at.ensures in
    let k = ap (λ us. count_all (roses_of us)) next in
    record {
      fits = omega (arith, sum);
      so_far = step ∙ ap (λ x. min (x + count_in m (replicate (length c.next.new.self) place) (roses_of c.next.new.self)) (2 ^ 64 - 1)) (sym sum);
      fewer = omega (arith, k, c.values.invariant.fewer);
    }

pub count_each-places-preserved : goal.count_each-places-preserved
count_each-places-preserved t c =
    let m = c.args.module.now in
    let values = c.args.values.now in
    let ps = c.args.places.now in
    let i = c.places.place-index in
    let p = c.place-item.result in
    let next = c.in-Some.ensures.steps in
    let step = count_step m (place_seen p) (map place_seen (drop i ps)) (map place_seen (drop (i + 1) ps)) c.in-Some.value c.places.left c.next.new.self c.places.count
    (min (count_in m (map place_seen ps) (roses_of values)) (2 ^ 64 - 1)) next (places-drop ps i p c.places-test.true c.place-item.is) c.places.invariant.so_far in
    let sum = c.saturating_add-count.ensures ∙ ap (λ x. min (c.places.count + x) (2 ^ 64 - 1)) c.in_ok-count_at.ensures in
    let k = ap (λ us. count_all (roses_of us)) next in
    record {
      fits = omega (arith, sum);
      so_far = step ∙ ap (λ x. min (x + count_in m (map place_seen (drop (i + 1) ps)) (roses_of c.next.new.self)) (2 ^ 64 - 1)) (sym sum);
      fewer = omega (arith, k, c.places.invariant.fewer);
    }

pub count_all-returns : goal.count_all-returns
count_all-returns t c =
    let m = c.args.module.now in
    let place = place_seen c.args.place.now in
    let left = c.values.value-iterator in
    let done = ap (λ us. count_in m (replicate (length left) place) (roses_of us)) c.in-None.ensures.steps.0 ∙ count_in-none m (replicate (length left) place) in
    let so_far = c.values.invariant.so_far in
    let fits = c.values.invariant.fits in
    omega (arith, done, so_far, fits)

pub count_each-returns-in_default : goal.count_each-returns-in_default
count_each-returns-in_default t c =
    let m = c.args.module.now in
    let ps = map place_seen (drop c.places.place-index c.args.places.now) in
    let done = ap (λ us. count_in m ps (roses_of us)) c.in_default.ensures.steps.0 ∙ count_in-none m ps in
    let so_far = c.places.invariant.so_far in
    let fits = c.places.invariant.fits in
    omega (arith, done, so_far, fits)

pub count_each-returns : goal.count_each-returns
count_each-returns t c =
    let m = c.args.module.now in
    let left = roses_of c.places.left in
    let done = ap (λ qs. count_in m (map place_seen qs) left) (drop-past c.places.place-index c.args.places.now c.places-test.false) ∙ count_in-[] m left in
    let so_far = c.places.invariant.so_far in
    let fits = c.places.invariant.fits in
    omega (arith, done, so_far, fits)

pub child_count-returns-in-Some-Each : goal.child_count-returns-in-Some-Each
child_count-returns-in-Some-Each t c =
    let m = c.args.module.now in
    let ks = c.kids-values.result in
    let found = subst (λ n. Found n c.in_ok-places.field-0 (places c.resolve.result.now c.label.result.now n)) c.len.ensures c.in_ok-places.ensures in
    let is = subst (λ o. Found (length ks) o (places c.resolve.result.now c.label.result.now (length ks))) (c.in-Some-Each.is ∙ ap Some c.in-Some-Each.field-0-is) found in
    let all = found_count m c.args.node.now c.args.value.now c.resolve.result.now c.label.result.now ks (Some (map place_seen c.in-Some-Each.places.items)) c.resolve.ensures c.label.ensures c.kids-values.ensures is in
    let same = ap (λ ps. count_in m (map place_seen ps) (roses_of ks)) c.deref.ensures.value ∙ sym all in
    if_ok (λ n. n ≡ min (count_in m (map place_seen c.deref.result.now) (roses_of ks)) (2 ^ 64 - 1)) (λ n. n ≡ min (child_count m c.args.node.now c.args.value.now) (2 ^ 64 - 1)) c.count_each.result
    (λ n e. e ∙ ap (λ x. min x (2 ^ 64 - 1)) same) c.count_each.ensures

pub child_count-returns-in-Some-All : goal.child_count-returns-in-Some-All
child_count-returns-in-Some-All t c =
    let m = c.args.module.now in
    let ks = c.kids-values.result in
    let ps = replicate (length ks) (place_seen c.in-Some-All.place) in
    let found = subst (λ n. Found n c.in_ok-places.field-0 (places c.resolve.result.now c.label.result.now n)) c.len.ensures c.in_ok-places.ensures in
    let is = subst (λ o. Found (length ks) o (places c.resolve.result.now c.label.result.now (length ks))) (c.in-Some-All.is ∙ ap Some c.in-Some-All.field-0-is) found in
    let all = found_count m c.args.node.now c.args.value.now c.resolve.result.now c.label.result.now ks (Some ps) c.resolve.ensures c.label.ensures c.kids-values.ensures is in
    if_ok (λ n. n ≡ min (count_in m ps (roses_of ks)) (2 ^ 64 - 1)) (λ n. n ≡ min (child_count m c.args.node.now c.args.value.now) (2 ^ 64 - 1)) c.count_all.result
    (λ n e. e ∙ ap (λ x. min x (2 ^ 64 - 1)) (sym all)) c.count_all.ensures

pub child_count-returns-in-None : goal.child_count-returns-in-None
child_count-returns-in-None t c =
    let m = c.args.module.now in
    let ks = c.kids-values.result in
    let found = subst (λ n. Found n c.in_ok-places.field-0 (places c.resolve.result.now c.label.result.now n)) c.len.ensures c.in_ok-places.ensures in
    let is = subst (λ o. Found (length ks) o (places c.resolve.result.now c.label.result.now (length ks))) c.in-None.is found in
    let none = found_count m c.args.node.now c.args.value.now c.resolve.result.now c.label.result.now ks None c.resolve.ensures c.label.ensures c.kids-values.ensures is in
    ap (λ x. min x (2 ^ 64 - 1)) (sym none)
