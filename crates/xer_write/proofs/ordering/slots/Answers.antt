use Rattle.std.proofs.Common.{ℕ, ◌<◌, ◌+◌, ◌-◌, ◌∙◌, sym, ap, ◌++◌, ◌∷◌, [], drop, Some, None, arith}
use Rattle.std.specs.List.{range_with_len}
use Rattle.asn_values.specs.Ordering.{slots}
use Rattle.xer_write.proofs.Places.{slot-taken, slot-left}
use Rattle.xer_write.proofs.ordering.slots.Goals as goal
use Rattle.xer_write.proofs.ordering.slots.Goals.{then-flag+else-next-end+in_ok-push, else-flag+in_ok-push-2}

pub flags-preserved : goal.flags-preserved
flags-preserved c =
    let flags = c.args.flags.now in
    let k = c.flags.flag-index in
    let end = c.args.end in
    elim c.if-flag.branch [
      | then-flag+else-next-end+in_ok-push w ↦
          let other = w.if-next-end.false in
          let so_far = c.flags.invariant.within in
          let below : c.flags.next < end = omega (arith, other, so_far) in
          let left = λ (n : ℕ). slots (drop (k + 1) flags) (range_with_len n (end - n)) in
          record {
            within = omega (arith, below, w.next-is);
            rest = ap (λ l. l ++ left c.if-flag.next) (ap (λ v. v.items) w.all-is ∙ w.in_ok-push.ensures.items)
                ∙ ap (λ n. (c.flags.all.items ++ Some c.flags.next ∷ []) ++ left n) w.next-is
                ∙ sym (slot-taken c.flags.all.items flags k c.flags.next end c.flags-test.true w.if-flag.true below) ∙ c.flags.invariant.rest;
          }
      | else-flag+in_ok-push-2 w ↦
          let left = λ (n : ℕ). slots (drop (k + 1) flags) (range_with_len n (end - n)) in
          let so_far = c.flags.invariant.within in
          record {
            within = omega (arith, so_far, w.next-is);
            rest = ap (λ l. l ++ left c.if-flag.next) (ap (λ v. v.items) w.all-is ∙ w.in_ok-push-2.ensures.items)
                ∙ ap (λ n. (c.flags.all.items ++ None ∷ []) ++ left n) w.next-is
                ∙ sym (slot-left c.flags.all.items flags k c.flags.next end c.flags-test.true w.if-flag.false) ∙ c.flags.invariant.rest;
          }
    ]
