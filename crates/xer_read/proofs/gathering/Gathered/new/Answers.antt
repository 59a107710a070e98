use Rattle.std.proofs.Common.{◌≡◌, ◌<◌, ◌^◌, None, replicate, length, refl, ap, ◌∙◌, arith}
use Rattle.base_trees.specs.Rose.{kids_of}
use Rattle.xer_read.proofs.Slots.{keeps-none, keeps-off}
use Rattle.xer_read.proofs.gathering.Gathered.new.Goals.{then-most-gt0+else-kids-test, else-most-gt0}
use Rattle.xer_read.proofs.gathering.Gathered.new.Goals as goal

pub returns-clause-keeps : goal.returns-clause-keeps
returns-clause-keeps c =
    let below = c.most-most.type_inv in
    let small : c.most-most.result < 2 ^ 32 = omega (arith, below) in
    elim c.if-most-gt0.branch [
      | then-most-gt0+else-kids-test w ↦
          let many = w.kids.invariant.many in
          let full = w.kids-test.false in
          let len = w.len.ensures in
          let long : length w.kids.slots.items ≡ length w.kids-count.result.now = omega (arith, many, full, len) in
          let items : c.if-most-gt0.slots.items ≡ replicate (length w.kids-count.result.now) None =
          ap (λ v. v.items) w.slots-is ∙ w.kids.invariant.are ∙ ap (λ n. replicate n None) long in
          keeps-none c.args.model.now c.requires _ (length w.kids-count.result.now) (ap length (w.kids-count.ensures ∙ ap kids_of w.root.ensures.root)) items refl c.new.ensures.items small
      | else-most-gt0 w ↦
          let off = w.if-most-gt0.false in
          keeps-off _ _ _ (omega (arith, off))
    ]
