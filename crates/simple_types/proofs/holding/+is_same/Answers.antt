use Rattle.std.proofs.Common.{◌≡◌, ◌++◌, [], refl, sym, ◌∙◌, ap}
use Rattle.base_trees.specs.Rose.{kids_of}
use Rattle.base_flat_trees.proofs.Cursors.{kids_fewer}
use Rattle.simple_types.proofs.SideBySide.{kids_differ, both_end, none_left}
use Rattle.simple_types.proofs.holding.+is_same.Goals as goal

pub kids-init : goal.kids-init
kids-init t c =
    let kids : c.into_iter-kid-iterator.result ≡ kids_of c.args.a.now = cc (c.into_iter-kid-iterator.ensures.into_iter_gives, c.kids-kid-items.ensures) in
    let alike = c.if-not-same_label.ensures.0 refl in
    record {
      first = kids;
      second = c.kids-others.ensures;
      label = cc (c.label.ensures, c.label-2.ensures, alike);
      fewer = kids_fewer c.args.a.now c.into_iter-kid-iterator.result kids;
    }

pub returns-then-not-is_same : goal.returns-then-not-is_same
returns-then-not-is_same t c = (
  λ h. absurd (cc),
  λ h. absurd (kids_differ c.args.a.now c.args.b.now c.kids.yielded c.next.new.self c.next-in-kids.new.self c.in-Some.kid c.in-Some-next.other
      (ap (λ us. c.kids.yielded ++ us) (sym c.in-Some.ensures.steps) ∙ c.kids.invariant.first)
      (ap (λ us. c.kids.yielded ++ us) (sym c.in-Some-next.ensures.steps) ∙ c.kids.invariant.second)
      (λ e. let q = c.if-not-is_same.ensures.1 e in cc) h),
)

pub returns : goal.returns
returns t c =
    let first : c.kids.yielded ++ [] ≡ kids_of c.args.a.now = ap (λ us. c.kids.yielded ++ us) (sym c.in-None.ensures.steps.0) ∙ c.kids.invariant.first in (
      λ h. both_end c.args.a.now c.args.b.now c.kids.yielded c.kids.others first c.kids.invariant.second c.kids.invariant.label (c.is_empty.ensures.0 h),
      λ h. c.is_empty.ensures.1 (none_left c.args.a.now c.args.b.now c.kids.yielded c.kids.others first c.kids.invariant.second h),
    )
