-- A loop over kids, by the number of the kid: 'l.yielded' are the kids so far, and 'l.kid-iterator' those that are left.
-- With these a lemma that speaks of the kids by their numbers serves such a loop.
use Rattle.std.proofs.Common.{◌≡◌, suc, ◌+◌, ◌≤◌, ◌<◌, List, [], ◌∷◌, ◌++◌, length, get_or, take, drop, sym, ◌∙◌, ap, arith, length-append, append_assoc}
use Rattle.std.proofs.Math.Seq.{take-append_seam, drop-append_seam, get_or-append_seam}
use Rattle.base_trees.specs.Rose.{Rose, roses_of, kids_of, node_count, count_all}
use Rattle.base_trees.proofs.Roses.{node_count-kids}

-- the kids of a tree, as a loop begins
pub kids_fewer : {L : Type 0} (t : Rose L) (left : List (Rose L)) → left ≡ kids_of t → suc (count_all (roses_of left)) ≤ node_count t
kids_fewer t left e = omega (arith, ap (λ ks. count_all (roses_of ks)) e, node_count-kids t)

module _ {A : Type 0} (kids before left : List A) (all : before ++ left ≡ kids) where
  pub before_is : before ≡ take (length before) kids
  before_is = sym (ap (take (length before)) (sym all) ∙ take-append_seam before left)

  pub left_is : left ≡ drop (length before) kids
  left_is = sym (ap (drop (length before)) (sym all) ∙ drop-append_seam before left)

  pub within : length before ≤ length kids
  within = omega (arith, ap length all, length-append before left)

  -- the kid that comes next
  module _ (kid : A) (later : List A) (next : left ≡ kid ∷ later) where
    pub kid_within : length before < length kids
    kid_within = omega (arith, ap length all, length-append before left, ap length next)

    pub kid_read : kid ≡ get_or kids (length before) kid
    kid_read = sym (ap (λ ks. get_or ks (length before) kid) (sym all ∙ ap (λ ks. before ++ ks) next) ∙ get_or-append_seam before kid later kid)

    pub all_after : (before ++ kid ∷ []) ++ later ≡ kids
    all_after = append_assoc before (kid ∷ []) later ∙ ap (λ ks. before ++ ks) (sym next) ∙ all

    pub one_more : length (before ++ kid ∷ []) ≡ length before + 1
    one_more = omega (arith, length-append before (kid ∷ []))
