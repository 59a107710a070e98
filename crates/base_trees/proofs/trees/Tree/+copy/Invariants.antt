use Rattle.std.proofs.Common.{◌≡◌, take, length, vec_len, vec_capacity}
use Rattle.base_trees.proofs.trees.Tree.+copy.Given as goal

abbrev pub invariant-loop-kid : goal.invariant-loop-kid
invariant-loop-kid g l = record {
  items : l.copies.items ≡ take l.kid-index l.kids;
  filled : vec_len l.copies ≡ l.kid-index;
  room : vec_capacity l.copies ≡ length l.kids;
}
