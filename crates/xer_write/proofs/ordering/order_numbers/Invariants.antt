use Rattle.std.proofs.Common.{◌≡◌, true}
use Rattle.base_trees.specs.Rose.{label_of, kids_of}
use Rattle.xer_write.proofs.Giving.{fit_from, found_from}
use Rattle.xer_write.proofs.Orders.{numbers_at}
use Rattle.xer_write.proofs.ordering.order_numbers.Given as goal

abbrev pub invariant-parts : goal.invariant-parts
invariant-parts l = record {
  fit : fit_from l.parts l.present l.i ≡ true;
  same : numbers_at (found_from (label_of l.node) l.parts (kids_of l.node) l.present l.i) l.left
      ≡ numbers_at (found_from (label_of l.node) l.parts (kids_of l.node) l.present 0) (kids_of l.value);
}
