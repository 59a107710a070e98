use Rattle.std.proofs.Common.{◌≡◌}
use Rattle.base_trees.specs.Rose.{kids_of}
use Rattle.base_flat_trees.proofs.Cursors.{kids_fewer}
use Rattle.xml_write.proofs.Written.{bind-label}
use Rattle.xml_write.proofs.prefixes.Prefixes.+bind_tree.Goals as goal

pub kids-init : goal.kids-init
kids-init t c =
    let kids : c.into_iter-kid-iterator.result ≡ kids_of c.args.tree.now = cc (c.into_iter-kid-iterator.ensures.into_iter_gives, c.kids-kid-items.ensures) in
    record {
      bound = bind-label c.args.tree.now _ _ _ _ c.label.ensures kids c.in_ok-bind_label.ensures;
      fewer = kids_fewer c.args.tree.now c.into_iter-kid-iterator.result kids;
    }
