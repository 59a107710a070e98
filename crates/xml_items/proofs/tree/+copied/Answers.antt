use Rattle.std.proofs.Common.{◌≡◌, ◌++◌, sym, ◌∙◌, ap, arith}
use Rattle.std.proofs.lemmas.List.{append-nil}
use Rattle.base_trees.specs.Rose.{node, label_of, roses_of, kids_of, count_all}
use Rattle.base_trees.proofs.Roses.{node_count-kids, node-parts}
use Rattle.xml_items.proofs.tree.+copied.Goals as goal

pub loop-kid-init : goal.loop-kid-init
loop-kid-init t c =
    let kids : c.into_iter-kid-iterator.result ≡ kids_of c.args.node.now = cc (c.into_iter-kid-iterator.ensures.into_iter_gives, c.kids-kid-items.ensures) in
    record {
      told = ap (λ us. us ++ c.into_iter-kid-iterator.result) c.new-kids.ensures.items ∙ kids;
      fewer = omega (arith, ap (λ ts. count_all (roses_of ts)) kids, node_count-kids c.args.node.now);
    }

pub returns : goal.returns
returns t c =
    let all : c.loop-kid.kids.items ≡ kids_of c.args.node.now = sym (append-nil c.loop-kid.kids.items) ∙ ap (λ us. c.loop-kid.kids.items ++ us) (sym c.in-None.ensures.steps.0) ∙ c.loop-kid.invariant.told in
    c.join.ensures ∙ ap (λ l. node l (roses_of c.loop-kid.kids.items)) (c.in_ok-label.ensures ∙ c.label.ensures) ∙ ap (λ ks. node (label_of c.args.node.now) (roses_of ks)) all ∙ node-parts c.args.node.now
