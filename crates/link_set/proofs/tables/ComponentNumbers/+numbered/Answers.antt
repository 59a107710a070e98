use Rattle.std.proofs.Common.{map, ◌++◌, ◌∷◌, [], take, arith, sym, ap, ◌∙◌}
use Rattle.std.proofs.lemmas.List.{map_more, take_all}
use Rattle.base_trees.specs.Rose.{roses_of, count_all}
use Rattle.base_trees.proofs.Roses.{node_count-kids}
use Rattle.base_trees.proofs.Kids.{kid-count-le}
use Rattle.schema_components.specs.Documents.{doc_of}
use Rattle.link_set.specs.Sets.{numbered, numbered_label, number_of_declaration}
use Rattle.link_set.specs.Private.Told.{told_by}
use Rattle.link_set.proofs.Numbered.{of_parts}
use Rattle.link_set.proofs.tables.ComponentNumbers.+numbered.Goals as goal

pub numbered-requires : goal.numbered-requires
numbered-requires t c =
    let d = c.decreases in
    let k = kid-count-le c.kids-kids.result.now c.kids.kid-index c.kid-item.result c.kids-test.true c.kid-item.is in
    let s = ap (λ ks. count_all (roses_of ks)) c.kids-kids.ensures in
    let n = node_count-kids c.args.tree.now in
    (omega (arith, d, k, s, n), tt)

pub kids-preserved : goal.kids-preserved
kids-preserved t c =
    let other = numbered (number_of_declaration (told_by c.args.self.now) (map doc_of c.args.docs.now) c.args.file) in
    let kids = c.kids-kids.result.now in
    c.in_ok-push.ensures.items ∙ ap (λ u. c.kids.made.items ++ u ∷ []) c.in_ok-one.ensures ∙ ap (λ us. us ++ other c.kid-item.result ∷ []) c.kids.invariant
    ∙ ap (λ u. map other (take c.kids.kid-index kids) ++ other u ∷ []) c.kid-item.is ∙ sym (map_more other kids c.kids.kid-index c.kid-item.result c.kids-test.true)

pub returns : goal.returns
returns t c =
    let number = number_of_declaration (told_by c.args.self.now) (map doc_of c.args.docs.now) c.args.file in
    let kids = c.kids-kids.result.now in
    c.join.ensures ∙ of_parts number c.args.tree.now c.in_ok-label.label c.kids.made.items (c.in_ok-label.ensures ∙ ap (numbered_label number) c.label.ensures)
    (c.kids.invariant ∙ ap (map (numbered number)) (take_all c.kids.kid-index kids c.kids-test.false ∙ c.kids-kids.ensures))
