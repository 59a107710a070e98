use Rattle.std.proofs.Common.{map, sym, subst}
use Rattle.base_trees.specs.Rose.{Allowed}
use Rattle.content_models.specs.Kids.{MayHave}
use Rattle.schema_components.specs.Documents.{doc_of}
use Rattle.link_set.specs.Private.Told.{told_by}
use Rattle.link_set.specs.Sets.{number_of_declaration}
use Rattle.link_set.proofs.Numbered.{allowed_numbered}
use Rattle.link_set.proofs.tables.ComponentNumbers.model.Goals as goal

pub of-requires : goal.of-requires
of-requires c =
    let number = number_of_declaration (told_by c.args.self.now) (map doc_of c.args.docs.now) c.args.file in
    subst (Allowed MayHave) (sym c.in_ok-tree.ensures)
    (allowed_numbered number c.root.result.now (subst (Allowed MayHave) (sym c.root.ensures.root) c.root.ensures.allowed))
