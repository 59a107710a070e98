use Rattle.std.proofs.Common.{◌∙◌}
use Rattle.std.proofs.lemmas.Bool.Decides.{Decides-eqb}
use Rattle.std.proofs.lemmas.Slice.Eq.{starts_is}
use Rattle.base_texts.specs.Namespaces.{xmlns_prefix}
use Rattle.xml_pieces.proofs.Spelling.{begins_or_not}
use Rattle.xml_pieces.proofs.written_names.binds.Goals as goal

pub returns-else-starts_with : goal.returns-else-starts_with
returns-else-starts_with c =
    c.if-starts_with.false
    ∙ begins_or_not c.args.written.now c.starts_with.result (starts_is Decides-eqb c.args.written.now xmlns_prefix c.starts_with.result c.starts_with.ensures.value).1 c.if-starts_with.false
