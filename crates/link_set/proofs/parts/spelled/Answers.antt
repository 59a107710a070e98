use Rattle.link_set.specs.Sets.{named_spaces}
use Rattle.link_set.proofs.Respelling.{still_whole}
use Rattle.link_set.proofs.parts.spelled.Goals as goal

pub returns-clause-whole : goal.returns-clause-whole
returns-clause-whole c =
    still_whole (named_spaces c.deref-2.result.now) c.args.declarations.complexes.items c.in_ok-complexes.complexes.items c.in_ok-complexes.ensures c.requires.whole
