use Rattle.simple_facets.proofs.Enumerations.{words_ascending}
use Rattle.simple_facets.proofs.enumerating.sort_words.Goals as goal

pub returns-clause-ascending : goal.returns-clause-ascending
returns-clause-ascending c =
    words_ascending c.args.items.now.items c.sort.new.self.items c.dedup.new.self.items c.in_ok-sort.ensures.permutation c.in_ok-sort.ensures.sorted c.dedup.ensures.filtered
