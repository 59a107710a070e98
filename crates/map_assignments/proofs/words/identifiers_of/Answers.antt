use Rattle.std.proofs.Common.{[], map, subst}
use Rattle.map_assignments.specs.Naming.{identifier_of}
use Rattle.map_assignments.specs.Private.Building.{LeadsToNames}
use Rattle.map_assignments.proofs.Taking.{names-init, names-end}
use Rattle.map_assignments.proofs.words.identifiers_of.Goals as goal

pub returns-clause-taken : goal.returns-clause-taken
returns-clause-taken c =
    let names = map identifier_of c.args.words.now in
    let init = names-init c.new-scope.result c.new-made.result.items names c.new-made.ensures.items in
    names-end [] c.take_words.new.scope c.take_words.new.made.items names
    (c.in_ok-take_words.ensures.taken [] names (subst (λ s. LeadsToNames s c.new-scope.result c.new-made.result.items names names) c.new-scope.ensures init))
