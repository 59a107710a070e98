use Rattle.std.proofs.Common.{sym, ◌∙◌}
use Rattle.std.proofs.lemmas.Bool.{true≢false}
use Rattle.asn_names.proofs.Apart.{given_further}
use Rattle.asn_names.proofs.scope.Scope.given.Goals as goal

pub returns-clause-taken : goal.returns-clause-taken
returns-clause-taken c =
    given_further c.args.kind c.args.self.now c.args.converted.now c.suffixed.result (λ free. true≢false (sym (c.is_free.ensures.1 free) ∙ c.if-is_free.false)) c.suffixed.ensures.least
