use Rattle.std.proofs.Common.{ap, sym, ◌∙◌}
use Rattle.schema_read.proofs.Words.{Named, more, bases_in, named_base, words_of, bindings_in, joined, named_in}
use Rattle.schema_components.specs.declared.simple_definitions.RawBase.TheVariants as base
use Rattle.schema_read.proofs.Bases.{bases_in-push, joined-none}
use Rattle.schema_read.proofs.simple_definitions.named_in.Goals as goal

pub words-preserved : goal.words-preserved
words-preserved c =
    let scope = bindings_in c.args.scope.now in
    let members = c.words.members.items in
    let rest = named_in scope (words_of c.in-Some.behind.now) in
    record {
      text = c.in-Some.ensures.text.1;
      so_far =
          ap (λ l. joined (bases_in l) rest) c.in_ok-push.ensures.items
          ∙ (bases_in-push members (base.Named c.in_ok-reference.reference) rest
          ∙ (ap (λ b. joined (bases_in members) (more b rest)) (named_base c.in_ok-reference.reference ∙ ap Named c.in_ok-reference.ensures)
          ∙ (ap (λ ws. joined (bases_in members) (named_in scope ws)) (sym c.in-Some.ensures.words)
          ∙ c.words.invariant.so_far)));
    }

pub returns : goal.returns
returns c =
    let scope = bindings_in c.args.scope.now in
    let members = c.words.members.items in
    sym (joined-none (bases_in members)) ∙ (ap (λ ws. joined (bases_in members) (named_in scope ws)) (sym c.in_default.ensures.words) ∙ c.words.invariant.so_far)
