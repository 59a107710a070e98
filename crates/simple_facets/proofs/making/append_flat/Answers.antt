use Rattle.std.proofs.Common.{[], ◌∷◌, sym, ap, ◌∙◌}
use Rattle.simple_types.specs.Space.{none, more}
use Rattle.simple_types.specs.Seen.{space_of, spaces_in}
use Rattle.simple_types.specs.Joining.{joined}
use Rattle.simple_types.proofs.Copies.{joined-none, spaces-append}
use Rattle.simple_facets.proofs.Unions.{flattened_other}
use Rattle.simple_facets.proofs.making.append_flat.Goals as goal

pub returns-in-Some : goal.returns-in-Some
returns-in-Some c =
    rw (c.in-Some.ensures, sym (joined-none (spaces_in c.in-Some.inner.now))) c.append_copies.ensures

pub returns-in_ok-push-in-None : goal.returns-in_ok-push-in-None
returns-in_ok-push-in-None c =
    ap spaces_in c.in_ok-push-in-None.ensures.items
    ∙ spaces-append c.args.flat.now.items (c.in_ok-copied-in-None.copied ∷ [])
    ∙ ap (λ s. joined (spaces_in c.args.flat.now.items) (more s none)) c.in_ok-copied-in-None.ensures
    ∙ ap (joined (spaces_in c.args.flat.now.items)) (sym (flattened_other (space_of c.args.simple.now) none c.in-None.ensures))
