use Rattle.std.proofs.Common.{◌≡◌, sym, ap, ◌∙◌, subst, false}
use Rattle.simple_types.specs.Seen.{space_of}
use Rattle.simple_types.specs.Sound.{Sound}
use Rattle.simple_facets.specs.Restricting.{is_empty, narrowed}
use Rattle.simple_facets.proofs.Soundness.{narrowed_sound}
use Rattle.simple_facets.proofs.restricting.restrict.Goals as goal

pub enumerated-requires-clause-sound : goal.enumerated-requires-clause-sound
enumerated-requires-clause-sound c =
    let base = space_of c.args.base.now in
    let some : is_empty (narrowed base c.in_ok-asked.asked) ≡ false = sym (ap is_empty c.in_ok-now.ensures) ∙ sym c.is_empty.ensures ∙ c.if-is_empty.false in
    subst Sound (sym c.in_ok-now.ensures) (narrowed_sound base c.in_ok-asked.asked c.requires.sound some)
