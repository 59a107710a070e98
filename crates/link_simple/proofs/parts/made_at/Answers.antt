use Rattle.std.proofs.Common.{sym, ap, ◌∙◌, subst}
use Rattle.std.proofs.lemmas.List.Elements.{All-get_or}
use Rattle.simple_types.specs.declared.simples.Simple.{Simple}
use Rattle.simple_types.specs.Seen.{space_of}
use Rattle.simple_types.specs.Sound.{Sound}
use Rattle.link_simple.specs.Answering.{made_of}
use Rattle.link_simple.specs.Making.{space_at}
use Rattle.link_simple.proofs.Lending.{made_read, made_past}
use Rattle.link_simple.proofs.parts.made_at.Goals as goal

pub returns-then-n-simples-clause-space : goal.returns-then-n-simples-clause-space
returns-then-n-simples-clause-space c =
    let ss = c.args.simples.now in
    sym (ap (space_at (made_of ss)) c.in_ok-n.was ∙ made_past ss c.in_ok-n.n c.if-n-simples.true)

pub returns-clause-space : goal.returns-clause-space
returns-clause-space c =
    let ss = c.args.simples.now in
    sym (ap (space_at (made_of ss)) c.in_ok-n.was ∙ made_read ss c.in_ok-n.n c.index-simples-n.result c.if-n-simples.false c.index-simples-n.is)

pub returns-clause-sound : goal.returns-clause-sound
returns-clause-sound c =
    let P = λ (s : Simple). Sound (space_of s) in
    subst P (sym c.index-simples-n.is) (All-get_or P c.args.simples.now c.in_ok-n.n c.index-simples-n.result c.if-n-simples.false c.requires)
