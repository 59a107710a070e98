use Rattle.std.proofs.Common.{sym, ap, ◌∙◌}
use Rattle.asn_types.specs.Private.Saying.{name_in}
use Rattle.asn_types.proofs.SaidLaws.{name_at_place}
use Rattle.asn_types.proofs.marks.Marks.local_name.Goals as goal

pub returns-in-Some : goal.returns-in-Some
returns-in-Some c =
    c.name_or.ensures ∙ ap (name_in c.args.generated.now) (sym c.in-Some.ensures) ∙ name_at_place c.args.generated.now c.args.self.now

pub returns-in-None : goal.returns-in-None
returns-in-None c = ap (name_in c.args.generated.now) (sym c.in-None.ensures) ∙ name_at_place c.args.generated.now c.args.self.now
