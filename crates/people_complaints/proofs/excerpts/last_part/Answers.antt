use Rattle.std.proofs.Common.{length, sym, ◌∙◌, arith, rules}
use Rattle.std.proofs.lemmas.List.{drop_all}
use Rattle.people_complaints.proofs.Parts.{whole_end}
use Rattle.people_complaints.proofs.excerpts.last_part.Goals as goal

pub returns-in-Ok-clause-whole : goal.returns-in-Ok-clause-whole
returns-in-Ok-clause-whole c =
    λ short utf8. whole_end c.args.text.now c.in-Ok.part.now c.saturating_sub-from.result c.loop-cut.cut c.min.result (search (rules, short)) (search rules)
    (c.in-Ok.ensures.cases.0 ∙ c.split_at.ensures.back) c.loop-cut.invariant utf8

pub returns-clause-part : goal.returns-clause-part
returns-clause-part c = (length c.args.text.now, sym (drop_all (length c.args.text.now) c.args.text.now (omega arith)))
