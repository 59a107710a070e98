use Rattle.content_match.specs.declared.plans.PlanKind.TheVariants.{Group as PlanGroup}
use Rattle.content_match.proofs.Descending.{kind_of}
use Rattle.content_match.proofs.beside.is_ordered.Goals as goal

pub returns-in-Group : goal.returns-in-Group
returns-in-Group c = λ is. (c.in-Group.group, kind_of c.label.result.now c.args.plan.now (PlanGroup c.in-Group.group) c.label.ensures c.in-Group.is, is)
