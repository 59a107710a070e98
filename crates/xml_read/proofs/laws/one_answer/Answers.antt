use Rattle.xml_read.proofs.Known.{laws}
use Rattle.xml_read.proofs.OneTree.{one_tree, one_fault, tree_or_fault}
use Rattle.xml_read.proofs.Going.{answer}
use Rattle.xml_read.proofs.laws.one_answer.Goals as goal

pub returns-clause-tree : goal.returns-clause-tree
returns-clause-tree c = one_tree laws

pub returns-clause-fault : goal.returns-clause-fault
returns-clause-fault c = one_fault laws

pub returns-clause-not_both : goal.returns-clause-not_both
returns-clause-not_both c = tree_or_fault laws

pub returns-clause-some : goal.returns-clause-some
returns-clause-some c = answer laws
