use Rattle.base_trees.specs.Rose.{roses_of}
use Rattle.xer_read.proofs.Mixing.{StringsPut}
use Rattle.xer_read.proofs.strings.put_each_string.Given as goal

abbrev pub invariant-loop-kid : goal.invariant-loop-kid
invariant-loop-kid l = StringsPut (roses_of l.kids) l.has_text (roses_of l.kid-iterator) l.initial.values l.values
