use Rattle.xml_pieces.proofs.Numbers.{none_found}
use Rattle.xml_pieces.proofs.reference.character_of.Goals as goal

pub returns-in_default : goal.returns-in_default
returns-in_default c = none_found c.number-number.result _ c.number-number.ensures c.in_default.ensures.value
