-- The law is proved by induction over types.
use Rattle.simple_types.proofs.XmlTexts.{spelled_in_xml}
use Rattle.simple_types.proofs.laws.spelled_in_xml_characters.Goals as goal

pub returns : goal.returns
returns c = spelled_in_xml
