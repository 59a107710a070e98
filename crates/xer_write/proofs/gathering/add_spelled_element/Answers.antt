use Rattle.simple_types.specs.Reading.{spelled}
use Rattle.asn_types.specs.Spaces.{space_at}
use Rattle.xer_write.specs.Private.Receiving.{name_seen}
use Rattle.xer_write.proofs.Spelled.{gains-text-as}
use Rattle.xer_write.proofs.gathering.add_spelled_element.Goals as goal

pub returns : goal.returns
returns c =
    gains-text-as c.add_text_element.result c.args.out.now c.add_text_element.new.self (name_seen c.args.name.now) c.in_ok-text.text (spelled (space_at c.args.found.now) c.args.value.now) c.in_ok-text.ensures
    c.add_text_element.ensures
