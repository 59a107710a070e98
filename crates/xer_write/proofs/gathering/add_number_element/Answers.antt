use Rattle.std.proofs.Common.{◌≡◌, rules}
use Rattle.simple_types.specs.declared.labels.ValueLabel.TheVariants as label
use Rattle.simple_types.specs.Reading.{spelled_whole}
use Rattle.xer_write.specs.Private.Receiving.{name_seen}
use Rattle.xer_write.proofs.Spelled.{gains-text-as}
use Rattle.xer_write.proofs.gathering.add_number_element.Goals as goal

pub returns : goal.returns
returns c =
    let digits : c.format.result.now ≡ spelled_whole (label.Int c.args.number.now) = search rules in
    gains-text-as c.add_digits_element.result c.args.out.now c.add_digits_element.new.self (name_seen c.args.name.now) c.format.result.now (spelled_whole (label.Int c.args.number.now)) digits
    c.add_digits_element.ensures
