use Rattle.std.proofs.Common.{◌≡◌, ◌<◌, length, arith, rules, Some, None, drop, take}
use Rattle.xml_pieces.specs.Pieces.{behind}
use Rattle.xml_pieces.specs.Reading.{until}
use Rattle.xml_pieces.proofs.Cutting.{until_on, until_here}
use Rattle.xml_pieces.proofs.text.until.Goals as goal

pub returns-in-Some : goal.returns-in-Some
returns-in-Some c =
    let found : behind c.args.mark.now (drop c.places.at c.args.bytes.now) ≡ Some c.in-Some.rest.now = rw (← c.split_at.ensures.back) c.in-Some.ensures in
    let is : until c.args.mark.now c.args.bytes.now ≡ Some (take c.places.at c.args.bytes.now, c.in-Some.rest.now) = until_here c.args.mark.now c.args.bytes.now c.in-Some.rest.now c.places.at _ (search rules) found c.places.invariant.so_far in
    rw c.split_at.ensures.front is

pub places-preserved : goal.places-preserved
places-preserved c =
    let lt : c.places.at < length c.args.bytes.now = search rules in
    let none : behind c.args.mark.now (drop c.places.at c.args.bytes.now) ≡ None = rw (← c.split_at.ensures.back) c.in_default.ensures in
    record {
      within = omega (arith, lt);
      so_far = until_on c.args.mark.now c.args.bytes.now c.places.at _ lt none c.places.invariant.so_far;
    }
