use Rattle.std.proofs.Common.{◌≡◌, length}
use Rattle.std.specs.Prelude.{IsUtf8}
use Rattle.xml_pieces.specs.Pieces.{Loose}
use Rattle.xml_pieces.specs.Reading.{many, attribute_at}
use Rattle.xml_pieces.proofs.reason.past_loose_attributes.Given as goal

abbrev pub invariant-all : goal.invariant-all
invariant-all l = record {
  utf8 : IsUtf8 l.rest;
  so_far : (many (attribute_at Loose) (length l.rest) l.rest).1 ≡ (many (attribute_at Loose) (length l.bytes) l.bytes).1;
}

abbrev pub decreases-all : goal.decreases-all
decreases-all l = length l.rest
