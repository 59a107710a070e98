use Rattle.std.proofs.Common.{◌≡◌, length, map}
use Rattle.std.specs.Prelude.{IsUtf8}
use Rattle.xml_pieces.specs.Pieces.{Exact}
use Rattle.xml_pieces.specs.Reading.{many, attribute_at}
use Rattle.xml_pieces.specs.Found.{attribute_of}
use Rattle.xml_pieces.proofs.Many.{with_front}
use Rattle.xml_pieces.proofs.tag.attributes.Given as goal

abbrev pub invariant-all : goal.invariant-all
invariant-all l = record {
  utf8 : IsUtf8 l.rest;
  so_far : with_front (map attribute_of l.list.items) (many (attribute_at Exact) (length l.rest) l.rest) ≡ many (attribute_at Exact) (length l.bytes) l.bytes;
}

abbrev pub decreases-all : goal.decreases-all
decreases-all l = length l.rest
