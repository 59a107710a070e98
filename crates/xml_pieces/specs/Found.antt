-- The piece that a value of the code represents.
use Rattle.std.specs.Prelude.{ℕ, List, map}
use Rattle.xml_pieces.specs.declared.found.Value.{Value}
use Rattle.xml_pieces.specs.declared.found.Value.TheVariants.{Borrowed, Owned}
use Rattle.xml_pieces.specs.declared.found.Attribute.{Attribute}
use Rattle.xml_pieces.specs.declared.found.Element.{Element}
use Rattle.xml_pieces.specs.declared.found.Found.{Found}
use Rattle.xml_pieces.specs.declared.found.Found.TheVariants as found
use Rattle.xml_pieces.specs.Pieces.{Tag, Piece, Declaration, Start, Empty, End, Comment, Instruction, CData, Reference, Character}

abbrev pub bytes_of : Value → List ℕ
bytes_of (Borrowed bytes) = bytes.now
bytes_of (Owned bytes) = bytes.items

abbrev pub attribute_of : Attribute → List ℕ × List ℕ
attribute_of a = (a.name.now, bytes_of a.value)

abbrev pub tag_seen : Element → Tag
tag_seen t = record { name = t.name.now; attributes = map attribute_of t.attributes.items }

abbrev pub seen : Found → Piece
seen found.Declaration = Declaration
seen (found.Start tag) = Start (tag_seen tag)
seen (found.Empty tag) = Empty (tag_seen tag)
seen (found.End name) = End name.now
seen found.Comment = Comment
seen found.Instruction = Instruction
seen (found.CData text) = CData (bytes_of text)
seen (found.Reference c) = Reference c
seen (found.Character c) = Character c
