-- What is known of pieces, from the crate of pieces.
use Rattle.std.proofs.Common.{◌≡◌, ℕ, true, List, [], ◌∷◌, refl, sym, ap, ◌∙◌}
use Rattle.std.specs.Prelude.{IsUtf8, encode_utf8}
use Rattle.base_texts.specs.Limits.{has_xml_chars}
use Rattle.xml_pieces.specs.Pieces.{IsText, Piece, Declaration, Start, Empty, End, Comment, Instruction, CData, Reference, Character, Begins}
use Rattle.xml_pieces.proofs.PieceLaws.{piece_takes, piece_again}
use Rattle.xml_pieces.proofs.Facts.{begins_utf8, form_some, reference_xml, character_xml}
use Rattle.xml_pieces.proofs.Fine.{AreFine, attributes_fine, cdata_fine}
use Rattle.base_texts.specs.Characters.{is_xml_char}
use Rattle.xml_read.proofs.Keeping.{IsFine, fine_chars}
use Rattle.xml_read.proofs.Soundness.{Each}
use Rattle.xml_pieces.proofs.ReasonLaws.{none_reason_one, none_reason_some}
use Rattle.xml_read.proofs.PieceLaws.{PieceLaws, Fine}
use Rattle.std.specs.Prelude.{chars}
use Rattle.std.specs.List.{list_all}
use Rattle.std.specs.Char.{IsScalar}
use Rattle.std.specs.Str.{all_scalars}
use Rattle.std.proofs.lemmas.List.{append-nil}
use Rattle.std.proofs.lemmas.Str.{chars-encodes, IsUtf8-encode}
use Rattle.xml_pieces.proofs.Numbers.{xml_scalar}

text_fine : (text : List ℕ) → IsText text → IsFine text
text_fine text t = record { utf8 = t.utf8; fine = t.each }

values_fine : (attributes : List (List ℕ × List ℕ)) → AreFine attributes → Each (λ a. has_xml_chars a.1 ≡ true) attributes
values_fine [] f = tt
values_fine (a ∷ attributes) f = (fine_chars a.1 (text_fine a.1 f.0), values_fine attributes f.1)

char_fine : (code : ℕ) → is_xml_char code ≡ true → IsFine (encode_utf8 code)
char_fine c e =
    let s : IsScalar c = xml_scalar c e in
    let one : all_scalars (c ∷ []) ≡ true = rw s refl in
    let is : chars (encode_utf8 c) ≡ c ∷ [] = ap chars (sym (append-nil (encode_utf8 c))) ∙ chars-encodes (c ∷ []) one in
    record { utf8 = IsUtf8-encode c s; fine = ap (list_all is_xml_char) is ∙ (let r : list_all is_xml_char (c ∷ []) ≡ true = rw e refl in r) }

fine_parts : (p : Piece) (bytes rest : List ℕ) → IsUtf8 bytes → Begins p bytes rest → Fine p
fine_parts Declaration bytes rest utf8 b = tt
fine_parts (Start tag) bytes rest utf8 b = values_fine tag.attributes (attributes_fine tag.attributes b.form.1.listed b.form.1.are)
fine_parts (Empty tag) bytes rest utf8 b = values_fine tag.attributes (attributes_fine tag.attributes b.form.1.listed b.form.1.are)
fine_parts (End name) bytes rest utf8 b = tt
fine_parts Comment bytes rest utf8 b = tt
fine_parts Instruction bytes rest utf8 b = tt
fine_parts (CData text) bytes rest utf8 b = text_fine text (cdata_fine text b.form.0 b.form.1)
fine_parts (Reference code) bytes rest utf8 b = char_fine code (reference_xml code b.form.0 b.form.1)
fine_parts (Character code) bytes rest utf8 b = char_fine code (character_xml code b.front b.form)

pub laws : PieceLaws
laws = record {
  takes = piece_takes;
  again = λ p bytes rest utf8 b. piece_again bytes rest p utf8 b;
  utf8 = begins_utf8;
  nonempty = form_some;
  fine = fine_parts;
  none_one = λ first bytes a b utf8 f g. none_reason_one first bytes a b f g;
  none_some = none_reason_some;
}
