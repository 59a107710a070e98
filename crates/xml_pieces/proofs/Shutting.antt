-- Where a `>` ends a tag with no white space before it.
use Rattle.std.proofs.Common.{◌≡◌, ℕ, List, [], ◌∷◌, Some, refl}
use Rattle.base_texts.specs.WhiteSpace.{is_white_space}
use Rattle.xml_pieces.specs.Pieces.{Exact, Start, behind}
use Rattle.xml_pieces.specs.Reading.{past_blank, space_at, written_at, attribute_at, shut_at, tag_of, tag_at, name_at}
use Rattle.xml_pieces.proofs.Strips.{behind_takes}

pub ends_now : (bytes rest : List ℕ) → behind (62 ∷ []) bytes ≡ Some rest → behind (62 ∷ []) (past_blank bytes) ≡ Some rest
unfolding is_white_space
ends_now bytes rest e = rw (behind_takes (62 ∷ []) bytes rest e) refl

-- no attribute stands before the `>`
pub bare_tag : (bytes name behind_name rest : List ℕ) → name_at bytes ≡ Some (name, behind_name) → behind (62 ∷ []) behind_name ≡ Some rest
    → tag_at Exact bytes ≡ Some (Start (tag_of name []), rest)
unfolding tag_at shut_at attribute_at written_at space_at is_white_space
bare_tag bytes name behind_name rest n e = rw (n, behind_takes (62 ∷ []) behind_name rest e) refl
