-- What goes on behind a < by its first byte.
use Rattle.std.proofs.Common.{◌≡◌, ℕ, false, eqb, List, [], ◌∷◌, Some, None, refl, sym, subst}
use Rattle.xml_pieces.specs.Pieces.{behind, Exact}
use Rattle.xml_pieces.specs.Reading.{is_marked, tag_at, end_at, markup_at}
use Rattle.xml_pieces.proofs.Strips.{behind_takes}
use Rattle.xml_pieces.proofs.Tools.{or_false}

slash : (rest : List ℕ) → markup_at (0x2F ∷ rest) ≡ end_at rest
unfolding markup_at
slash rest = refl

pub end_first : (bytes rest : List ℕ) → behind (0x2F ∷ []) bytes ≡ Some rest → markup_at bytes ≡ end_at rest
end_first bytes rest e = subst (λ (x : List ℕ). markup_at x ≡ end_at rest) (sym (behind_takes (0x2F ∷ []) bytes rest e)) (slash rest)

pub tag_first : (bytes : List ℕ) → behind (0x2F ∷ []) bytes ≡ None → is_marked bytes ≡ false → markup_at bytes ≡ tag_at Exact bytes
unfolding markup_at
tag_first [] e m = refl
tag_first (b ∷ bs) e m =
    let both = or_false (eqb b 0x21) (eqb b 0x3F) m in
    rw (both.0, both.1, e) refl
