-- Names as written, by Namespaces in XML 1.0.
use Rattle.std.specs.Prelude.{◌==◌, ◌+◌, ℕ, Bool, ◌&&◌, ◌||◌, not, nat_le, List, [], length, take, drop, if◌then◌else◌}
use Rattle.std.specs.List.{prefix_len}
use Rattle.base_texts.specs.Limits.{spells_ncname}

-- the number of bytes before the first colon
abbrev pub colon_at : List ℕ → ℕ
colon_at written = prefix_len (λ b. not (b == 0x3A)) written

abbrev pub has_colon : List ℕ → Bool
has_colon written = not (nat_le (length written) (colon_at written))

-- The part before the first colon, which is empty without a colon.
unfoldable pub prefix_of : List ℕ → List ℕ
prefix_of written = if has_colon written then take (colon_at written) written else []

-- The part after the first colon, or the complete text without a colon.
unfoldable pub local_of : List ℕ → List ℕ
local_of written = if has_colon written then drop (colon_at written + 1) written else written

-- production [7] QName: an NCName, or two NCNames joined by a colon
unfoldable pub is_qname : List ℕ → Bool
is_qname written = (not (has_colon written) || spells_ncname (prefix_of written)) && spells_ncname (local_of written)
