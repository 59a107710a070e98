-- Visible ASCII characters, which are XML characters, and which no treatment of white space changes.
use Rattle.std.specs.Prelude.{ℕ, ◌&&◌, Bool, nat_le}

-- The byte is a visible character of ASCII.
abbrev pub is_visible : ℕ → Bool
is_visible b = nat_le 33 b && nat_le b 126
