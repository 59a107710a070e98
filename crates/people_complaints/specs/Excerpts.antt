-- What is shown of a line, and the mark beneath it.
use Rattle.std.specs.Prelude.{◌≡◌, ℕ, ◌≤◌, Bool, ◌&&◌, ◌||◌, ◌==◌, nat_le, List, ◌++◌, codes, length, map, take, drop, IsUtf8, if◌then◌else◌}
use Rattle.std.specs.Str.{chars, encode_utf8_all}

-- a character that would steer a terminal: a control but the tab, or one that turns the direction of writing
abbrev pub is_steering : ℕ → Bool
is_steering c = (nat_le c 8) || (nat_le 10 c && nat_le c 31) || (nat_le 127 c && nat_le c 159) || (nat_le 8234 c && nat_le c 8238) || (nat_le 8294 c && nat_le c 8297)

-- the character that is shown for a character
abbrev pub shown_char : ℕ → ℕ
shown_char c = if is_steering c then 63 else c

-- the character beneath one that precedes the mark
abbrev pub beneath_char : ℕ → ℕ
beneath_char c = if c == 9 then 9 else 32

-- the greatest number of bytes of a line that are shown before the place, and after it
abbrev pub room : ℕ
room = 120

-- the text with another character for each of its own
abbrev pub spelled : (ℕ → ℕ) → List ℕ → List ℕ
spelled other text = encode_utf8_all (map other (chars text))

-- The line, a line feed, and a mark beneath the character between the two parts: as many characters stand before the mark as
-- before that character, tabs beneath tabs.
abbrev pub marked : List ℕ → List ℕ → List ℕ
marked left right = spelled shown_char left ++ spelled shown_char right ++ codes "\n" ++ spelled beneath_char left ++ codes "^\n"

-- the excerpt of a line with these bytes before a place and these after it
pub record IsExcerpt (before after excerpt : List ℕ) : Type 0 where
  pub left : List ℕ
  pub right : List ℕ
  pub from : ℕ
  pub to : ℕ
  pub ends : left ≡ drop from before
  pub begins : right ≡ take to after
  pub short : length left ≤ room
  pub short_too : length right ≤ room
  -- a line that is short and UTF-8 is shown whole
  pub whole : length before ≤ room → IsUtf8 before → left ≡ before
  pub whole_too : length after ≤ room → IsUtf8 after → right ≡ after
  pub text : excerpt ≡ marked left right
