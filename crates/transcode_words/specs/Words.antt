-- Roots, files and numbers in the words of a command line.
use Rattle.std.specs.Prelude.{ℕ, Bool, false, ◌&&◌, not, ◌==◌, List, [], ◌∷◌, length, nat_le, nat_lt, Option, Some, None, option_map, if◌then◌else◌}
use Rattle.std.specs.List.{list_all, position_or_len, before_first, after_first}
use Rattle.std.specs.Str.{chars}
use Rattle.base_texts.specs.Characters.{is_xml_char, is_ncname}
use Rattle.base_texts.specs.Digits.{is_digit, number_of}
use Rattle.base_texts.specs.Limits.{is_short_space}
use Rattle.base_texts.specs.declared.texts.Name.{Name}

-- from 1 to 64 files
abbrev pub are_files : List (List ℕ) → Bool
are_files files = nat_le 1 (length files) && nat_le (length files) 64

-- a character of a namespace between braces
abbrev pub is_space_char : ℕ → Bool
is_space_char c = is_xml_char c && not (c == 123) && not (c == 125)

-- a namespace of 1 to 1,023 bytes
abbrev pub is_space : List ℕ → Bool
is_space space = nat_le 1 (length space) && is_short_space space && list_all is_space_char (chars space)

abbrev pub is_closing : ℕ → Bool
is_closing b = b == 125

-- after `{`: a namespace, `}` and an NCName
abbrev pub braced : List ℕ → Option Name
braced text =
    if nat_lt (position_or_len is_closing text) (length text) && is_space (before_first is_closing text) && is_ncname (chars (after_first is_closing text))
    then Some (record { space = before_first is_closing text; local = after_first is_closing text })
    else None

-- the root: an NCName, or one in a namespace
abbrev pub root_of : List ℕ → Option Name
root_of [] = None
root_of (b ∷ bs) =
    if b == 123 then braced bs
    else if is_ncname (chars (b ∷ bs)) then Some (record { space = []; local = b ∷ bs })
    else None

-- from 1 to 100,000, in digits and without a leading zero
abbrev pub is_count : List ℕ → Bool
is_count [] = false
is_count (b ∷ bs) = list_all is_digit (b ∷ bs) && not (b == 48) && nat_le (number_of (b ∷ bs)) 100000

abbrev pub count_of : List ℕ → Option ℕ
count_of word = if is_count word then Some (number_of word) else None

-- a root and its files
abbrev pub rooted_parts : List (List ℕ) → Option (Name × List (List ℕ))
rooted_parts [] = None
rooted_parts (root ∷ files) = if are_files files then option_map (λ name. (name, files)) (root_of root) else None
