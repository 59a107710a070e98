-- Texts of visible ASCII characters and spaces: their bytes are their characters, and XML characters.
use Rattle.std.proofs.Common.{◌≡◌, ℕ, ◌<◌, ◌≤◌, true, List, [], ◌∷◌, length, refl, arith}
use Rattle.std.specs.Prelude.{chars}
use Rattle.std.specs.List.{list_all, All}
use Rattle.std.proofs.lemmas.Bool.Decides.{nat_tests}
use Rattle.std.proofs.lemmas.List.Elements.{All-head, All-tail, All-weaker}
use Rattle.std.proofs.lemmas.Str.{chars-IsAscii}
use Rattle.std.proofs.lemmas.Str.Ascii.{IsAscii-from_all}
use Rattle.base_texts.specs.Characters.{is_xml_char}

-- a visible ASCII character or a space
abbrev pub IsPlain : ℕ → Type 0
IsPlain b = (0x20 ≤ b) × (b < 0x7F)

plain_xml : (b : ℕ) → IsPlain b → is_xml_char b ≡ true
unfolding is_xml_char
plain_xml b is = let least = is.0 in let most = is.1 in grind (arith, nat_tests)

all_xml : (bs : List ℕ) → All IsPlain bs → list_all is_xml_char bs ≡ true
all_xml [] each = refl
all_xml (b ∷ bs) each = rw (plain_xml b (All-head IsPlain b bs each), all_xml bs (All-tail IsPlain b bs each)) refl

plain_chars : (bs : List ℕ) → All IsPlain bs → chars bs ≡ bs
plain_chars bs each = chars-IsAscii bs (IsAscii-from_all bs (All-weaker IsPlain (λ b. b < 128) (λ b is. let most = is.1 in omega arith) bs each))

pub plain_counted : (bs : List ℕ) (n : ℕ) → All IsPlain bs → n ≡ length bs → (list_all is_xml_char (chars bs) ≡ true) × (n ≡ length (chars bs))
plain_counted bs n each count = rw (plain_chars bs each) (all_xml bs each, count)
