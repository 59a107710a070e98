-- Texts of visible ASCII characters.
use Rattle.std.proofs.Common.{◌≡◌, ℕ, zero, suc, ◌≤◌, true, false, List, [], ◌∷◌, length, map, refl, ap, arith, Option}
use Rattle.std.specs.Prelude.{nat_le}
use Rattle.std.specs.List.{list_all, join_with_byte, All}
use Rattle.std.specs.Str.{IsAscii, IsUtf8}
use Rattle.std.specs.Cmp.{first_so, second_so}
use Rattle.std.proofs.lemmas.Bool.{leb-true, le-leb}
use Rattle.std.proofs.lemmas.Bool.Decides.{nat_tests}
use Rattle.std.proofs.lemmas.List.Elements.{All-nil, All-cons}
use Rattle.std.proofs.lemmas.Str.{chars-IsAscii, IsUtf8-from_ascii}
use Rattle.simple_types.specs.declared.simples.Class.TheVariants.{Any}
use Rattle.simple_types.specs.Lexical.{in_class, is_at_most}
use Rattle.simple_types.specs.Reading.{has_characters}
use Rattle.base_texts.proofs.WordLaws.{words_of-nil, words_of-join}
use Rattle.base_texts.specs.Characters.{is_xml_char}
use Rattle.base_texts.specs.WhiteSpace.{is_white_space, spaced, treated, IsWord}
use Rattle.base_texts.specs.declared.white_space.WhiteSpace.{WhiteSpace}
use Rattle.base_texts.specs.declared.white_space.WhiteSpace.TheVariants.{Preserve, Replace, Collapse}
use Rattle.per_decode.specs.Private.Visible.{is_visible}

low : (b : ℕ) → is_visible b ≡ true → 33 ≤ b
low b h = leb-true 33 b (first_so (nat_le 33 b) (nat_le b 126) h)

high : (b : ℕ) → is_visible b ≡ true → b ≤ 126
high b h = leb-true b 126 (second_so (nat_le 33 b) (nat_le b 126) h)

xml : (b : ℕ) → is_visible b ≡ true → is_xml_char b ≡ true
unfolding is_xml_char
xml b h = let l = low b h in let k = high b h in grind (arith, nat_tests)

all_xml : (bs : List ℕ) → list_all is_visible bs ≡ true → list_all is_xml_char bs ≡ true
all_xml [] h = refl
all_xml (b ∷ bs) h = rw (xml b (first_so (is_visible b) (list_all is_visible bs) h)) (all_xml bs (second_so (is_visible b) (list_all is_visible bs) h))

ascii : (bs : List ℕ) → list_all is_visible bs ≡ true → IsAscii bs
ascii [] h i = omega arith
ascii (b ∷ bs) h zero = omega (arith, high b (first_so (is_visible b) (list_all is_visible bs) h))
ascii (b ∷ bs) h (suc i) = ascii bs (second_so (is_visible b) (list_all is_visible bs) h) i

-- they are UTF-8
pub plain_utf8 : (bs : List ℕ) → list_all is_visible bs ≡ true → IsUtf8 bs
plain_utf8 bs seen = IsUtf8-from_ascii bs (ascii bs seen)

-- XML characters, one for each byte
pub plain_characters : (least : ℕ) (most : Option ℕ) (bs : List ℕ) → list_all is_visible bs ≡ true → least ≤ length bs → is_at_most (length bs) most ≡ true → has_characters least most Any bs ≡ true
unfolding in_class
plain_characters least most bs seen enough few =
    rw (chars-IsAscii bs (ascii bs seen), all_xml bs seen, le-leb least (length bs) enough, few) refl

no_white_space : (b : ℕ) → is_visible b ≡ true → is_white_space b ≡ false
unfolding is_white_space
no_white_space b h = let l = low b h in grind (arith, nat_tests)

all_plain : (bs : List ℕ) → list_all is_visible bs ≡ true → All (λ b. is_white_space b ≡ false) bs
all_plain [] h = All-nil (λ b. is_white_space b ≡ false)
all_plain (b ∷ bs) h =
    All-cons (λ b. is_white_space b ≡ false) b bs (no_white_space b (first_so (is_visible b) (list_all is_visible bs) h)) (all_plain bs (second_so (is_visible b) (list_all is_visible bs) h))

unspaced : (b : ℕ) → is_visible b ≡ true → spaced b ≡ b
unspaced b h = rw (no_white_space b h) refl

all_unspaced : (bs : List ℕ) → list_all is_visible bs ≡ true → map spaced bs ≡ bs
all_unspaced [] h = refl
all_unspaced (b ∷ bs) h = λ i. unspaced b (first_so (is_visible b) (list_all is_visible bs) h) i ∷ all_unspaced bs (second_so (is_visible b) (list_all is_visible bs) h) i

-- and no treatment of white space changes them
pub plain_treated : (how : WhiteSpace) (bs : List ℕ) → list_all is_visible bs ≡ true → treated how bs ≡ bs
unfolding treated
plain_treated Preserve bs seen = refl
plain_treated Replace bs seen = all_unspaced bs seen
plain_treated Collapse [] seen = ap (join_with_byte 32) words_of-nil
plain_treated Collapse (b ∷ bs) seen =
    let word : IsWord (b ∷ bs) = record { has = refl; plain = all_plain (b ∷ bs) seen } in
    ap (join_with_byte 32) (words_of-join ((b ∷ bs) ∷ []) (All-cons IsWord (b ∷ bs) [] word (All-nil IsWord)))
