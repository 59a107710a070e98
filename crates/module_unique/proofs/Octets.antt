-- Texts that are UTF-8 have octets.
use Rattle.std.proofs.Common.{◌≡◌, ℕ, ◌<◌, Bool, true, false, cond, ltb, leb, ◌&&◌, List, [], ◌∷◌, ◌++◌, refl, subst, arith}
use Rattle.std.specs.Prelude.{All, IsUtf8, encode_utf8_all}
use Rattle.std.specs.Char.{encode_utf8, IsScalar}
use Rattle.std.specs.Str.{all_scalars}
use Rattle.std.specs.List.{AllByRecursion}
use Rattle.std.proofs.lemmas.Bool.{and_parts, ltb-true}
use Rattle.std.proofs.lemmas.List.Elements.{All-nil, All-cons}
use Rattle.base_trees.specs.Rose.{Rose, node, Roses, none, more}
use Rattle.simple_types.specs.declared.standards.Standard.{Standard}
use Rattle.simple_types.specs.declared.standards.Standard.TheVariants.{Free, Default, Fixed}
use Rattle.asn_types.specs.declared.types.TypeLabel.{TypeLabel}
use Rattle.asn_types.specs.declared.modules.Assignment.{Assignment}
use Rattle.module_unique.specs.Alike.{HasOctets, AreOfOctets, AllAreOfOctets, IsOfOctets}
use Rattle.module_unique.specs.Utf8Texts.{StandardIsUtf8, TypeIsUtf8, TypesAreUtf8, HasTexts}

abbrev IsOctet : ℕ → Type 0
IsOctet x = x < 256

abbrev Octets : List ℕ → Type 0
Octets xs = AllByRecursion IsOctet xs

-- ---- characters

octets_of : (b : Bool) (xs ys : List ℕ) → (b ≡ true → Octets xs) → (b ≡ false → Octets ys) → Octets (cond b xs ys)
octets_of true xs ys h k = h refl
octets_of false xs ys h k = k refl

below_scalars : (c : ℕ) → IsScalar c → c < 1114112
below_scalars c e = by (ltb c 55296) refl e
  where
    by : (b : Bool) → ltb c 55296 ≡ b → cond b true (leb 57344 c && ltb c 1114112) ≡ true → c < 1114112
    by true lt e = omega (arith, ltb-true c 55296 lt)
    by false lt e = ltb-true c 1114112 (and_parts (leb 57344 c) (ltb c 1114112) e).1

character_octets : (c : ℕ) → IsScalar c → Octets (encode_utf8 c)
unfolding encode_utf8
character_octets c e =
    let top = below_scalars c e in
    octets_of (ltb c 128) _ _ (λ h. (omega (arith, ltb-true c 128 h), tt))
    (λ h. octets_of (ltb c 2048) _ _ (λ k. (omega (arith, ltb-true c 2048 k), (omega arith, tt)))
    (λ k. octets_of (ltb c 65536) _ _ (λ l. (omega (arith, ltb-true c 65536 l), (omega arith, (omega arith, tt)))) (λ l. (omega (arith, top), (omega arith, (omega arith, (omega arith, tt)))))))

both : (xs ys : List ℕ) → Octets xs → Octets ys → Octets (xs ++ ys)
both [] ys first second = second
both (x ∷ xs) ys first second = (first.0, both xs ys first.1 second)

characters_octets : (cs : List ℕ) → all_scalars cs ≡ true → Octets (encode_utf8_all cs)
characters_octets [] e = tt
characters_octets (c ∷ cs) e = let k = and_parts _ (all_scalars cs) e in both (encode_utf8 c) (encode_utf8_all cs) (character_octets c k.0) (characters_octets cs k.1)

all_octets : (xs : List ℕ) → Octets xs → All IsOctet xs
all_octets [] are = All-nil IsOctet
all_octets (x ∷ xs) are = All-cons IsOctet x xs are.0 (all_octets xs are.1)

utf8_octets : (text : List ℕ) → IsUtf8 text → All IsOctet text
utf8_octets text h = all_octets text (subst Octets h.1.1 (characters_octets h.0 h.1.0))

-- ---- modules

standard_octets : (s : Standard) → StandardIsUtf8 s → HasOctets s
standard_octets Free utf8 = tt
standard_octets (Default text) utf8 = tt
standard_octets (Fixed text) utf8 = utf8_octets text utf8

mutual
  type_octets : (t : Rose TypeLabel) → TypeIsUtf8 t → AreOfOctets t
  type_octets (node l ts) utf8 = (λ k d lt. standard_octets _ (utf8.0.parts k d lt).standard, types_octets ts utf8.1)

  types_octets : (ts : Roses TypeLabel) → TypesAreUtf8 ts → AllAreOfOctets ts
  types_octets none utf8 = tt
  types_octets (more t ts) utf8 = (type_octets t utf8.0, types_octets ts utf8.1)

pub module_octets : (M : List Assignment) → HasTexts M → IsOfOctets M
module_octets M texts k d lt = type_octets _ (texts.bodies k d lt)
