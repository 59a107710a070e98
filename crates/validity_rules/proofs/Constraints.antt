-- Worked elements whose attributes have default and fixed values.
use Rattle.std.proofs.Common.{◌≡◌, ℕ, inl, inr, List, [], ◌∷◌, None, Bool, true, false, refl, ap, arith}
use Rattle.std.specs.Prelude.{codes, pos, All, bytes_eq}
use Rattle.std.specs.Fmt.{digits}
use Rattle.std.specs.Str.{chars}
use Rattle.std.proofs.lemmas.List.Elements.{All-nil, All-cons}
use Rattle.base_texts.specs.declared.texts.Name.{Name}
use Rattle.base_texts.specs.WhiteSpace.{is_white_space, words_of, treated}
use Rattle.base_texts.specs.Characters.{is_xml_char}
use Rattle.base_trees.specs.Rose.{Rose, node, none}
use Rattle.simple_types.specs.declared.labels.ValueLabel.TheVariants as label
use Rattle.simple_types.specs.declared.standards.Standard.{Standard}
use Rattle.simple_types.specs.declared.standards.Standard.TheVariants.{Default, Fixed}
use Rattle.simple_types.specs.Lexical.{whole_number, in_class}
use Rattle.simple_types.specs.Reading.{leaf, reads, spelled}
use Rattle.xml_items.specs.declared.label.ItemLabel.{ItemLabel}
use Rattle.xml_items.specs.declared.label.ItemLabel.TheVariants.{Element}
use Rattle.xml_items.specs.Plain.{Plain, element}
use Rattle.schema_components.specs.declared.components.TypeOf.TheVariants as kind
use Rattle.schema_components.specs.declared.components.AttributeUse.{AttributeUse}
use Rattle.schema_components.specs.declared.components.Content.TheVariants as content
use Rattle.schema_components.specs.SetParts.{SetParts}
use Rattle.validity_rules.specs.Asked.{Attribute}
use Rattle.validity_rules.specs.Attributes.{IsRight, Stands}
use Rattle.validity_rules.specs.Valid.{Valid}
use Rattle.validity_rules.specs.Faults.{FirstFault}
use Rattle.validity_rules.specs.Private.WorkedSets.{unqualified, any_byte, any_token, element_decl, complex_def, unnamed_type}
use Rattle.validity_rules.specs.declared.why.InvalidWhy.TheVariants.{BadAttribute, MissingAttribute}

-- ---- a set: `g` may have a byte `v`, by default 5, and a token `x`, which is `on`; `h` has such an `x`

abbrev constrained_use : List ℕ → ℕ → Bool → Standard → AttributeUse
constrained_use local simple required standard = record { name = unqualified local; simple = simple; required = required; standard = standard }

unfoldable parts : SetParts
parts = record {
  elements = element_decl (unqualified (codes "g")) false (kind.Complex 0) ∷ element_decl (unqualified (codes "h")) false (kind.Complex 1) ∷ [];
  globals = 2;
  simples = unnamed_type any_byte ∷ unnamed_type any_token ∷ [];
  complexes =
      complex_def None (constrained_use (codes "v") 0 false (Default (codes "5")) ∷ constrained_use (codes "x") 1 false (Fixed (codes "on")) ∷ []) content.Empty
      ∷ complex_def None (constrained_use (codes "x") 1 true (Fixed (codes "on")) ∷ []) content.Empty ∷ [];
  attributes = [];
}

abbrev given : List ℕ → List ℕ → Name × List ℕ
given local text = (unqualified local, text)

abbrev item : List ℕ → List (Name × List ℕ) → Rose ItemLabel
item local attributes = node (Element (unqualified local) attributes [] 0) none

abbrev plain : List ℕ → List (Name × List ℕ) → Rose Plain
plain local attributes = node (element (unqualified local) attributes) none

abbrev v_wanted : Attribute
v_wanted = record { name = unqualified (codes "v"); space = any_byte; required = false; standard = Default (codes "5") }

abbrev x_wanted : Bool → Attribute
x_wanted required = record { name = unqualified (codes "x"); space = any_token; required = required; standard = Fixed (codes "on") }

abbrev for_g : List Attribute
for_g = v_wanted ∷ x_wanted false ∷ []

abbrev for_h : List Attribute
for_h = x_wanted true ∷ []

-- what `g` has may be absent
g_stands : (xs : List (Name × List ℕ)) → All (Stands xs) for_g
g_stands xs = All-cons (Stands xs) v_wanted (x_wanted false ∷ []) (λ f n. cc) (All-cons (Stands xs) (x_wanted false) [] (λ f n. cc) (All-nil (Stands xs)))

v_five : IsRight for_g (given (codes "v") (codes "05"))
unfolding reads treated words_of is_white_space whole_number
v_five = (leaf (label.Int (pos 5)), refl, tt)

v_six : IsRight for_g (given (codes "v") (codes "6"))
unfolding reads treated words_of is_white_space whole_number
v_six = (leaf (label.Int (pos 6)), refl, tt)

x_on : IsRight for_g (given (codes "x") (codes " on "))
unfolding reads spelled treated words_of is_white_space chars is_xml_char in_class
x_on = (leaf (label.Utf8 (codes "on")), refl, refl)

h_on : IsRight for_h (given (codes "x") (codes "on"))
unfolding reads spelled treated words_of is_white_space chars is_xml_char in_class
h_on = (leaf (label.Utf8 (codes "on")), refl, refl)

-- ---- default and fixed values, spelled in another way, are left out of the treated items

g_standard : Valid parts 0 (item (codes "g") (given (codes "v") (codes "05") ∷ given (codes "x") (codes " on ") ∷ [])) (plain (codes "g") [])
unfolding parts reads spelled treated words_of is_white_space whole_number digits chars is_xml_char in_class
g_standard = (
  refl,
  (
    none,
    refl,
    refl,
    All-cons (IsRight for_g) (given (codes "v") (codes "05")) (given (codes "x") (codes " on ") ∷ []) v_five
        (All-cons (IsRight for_g) (given (codes "x") (codes " on ")) [] x_on (All-nil (IsRight for_g))),
    g_stands (given (codes "v") (codes "05") ∷ given (codes "x") (codes " on ") ∷ []),
    (refl, refl),
  ),
)

-- another value than the default one is kept
g_other : Valid parts 0 (item (codes "g") (given (codes "v") (codes "6") ∷ [])) (plain (codes "g") (given (codes "v") (codes "6") ∷ []))
unfolding parts reads spelled treated words_of is_white_space whole_number digits
g_other = (
  refl,
  (
    none,
    refl,
    refl,
    All-cons (IsRight for_g) (given (codes "v") (codes "6")) [] v_six (All-nil (IsRight for_g)),
    g_stands (given (codes "v") (codes "6") ∷ []),
    (refl, refl),
  ),
)

-- another value than the fixed one isn't taken
g_off : FirstFault parts 0 (item (codes "g") (given (codes "x") (codes "off") ∷ [])) 0 BadAttribute
unfolding parts reads spelled treated words_of is_white_space chars is_xml_char in_class
g_off = inr (refl, inr (refl, inr ((λ b. b), inl (refl, inl (inr (leaf (label.Utf8 (codes "off")), refl, other, refl))))))
  where
    other : codes "off" ≡ codes "on" → ⊥
    other e = let d : bytes_eq (codes "off") (codes "on") ≡ bytes_eq (codes "on") (codes "on") = ap (λ text. bytes_eq text (codes "on")) e in cc

-- ---- what is required is kept with its fixed value, and isn't taken as read where it is missing

h_fixed : Valid parts 1 (item (codes "h") (given (codes "x") (codes "on") ∷ [])) (plain (codes "h") (given (codes "x") (codes "on") ∷ []))
unfolding parts reads spelled treated words_of is_white_space chars is_xml_char in_class
h_fixed = (
  refl,
  (
    none,
    refl,
    refl,
    All-cons (IsRight for_h) (given (codes "x") (codes "on")) [] h_on (All-nil (IsRight for_h)),
    All-cons (Stands (given (codes "x") (codes "on") ∷ [])) (x_wanted true) [] (λ f n. cc) (All-nil (Stands (given (codes "x") (codes "on") ∷ []))),
    (refl, refl),
  ),
)

h_missing : FirstFault parts 1 (item (codes "h") []) 0 MissingAttribute
unfolding parts
h_missing = inr (refl, inr (refl, inr ((λ b. b), inr (All-nil (IsRight for_h), inl (refl, refl, (0, x_wanted true, omega arith, refl, (refl, refl)))))))
