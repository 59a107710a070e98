-- Canonical spellings have the characters of XML, and the attributes of a value have the names of their uses, each once.
use Rattle.std.proofs.Common.{◌≡◌, ℕ, ◌||◌, inl, inr, Bool, true, false, Option, Some, None, List, [], ◌∷◌, refl, sym, ap, subst, ◌∙◌}
use Rattle.std.specs.Prelude.{All, slice_get}
use Rattle.std.proofs.lemmas.List.Elements.{All-nil, All-cons, All-head, All-tail}
use Rattle.base_texts.specs.declared.texts.Name.{Name}
use Rattle.base_texts.specs.Names.{name_eq}
use Rattle.simple_types.specs.Space.{Space, Booleans}
use Rattle.simple_types.specs.Sound.{Sound}
use Rattle.simple_types.specs.Reading.{reads}
use Rattle.simple_types.proofs.XmlTexts.{spelled_in_xml}
use Rattle.xml_read.specs.Sound.{has_name}
use Rattle.schema_components.specs.declared.components.AttributeUse.{AttributeUse}
use Rattle.schema_components.specs.declared.components.SimpleDef.{SimpleDef}
use Rattle.schema_components.specs.Components.{Set}
use Rattle.schema_components.specs.Linked.{IsUse, IsSimpleType, IsLinked}
use Rattle.schema_components.specs.SetParts.{NamedSpace, named_space, named_spaces, parts_of}
use Rattle.validity_rules.specs.Asked.{space_at}
use Rattle.validity_rules.specs.Attributes.{xsi_nil, with_nil}
use Rattle.validity_rules.proofs.Linked.{all_at}
use Rattle.xer_items.specs.Sound.{HasCharacters, AreSoundAttributes}
use Rattle.value_laws.proofs.Walking.{Apart, AllApart}
use Rattle.value_laws.proofs.Spelled.{IsSpelling, AreSpelled}
use Rattle.value_laws.proofs.ComplexItems.{nil_as}
use Rattle.value_laws.proofs.Names.{use-name, other-name, nil-apart, nil-sound, true-characters}

-- ---- spellings

module _ (s : Set) (linked : IsLinked s) where
  abbrev IsSoundSpace : NamedSpace → Type 0
  IsSoundSpace t = Sound t.space

  sound-spaces : (ts : List SimpleDef) → All IsSimpleType ts → All IsSoundSpace (named_spaces ts)
  sound-spaces [] h = All-nil IsSoundSpace
  sound-spaces (t ∷ ts) h = All-cons IsSoundSpace (named_space t) (named_spaces ts) (All-head IsSimpleType t ts h).1 (sound-spaces ts (All-tail IsSimpleType t ts h))

  pub sound-space : (n : ℕ) → Sound (space_at (parts_of s) n)
  sound-space n = by (slice_get (named_spaces s.simples) n) refl
    where
      by : (o : Option NamedSpace) → slice_get (named_spaces s.simples) n ≡ o → Sound (elim o as (λ _. Space) [ None ↦ Booleans | Some t ↦ t.space ])
      by None e = tt
      by (Some t) e = all_at IsSoundSpace (named_spaces s.simples) n t e (sound-spaces s.simples linked.simples)

  pub spelling-characters : (n : ℕ) (words : List ℕ) → IsSpelling (space_at (parts_of s)) (space_at (parts_of s) n) words → HasCharacters words
  spelling-characters n words (v, read, same) =
      let space = space_at (parts_of s) n in
      subst HasCharacters same (spelled_in_xml space (sound-space n) v (ap (reads space) same ∙ read))

  -- ---- attributes

  apart-none : (n : Name) (ds : List AttributeUse) → Apart n ds → (xs : List (Name × List ℕ)) → AreSpelled (space_at (parts_of s)) ds xs → has_name n xs ≡ false
  apart-none n [] other xs e = ap (has_name n) e
  apart-none n (d ∷ ds) other xs (inl (absent, rest)) = apart-none n ds other.1 xs rest
  apart-none n (d ∷ ds) other xs (inr (words, ys, e, spelling, kept, rest)) =
      let one : name_eq d.name n ≡ false = other-name d.name n other.0 in
      ap (has_name n) e ∙ ap (λ b. b || has_name n ys) one ∙ apart-none n ds other.1 ys rest

  attributes-sound : (ds : List AttributeUse) → All (IsUse s) ds → AllApart ds → (xs : List (Name × List ℕ)) → AreSpelled (space_at (parts_of s)) ds xs → AreSoundAttributes xs
  attributes-sound [] uses apart xs e = subst AreSoundAttributes (sym e) tt
  attributes-sound (d ∷ ds) uses apart xs (inl (absent, rest)) = attributes-sound ds (All-tail (IsUse s) d ds uses) apart.1 xs rest
  attributes-sound (d ∷ ds) uses apart xs (inr (words, ys, e, spelling, kept, rest)) =
      let named = use-name d.name (All-head (IsUse s) d ds uses).0 in
      subst AreSoundAttributes (sym e)
      ((named.0, named.1, spelling-characters d.simple words spelling), apart-none d.name ds apart.0 ys rest, attributes-sound ds (All-tail (IsUse s) d ds uses) apart.1 ys rest)

  -- and with `xsi:nil` before them
  pub with-nil-sound : (nil : Bool) (ds : List AttributeUse) → All (IsUse s) ds → AllApart ds → (xs : List (Name × List ℕ)) → AreSpelled (space_at (parts_of s)) ds xs → AreSoundAttributes (with_nil (nil_as nil) xs)
  with-nil-sound true ds uses apart xs spelled_all =
      ((nil-sound, refl, λ u. true-characters), apart-none xsi_nil ds (nil-apart s ds uses) xs spelled_all, attributes-sound ds uses apart xs spelled_all)
  with-nil-sound false ds uses apart xs spelled_all = attributes-sound ds uses apart xs spelled_all
