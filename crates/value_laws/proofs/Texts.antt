-- Values of the simple types of a linked set: what is accepted of a text has the treated text as its items.
use Rattle.std.proofs.Common.{◌≡◌, ℕ, ◌≤◌, ◌⊎◌, inl, inr, Bool, true, false, ◌&&◌, not, Option, Some, None, List, [], ◌∷◌, map, true≢false, refl, sym, ap, subst, ◌∙◌}
use Rattle.std.specs.Prelude.{All, Ok, IsUtf8, slice_get, IsSomeAnd, if◌then◌else◌}
use Rattle.std.specs.List.{list_all}
use Rattle.std.specs.Str.{chars, is_utf8}
use Rattle.std.proofs.lemmas.List.Elements.{All-nil, All-cons, All-head, All-tail, All-filter}
use Rattle.std.proofs.lemmas.Slice.Eq.{bytes_eq-Decides}
use Rattle.std.proofs.lemmas.Str.{IsUtf8-from_is_utf8}
use Rattle.base_texts.specs.declared.texts.Name.{Name}
use Rattle.base_texts.specs.Characters.{is_xml_char}
use Rattle.base_texts.specs.Limits.{is_xmlns, has_xml_chars}
use Rattle.base_texts.specs.Names.{name_eq}
use Rattle.base_trees.specs.Rose.{Rose, Roses}
use Rattle.base_trees.specs.Rose as rose
use Rattle.simple_types.specs.Space.{Space, Booleans}
use Rattle.simple_types.specs.Sound.{Sound}
use Rattle.simple_types.specs.Seen.{space_of}
use Rattle.simple_types.specs.declared.standards.Standard.{Standard}
use Rattle.simple_types.specs.declared.standards.Standard.TheVariants.{Free, Default, Fixed}
use Rattle.simple_types.specs.declared.labels.ValueLabel.{ValueLabel}
use Rattle.simple_types.specs.Reading.{reads, spelled}
use Rattle.xml_read.specs.Sound.{is_sound_name, is_sound_attribute, has_name, are_sound_attributes}
use Rattle.xml_items.specs.Mixing.{text_before}
use Rattle.asn_types.specs.declared.modules.Assignment.{Assignment}
use Rattle.asn_types.specs.declared.types.TypeLabel.{TypeLabel}
use Rattle.asn_types.specs.Refs.{resolve}
use Rattle.asn_types.specs.Simples.{MapsTo}
use Rattle.asn_values.specs.Values.{FitsAt}
use Rattle.asn_types.proofs.SimpleLaws.{maps-seen}
use Rattle.schema_components.specs.declared.components.AttributeUse.{AttributeUse}
use Rattle.schema_components.specs.declared.components.SimpleDef.{SimpleDef}
use Rattle.schema_components.specs.Components.{Set}
use Rattle.schema_components.specs.Linked.{IsSimpleType as IsSimpleDefinition, MayBeFor, HasStandard, IsLinked}
use Rattle.schema_components.specs.SetParts.{parts_of}
use Rattle.schema_components.proofs.Truths.{both}
use Rattle.map_subjects.proofs.Finding.{all-at}
use Rattle.map_assignments.specs.Naming.{IsSimpleType}
use Rattle.map_assignments.proofs.Simples.{simple-maps}
use Rattle.map_assignments.proofs.Resolving.{no-target, follow-none}
use Rattle.map_laws.specs.Standing.{IsSimpleOf}
use Rattle.map_laws.proofs.Complexes.{fits-found}
use Rattle.asn_types.specs.Spaces.{spelling}
use Rattle.xer_items.specs.Items.{given, inside}
use Rattle.xer_items.proofs.Texts.{texts_of_values}
use Rattle.validity_rules.specs.Asked.{Attribute, space_at, attribute_in}
use Rattle.validity_rules.specs.Attributes.{text_of, left, is_special, declared, IsFixedTo, Takes, Stands, AllRight, spelled_read, put_attribute, treated_text, has_spelling, unless_standard, treated_attributes}
use Rattle.validity_rules.proofs.Treated.{text_right}
use Rattle.value_laws.proofs.Simples.{found-in}
use Rattle.value_laws.proofs.Spelled.{KeptAs, IsKept, not-false}
use Rattle.value_laws.proofs.Accepted.{accepted-fits}

-- ---- texts of attributes are UTF-8

abbrev pub IsEncoded : Name × List ℕ → Type 0
IsEncoded x = IsUtf8 x.1

attribute-encoded : (x : Name × List ℕ) → is_sound_attribute x ≡ true → IsEncoded x
attribute-encoded x e =
    let chars_are = (both (is_sound_name x.0 && not (is_xmlns x.0)) (has_xml_chars x.1) e).1 in
    IsUtf8-from_is_utf8 x.1 (both (is_utf8 x.1) (list_all is_xml_char (chars x.1)) chars_are).0

attributes-encoded : (xs : List (Name × List ℕ)) → are_sound_attributes xs ≡ true → All IsEncoded xs
attributes-encoded [] e = All-nil IsEncoded
attributes-encoded (x ∷ xs) e =
    let parts = both (is_sound_attribute x && not (has_name x.0 xs)) (are_sound_attributes xs) e in
    All-cons IsEncoded x xs (attribute-encoded x (both (is_sound_attribute x) (not (has_name x.0 xs)) parts.0).0) (attributes-encoded xs parts.1)

pub left-encoded : (xs : List (Name × List ℕ)) → are_sound_attributes xs ≡ true → All IsEncoded (left xs)
left-encoded xs e = All-filter (λ x. not (is_special x.0)) IsEncoded xs (attributes-encoded xs e)

pub text-encoded : (xs : List (Name × List ℕ)) (n : Name) (text : List ℕ) → All IsEncoded xs → text_of xs n ≡ Some text → IsUtf8 text
text-encoded [] n text h e = absurd (cc)
text-encoded (x ∷ xs) n text h e = by (name_eq x.0 n) refl (λ q. text-encoded xs n text (All-tail IsEncoded x xs h) q)
  where
    by : (is : Bool) → name_eq x.0 n ≡ is → (text_of xs n ≡ Some text → IsUtf8 text) → IsUtf8 text
    by true q others =
        let here : Some x.1 ≡ Some text = sym (rw q refl) ∙ e in
        let words : x.1 ≡ text = cc in
        subst IsUtf8 words (All-head IsEncoded x xs h)
    by false q others = others (sym (rw q refl) ∙ e)

-- ---- what stands in treated attributes is kept

-- a required attribute has its fixed value, and one that may be absent has neither its default nor its fixed value
kept-of : (standard : Standard) (required : Bool) (words : List ℕ) → MayBeFor required standard → IsFixedTo standard words → (not required && has_spelling standard words) ≡ false → KeptAs standard required words
kept-of Free required words may fixed e = tt
kept-of (Default text) true words may fixed e = absurd (true≢false may)
kept-of (Default text) false words may fixed e = λ same. true≢false (sym ((bytes_eq-Decides words text).1 same) ∙ e)
kept-of (Fixed text) true words may fixed e = (refl, fixed)
kept-of (Fixed text) false words may fixed e = absurd (true≢false (sym ((bytes_eq-Decides words text).1 fixed) ∙ e))

module _ (s : Set) (linked : IsLinked s) (M : List Assignment) (depth : ℕ) (small : depth ≤ 64) where
  -- a value of each type of the simple type with this number, which gives this text
  abbrev pub IsText : ℕ → List ℕ → Rose ValueLabel → Type 0
  IsText n words v =
      (u : Rose TypeLabel) → IsSimpleOf s n (resolve M u)
      → FitsAt M depth u v × (inside M u v ≡ given [] (text_before words rose.none)) × (spelling M u v ≡ words)

  pub accepted-text : (space : Space) → Sound space → (text : List ℕ) → IsUtf8 text → (v : Rose ValueLabel) → reads space text ≡ Ok v → (u : Rose TypeLabel) → IsSimpleType space (resolve M u)
      → FitsAt M depth u v × (inside M u v ≡ given [] (text_before (spelled space v) rose.none)) × (spelling M u v ≡ spelled space v)
  accepted-text space sound text encoded v e u is =
      let maps : MapsTo space (resolve M u) = simple-maps space (resolve M u) is in
      let fits : FitsAt M depth (resolve M u) v = accepted-fits M depth small space sound text v encoded e (resolve M u) is in
      let stays : resolve M (resolve M u) ≡ resolve M u = follow-none M 4 (resolve M u) (no-target M space (resolve M u) is) in
      (fits-found M depth (resolve M u) u v stays fits, texts_of_values M u v space maps, sym (ap (λ z. spelled z v) (maps-seen space (resolve M u) maps)))

  -- what the simple type with this number accepts
  pub text-given : (n : ℕ) (text : List ℕ) → IsUtf8 text → (v : Rose ValueLabel) → reads (space_at (parts_of s) n) text ≡ Ok v → IsText n (spelled (space_at (parts_of s) n) v) v
  text-given n text encoded v e u h = by (slice_get s.simples n) refl h
    where
      by : (o : Option SimpleDef) → slice_get s.simples n ≡ o → IsSomeAnd o (λ (t : SimpleDef). IsSimpleType (space_of t.space) (resolve M u))
          → FitsAt M depth u v × (inside M u v ≡ given [] (text_before (spelled (space_at (parts_of s) n) v) rose.none)) × (spelling M u v ≡ spelled (space_at (parts_of s) n) v)
      by None q k = absurd k
      by (Some t) q k =
          let space = space_of t.space in
          let sound : Sound space = (all-at IsSimpleDefinition s.simples n t q linked.simples).1 in
          let asked : space_at (parts_of s) n ≡ space = ap (λ o. elim o as (λ _. Space) [ None ↦ Booleans | Some x ↦ x.space ]) (found-in s.simples n t q) in
          subst (λ z. FitsAt M depth u v × (inside M u v ≡ given [] (text_before (spelled z v) rose.none)) × (spelling M u v ≡ spelled z v)) (sym asked)
          (accepted-text space sound text encoded v (subst (λ z. reads z text ≡ Ok v) asked e) u k)

  -- ---- attributes in the order of the uses: each has a value that is kept, or none where it isn't required

  abbrev pub AttributesAs : List AttributeUse → List (Name × List ℕ) → Type 0
  AttributesAs [] xs = xs ≡ []
  AttributesAs (d ∷ ds) xs =
      ((d.required ≡ false) × AttributesAs ds xs)
      ⊎ ((words : List ℕ) × (v : Rose ValueLabel) × (ys : List (Name × List ℕ)) × (xs ≡ (d.name, words) ∷ ys) × IsText d.simple words v × IsKept d words × AttributesAs ds ys)

  abbrev Declared : List Attribute → Attribute → Type 0
  Declared wanted a = declared wanted a.name ≡ Some a

  pub never-true : (b : Bool) → (b ≡ true → ⊥) → b ≡ false
  never-true true f = absurd (f refl)
  never-true false f = refl

  module _ (ls : List (Name × List ℕ)) (wanted : List Attribute) (right : AllRight wanted ls) (encoded : All IsEncoded ls) where
    abbrev own : AttributeUse → Attribute
    own = attribute_in (parts_of s)

    -- its text, which it takes, is left out where the attribute has it anyway
    one-taken : (d : AttributeUse) (ds : List AttributeUse) → HasStandard s d → (xs : List (Name × List ℕ)) → AttributesAs ds xs → (text : List ℕ) → text_of ls d.name ≡ Some text → Takes (own d) text
        → AttributesAs (d ∷ ds) (put_attribute d.name (unless_standard (own d) (treated_text (space_at (parts_of s) d.simple) (Some text))) xs)
    one-taken d ds may xs rest text e (v, accepts, fixed) =
        let here : treated_text (space_at (parts_of s) d.simple) (Some text) ≡ Some (spelled (space_at (parts_of s) d.simple) v) = ap (spelled_read (space_at (parts_of s) d.simple)) accepts in
        subst (λ o. AttributesAs (d ∷ ds) (put_attribute d.name (unless_standard (own d) o) xs)) (sym here)
        (by (not d.required && has_spelling d.standard (spelled (space_at (parts_of s) d.simple) v)) refl)
      where
        by : (b : Bool) → (not d.required && has_spelling d.standard (spelled (space_at (parts_of s) d.simple) v)) ≡ b
            → AttributesAs (d ∷ ds) (put_attribute d.name (if b then None else Some (spelled (space_at (parts_of s) d.simple) v)) xs)
        by true q = inl (not-false d.required (both (not d.required) (has_spelling d.standard (spelled (space_at (parts_of s) d.simple) v)) q).0, rest)
        by false q =
            let words = spelled (space_at (parts_of s) d.simple) v in
            inr (words, v, xs, refl, text-given d.simple text (text-encoded ls d.name text encoded e) v accepts, kept-of d.standard d.required words may.1 fixed q, rest)

    one-given : (d : AttributeUse) (ds : List AttributeUse) → HasStandard s d → Declared wanted (own d) → Stands ls (own d) → (xs : List (Name × List ℕ)) → AttributesAs ds xs
        → (o : Option (List ℕ)) → text_of ls d.name ≡ o → AttributesAs (d ∷ ds) (put_attribute d.name (unless_standard (own d) (treated_text (space_at (parts_of s) d.simple) o)) xs)
    one-given d ds may known stands xs rest None e = inl (never-true d.required (λ r. stands r e), rest)
    one-given d ds may known stands xs rest (Some text) e =
        one-taken d ds may xs rest text e
        (subst (λ o. elim o as (λ _. Type 0) [ None ↦ ⊥ | Some a ↦ Takes a text ]) known (text_right ls wanted d.name ls text right e))

    pub attributes-given : (ds : List AttributeUse) → All (HasStandard s) ds → All (Declared wanted) (map own ds) → All (Stands ls) (map own ds) → AttributesAs ds (treated_attributes (map own ds) ls)
    attributes-given [] may known stands = refl
    attributes-given (d ∷ ds) may known stands =
        one-given d ds (All-head (HasStandard s) d ds may) (All-head (Declared wanted) (own d) (map own ds) known) (All-head (Stands ls) (own d) (map own ds) stands)
        (treated_attributes (map own ds) ls)
        (attributes-given ds (All-tail (HasStandard s) d ds may) (All-tail (Declared wanted) (own d) (map own ds) known) (All-tail (Stands ls) (own d) (map own ds) stands))
        (text_of ls d.name) refl
