-- What a linked set keeps of the simple types and the attributes of each element.
use Rattle.std.proofs.Common.{◌≡◌, ℕ, List, [], ◌∷◌, Option, Some, None, Bool, true, false, refl, sym, ◌∙◌, ap}
use Rattle.std.specs.Prelude.{All, map, slice_get, not, bytes_eq, ◌||◌, ◌&&◌}
use Rattle.std.specs.Ordering.{is_eq}
use Rattle.std.specs.declared.cmp.Ordering.TheVariants.{Less}
use Rattle.std.specs.List.{list_any, AllByRecursion}
use Rattle.std.specs.List.Sorted.{IsStrictlySortedBy}
use Rattle.std.proofs.lemmas.List.Elements.{All-nil, All-cons, All-head, All-tail}
use Rattle.base_texts.specs.declared.texts.Name.{Name}
use Rattle.base_texts.specs.Names.{name_eq, name_cmp}
use Rattle.base_texts.proofs.NameLaws.{name_eq-Decides}
use Rattle.base_texts.specs.Limits.{is_namespace, is_name_part, is_xmlns}
use Rattle.base_texts.specs.Namespaces.{xmlns_space, xsi_space}
use Rattle.simple_types.specs.Sound.{Sound}
use Rattle.simple_types.specs.Space.{Space, Booleans}
use Rattle.content_models.proofs.Sets.{name_test}
use Rattle.schema_components.specs.declared.components.ElementDecl.{ElementDecl}
use Rattle.schema_components.specs.declared.components.AttributeUse.{AttributeUse}
use Rattle.schema_components.specs.declared.components.TypeOf.{TypeOf}
use Rattle.schema_components.specs.declared.components.TypeOf.TheVariants as kind
use Rattle.schema_components.specs.declared.components.SimpleDef.{SimpleDef}
use Rattle.schema_components.specs.declared.components.ComplexDef.{ComplexDef}
use Rattle.schema_components.specs.declared.components.Content.{Content}
use Rattle.schema_components.specs.declared.components.Content.TheVariants as content
use Rattle.schema_components.specs.Components.{Set}
use Rattle.schema_components.specs.Declarable.{kept_spaces, is_declarable, is_declarable_attribute}
use Rattle.schema_components.specs.Linked.{IsUse, IsSimpleType, IsComplexType, IsLinked}
use Rattle.schema_components.specs.SetParts.{NamedSpace, named_space, parts_of}
use Rattle.schema_components.proofs.Truths.{both}
use Rattle.validity_rules.specs.Asked.{Attribute, asked, nothing, space_at, attribute_in, inside_of, asked_by, asked_by_type, asked_by_complex, asked_at}
use Rattle.validity_rules.specs.Attributes.{is_special}
use Rattle.validity_rules.proofs.Linked.{all_at}
use Rattle.validity_rules.proofs.Treated.{both_false, AllSound, IsPlain, Differ, AllApart}
use Rattle.validity_rules.proofs.Again.{IsTextSound, IsFair}

-- ---- names

not_true : (b : Bool) → not b ≡ true → b ≡ false
not_true true e = absurd (cc)
not_true false e = refl

neither : (p : List ℕ → Bool) (a b : List ℕ) → list_any p (a ∷ b ∷ []) ≡ false → p b ≡ false
neither p a b e = let rest = both_false (p a) (p b || false) e in (both_false (p b) false rest.1).0

other_space : (n : Name) → is_declarable n ≡ true → bytes_eq n.space xsi_space ≡ false
other_space n h =
    let last = both (is_namespace n.space && is_name_part n.local) (not (list_any (bytes_eq n.space) kept_spaces)) h in
    neither (bytes_eq n.space) xmlns_space xsi_space (not_true (list_any (bytes_eq n.space) kept_spaces) last.1)

plain_name : (n : Name) → is_declarable_attribute n ≡ true → is_special n ≡ false
plain_name n h = let other = other_space n (both (is_declarable n) (not (is_xmlns n)) h).0 in rw other refl

less_differ : (a b : Name) → name_cmp a b ≡ Less → (name_eq a b ≡ false) × (name_eq b a ≡ false)
less_differ a b h = (go (name_eq a b) refl, back)
  where
    back : name_eq b a ≡ false
    back = sym (name_test a b) ∙ ap is_eq h

    go : (is : Bool) → name_eq a b ≡ is → name_eq a b ≡ false
    go false e = e
    go true e = absurd (let same : a ≡ b = (name_eq-Decides a b).0 e in let d = (name_eq-Decides b a).1 (sym same) in cc (d, back))

-- ---- simple types

sound_named : (ts : List SimpleDef) → All IsSimpleType ts → All (λ (t : NamedSpace). Sound t.space) (map named_space ts)
sound_named [] h = All-nil (λ (t : NamedSpace). Sound t.space)
sound_named (t ∷ ts) h =
    All-cons (λ (t : NamedSpace). Sound t.space) (named_space t) (map named_space ts) (All-head IsSimpleType t ts h).1 (sound_named ts (All-tail IsSimpleType t ts h))

module _ (s : Set) (linked : IsLinked s) where
  sound_found : (n : ℕ) (o : Option NamedSpace) → slice_get (map named_space s.simples) n ≡ o → Sound (elim o as (λ _. Space) [ None ↦ Booleans | Some t ↦ t.space ])
  sound_found n None e = tt
  sound_found n (Some t) e = all_at (λ (t : NamedSpace). Sound t.space) (map named_space s.simples) n t e (sound_named s.simples linked.simples)

  sound_space : (n : ℕ) → Sound (space_at (parts_of s) n)
  sound_space n = sound_found n (slice_get (map named_space s.simples) n) refl

  -- ---- attributes

  sound_uses : (us : List AttributeUse) → AllSound (map (attribute_in (parts_of s)) us)
  sound_uses [] = All-nil (λ (a : Attribute). Sound a.space)
  sound_uses (u ∷ us) =
      All-cons (λ (a : Attribute). Sound a.space) (attribute_in (parts_of s) u) (map (attribute_in (parts_of s)) us) (sound_space u.simple) (sound_uses us)

  plain_uses : (us : List AttributeUse) → All (IsUse s) us → All IsPlain (map (attribute_in (parts_of s)) us)
  plain_uses [] h = All-nil IsPlain
  plain_uses (u ∷ us) h =
      All-cons IsPlain (attribute_in (parts_of s) u) (map (attribute_in (parts_of s)) us) (plain_name u.name (All-head (IsUse s) u us h).0) (plain_uses us (All-tail (IsUse s) u us h))

  differ_each : (u : AttributeUse) (us : List AttributeUse) → AllByRecursion (λ n. name_cmp u.name n ≡ Less) (map (λ (u : AttributeUse). u.name) us)
      → All (Differ (attribute_in (parts_of s) u)) (map (attribute_in (parts_of s)) us)
  differ_each u [] h = All-nil (Differ (attribute_in (parts_of s) u))
  differ_each u (v ∷ us) h =
      All-cons (Differ (attribute_in (parts_of s) u)) (attribute_in (parts_of s) v) (map (attribute_in (parts_of s)) us) (less_differ u.name v.name h.0) (differ_each u us h.1)

  apart_uses : (us : List AttributeUse) → IsStrictlySortedBy name_cmp (map (λ (u : AttributeUse). u.name) us) → AllApart (map (attribute_in (parts_of s)) us)
  unfolding IsStrictlySortedBy
  apart_uses [] h = tt
  apart_uses (u ∷ us) h = (differ_each u us h.0, apart_uses us h.1)

  -- ---- declarations

  fair_nothing : (nillable : Bool) → IsFair (asked nillable [] nothing)
  fair_nothing nillable = record {
    sound = All-nil (λ (a : Attribute). Sound a.space);
    plain = All-nil IsPlain;
    apart = tt;
    inside = tt;
  }

  text_sound : (c : Content) → IsTextSound (inside_of (parts_of s) c)
  text_sound content.Empty = tt
  text_sound (content.Simple n) = sound_space n
  text_sound (content.ElementOnly model) = tt
  text_sound (content.Mixed model) = tt

  fair_complex : (n : ℕ) (nillable : Bool) (o : Option ComplexDef) → slice_get s.complexes n ≡ o → IsFair (asked_by_complex (parts_of s) nillable o)
  fair_complex n nillable None e = fair_nothing nillable
  fair_complex n nillable (Some c) e =
      let h = all_at (IsComplexType s) s.complexes n c e linked.complexes in
      record {
        sound = sound_uses c.uses;
        plain = plain_uses c.uses h.uses;
        apart = apart_uses c.uses h.ascending;
        inside = text_sound c.content;
      }

  fair_type : (nillable : Bool) (k : TypeOf) → IsFair (asked_by_type (parts_of s) nillable k)
  fair_type nillable (kind.Simple n) = record {
    sound = All-nil (λ (a : Attribute). Sound a.space);
    plain = All-nil IsPlain;
    apart = tt;
    inside = sound_space n;
  }
  fair_type nillable (kind.Complex n) = fair_complex n nillable (slice_get s.complexes n) refl

  fair_element : (o : Option ElementDecl) → IsFair (asked_by (parts_of s) o)
  fair_element None = record {
    sound = All-nil (λ (a : Attribute). Sound a.space);
    plain = All-nil IsPlain;
    apart = tt;
    inside = tt;
  }
  fair_element (Some e) = fair_type e.nillable e.kind

  pub fair_at : (d : ℕ) → IsFair (asked_at (parts_of s) d)
  fair_at d = fair_element (slice_get s.elements d)
