-- The attributes that a value gives: each in the order of the uses, in canonical spelling, and none that says only what its
-- use says anyway.
use Rattle.std.proofs.Common.{◌≡◌, ℕ, ◌+◌, ◌⊎◌, inl, inr, Bool, true, false, not, List, [], ◌∷◌, ◌++◌, refl, sym, ap, subst, ◌∙◌}
use Rattle.std.specs.Prelude.{Ok}
use Rattle.base_texts.specs.declared.texts.Name.{Name}
use Rattle.base_trees.specs.Rose.{Rose, Roses}
use Rattle.base_trees.specs.Rose as rose
use Rattle.simple_types.specs.Space.{Space}
use Rattle.simple_types.specs.declared.standards.Standard.{Standard}
use Rattle.simple_types.specs.declared.standards.Standard.TheVariants.{Free, Default, Fixed}
use Rattle.simple_types.specs.declared.labels.ValueLabel.{ValueLabel}
use Rattle.simple_types.specs.Reading.{reads, spelled}
use Rattle.asn_types.specs.declared.modules.Assignment.{Assignment}
use Rattle.asn_types.specs.declared.types.Component.{Component}
use Rattle.asn_types.specs.declared.types.TypeLabel.{TypeLabel}
use Rattle.asn_types.specs.Refs.{resolve}
use Rattle.asn_values.specs.Values.{below, FitsAt, Kept}
use Rattle.schema_components.specs.declared.components.AttributeUse.{AttributeUse}
use Rattle.schema_components.specs.Components.{Set}
use Rattle.map_laws.specs.Standing.{Behind, IsAttribute, IsSimpleOf, WithAttributes}
use Rattle.map_laws.proofs.Values.{PartsKept, PartsFit}
use Rattle.asn_types.specs.Spaces.{spelling}
use Rattle.xer_items.specs.Items.{Given}
use Rattle.value_laws.proofs.Groups.{present_given}
use Rattle.value_laws.proofs.Attributes.{Silent, attribute-gives}

-- ---- default and fixed values

-- A present attribute has another text than its default value, and it is required where it has its fixed value.
abbrev pub KeptAs : Standard → Bool → List ℕ → Type 0
KeptAs Free required words = Unit {0}
KeptAs (Default text) required words = words ≡ text → ⊥
KeptAs (Fixed text) required words = (required ≡ true) × (words ≡ text)

abbrev pub IsKept : AttributeUse → List ℕ → Type 0
IsKept d words = KeptAs d.standard d.required words

pub not-false : (b : Bool) → not b ≡ true → b ≡ false
not-false true e = absurd (cc)
not-false false e = refl

not-true : (b : Bool) → not b ≡ false → b ≡ true
not-true true e = refl
not-true false e = absurd (cc)

module _ (M : List Assignment) (s : Set) (l : TypeLabel) (i : ℕ) (c : Component) (u : Rose TypeLabel) (v : Rose ValueLabel) (d : AttributeUse) (a : IsAttribute s M d l i c u) where
  abbrev KeptPart : Standard → Type 0
  KeptPart standard = elim standard as (λ _. Type 0) [
    | Free ↦ Unit {0}
    | Default text ↦ spelling M u v ≡ text → ⊥
    | Fixed text ↦ (c.optional ≡ false) × (spelling M u v ≡ text)
  ]

  -- what is kept at the part of an attribute is kept by its use, and the other way round
  pub part-kept : Kept M c u v → IsKept d (spelling M u v)
  part-kept k = subst (λ x. KeptAs x d.required (spelling M u v)) a.standard (by c.standard k)
    where
      by : (x : Standard) → KeptPart x → KeptAs x d.required (spelling M u v)
      by Free k = tt
      by (Default text) k = k
      by (Fixed text) k = (not-true d.required (sym a.is.absent ∙ k.0), k.1)

  pub kept-part : IsKept d (spelling M u v) → Kept M c u v
  kept-part k = by c.standard (subst (λ x. KeptAs x d.required (spelling M u v)) (sym a.standard) k)
    where
      by : (x : Standard) → KeptAs x d.required (spelling M u v) → KeptPart x
      by Free k = tt
      by (Default text) k = k
      by (Fixed text) k = (a.is.absent ∙ ap not k.0, k.1)

module _ (space_at : ℕ → Space) where
  -- the text is the spelling of a value that it gives
  abbrev pub IsSpelling : Space → List ℕ → Type 0
  IsSpelling space words = (v : Rose ValueLabel) × (reads space words ≡ Ok v) × (spelled space v ≡ words)

  -- these are attributes for these uses in their order, with nothing more, each is kept, and each required one stands
  abbrev pub AreSpelled : List AttributeUse → List (Name × List ℕ) → Type 0
  AreSpelled [] xs = xs ≡ []
  AreSpelled (d ∷ ds) xs =
      ((d.required ≡ false) × AreSpelled ds xs)
      ⊎ ((words : List ℕ) × (ys : List (Name × List ℕ)) × (xs ≡ (d.name, words) ∷ ys) × IsSpelling (space_at d.simple) words × IsKept d words × AreSpelled ds ys)

  module _ (M : List Assignment) (depth : ℕ) (s : Set)
      (spells : (n : ℕ) (u : Rose TypeLabel) (v : Rose ValueLabel) → IsSimpleOf s n (resolve M u) → FitsAt M depth u v → IsSpelling (space_at n) (spelling M u v)) where
    pub attributes-spelled : (l : TypeLabel) (R : Behind) → Silent M depth s l R → (ds : List AttributeUse) → (i : ℕ) (cs : List Component) (us : List (Rose TypeLabel)) (fs : List Bool) (vs : Roses ValueLabel)
        → WithAttributes s M l R ds i cs us → PartsFit M depth l i cs us fs vs → PartsKept M cs us fs vs → AreSpelled ds (present_given M l i cs us fs vs).attributes
    attributes-spelled l R silent [] i cs us fs vs g h k = silent i cs us fs vs g h
    attributes-spelled l R silent (d ∷ ds) i [] us fs vs g h k = absurd g
    attributes-spelled l R silent (d ∷ ds) i (c ∷ cs) [] fs vs g h k = absurd g
    attributes-spelled l R silent (d ∷ ds) i (c ∷ cs) (u ∷ us) [] vs g h k = absurd h
    attributes-spelled l R silent (d ∷ ds) i (c ∷ cs) (u ∷ us) (true ∷ fs) rose.none g h k = absurd h
    attributes-spelled l R silent (d ∷ ds) i (c ∷ cs) (u ∷ us) (true ∷ fs) (rose.more v vs) g h k =
        let rest = present_given M l (i + 1) cs us fs vs in
        let fits : FitsAt M depth u v = subst (λ r. FitsAt M (below r depth) u v) g.0.is.role h.0 in
        inr (
          spelling M u v,
          rest.attributes,
          ap (λ (z : Given). z.attributes ++ rest.attributes) (attribute-gives M depth s l i c u v d g.0),
          spells d.simple u v g.0.type fits,
          part-kept M s l i c u v d g.0 k.0,
          attributes-spelled l R silent ds (i + 1) cs us fs vs g.1 h.1 k.1,
        )
    attributes-spelled l R silent (d ∷ ds) i (c ∷ cs) (u ∷ us) (false ∷ fs) vs g h k =
        inl (not-false d.required (sym g.0.is.absent ∙ h.0), attributes-spelled l R silent ds (i + 1) cs us fs vs g.1 h.1 k)
