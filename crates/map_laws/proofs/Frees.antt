-- A part that is no attribute has no default and no fixed value, so each value that stands at one is kept.
use Rattle.std.proofs.Common.{◌≡◌, ℕ, ◌+◌, Bool, true, false, not, Option, List, [], ◌∷◌, true≢false, refl, sym, ap, subst, ◌∙◌}
use Rattle.std.proofs.lemmas.List.Elements.{All-nil, All-cons, All-head, All-tail}
use Rattle.base_trees.specs.Rose.{Rose, Roses, list_of}
use Rattle.base_trees.specs.Rose as rose
use Rattle.simple_types.specs.declared.labels.ValueLabel.{ValueLabel}
use Rattle.simple_types.specs.declared.standards.Standard.{Standard}
use Rattle.simple_types.specs.declared.standards.Standard.TheVariants.{Free, Default, Fixed}
use Rattle.content_models.specs.Particle as model
use Rattle.content_models.specs.Particle.{Particle, occurs, Term, Particles}
use Rattle.content_models.specs.Seen.{seen}
use Rattle.asn_types.specs.declared.modules.Assignment.{Assignment}
use Rattle.asn_types.specs.declared.types.Component.{Component}
use Rattle.asn_types.specs.declared.types.Form.TheVariants as form
use Rattle.asn_types.specs.declared.types.TypeLabel.{TypeLabel}
use Rattle.asn_types.specs.Spaces.{spelling}
use Rattle.asn_values.specs.Values.{Kept}
use Rattle.schema_components.specs.declared.components.AttributeUse.{AttributeUse}
use Rattle.schema_components.specs.declared.components.Content.{Content}
use Rattle.schema_components.specs.declared.components.Content.TheVariants as content_
use Rattle.schema_components.specs.Components.{Set}
use Rattle.map_assignments.specs.Naming.{type_label}
use Rattle.map_assignments.proofs.Free.{IsFree, AreFree}
use Rattle.map_laws.specs.Standing.{AreNone, IsOnly, StandsFor, IsPart, once, at_most_once, several, HasTerm, ArePartsOf, IsTop, parted, ordered, whole, IsInner, AreContent, HasParts, HasInner, AreRest, IsBase}
use Rattle.map_laws.specs.ValueStatements.{KeptFor}
use Rattle.map_laws.proofs.Values.{PartsKept}

-- what stands at such a part is kept
pub kept-free : (M : List Assignment) (c : Component) (u : Rose TypeLabel) (v : Rose ValueLabel) → IsFree c → Kept M c u v
kept-free M c u v e = rw e tt

-- where no part has one, each value is kept
module _ (M : List Assignment) where
  pub free-kept : (cs : List Component) (us : List (Rose TypeLabel)) (flags : List Bool) (vs : Roses ValueLabel) → AreFree cs → PartsKept M cs us flags vs
  free-kept [] us flags vs free = tt
  free-kept (c ∷ cs) [] flags vs free = tt
  free-kept (c ∷ cs) (u ∷ us) [] vs free = tt
  free-kept (c ∷ cs) (u ∷ us) (true ∷ flags) rose.none free = tt
  free-kept (c ∷ cs) (u ∷ us) (true ∷ flags) (rose.more v vs) free =
      (kept-free M c u v (All-head IsFree c cs free), free-kept cs us flags vs (All-tail IsFree c cs free))
  free-kept (c ∷ cs) (u ∷ us) (false ∷ flags) vs free = free-kept cs us flags vs (All-tail IsFree c cs free)

  -- what is kept for an attribute use is kept at its part
  pub use-kept : (d : AttributeUse) (c : Component) (u : Rose TypeLabel) (v : Rose ValueLabel) → c.standard ≡ d.standard → c.optional ≡ not d.required → KeptFor M d u v → Kept M c u v
  use-kept d c u v same absent h = by d.standard same h
    where
      by : (x : Standard) → c.standard ≡ x
          → (elim x as (λ _. Type 0) [ Free ↦ Unit {0} | Default text ↦ spelling M u v ≡ text → ⊥ | Fixed text ↦ (d.required ≡ true) × (spelling M u v ≡ text) ])
          → Kept M c u v
      by Free e k = rw e tt
      by (Default text) e k = rw e k
      by (Fixed text) e k = rw e (absent ∙ ap not k.0, k.1)

  must-stand : (b : Bool) → not b ≡ false → b ≡ true
  must-stand true e = refl
  must-stand false e = absurd (true≢false e)

  -- and the other way round
  pub kept-use : (d : AttributeUse) (c : Component) (u : Rose TypeLabel) (v : Rose ValueLabel) → c.standard ≡ d.standard → c.optional ≡ not d.required → Kept M c u v → KeptFor M d u v
  kept-use d c u v same absent h =
      by d.standard
      (subst (λ x. elim x as (λ _. Type 0) [ Free ↦ Unit {0} | Default text ↦ spelling M u v ≡ text → ⊥ | Fixed text ↦ (c.optional ≡ false) × (spelling M u v ≡ text) ]) same h)
    where
      by : (x : Standard)
          → (elim x as (λ _. Type 0) [ Free ↦ Unit {0} | Default text ↦ spelling M u v ≡ text → ⊥ | Fixed text ↦ (c.optional ≡ false) × (spelling M u v ≡ text) ])
          → (elim x as (λ _. Type 0) [ Free ↦ Unit {0} | Default text ↦ spelling M u v ≡ text → ⊥ | Fixed text ↦ (d.required ≡ true) × (spelling M u v ≡ text) ])
      by Free k = tt
      by (Default text) k = k
      by (Fixed text) k = (must-stand d.required (sym absent ∙ k.0), k.1)

pub stands-free : (l : TypeLabel) (i : ℕ) (optional : Bool) (t : Term) (c : Component) → StandsFor l i optional t c → IsFree c
stands-free l i optional (model.element d name) c h = h.0.free refl
stands-free l i optional (model.sequence ps) c h = h.free refl
stands-free l i optional (model.choice ps) c h = h.free refl
stands-free l i optional (model.all ps) c h = h.free refl

pub part-free : (l : TypeLabel) (i : ℕ) (b : Bool) (t : Term) (least : ℕ) (most : Option ℕ) (T : Rose TypeLabel → Type 0) (c : Component) (u : Rose TypeLabel)
    → IsPart l i b t least most T c u → IsFree c
part-free l i b t least most T c u (once e g stands has) = stands-free l i false t c stands
part-free l i b t least most T c u (at_most_once no_choice e g stands has) = stands-free l i true t c stands
part-free l i b t least most T c u (several more_than_one never_optional is list) = is.free refl

none-free : (cs : List Component) (us : List (Rose TypeLabel)) → AreNone cs us → AreFree cs
none-free [] us h = All-nil IsFree
none-free (c ∷ cs) us h = absurd h

first-free : (c : Component) (cs : List Component) → IsFree c → AreFree cs → AreFree (c ∷ cs)
first-free c cs here rest = All-cons IsFree c cs here rest

only-free : (P : Component → Rose TypeLabel → Type 0) → ((c : Component) (u : Rose TypeLabel) → P c u → IsFree c) → (cs : List Component) (us : List (Rose TypeLabel)) → IsOnly P cs us → AreFree cs
only-free P f [] us h = absurd h
only-free P f (c ∷ []) [] h = absurd h
only-free P f (c ∷ []) (u ∷ []) h = first-free c [] (f c u h) (All-nil IsFree)
only-free P f (c ∷ []) (u ∷ x ∷ us) h = absurd h
only-free P f (c ∷ d ∷ cs) us h = absurd h

module _ (E : ℕ → Rose TypeLabel → Type 0) where
  pub parts-free : (ps : Particles) (l : TypeLabel) (b : Bool) (i : ℕ) (cs : List Component) (us : List (Rose TypeLabel)) → ArePartsOf E l b ps i cs us → AreFree cs
  parts-free model.none l b i cs us h = none-free cs us h
  parts-free (model.more (occurs t least most) ps) l b i [] us h = absurd h
  parts-free (model.more (occurs t least most) ps) l b i (c ∷ cs) [] h = absurd h
  parts-free (model.more (occurs t least most) ps) l b i (c ∷ cs) (u ∷ us) h =
      first-free c cs (part-free l i b t least most (HasTerm E t) c u h.0) (parts-free ps l b (i + 1) cs us h.1)

  pub top-free : (p : Particle) (l : TypeLabel) (i : ℕ) (cs : List Component) (us : List (Rose TypeLabel)) → IsTop E p l i cs us → AreFree cs
  top-free p l i cs us (parted ps is g) = parts-free ps l false i cs us g
  top-free p l i cs us (ordered ps is single g) = parts-free ps l false i cs us g
  top-free p l i cs us (whole t least most is in_one g) =
      only-free (IsPart l i false t least most (HasTerm E t)) (λ c u h. part-free l i false t least most (HasTerm E t) c u h) cs us g

  module _ (s : Set) (M : List Assignment) where
    pub content-free : (c : Content) (l : TypeLabel) (i : ℕ) (cs : List Component) (us : List (Rose TypeLabel)) → AreContent E s M c l i cs us → AreFree cs
    content-free content_.Empty l i cs us h = none-free cs us h
    content-free (content_.Simple n) l i cs us h = only-free (IsBase s M n l i) (λ c u g. g.is.free refl) cs us h
    content-free (content_.ElementOnly particle) l i cs us h = top-free (seen particle) l i cs us h
    content-free (content_.Mixed particle) l i cs us h = top-free (seen particle) l i cs us h

    pub rest-free : (nillable : Bool) (c : Content) (l : TypeLabel) (i : ℕ) (cs : List Component) (us : List (Rose TypeLabel)) → AreRest E s M nillable c l i cs us → AreFree cs
    rest-free true c l i cs us h = only-free (IsInner (HasInner E s M c) l i) (λ d u g. g.is.free refl) cs us h
    rest-free false c l i cs us h = content-free c l i cs us h

    -- of a SEQUENCE of the parts of a content
    pub sequence-free : (c : Content) (u : Rose TypeLabel) (has : HasParts E s M c u) → AreFree has.0
    sequence-free c u has = content-free c (type_label (form.Sequence has.0) []) 0 has.0 (list_of has.1) has.3
