-- A set that hangs together still does once its default and fixed values stand in canonical spelling.
use Rattle.std.proofs.Common.{◌≡◌, ℕ, ◌≤◌, arith, Bool, true, false, List, [], ◌∷◌, ◌++◌, length, map, All, Option, Some, None, refl, sym, ap, ◌∙◌, subst}
use Rattle.std.specs.Prelude.{Ok, Err, nat_eq, slice_get, IsSomeAnd}
use Rattle.std.specs.List.{Any, filter_map, cons_option, count_by, flat_map, IsDistinct}
use Rattle.std.specs.List.Sorted.{IsStrictlySortedBy}
use Rattle.std.specs.Option.{option_map}
use Rattle.std.proofs.lemmas.List.{length-map}
use Rattle.std.proofs.lemmas.Option.{slice_get-map}
use Rattle.base_texts.specs.declared.texts.Name.{Name}
use Rattle.base_texts.specs.Names.{name_eq, name_cmp}
use Rattle.base_trees.specs.Rose.{Rose}
use Rattle.content_models.specs.declared.particles.ParticleLabel.{ParticleLabel}
use Rattle.simple_types.specs.declared.labels.ValueLabel.{ValueLabel}
use Rattle.simple_types.specs.declared.standards.Standard.{Standard}
use Rattle.simple_types.specs.declared.standards.Standard.TheVariants.{Free, Default, Fixed}
use Rattle.simple_types.specs.Seen.{space_of}
use Rattle.simple_types.specs.Sound.{Sound}
use Rattle.simple_types.specs.Reading.{Reading, reads, spelled, Holds}
use Rattle.simple_types.proofs.OwnSpellings.{holds_again}
use Rattle.schema_components.specs.Components.{Set, components, model_of, element_type, IsUnnamed}
use Rattle.schema_components.specs.Linked.{leaves_of, leaves_of_model, IsTyped, IsElement, IsUse, IsAttribute, IsStandardAt, IsSpellingAt, MayBeFor, HasStandard, IsModel, IsContent, IsComplexType, IsJustBelow, IsChain, IsLinked}
use Rattle.schema_components.specs.declared.components.AttributeUse.{AttributeUse}
use Rattle.schema_components.specs.declared.components.ComplexDef.{ComplexDef}
use Rattle.schema_components.specs.declared.components.Content.{Content}
use Rattle.schema_components.specs.declared.components.Content.TheVariants as content
use Rattle.schema_components.specs.declared.components.GlobalAttribute.{GlobalAttribute}
use Rattle.schema_components.specs.declared.components.SimpleDef.{SimpleDef}
use Rattle.schema_components.specs.declared.components.TypeOf.{TypeOf}
use Rattle.schema_components.specs.declared.components.TypeOf.TheVariants as type
use Rattle.link_simple.specs.Spellings.{spelling, spelled_as, as_default, as_fixed}
use Rattle.link_set.specs.Sets.{NamedSpace, named_space, named_spaces, space_at, or_free, unless_required, spelled_standard, spelled_attribute, spelled_use, spelled_complex}
use Rattle.link_schemas.proofs.Items.{of_mapped, each_item, item_of_all, item_at}
use Rattle.link_schemas.proofs.Joined.{IsJoinedType, IsJoined}

-- ---- what may be of a use

pub unless : (required : Bool) (standard : Standard) → MayBeFor required (unless_required required standard)
unless required Free = tt
unless true (Default text) = tt
unless false (Default text) = refl
unless required (Fixed text) = tt

default_fits : (required : Bool) (o : Option (List ℕ)) → required ≡ false → MayBeFor required (or_free (as_default o))
default_fits required None e = tt
default_fits required (Some text) e = e

fixed_fits : (required : Bool) (o : Option (List ℕ)) → MayBeFor required (or_free (as_fixed o))
fixed_fits required None = tt
fixed_fits required (Some text) = tt

still_fits : (required : Bool) (ts : List NamedSpace) (n : ℕ) (standard : Standard) → MayBeFor required standard → MayBeFor required (spelled_standard ts n standard)
still_fits required ts n Free h = tt
still_fits required ts n (Default text) h = default_fits required (spelling (space_at ts n) text) h
still_fits required ts n (Fixed text) h = fixed_fits required (spelling (space_at ts n) text)

-- ---- the set with other value constraints

abbrev pub respelled : List NamedSpace → Set → Set
respelled ts s = components s.elements s.globals s.simples (map (spelled_complex ts) s.complexes) (map (spelled_attribute ts) s.attributes)

module _ (ts : List NamedSpace) where
  type_names : (cs : List ComplexDef) → filter_map (λ (c : ComplexDef). c.name) (map (spelled_complex ts) cs) ≡ filter_map (λ (c : ComplexDef). c.name) cs
  type_names [] = refl
  type_names (c ∷ cs) = ap (cons_option c.name) (type_names cs)

  same_models : (cs : List ComplexDef) → filter_map (λ (c : ComplexDef). model_of c.content) (map (spelled_complex ts) cs) ≡ filter_map (λ (c : ComplexDef). model_of c.content) cs
  same_models [] = refl
  same_models (c ∷ cs) = ap (cons_option (model_of c.content)) (same_models cs)

  attribute_names : (gs : List GlobalAttribute) → map (λ (g : GlobalAttribute). g.name) (map (spelled_attribute ts) gs) ≡ map (λ (g : GlobalAttribute). g.name) gs
  attribute_names [] = refl
  attribute_names (g ∷ gs) = ap (λ ns. g.name ∷ ns) (attribute_names gs)

  use_names : (us : List AttributeUse) → map (λ (u : AttributeUse). u.name) (map (spelled_use ts) us) ≡ map (λ (u : AttributeUse). u.name) us
  use_names [] = refl
  use_names (u ∷ us) = ap (λ ns. u.name ∷ ns) (use_names us)

  module _ (s : Set) where
    as_many : length (map (spelled_complex ts) s.complexes) ≡ length s.complexes
    as_many = length-map s.complexes (spelled_complex ts)

    typed : (k : TypeOf) → IsTyped s k → IsTyped (respelled ts s) k
    typed (type.Simple n) lt = lt
    typed (type.Complex n) lt = let same = as_many in omega (arith, lt, same)

    model_stays : (m : Rose ParticleLabel) → IsModel s m → IsModel (respelled ts s) m
    model_stays m h = record { few = h.few; shallow = h.shallow; occurring = h.occurring; clear = h.clear; named = h.named; consistent = h.consistent }

    content_stays : (k : Content) → IsContent s k → IsContent (respelled ts s) k
    content_stays content.Empty h = h
    content_stays (content.Simple n) h = h
    content_stays (content.ElementOnly m) h = model_stays m h
    content_stays (content.Mixed m) h = model_stays m h

    name_at : (o : Option ComplexDef) → option_map (λ (c : ComplexDef). c.name) (option_map (spelled_complex ts) o) ≡ option_map (λ (c : ComplexDef). c.name) o
    name_at None = refl
    name_at (Some c) = refl

    was_unnamed : (n : ℕ) → IsUnnamed (respelled ts s) n → IsUnnamed s n
    was_unnamed n e =
        sym (ap (option_map (λ (c : ComplexDef). c.name)) (slice_get-map (spelled_complex ts) s.complexes n) ∙ name_at (slice_get s.complexes n)) ∙ e

    abbrev Has : ℕ → ComplexDef → Type 0
    Has m c = Any (λ (leaf : ℕ × Name). (s.globals ≤ leaf.0) × (element_type s leaf.0 ≡ Some (type.Complex m))) (leaves_of c.content)

    has_at : (m : ℕ) (o : Option ComplexDef) → IsSomeAnd (option_map (spelled_complex ts) o) (Has m) → IsSomeAnd o (Has m)
    has_at m None h = h
    has_at m (Some c) h = h

    was_below : (n m : ℕ) → IsJustBelow (respelled ts s) n m → IsJustBelow s n m
    was_below n m h =
        (was_unnamed m h.0, has_at m (slice_get s.complexes n) (subst (λ o. IsSomeAnd o (Has m)) (slice_get-map (spelled_complex ts) s.complexes n) h.1))

    was_chain : (ns : List ℕ) → IsChain (respelled ts s) ns → IsChain s ns
    was_chain [] h = h
    was_chain (n ∷ []) h = let same = as_many in omega (arith, h, same)
    was_chain (n ∷ m ∷ ns) h = (was_below n m h.0, was_chain (m ∷ ns) h.1)

-- ---- canonical spellings

module _ (s : Set) (sound : All (λ (t : SimpleDef). Sound (space_of t.space)) s.simples) where
  abbrev spaces : List NamedSpace
  spaces = named_spaces s.simples

  abbrev made : Set
  made = respelled spaces s

  seen_at : (o : Option SimpleDef) → option_map (λ (t : NamedSpace). t.space) (option_map named_space o) ≡ option_map (λ (t : SimpleDef). space_of t.space) o
  seen_at None = refl
  seen_at (Some t) = refl

  space_is : (n : ℕ) → space_at spaces n ≡ option_map (λ (t : SimpleDef). space_of t.space) (slice_get s.simples n)
  space_is n = ap (option_map (λ (t : NamedSpace). t.space)) (slice_get-map named_space s.simples n) ∙ seen_at (slice_get s.simples n)

  abbrev IsSpelling : Option (List ℕ) → ℕ → Type 0
  IsSpelling None n = Unit {0}
  IsSpelling (Some text) n = IsSpellingAt made n text

  sound_at : (n : ℕ) (t : SimpleDef) → slice_get s.simples n ≡ Some t → Sound (space_of t.space)
  sound_at n t e = item_of_all (λ (u : SimpleDef). Sound (space_of u.space)) s.simples sound t (item_at s.simples n t e)

  by_reading : (n : ℕ) (t : SimpleDef) (text : List ℕ) → slice_get s.simples n ≡ Some t → (r : Reading) → reads (space_of t.space) text ≡ r
      → IsSpelling (spelled_as (space_of t.space) r) n
  by_reading n t text e (Ok v) is =
      subst (λ o. IsSomeAnd o (λ (u : SimpleDef). (w : Rose ValueLabel) × Holds (space_of u.space) w × (spelled (space_of u.space) w ≡ spelled (space_of t.space) v))) (sym e)
      (v, holds_again (space_of t.space) (sound_at n t e) text v is, refl)
  by_reading n t text e (Err w) is = tt

  is_spelling : (n : ℕ) (text : List ℕ) (o : Option SimpleDef) → slice_get s.simples n ≡ o
      → IsSpelling (spelling (option_map (λ (t : SimpleDef). space_of t.space) o) text) n
  is_spelling n text None e = tt
  is_spelling n text (Some t) e = by_reading n t text e (reads (space_of t.space) text) refl

  spelled_at : (n : ℕ) (text : List ℕ) → IsSpelling (spelling (space_at spaces n) text) n
  spelled_at n text = subst (λ o. IsSpelling (spelling o text) n) (sym (space_is n)) (is_spelling n text (slice_get s.simples n) refl)

  default_at : (n : ℕ) (o : Option (List ℕ)) → IsSpelling o n → IsStandardAt made n (or_free (as_default o))
  default_at n None h = tt
  default_at n (Some text) h = h

  fixed_at : (n : ℕ) (o : Option (List ℕ)) → IsSpelling o n → IsStandardAt made n (or_free (as_fixed o))
  fixed_at n None h = tt
  fixed_at n (Some text) h = h

  standard_at : (n : ℕ) (standard : Standard) → IsStandardAt made n (spelled_standard spaces n standard)
  standard_at n Free = tt
  standard_at n (Default text) = default_at n (spelling (space_at spaces n) text) (spelled_at n text)
  standard_at n (Fixed text) = fixed_at n (spelling (space_at spaces n) text) (spelled_at n text)

  -- ---- the whole set

  type_stays : (c : ComplexDef) → IsJoinedType s c → IsComplexType made (spelled_complex spaces c)
  type_stays c h = record {
    named = h.named;
    few = let few = h.few in let same = length-map c.uses (spelled_use spaces) in omega (arith, few, same);
    uses = each_item (IsUse made) (map (spelled_use spaces) c.uses) (λ v i.
        let r = of_mapped (spelled_use spaces) c.uses v i in subst (IsUse made) r.2 (item_of_all (IsUse s) c.uses h.uses r.0 r.1));
    standards = each_item (HasStandard made) (map (spelled_use spaces) c.uses) (λ v i.
        let r = of_mapped (spelled_use spaces) c.uses v i in
        subst (HasStandard made) r.2
        (standard_at r.0.simple r.0.standard, still_fits r.0.required spaces r.0.simple r.0.standard (item_of_all (λ (u : AttributeUse). MayBeFor u.required u.standard) c.uses h.fitting r.0 r.1)));
    ascending = subst (IsStrictlySortedBy name_cmp) (sym (use_names spaces c.uses)) h.ascending;
    content = content_stays spaces s c.content h.content;
  }

  pub respelled_linked : IsJoined s → IsLinked made
  respelled_linked h =
      let spelled = spelled_complex spaces in
      let attribute = spelled_attribute spaces in
      record {
        few_elements = h.few_elements;
        few_simples = h.few_simples;
        few_complexes = let few = h.few_complexes in let same = as_many spaces s in omega (arith, few, same);
        few_attributes = let few = h.few_attributes in let same = length-map s.attributes attribute in omega (arith, few, same);
        globals = h.globals;
        elements = each_item (IsElement made) s.elements (λ e i. let good = item_of_all (IsElement s) s.elements h.elements e i in (good.0, typed spaces s e.kind good.1));
        simples = h.simples;
        complexes = each_item (IsComplexType made) (map spelled s.complexes) (λ x i.
            let r = of_mapped spelled s.complexes x i in subst (IsComplexType made) r.2 (type_stays r.0 (item_of_all (IsJoinedType s) s.complexes h.complexes r.0 r.1)));
        attributes = each_item (IsAttribute made) (map attribute s.attributes) (λ x i.
            let r = of_mapped attribute s.attributes x i in subst (IsAttribute made) r.2 (item_of_all (IsAttribute s) s.attributes h.attributes r.0 r.1));
        standards = each_item (λ (a : GlobalAttribute). IsStandardAt made a.simple a.standard) (map attribute s.attributes) (λ x i.
            let r = of_mapped attribute s.attributes x i in
            subst (λ (a : GlobalAttribute). IsStandardAt made a.simple a.standard) r.2 (standard_at r.0.simple r.0.standard));
        elements_apart = h.elements_apart;
        types_apart = subst (IsDistinct name_eq) (sym (ap (λ ns. filter_map (λ (t : SimpleDef). t.name) s.simples ++ ns) (type_names spaces s.complexes))) h.types_apart;
        attributes_apart = subst (IsDistinct name_eq) (sym (attribute_names spaces s.attributes)) h.attributes_apart;
        one_particle = λ n from lt.
            ap (λ ms. count_by (nat_eq n) (flat_map (λ p. map (λ (leaf : ℕ × Name). leaf.0) (leaves_of_model p)) ms)) (same_models spaces s.complexes) ∙ h.one_particle n from lt;
        one_declaration = λ n unnamed. h.one_declaration n (was_unnamed spaces s n unnamed);
        descending = λ n m below. h.descending n m (was_below spaces s n m below);
        short = λ ns chain. h.short ns (was_chain spaces s ns chain);
      }
