-- The items of a value that fits are sound: the induction over the levels of elements that are left.
use Rattle.std.proofs.Common.{◌≡◌, ℕ, zero, suc, ◌+◌, ◌≤◌, Bool, true, false, Option, Some, None, List, [], refl, sym, ap, subst, ◌∙◌, arith}
use Rattle.std.specs.Prelude.{slice_get, IsSomeAnd, MatchBool}
use Rattle.std.specs.Option.{option_map}
use Rattle.std.proofs.lemmas.List.Elements.{All-nil}
use Rattle.base_texts.specs.declared.texts.Name.{Name}
use Rattle.base_trees.specs.Rose.{Rose}
use Rattle.simple_types.specs.declared.labels.ValueLabel.{ValueLabel}
use Rattle.xml_read.specs.Sound.{is_sound_name}
use Rattle.asn_types.specs.declared.modules.Assignment.{Assignment}
use Rattle.asn_types.specs.declared.types.TypeLabel.{TypeLabel}
use Rattle.asn_types.specs.Names.{name_told}
use Rattle.asn_types.specs.Refs.{resolve}
use Rattle.asn_values.specs.Values.{FitsAt}
use Rattle.schema_components.specs.declared.components.ElementDecl.{ElementDecl}
use Rattle.schema_components.specs.declared.components.ComplexDef.{ComplexDef}
use Rattle.schema_components.specs.declared.components.Content.TheVariants as content_
use Rattle.schema_components.specs.declared.components.TypeOf.{TypeOf}
use Rattle.schema_components.specs.declared.components.TypeOf.TheVariants as kind
use Rattle.schema_components.specs.Components.{Set}
use Rattle.schema_components.specs.Linked.{IsElement, IsTyped, IsUse, IsNamed, IsComplexType, IsLinked}
use Rattle.map_subjects.specs.Subjects.{place_in}
use Rattle.map_subjects.proofs.Finding.{all-at}
use Rattle.map_assignments.specs.Mapped.{IsMapOf, root_at}
use Rattle.map_laws.specs.Standing.{IsSimpleOf, HasNillable, HasComplex, HasContent}
use Rattle.map_laws.specs.Statements.{IsTypeAt}
use Rattle.map_laws.proofs.Leading.{types-lead}
use Rattle.map_laws.proofs.Roots.{roots-lead}
use Rattle.asn_types.specs.Spaces.{spelling}
use Rattle.xer_items.specs.Items.{element_of, inside, root_of, Xer}
use Rattle.xer_items.specs.Sound.{IsSound}
use Rattle.schema_components.specs.Small.{AreSmall}
use Rattle.value_laws.proofs.Simples.{text-inside, text-spelled}
use Rattle.value_laws.proofs.Walking.{sorted-apart}
use Rattle.value_laws.proofs.ComplexItems.{complex-gives}
use Rattle.value_laws.proofs.Declarations.{none-at, depth-is}
use Rattle.value_laws.specs.SoundItems.{SoundItems}
use Rattle.value_laws.proofs.Names.{sound-name}
use Rattle.value_laws.proofs.SoundSpelled.{spelling-characters}
use Rattle.value_laws.proofs.SoundComplexes.{alone-sound, complex-sound}

module _ (s : Set) (M : List Assignment) (linked : IsLinked s) (small : AreSmall s) (is_map : IsMapOf s M) where
  abbrev E : ℕ → Rose TypeLabel → Type 0
  E = IsTypeAt s (place_in is_map.entries)

  -- an element of this name with the items of a value of the type is sound
  abbrev Sounds : ℕ → Rose TypeLabel → Type 0
  Sounds depth u = (v : Rose ValueLabel) → FitsAt M depth u v → (name : Name) → is_sound_name name ≡ true → IsSound (element_of name (inside M u v))

  -- by the kind of the declaration
  content-by : (depth : ℕ) → ((d : ℕ) (a : Name) → IsNamed s (d, a) → (t : Rose TypeLabel) (x : Rose ValueLabel) → E d t → FitsAt M (suc depth) t x → IsSound (element_of a (inside M t x)))
      → (e : ElementDecl) → IsElement s e → (u : Rose TypeLabel) → HasContent E s M e (resolve M u) → Sounds depth u
  content-by depth below-sound e ok u has v fits name fine = by e.kind e.nillable ok.1 has
    where
      by-complex : (nillable : Bool) (n : ℕ) (o : Option ComplexDef) → slice_get s.complexes n ≡ o → IsSomeAnd o (λ (c : ComplexDef). HasComplex E s M nillable c (resolve M u)) → IsSound (element_of name (inside M u v))
      by-complex nillable n None g h = absurd h
      by-complex nillable n (Some c) g h =
          let is = all-at (IsComplexType s) s.complexes n c g linked.complexes in
          complex-sound s linked M E depth below-sound nillable c is.uses (sorted-apart c.uses is.ascending) is.content (inside M u v)
          (complex-gives M E depth s (text-inside s linked small M) (text-spelled s linked small M depth) nillable c is.content u h v fits) name fine

      by : (k : TypeOf) (nillable : Bool) → IsTyped s k → elim k as (λ _. Type 0) [
        | kind.Simple n ↦ MatchBool nillable (HasNillable s M n (resolve M u)) (IsSimpleOf s n (resolve M u))
        | kind.Complex n ↦ IsSomeAnd (slice_get s.complexes n) (λ (c : ComplexDef). HasComplex E s M nillable c (resolve M u))
      ] → IsSound (element_of name (inside M u v))
      by (kind.Simple n) true typed h =
          let c : ComplexDef = record { name = None; uses = []; content = content_.Simple n } in
          complex-sound s linked M E depth below-sound true c (All-nil (IsUse s)) tt typed (inside M u v)
          (complex-gives M E depth s (text-inside s linked small M) (text-spelled s linked small M depth) true c typed u h v fits) name fine
      by (kind.Simple n) false typed h =
          let t = text-spelled s linked small M depth n u v h fits in
          subst (λ z. IsSound (element_of name z)) (sym t.0) ((fine, tt), alone-sound (spelling M u v) (spelling-characters s linked n (spelling M u v) t.1))
      by (kind.Complex n) nillable typed h = by-complex nillable n (slice_get s.complexes n) refl h

  declared : (d : ℕ) (e : ElementDecl) → slice_get s.elements d ≡ Some e → IsElement s e
  declared d e g = all-at (IsElement s) s.elements d e g linked.elements

  named-sound : (depth : ℕ) → ((d : ℕ) (e : ElementDecl) → slice_get s.elements d ≡ Some e → (u : Rose TypeLabel) → HasContent E s M e (resolve M u) → Sounds depth u)
      → (d : ℕ) (a : Name) → IsNamed s (d, a) → (t : Rose TypeLabel) (x : Rose ValueLabel) → E d t → FitsAt M depth t x → IsSound (element_of a (inside M t x))
  named-sound depth f d a named t x h fits = by (slice_get s.elements d) refl named
    where
      by : (o : Option ElementDecl) → slice_get s.elements d ≡ o → IsSomeAnd o (λ (e : ElementDecl). e.name ≡ a) → IsSound (element_of a (inside M t x))
      by None g k = absurd k
      by (Some e) g k =
          subst (λ n. IsSound (element_of n (inside M t x))) k
          (f d e g t (types-lead s M linked is_map d e t g h) x fits e.name (sound-name e.name (declared d e g).0))

  content-sound : (levels depth : ℕ) → 65 ≤ depth + levels → (d : ℕ) (e : ElementDecl) → slice_get s.elements d ≡ Some e → (u : Rose TypeLabel) → HasContent E s M e (resolve M u) → Sounds depth u
  content-sound zero depth enough d e is u has v fits name fine = absurd (let deep = depth-is M depth u v fits in omega (arith, deep, enough))
  content-sound (suc levels) depth enough d e is u has v fits name fine =
      content-by depth (λ k a n t x h fx. named-sound (suc depth) (λ i z g y c. content-sound levels (suc depth) (omega (arith, enough)) i z g y c) k a n t x h fx) e (declared d e is) u has v fits name fine

pub sound-items : SoundItems
sound-items s M linked small is_map d below v fits = by (slice_get s.elements d) refl
  where
    at-root : (o : Option Assignment) (a : Assignment) → o ≡ Some a → elim o as (λ _. Type 0) [ None ↦ ⊥ | Some x ↦ FitsAt M 1 x.body v ] → FitsAt M 1 a.body v
    at-root None a g p = absurd p
    at-root (Some x) a g p = let same : x ≡ a = cc in subst (λ y. FitsAt M 1 y.body v) same p

    by : (o : Option ElementDecl) → slice_get s.elements d ≡ o → IsSomeAnd (Xer M (root_at s M is_map d) v) IsSound
    by None g = absurd (let few = none-at s.elements d g in let globals = linked.globals in omega (arith, few, below, globals))
    by (Some e) g =
        let root = roots-lead s M linked is_map d e below g in
        let a = root.assignment in
        let here = at-root (slice_get M (root_at s M is_map d)) a root.at fits in
        let fine : is_sound_name (name_told a.reference a.marks) ≡ true = ap is_sound_name root.name ∙ sound-name e.name (declared s M linked small is_map d e g).0 in
        let it : IsSound (root_of M a v) = content-sound s M linked small is_map 64 1 (omega arith) d e g a.body root.content v here (name_told a.reference a.marks) fine in
        subst (λ o. IsSomeAnd (option_map (λ (y : Assignment). root_of M y v) o) IsSound) (sym root.at) it
