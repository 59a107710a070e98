-- Values of the simple types of a linked set: their items are a text, which tells them.
use Rattle.std.proofs.Common.{◌≡◌, ℕ, zero, suc, ◌∷◌, subst, List, [], Option, Some, None, refl, sym, ap, ◌∙◌}
use Rattle.std.specs.Prelude.{Ok, slice_get, IsSomeAnd}
use Rattle.base_trees.specs.Rose.{Rose, Roses}
use Rattle.base_trees.specs.Rose as rose
use Rattle.simple_types.specs.Space.{Space, Booleans}
use Rattle.simple_types.specs.Sound.{Sound}
use Rattle.simple_types.specs.Seen.{space_of}
use Rattle.simple_types.specs.declared.labels.ValueLabel.{ValueLabel}
use Rattle.simple_types.specs.Reading.{reads, spelled}
use Rattle.xml_items.specs.Mixing.{text_before}
use Rattle.schema_components.specs.declared.components.SimpleDef.{SimpleDef}
use Rattle.schema_components.specs.Components.{Set}
use Rattle.schema_components.specs.Linked.{IsLinked}
use Rattle.schema_components.specs.SetParts.{named_space, named_spaces, parts_of}
use Rattle.validity_rules.specs.Asked.{space_at}
use Rattle.asn_types.specs.declared.modules.Assignment.{Assignment}
use Rattle.asn_types.specs.declared.types.TypeLabel.{TypeLabel}
use Rattle.asn_types.specs.Refs.{resolve}
use Rattle.asn_types.specs.Simples.{MapsTo}
use Rattle.asn_values.specs.Values.{FitsAt}
use Rattle.asn_types.proofs.SimpleLaws.{maps-seen}
use Rattle.map_subjects.proofs.Finding.{all-at}
use Rattle.map_laws.specs.Standing.{IsSimpleOf}
use Rattle.map_laws.proofs.Contents.{map-back}
use Rattle.asn_types.specs.Spaces.{spelling}
use Rattle.xer_items.specs.Items.{given, inside}
use Rattle.simple_types.specs.Small.{IsSmall}
use Rattle.xer_items.proofs.Holding.{fitting_holds}
use Rattle.xer_items.proofs.Texts.{texts_of_values, one_value_of_text}
use Rattle.schema_components.specs.Small.{AreSmall}

pub found-in : (ts : List SimpleDef) (n : ℕ) (t : SimpleDef) → slice_get ts n ≡ Some t → slice_get (named_spaces ts) n ≡ Some (named_space t)
found-in [] n t e = absurd (cc)
found-in (x ∷ ts) zero t e = let same : x ≡ t = cc in ap (λ z. Some (named_space z)) same
found-in (x ∷ ts) (suc n) t e = found-in ts n t e

module _ (s : Set) (linked : IsLinked s) (small : AreSmall s) (M : List Assignment) where
  abbrev IsFound : Rose TypeLabel → Type 0
  IsFound u = (x : Space) × Sound x × IsSmall x × MapsTo x u

  space-found : (n : ℕ) (u : Rose TypeLabel) → IsSimpleOf s n u → IsFound u
  space-found n u h = by (slice_get s.simples n) refl (map-back s linked n u h)
    where
      by : (o : Option SimpleDef) → slice_get s.simples n ≡ o → IsSomeAnd o (λ (t : SimpleDef). Sound (space_of t.space) × MapsTo (space_of t.space) u) → IsFound u
      by None e k = absurd k
      by (Some t) e k = (space_of t.space, k.0, all-at (λ (x : SimpleDef). IsSmall (space_of x.space)) s.simples n t e small, k.1)

  pub text-inside : (n : ℕ) (u : Rose TypeLabel) (v : Rose ValueLabel) → IsSimpleOf s n (resolve M u) → (words : List ℕ) × (inside M u v ≡ given [] (text_before words rose.none))
  text-inside n u v h = let f = space-found n (resolve M u) h in (spelled f.0 v, texts_of_values M u v f.0 f.3)

  pub text-same : (depth n : ℕ) (u : Rose TypeLabel) (v w : Rose ValueLabel) → IsSimpleOf s n (resolve M u) → FitsAt M depth u v → FitsAt M depth u w → (inside M u v).kids ≡ (inside M u w).kids → v ≡ w
  text-same depth n u v w h fv fw e = let f = space-found n (resolve M u) h in one_value_of_text M depth depth u v w f.0 f.1 f.2 f.3 fv fw e

  pub spell-same : (depth n : ℕ) (u : Rose TypeLabel) (v w : Rose ValueLabel) → IsSimpleOf s n (resolve M u) → FitsAt M depth u v → FitsAt M depth u w → spelling M u v ≡ spelling M u w → v ≡ w
  spell-same depth n u v w h fv fw e =
      let f = space-found n (resolve M u) h in
      let same : f.0 ≡ _ = maps-seen f.0 (resolve M u) f.3 in
      let words : spelled f.0 v ≡ spelled f.0 w = ap (λ z. spelled z v) same ∙ e ∙ sym (ap (λ z. spelled z w) same) in
      let one = fitting_holds M depth u v f.0 f.1 f.2 f.3 fv in
      let two = fitting_holds M depth u w f.0 f.1 f.2 f.3 fw in
      let both = sym one ∙ ap (reads f.0) words ∙ two in
      cc

  abbrev Spells : Space → List ℕ → Type 0
  Spells space words = (v : Rose ValueLabel) × (reads space words ≡ Ok v) × (spelled space v ≡ words)

  -- the spelling of a value, by the space that validity asks for
  pub spells : (depth n : ℕ) (u : Rose TypeLabel) (v : Rose ValueLabel) → IsSimpleOf s n (resolve M u) → FitsAt M depth u v → Spells (space_at (parts_of s) n) (spelling M u v)
  spells depth n u v h fits = by (slice_get s.simples n) refl (map-back s linked n (resolve M u) h)
    where
      by : (o : Option SimpleDef) → slice_get s.simples n ≡ o → IsSomeAnd o (λ (t : SimpleDef). Sound (space_of t.space) × MapsTo (space_of t.space) (resolve M u)) → Spells (space_at (parts_of s) n) (spelling M u v)
      by None e k = absurd k
      by (Some t) e k =
          let space = space_of t.space in
          let small_one = all-at (λ (x : SimpleDef). IsSmall (space_of x.space)) s.simples n t e small in
          let words : spelled space v ≡ spelling M u v = ap (λ z. spelled z v) (maps-seen space (resolve M u) k.1) in
          let holds : reads space (spelled space v) ≡ Ok v = fitting_holds M depth u v space k.0 small_one k.1 fits in
          let asked : space ≡ space_at (parts_of s) n = sym (ap (λ o. elim o as (λ _. Space) [ None ↦ Booleans | Some x ↦ x.space ]) (found-in s.simples n t e)) in
          subst (λ z. Spells z (spelling M u v)) asked (v, sym (ap (reads space) words) ∙ holds, words)

  -- its items are its spelling alone
  pub text-spelled : (depth n : ℕ) (u : Rose TypeLabel) (v : Rose ValueLabel) → IsSimpleOf s n (resolve M u) → FitsAt M depth u v
      → (inside M u v ≡ given [] (text_before (spelling M u v) rose.none)) × Spells (space_at (parts_of s) n) (spelling M u v)
  text-spelled depth n u v h fits =
      let f = space-found n (resolve M u) h in
      let same : spelled f.0 v ≡ spelling M u v = ap (λ z. spelled z v) (maps-seen f.0 (resolve M u) f.3) in
      (texts_of_values M u v f.0 f.3 ∙ ap (λ w. given [] (text_before w rose.none)) same, spells depth n u v h fits)
