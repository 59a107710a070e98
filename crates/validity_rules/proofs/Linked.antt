-- What a linked set keeps of the content of each element.
use Rattle.std.proofs.Common.{◌≡◌, ℕ, zero, suc, List, [], ◌∷◌, Option, Some, None, Bool, refl, subst}
use Rattle.std.specs.Prelude.{All, slice_get}
use Rattle.std.proofs.lemmas.List.Elements.{All-head, All-tail}
use Rattle.content_models.specs.Clear.{Clear}
use Rattle.content_models.specs.Occurring.{MayOccur}
use Rattle.schema_components.specs.declared.components.ElementDecl.{ElementDecl}
use Rattle.schema_components.specs.declared.components.TypeOf.{TypeOf}
use Rattle.schema_components.specs.declared.components.TypeOf.TheVariants as kind
use Rattle.schema_components.specs.declared.components.ComplexDef.{ComplexDef}
use Rattle.schema_components.specs.declared.components.Content.{Content}
use Rattle.schema_components.specs.declared.components.Content.TheVariants as content
use Rattle.schema_components.specs.Components.{Set}
use Rattle.schema_components.specs.Linked.{IsContent, IsComplexType, IsLinked}
use Rattle.schema_components.specs.SetParts.{parts_of}
use Rattle.validity_rules.specs.Asked.{Inside, nothing, simple, children, inside_of, asked_by, asked_by_type, asked_by_complex, asked_at}

-- a content model takes some list, and names find their leaves without looking ahead
abbrev pub IsSound : Inside → Type 0
IsSound nothing = Unit {0}
IsSound (simple space) = Unit {0}
IsSound (children mixed p) = Clear p [] × MayOccur p

pub all_at : {X : Type 0} (P : X → Type 0) (xs : List X) (i : ℕ) (x : X) → slice_get xs i ≡ Some x → All P xs → P x
all_at P [] i x e h = absurd (cc)
all_at P (y ∷ ys) zero x e h = let same : y ≡ x = cc in subst P same (All-head P y ys h)
all_at P (y ∷ ys) (suc i) x e h = all_at P ys i x e (All-tail P y ys h)

module _ (s : Set) (linked : IsLinked s) where
  sound_content : (c : Content) → IsContent s c → IsSound (inside_of (parts_of s) c)
  sound_content content.Empty h = tt
  sound_content (content.Simple n) h = tt
  sound_content (content.ElementOnly model) h = (h.clear, h.occurring)
  sound_content (content.Mixed model) h = (h.clear, h.occurring)

  sound_complex : (n : ℕ) (nillable : Bool) (o : Option ComplexDef) → slice_get s.complexes n ≡ o → IsSound (asked_by_complex (parts_of s) nillable o).inside
  sound_complex n nillable None e = tt
  sound_complex n nillable (Some c) e = let h = all_at (IsComplexType s) s.complexes n c e linked.complexes in sound_content c.content h.content

  sound_type : (nillable : Bool) (k : TypeOf) → IsSound (asked_by_type (parts_of s) nillable k).inside
  sound_type nillable (kind.Simple n) = tt
  sound_type nillable (kind.Complex n) = sound_complex n nillable (slice_get s.complexes n) refl

  sound_element : (o : Option ElementDecl) → IsSound (asked_by (parts_of s) o).inside
  sound_element None = tt
  sound_element (Some e) = sound_type e.nillable e.kind

  pub sound_at : (d : ℕ) → IsSound (asked_at (parts_of s) d).inside
  sound_at d = sound_element (slice_get s.elements d)
