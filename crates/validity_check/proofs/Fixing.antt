-- Why an attribute is wrong whose type accepts its text.
use Rattle.std.proofs.Common.{◌≡◌, ℕ, inl, inr, List, Option, Some, None, refl, sym, ap, subst, ◌∙◌}
use Rattle.std.specs.Prelude.{slice_get, MatchOption, IfOk, Result, Ok, Err}
use Rattle.std.specs.Option.{option_map}
use Rattle.std.proofs.lemmas.Option.{slice_get-map}
use Rattle.base_texts.specs.declared.texts.Name.{Name}
use Rattle.base_trees.specs.Rose.{Rose}
use Rattle.simple_types.specs.declared.labels.ValueLabel.{ValueLabel}
use Rattle.simple_types.specs.Seen.{space_of}
use Rattle.simple_types.specs.Space.{Space, Booleans}
use Rattle.simple_types.specs.Reading.{reads, spelled, Accepts}
use Rattle.schema_components.specs.declared.components.SimpleDef.{SimpleDef}
use Rattle.schema_components.specs.Components.{Set}
use Rattle.schema_components.specs.SetParts.{named_space, parts_of}
use Rattle.validity_rules.specs.Asked.{Attribute, space_at}
use Rattle.validity_rules.specs.Attributes.{declared, Refuses, IsFixedTo, IsOtherThanFixed, Takes, Declines, IsRight, IsWrong}
use Rattle.validity_rules.specs.declared.why.InvalidWhy.{InvalidWhy}
use Rattle.validity_rules.specs.declared.why.InvalidWhy.TheVariants.{UnknownAttribute, BadAttribute}

pub space_found : (s : Set) (n : ℕ) (t : SimpleDef) → slice_get s.simples n ≡ Some t → space_at (parts_of s) n ≡ space_of t.space
space_found s n t e =
    ap (λ o. elim o as (λ _. Space) [ None ↦ Booleans | Some x ↦ x.space ]) (slice_get-map named_space s.simples n ∙ ap (option_map named_space) e)

pub unknown : (wanted : List Attribute) (x : Name × List ℕ) → declared wanted x.0 ≡ None → IsWrong wanted UnknownAttribute x
unknown wanted x none = subst (λ o. elim o as (λ _. Type 0) [ None ↦ UnknownAttribute ≡ UnknownAttribute | Some b ↦ Declines b x.1 UnknownAttribute ]) (sym none) refl

module _ (wanted : List Attribute) (name : Name) (text : List ℕ) (a : Attribute) (known : declared wanted name ≡ Some a) where
  abbrev Judges : Space → Option InvalidWhy → Type 0
  Judges space found = (v : Rose ValueLabel) → Accepts space text v → MatchOption found
      (IsFixedTo a.standard (spelled space v))
      (λ why. IsOtherThanFixed a.standard (spelled space v) × (why ≡ BadAttribute))

  abbrev IsJudged : Option InvalidWhy → Type 0
  IsJudged found = MatchOption found (IsRight wanted (name, text)) (λ why. IsWrong wanted why (name, text))

  right : Takes a text → IsRight wanted (name, text)
  right h = subst (λ o. elim o as (λ _. Type 0) [ None ↦ ⊥ | Some b ↦ Takes b text ]) (sym known) h

  wrong : (why : InvalidWhy) → Declines a text why → IsWrong wanted why (name, text)
  wrong why h = subst (λ o. elim o as (λ _. Type 0) [ None ↦ why ≡ UnknownAttribute | Some b ↦ Declines b text why ]) (sym known) h

  pub refused : (space : Space) → a.space ≡ space → (why : InvalidWhy) → Refuses (reads space text) BadAttribute why → IsWrong wanted why (name, text)
  refused space same why h = wrong why (inl (subst (λ z. Refuses (reads z text) BadAttribute why) (sym same) h))

  judged : (found : Option InvalidWhy) (v : Rose ValueLabel) → Accepts a.space text v → Judges a.space found → IsJudged found
  judged None v e h = right (v, e, h v e)
  judged (Some why) v e h = let other = h v e in wrong why (inr (v, e, other.0, other.1))

  pub all_judged : {E : Type 0} (r : Result (Option InvalidWhy) E) (space : Space) → a.space ≡ space → (value : Rose ValueLabel) × Accepts space text value
      → IfOk r (λ found. Judges space found) → IfOk r (λ found. IsJudged found)
  all_judged (Err e) space same accepted h = h
  all_judged (Ok found) space same accepted h =
      judged found accepted.0 (subst (λ z. Accepts z text accepted.0) (sym same) accepted.1) (subst (λ z. Judges z found) (sym same) h)
