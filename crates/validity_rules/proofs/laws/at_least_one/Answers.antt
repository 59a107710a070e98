-- The law is proved by induction over the element and its kids: what its content model makes of a name is decided.
use Rattle.std.proofs.Common.{◌≡◌, ℕ, ◌⊎◌, inl, inr, Option, Some, None, true, refl}
use Rattle.base_texts.specs.declared.texts.Name.{Name}
use Rattle.base_trees.specs.Rose.{Rose, node}
use Rattle.xml_items.specs.declared.label.ItemLabel.{ItemLabel}
use Rattle.xml_items.specs.declared.label.ItemLabel.TheVariants.{Element, Text}
use Rattle.xml_items.specs.Plain.{Plain}
use Rattle.xml_read.specs.Sound.{is_element}
use Rattle.schema_components.specs.Components.{Set}
use Rattle.schema_components.specs.Linked.{IsLinked}
use Rattle.schema_components.specs.SetParts.{parts_of}
use Rattle.validity_rules.specs.Asked.{Inside, nothing, simple, children, asked_at, name_at}
use Rattle.validity_rules.specs.Valid.{Valid, ValidBy}
use Rattle.validity_rules.specs.Faults.{FirstFault, FaultBy}
use Rattle.validity_rules.specs.declared.why.InvalidWhy.TheVariants.{WrongRoot}
use Rattle.validity_rules.proofs.Deciding.{decides}
use Rattle.validity_rules.proofs.Exists.{CanDecide, decided, Some_fault}
use Rattle.validity_rules.proofs.Linked.{IsSound, sound_at}
use Rattle.validity_rules.proofs.Telling.{same_name}
use Rattle.validity_rules.proofs.laws.at_least_one.Goals as goal

can_of : (c : Inside) → IsSound c → CanDecide c
can_of nothing h = tt
can_of (simple space) h = tt
can_of (children mixed p) h = decides p h.0 h.1

named_or : (o : Option Name) (name : Name) → (o ≡ Some name) ⊎ (o ≡ Some name → ⊥)
named_or None name = inr (λ e. cc)
named_or (Some other) name = go (same_name other name)
  where
    go : (other ≡ name) ⊎ (other ≡ name → ⊥) → (Some other ≡ Some name) ⊎ (Some other ≡ Some name → ⊥)
    go (inl e) = inl (cc)
    go (inr f) = inr (λ (e : Some other ≡ Some name). f (cc))

module _ (s : Set) (linked : IsLinked s) (d : ℕ) where
  either : (t : Rose ItemLabel) → is_element t ≡ true → ((b : Rose Plain) × Valid (parts_of s) d t b) ⊎ Some_fault (FirstFault (parts_of s) d t)
  either (node (Text words at) ts) is = absurd (cc)
  either (node (Element name xs declares at) ts) is =
      go (named_or (name_at (parts_of s) d) name)
      (decided (asked_at (parts_of s)) (λ d. can_of (asked_at (parts_of s) d).inside (sound_at s linked d)) (node (Element name xs declares at) ts) d (λ at words e. cc))
    where
      go : (name_at (parts_of s) d ≡ Some name) ⊎ (name_at (parts_of s) d ≡ Some name → ⊥)
          → ((b : Rose Plain) × ValidBy (asked_at (parts_of s)) d (node (Element name xs declares at) ts) b) ⊎ Some_fault (FaultBy (asked_at (parts_of s)) d (node (Element name xs declares at) ts))
          → ((b : Rose Plain) × Valid (parts_of s) d (node (Element name xs declares at) ts) b) ⊎ Some_fault (FirstFault (parts_of s) d (node (Element name xs declares at) ts))
      go (inr f) k = inr (at, WrongRoot, inl (refl, refl, f))
      go (inl e) (inl v) = inl (v.0, (e, v.1))
      go (inl e) (inr (place, why, f)) = inr (place, why, inr (e, f))

pub returns : goal.returns
returns c = λ s linked d t is. either s linked d t is
