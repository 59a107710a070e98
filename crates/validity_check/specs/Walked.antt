-- What is known behind some kids of an element, whose names a matcher took.
use Rattle.std.specs.Prelude.{◌≡◌, ℕ, ◌≤◌, List, Bool, length}
use Rattle.base_trees.specs.Rose.{Rose, Roses, roses_of}
use Rattle.content_models.specs.Particle.{Particle}
use Rattle.content_models.specs.Language.{Leaf}
use Rattle.content_match.specs.Taking.{Matched, Took}
use Rattle.xml_items.specs.declared.label.ItemLabel.{ItemLabel}
use Rattle.xml_items.specs.Plain.{Plain}
use Rattle.schema_components.specs.Components.{Set}
use Rattle.schema_components.specs.SetParts.{parts_of}
use Rattle.validity_rules.specs.Asked.{asked_at}
use Rattle.validity_rules.specs.Valid.{KidsValid}
use Rattle.validity_rules.specs.Faults.{front}

-- the kids before number i are those of the leaves that were taken, and are well
pub record Walked (s : Set) (mixed : Bool) (p : Particle) (kids : List (Rose ItemLabel)) (i : ℕ) (k : Matched) : Type 0 where
  pub particle : k.particle ≡ p
  pub us : List Leaf
  pub took : Took k us
  pub vs : Roses Plain
  pub fine : KidsValid (asked_at (parts_of s)) mixed (front i (roses_of kids)) us vs
  pub few : length us ≤ i
