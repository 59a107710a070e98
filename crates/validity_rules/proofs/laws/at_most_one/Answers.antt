-- The law is proved by induction over the element and its kids.
use Rattle.std.proofs.Common.{ℕ}
use Rattle.base_trees.specs.Rose.{Rose, label_of}
use Rattle.xml_items.specs.Labels.{item_place}
use Rattle.xml_items.specs.declared.label.ItemLabel.{ItemLabel}
use Rattle.xml_items.specs.Plain.{Plain}
use Rattle.schema_components.specs.Components.{Set}
use Rattle.schema_components.specs.Linked.{IsLinked}
use Rattle.schema_components.specs.SetParts.{parts_of}
use Rattle.validity_rules.specs.Asked.{Inside, nothing, simple, children, asked_at, name_at}
use Rattle.validity_rules.specs.Valid.{Valid, HasName}
use Rattle.validity_rules.specs.Faults.{FirstFault, FaultBy, At}
use Rattle.validity_rules.specs.declared.why.InvalidWhy.TheVariants.{WrongRoot}
use Rattle.validity_rules.proofs.Linked.{IsSound, sound_at}
use Rattle.validity_rules.proofs.Unique.{IsClear, OneOnly, Never, then_one, then_never, at_one, clash, same, one_fault}
use Rattle.validity_rules.proofs.laws.at_most_one.Goals as goal

clear_of : (c : Inside) → IsSound c → IsClear c
clear_of nothing h = tt
clear_of (simple space) h = tt
clear_of (children mixed p) h = h.0

module _ (s : Set) (linked : IsLinked s) (d : ℕ) (t : Rose ItemLabel) where
  clear : (d : ℕ) → IsClear (asked_at (parts_of s) d).inside
  clear d = clear_of (asked_at (parts_of s) d).inside (sound_at s linked d)

  valid_without : (b : Rose Plain) → Valid (parts_of s) d t b → Never (FirstFault (parts_of s) d t)
  valid_without b h =
      then_never (At (item_place (label_of t)) WrongRoot (HasName (name_at (parts_of s) d) (label_of t) → ⊥)) (FaultBy (asked_at (parts_of s)) d t)
      (HasName (name_at (parts_of s) d) (label_of t)) (λ at why f. f.2 h.0) (clash (asked_at (parts_of s)) clear t d b h.1)

  one_first : OneOnly (FirstFault (parts_of s) d t)
  one_first =
      then_one (At (item_place (label_of t)) WrongRoot (HasName (name_at (parts_of s) d) (label_of t) → ⊥)) (FaultBy (asked_at (parts_of s)) d t)
      (HasName (name_at (parts_of s) d) (label_of t)) (at_one (item_place (label_of t)) WrongRoot (HasName (name_at (parts_of s) d) (label_of t) → ⊥))
      (λ w at why f. f.2 w) (one_fault (asked_at (parts_of s)) clear t d)

pub returns : goal.returns
returns c = λ s linked d t. (
  λ b at why h f. valid_without s linked d t b h at why f,
  λ b c h k. same (asked_at (parts_of s)) (clear s linked d t) t d b c h.1 k.1,
  λ at place why what f g. one_first s linked d t at place why what f g,
)
