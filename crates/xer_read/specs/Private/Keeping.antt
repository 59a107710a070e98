-- The kids of an element as they are walked, one by one: child elements by their values, and the texts between them.
use Rattle.std.specs.Prelude.{◌≡◌, ℕ, ◌≤◌, Bool, true, false, List, [], ◌∷◌, ◌++◌, length, map, Option, Some, None}
use Rattle.base_texts.specs.declared.texts.Name.{Name}
use Rattle.base_trees.specs.Rose.{Rose, node, Roses, roses_of, label_of}
use Rattle.base_trees.specs.Rose as rose
use Rattle.base_flat_trees.specs.Zips.{Zip}
use Rattle.simple_types.specs.declared.labels.ValueLabel.{ValueLabel}
use Rattle.simple_types.specs.declared.labels.ValueLabel.TheVariants as value
use Rattle.content_models.specs.Particle.{Particle, occurs, Term, element, Particles, none, more}
use Rattle.content_models.specs.Language.{Leaf}
use Rattle.content_models.specs.Spots.{Spot, at, among, unmarked}
use Rattle.content_match.specs.Taking.{Matched, Took, spot_of}
use Rattle.xml_items.specs.declared.label.ItemLabel.{ItemLabel}
use Rattle.xml_items.specs.declared.label.ItemLabel.TheVariants.{Element, Text}
use Rattle.xml_read.specs.Sound.{levels_all}
use Rattle.xml_items.specs.Plain.{Plain}
use Rattle.xml_items.specs.Mixing.{child_elements}
use Rattle.schema_components.specs.Components.{Set}
use Rattle.asn_values.specs.Ordering.{taken}
use Rattle.asn_values.specs.Orders.{are_just_set}
use Rattle.schema_components.specs.Linked.{IsNamed}
use Rattle.schema_components.specs.SetParts.{parts_of}
use Rattle.xer_items.specs.Items.{Given, element_of}
use Rattle.validity_rules.specs.Asked.{asked_at}
use Rattle.validity_rules.specs.Valid.{KidsValid}
use Rattle.validity_rules.specs.Faults.{front}
use Rattle.value_builder.specs.Built.{Built, Stands}
use Rattle.value_contents.specs.Made.{Child}
use Rattle.value_contents.specs.Reached.{Put}
use Rattle.xer_read.specs.Private.Given.{Gives}
use Rattle.xer_read.specs.declared.gathering.Gathered.{Gathered}
use Rattle.xer_read.specs.Private.Slots.{flags_of, Keeps}

-- ---- texts

abbrev pub text_value : List ℕ → Rose ValueLabel
text_value words = node (value.Utf8 words) rose.none

-- the string where no text stands is empty
abbrev pub missing : Bool → List (List ℕ)
missing true = []
missing false = [] ∷ []

-- The strings before, between and behind the child elements, without the first of them where it has stood already.
abbrev pub strings_from : Bool → Roses ItemLabel → List (List ℕ)
strings_from has_text rose.none = missing has_text
strings_from has_text (rose.more t ts) =
    elim (label_of t) [ Element name xs declares byte ↦ missing has_text ++ strings_from false ts | Text words byte ↦ words ∷ strings_from true ts ]

-- an element that is nil has none
abbrev pub strings_put : Bool → Roses ItemLabel → List (Rose ValueLabel)
strings_put true ts = []
strings_put false ts = map text_value (strings_from false ts)

-- which particles took a name, by where a matcher stands
abbrev pub marks_at : Particles → Option Spot → List Bool
marks_at ps (Some (at i (among k marks))) = marks
marks_at ps _ = unmarked ps

-- ---- child elements

module _ (s : Set) where
  -- wherever the child element stands with so many levels, its value gives this item
  pub record IsKept (high : ℕ) (g : Child) (b : Rose Plain) : Type 0 where
    pub name : Name
    pub named : IsNamed s (g.decl, name)
    pub inner : Given
    pub is : b ≡ element_of name inner
    pub gives : Gives s g.decl high g.value inner

  abbrev pub AllKept : ℕ → List Child → List (Rose Plain) → Type 0
  AllKept high [] [] = Unit {0}
  AllKept high (g ∷ gs) (b ∷ bs) = IsKept high g b × AllKept high gs bs
  AllKept high _ _ = ⊥

  -- The kids before number i are those of the leaves that were taken, and are well. The values of the child elements among
  -- them were put down behind what stood before.
  pub record Reached (mixed : Bool) (p : Particle) (kids : List (Rose ItemLabel)) (i : ℕ) (k : Matched) (before : Zip ValueLabel) (now : Built) : Type 0 where
    pub particle : k.particle ≡ p
    pub us : List Leaf
    pub took : Took k us
    pub few : length us ≤ i
    pub vs : Roses Plain
    pub fine : KidsValid (asked_at (parts_of s)) mixed (front i (roses_of kids)) us vs
    pub gs : List Child
    pub items : List (Rose Plain)
    pub kept : AllKept (levels_all (roses_of kids)) gs items
    pub are : child_elements vs ≡ roses_of items
    pub all : Zip ValueLabel
    pub put : Put p (spot_of k) gs before all
    pub stands : Stands now all

  -- ---- child elements that come in any order

  abbrev pub IsOf : Term → ℕ → Type 0
  IsOf (element d a) decl = d ≡ decl
  IsOf _ decl = ⊥

  -- a slot of a particle, and that of its item
  abbrev pub SlotKept : ℕ → Term → Option Child → Option (Rose Plain) → Type 0
  SlotKept high t None None = Unit {0}
  SlotKept high t (Some g) (Some b) = IsOf t g.decl × IsKept high g b
  SlotKept high t _ _ = ⊥

  abbrev pub SlotsKept : ℕ → Particles → List (Option Child) → List (Option (Rose Plain)) → Type 0
  SlotsKept high none [] [] = Unit {0}
  SlotsKept high (more (occurs t least most) ps) (o ∷ os) (u ∷ us) = SlotKept high t o u × SlotsKept high ps os us
  SlotsKept high _ _ _ = ⊥

  -- The kids before number i are those of the leaves that were taken, and are well. The values of the child elements among
  -- them are kept in the slots of their particles.
  pub record Gathers (mixed : Bool) (ps : Particles) (kids : List (Rose ItemLabel)) (i : ℕ) (k : Matched) (g : Gathered) : Type 0 where
    pub us : List Leaf
    pub took : Took k us
    pub few : length us ≤ i
    pub vs : Roses Plain
    pub fine : KidsValid (asked_at (parts_of s)) mixed (front i (roses_of kids)) us vs
    pub numbers : List ℕ
    pub children : List (Option Child)
    pub items : List (Option (Rose Plain))
    pub kept_are : Keeps g numbers children
    pub slots_kept : SlotsKept (levels_all (roses_of kids)) ps children items
    pub marks_are : marks_at ps (spot_of k) ≡ flags_of children
    pub are : child_elements vs ≡ roses_of (taken items numbers)
    pub just : are_just_set (flags_of items) numbers ≡ true
