-- How the parts of a type are made one after another; for private contracts.
use Rattle.std.specs.Prelude.{◌≡◌, ℕ, Bool, true, false, Option, None, List, [], ◌∷◌, ◌++◌}
use Rattle.std.specs.List.{All}
use Rattle.base_trees.specs.Rose.{Rose, node, roses_of}
use Rattle.base_trees.specs.Rose as rose
use Rattle.content_models.specs.declared.particles.ParticleLabel.{ParticleLabel}
use Rattle.content_models.specs.declared.particles.ParticleKind.{ParticleKind}
use Rattle.content_models.specs.declared.particles.ParticleKind.TheVariants.{Sequence, All as AllKind}
use Rattle.content_models.specs.Particle.{Term}
use Rattle.content_models.specs.Seen.{term_seen, seen, all_seen}
use Rattle.simple_types.specs.declared.standards.Standard.{Standard}
use Rattle.schema_components.specs.Components.{Set}
use Rattle.schema_components.specs.Linked as linked
use Rattle.asn_names.specs.declared.conversion.NameKind.TheVariants.{Identifier}
use Rattle.asn_names.specs.Taking.{IsTaken}
use Rattle.asn_types.specs.declared.marks.Instruction.{Instruction}
use Rattle.asn_types.specs.declared.types.Component.{Component}
use Rattle.asn_types.specs.declared.types.Form.TheVariants as form
use Rattle.asn_types.specs.declared.types.TypeLabel.{TypeLabel}
use Rattle.map_assignments.specs.declared.parts.PartList.{PartList}
use Rattle.map_subjects.specs.declared.subjects.Subject.{Subject}
use Rattle.map_assignments.specs.Plans.{Label, item, TypePlan, Parts}
use Rattle.map_assignments.specs.Planning.{is_once, particle_type, in_place}
use Rattle.map_assignments.specs.Naming.{type_label, component_with, wanted, part_standard, part_marks, repeated_part, AreTaken, AreNamed}

-- One part is added, with an identifier made from this name, with this default or fixed value, and with the instructions that its
-- identifier gives.
pub record AddsPart (before after : PartList) (name : List ℕ) (standard : Standard) (marks : List ℕ → List Instruction) (optional : Bool) (kid : Rose TypeLabel) : Type 0 where
  pub identifier : List ℕ
  pub taken : IsTaken Identifier before.scope name identifier
  pub noted : after.scope ≡ before.scope ++ identifier ∷ []
  pub component : after.components.items ≡ before.components.items ++ component_with identifier optional standard (marks identifier) ∷ []
  pub kid_added : after.kids.items ≡ before.kids.items ++ kid ∷ []

abbrev pub Adds : PartList → PartList → Label → Bool → Rose TypeLabel → Type 0
Adds before after l optional kid = AddsPart before after (wanted l) (part_standard l) (part_marks l) optional kid

-- An identifier made from this name is reserved for this part, which isn't added yet.
pub record TakesPart (before after : PartList) (name : List ℕ) (standard : Standard) (marks : List ℕ → List Instruction) (optional : Bool) (made : Component) : Type 0 where
  pub identifier : List ℕ
  pub taken : IsTaken Identifier before.scope name identifier
  pub noted : after.scope ≡ before.scope ++ identifier ∷ []
  pub is : made ≡ component_with identifier optional standard (marks identifier)
  pub components : after.components ≡ before.components
  pub kids : after.kids ≡ before.kids

abbrev pub Takes : PartList → PartList → Label → Bool → Component → Type 0
Takes before after l optional made = TakesPart before after (wanted l) (part_standard l) (part_marks l) optional made

-- If the parts that follow are those of `rest`, then the parts so far, followed by them, are those of `whole`.
abbrev pub LeadsToNamed : (Subject → ℕ) → PartList → Parts → Parts → Type 0
LeadsToNamed place made rest whole =
    (parts : List Component) (ts : List (Rose TypeLabel)) → AreNamed place made.scope rest parts (roses_of ts)
    → AreNamed place [] whole (made.components.items ++ parts) (roses_of (made.kids.items ++ ts))

-- The type of a declaration at a particle, in which at most `levels` types without a name are nested.
abbrev pub declared : Set → ℕ → ℕ → TypePlan
declared s levels = particle_type s (in_place s levels)

abbrev pub term_of : Rose ParticleLabel → Term
term_of (node l ts) = term_seen l.kind (all_seen ts)

-- It is a sequence that occurs once, or an all.
abbrev pub stands_as_parts : ParticleKind → ℕ → Option ℕ → Bool
stands_as_parts Sequence least most = is_once least most
stands_as_parts AllKind least most = true
stands_as_parts _ least most = false

-- Each element particle names a declaration of the set.
abbrev pub IsKnown : Set → Rose ParticleLabel → Type 0
IsKnown s t = All (linked.IsNamed s) (linked.leaves (seen t))

abbrev pub AreKnown : Set → List (Rose ParticleLabel) → Type 0
AreKnown s ts = All (linked.IsNamed s) (linked.all_leaves (all_seen (roses_of ts)))

-- ---- the order of child elements

-- If `gs` are the identifiers made for `rest` after those of `scope`, then `made`, followed by `gs`, are those made for `names`
-- after those of `first`.
abbrev pub LeadsToNames : List (List ℕ) → List (List ℕ) → List (List ℕ) → List (List ℕ) → List (List ℕ) → Type 0
LeadsToNames first scope made rest names = (gs : List (List ℕ)) → AreTaken scope rest gs → AreTaken first names (made ++ gs)

-- The identifiers of the scope are exactly those made before.
abbrev pub LeadsToScope : List (List ℕ) → List (List ℕ) → List (List ℕ) → Type 0
LeadsToScope scope rest names = LeadsToNames [] scope scope rest names

-- The type of the order of elements whose parts have these identifiers.
abbrev pub order_tree : List (List ℕ) → Rose TypeLabel
order_tree names =
    node (type_label (form.SequenceOf (repeated_part item) 0 None) []) (rose.more (node (type_label (form.Order names) []) rose.none) rose.none)
