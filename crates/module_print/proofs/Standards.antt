-- The parts of a type of a module, each with its default or fixed value.
use Rattle.std.proofs.Common.{◌≡◌, ℕ, zero, suc, ◌+◌, ◌<◌, true, List, [], ◌∷◌, length, drop, get_or, All, sym, ap, subst, ◌∙◌}
use Rattle.std.proofs.lemmas.List.Elements.{All-head, All-tail}
use Rattle.base_trees.specs.Rose.{Rose, node, Roses, none, more, roses_of, label_of, kids_of}
use Rattle.base_trees.proofs.Roses.{roses_of-list_of}
use Rattle.base_trees.proofs.Kids.{roses_of-drop}
use Rattle.simple_types.specs.Sound.{Sound}
use Rattle.simple_types.specs.Space.{Space}
use Rattle.simple_types.specs.declared.standards.Standard.{Standard}
use Rattle.simple_types.specs.declared.standards.Standard.TheVariants.{Free, Default, Fixed}
use Rattle.asn_types.specs.declared.types.Component.{Component}
use Rattle.asn_types.specs.declared.types.Form.{Form}
use Rattle.asn_types.specs.declared.types.Form.TheVariants as form
use Rattle.asn_types.specs.declared.types.TypeLabel.{TypeLabel}
use Rattle.asn_types.specs.declared.modules.Assignment.{Assignment}
use Rattle.asn_types.specs.Modules.{IsSpellingOf, IsStandard, AreStandards, HasStandards, AreWellFormed, AllWellFormed}
use Rattle.asn_types.specs.Marks.{has_attribute}
use Rattle.asn_types.specs.Parts.{parts_of}
use Rattle.asn_types.specs.Refs.{resolve}
use Rattle.asn_types.specs.Spaces.{space_at}
use Rattle.asn_types.proofs.SimpleLaws.{maps-seen}
use Rattle.module_print.proofs.Texts.{drop-item}

module _ (M : List Assignment) where
  free-parts : (parts : List Component) (ts : Roses TypeLabel) → All (λ (part : Component). part.standard ≡ Free) parts → AreStandards M parts ts
  free-parts [] ts free = tt
  free-parts (part ∷ parts) none free = tt
  free-parts (part ∷ parts) (more t ts) free =
      let here : part.standard ≡ Free = All-head (λ (p : Component). p.standard ≡ Free) part parts free in
      (rw here tt, free-parts parts ts (All-tail (λ (p : Component). p.standard ≡ Free) part parts free))

  of-parts : (f : Form) (ts : Roses TypeLabel) → HasStandards M f ts → AreStandards M (parts_of f) ts
  of-parts form.Bool ts h = tt
  of-parts (form.Int least greatest) ts h = tt
  of-parts (form.Numbers numbers) ts h = tt
  of-parts (form.Words identifiers words) ts h = tt
  of-parts (form.Order identifiers) ts h = tt
  of-parts (form.Utf8 least most class) ts h = tt
  of-parts (form.Sequence parts) ts h = h
  of-parts (form.Choice parts) ts h = free-parts parts ts h
  of-parts (form.SequenceOf part least most) none h = tt
  of-parts (form.SequenceOf part least most) (more t ts) h = (rw h tt, tt)
  of-parts (form.Ref to) ts h = tt

  pub standards-kids : (t : Rose TypeLabel) (l : TypeLabel) (kids : List (Rose TypeLabel)) → l ≡ label_of t → kids ≡ kids_of t → AreWellFormed M t
      → AreStandards M (parts_of l.form) (roses_of kids)
  standards-kids (node k ts) l kids is below h =
      subst (λ (m : TypeLabel). AreStandards M (parts_of m.form) (roses_of kids)) (sym is)
      (subst (λ us. AreStandards M (parts_of k.form) us) (sym (ap roses_of below ∙ roses_of-list_of ts)) (of-parts k.form ts h.0.standards))

  pub well_formed-kids : (t : Rose TypeLabel) (kids : List (Rose TypeLabel)) → kids ≡ kids_of t → AreWellFormed M t → AllWellFormed M (roses_of kids)
  well_formed-kids (node k ts) kids below h = subst (AllWellFormed M) (sym (ap roses_of below ∙ roses_of-list_of ts)) h.1

  -- from this number on
  well_formed-drop : (i : ℕ) (kids : List (Rose TypeLabel)) → AllWellFormed M (roses_of kids) → AllWellFormed M (roses_of (drop i kids))
  well_formed-drop zero kids h = h
  well_formed-drop (suc i) [] h = tt
  well_formed-drop (suc i) (kid ∷ kids) h = well_formed-drop i kids h.1

  no-kids : (parts : List Component) → AreStandards M parts none
  no-kids [] = tt
  no-kids (part ∷ parts) = tt

  standards-drop : (i : ℕ) (parts : List Component) (kids : List (Rose TypeLabel)) → AreStandards M parts (roses_of kids) → AreStandards M (drop i parts) (roses_of (drop i kids))
  standards-drop zero parts kids h = h
  standards-drop (suc i) [] kids h = tt
  standards-drop (suc i) (part ∷ parts) [] h = no-kids (drop i parts)
  standards-drop (suc i) (part ∷ parts) (kid ∷ kids) h = standards-drop i parts kids h.1

  pub kid-well_formed : (kids : List (Rose TypeLabel)) (i : ℕ) (kid : Rose TypeLabel) → i < length kids → kid ≡ get_or kids i kid → AllWellFormed M (roses_of kids) → AreWellFormed M kid
  kid-well_formed kids i kid below here h = (subst (AllWellFormed M) (roses_of-drop kids i kid below here) (well_formed-drop i kids h)).0

  pub standard-at : (parts : List Component) (kids : List (Rose TypeLabel)) (i : ℕ) (part : Component) (kid : Rose TypeLabel) → i < length parts → part ≡ get_or parts i part
      → i < length kids → kid ≡ get_or kids i kid → AreStandards M parts (roses_of kids) → IsStandard M part kid
  standard-at parts kids i part kid at is below here h =
      (subst (λ ps. AreStandards M ps (more kid (roses_of (drop (i + 1) kids)))) (drop-item parts i part at is)
      (subst (AreStandards M (drop i parts)) (roses_of-drop kids i kid below here) (standards-drop i parts kids h))).0

  -- the text of a default and of a fixed value spells a value
  abbrev Asked : Component → Rose TypeLabel → Standard → Type 0
  Asked part t standard = elim standard [
    | Free ↦ Unit {0}
    | Default text ↦ (has_attribute part.marks ≡ true) × (part.optional ≡ true) × IsSpellingOf M t text
    | Fixed text ↦ (has_attribute part.marks ≡ true) × IsSpellingOf M t text
  ]

  pub default-spells : (part : Component) (t : Rose TypeLabel) (text : List ℕ) → part.standard ≡ Default text → IsStandard M part t → IsSpellingOf M t text
  default-spells part t text e h = (subst (Asked part t) e h).2

  pub fixed-spells : (part : Component) (t : Rose TypeLabel) (text : List ℕ) → part.standard ≡ Fixed text → IsStandard M part t → IsSpellingOf M t text
  fixed-spells part t text e h = (subst (Asked part t) e h).1

  -- the simple type that the text is a spelling of
  pub spelling-sound : (t : Rose TypeLabel) (text : List ℕ) (s : Space) → IsSpellingOf M t text → s ≡ space_at (resolve M t) → Sound s
  spelling-sound t text s h is = subst Sound (maps-seen h.0 (resolve M t) h.3 ∙ sym is) h.2
