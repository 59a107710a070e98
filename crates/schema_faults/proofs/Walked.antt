-- The reasons against a node, by its label and its kids, and the first fault of several.
use Rattle.std.proofs.Common.{◌≡◌, ℕ, ◌+◌, ◌<◌, true, false, List, [], ◌∷◌, ◌++◌, length, drop, get_or, Option, Some, None, refl, sym, ap, ◌∙◌}
use Rattle.std.specs.Option.{option_or, is_some}
use Rattle.base_texts.specs.declared.texts.Name.{Name}
use Rattle.base_trees.specs.Rose.{Rose, node, Roses, roses_of, list_of, label_of, kids_of}
use Rattle.base_trees.proofs.Roses.{roses_of-list_of}
use Rattle.base_trees.proofs.Kids.{roses_of-drop}
use Rattle.xml_items.specs.declared.label.ItemLabel.{ItemLabel}
use Rattle.xml_items.specs.declared.label.ItemLabel.TheVariants.{Element, Text}
use Rattle.schema_syntax.specs.Elements.{placement}
use Rattle.schema_faults.specs.Limits.{level_inside}
use Rattle.schema_faults.specs.Reasons.{reason_against_text}
use Rattle.schema_faults.specs.Faults.{LookedAt, first_fault, fault_if, own_reason, is_composition, unless_composition, placed_at, position_behind, reasons_of, reasons_at, reasons_among}
use Rattle.schema_syntax.specs.declared.roles.ElementRole.{ElementRole}
use Rattle.schema_syntax.specs.declared.roles.ElementRole.TheVariants.{Composition}
use Rattle.schema_syntax.specs.declared.roles.Part.{Part}
use Rattle.schema_syntax.specs.declared.elements.Placement.TheVariants.{Skipped, Refused, Placed}
use Rattle.schema_syntax.specs.declared.roles.Position.{Position}
use Rattle.schema_syntax.specs.declared.why.SchemaWhy.{SchemaWhy}
use Rattle.schema_faults.specs.declared.faults.DocumentFault.{DocumentFault}

first_or : (at : ℕ) (r : Option SchemaWhy) (a b c : Option DocumentFault) → a ≡ option_or b c
    → elim r as (λ _. Option DocumentFault) [ None ↦ a | Some reason ↦ Some (record { at = at; why = reason }) ]
    ≡ option_or (elim r as (λ _. Option DocumentFault) [ None ↦ b | Some reason ↦ Some (record { at = at; why = reason }) ]) c
first_or at None a b c same = same
first_or at (Some reason) a b c same = refl

pub first_fault-append : (xs ys : List LookedAt) → first_fault (xs ++ ys) ≡ option_or (first_fault xs) (first_fault ys)
first_fault-append [] ys = refl
first_fault-append (s ∷ xs) ys = first_or s.0 s.1 (first_fault (xs ++ ys)) (first_fault xs) (first_fault ys) (first_fault-append xs ys)

-- a first one that is there, and one that isn't
pub first_some : (at : ℕ) (r : Option SchemaWhy) (rest : List LookedAt) → is_some r ≡ true → fault_if at r ≡ first_fault ((at, r) ∷ rest)
first_some at None rest some = absurd (cc)
first_some at (Some reason) rest some = refl

pub first_none : (at : ℕ) (r : Option SchemaWhy) (rest : List LookedAt) → is_some r ≡ false → first_fault rest ≡ first_fault ((at, r) ∷ rest)
first_none at None rest none = refl
first_none at (Some reason) rest none = absurd (cc)

module _ (role : ElementRole) (outer : List (List ℕ × List ℕ)) (level : ℕ) (t : Rose ItemLabel) where
  module _ (name : Name) (attributes : List (Name × List ℕ)) (declares : List (List ℕ × List ℕ)) (at : ℕ) where
    of_node : (l : ItemLabel) (ts : Roses ItemLabel) → l ≡ Element name attributes declares at
        → reasons_of role outer level (node l ts)
        ≡ (at, own_reason role (declares ++ outer) level attributes (list_of ts))
        ∷ unless_composition role (reasons_among role None (declares ++ outer) (level_inside role level) (roses_of (list_of ts)))
    of_node l ts is =
        ap (λ k. reasons_of role outer level (node k ts)) is
        ∙ ap (λ us. (at, own_reason role (declares ++ outer) level attributes (list_of ts))
        ∷ unless_composition role (reasons_among role None (declares ++ outer) (level_inside role level) us)) (sym (roses_of-list_of ts))

    pub reasons_of-element : label_of t ≡ Element name attributes declares at
        → reasons_of role outer level t
        ≡ (at, own_reason role (declares ++ outer) level attributes (kids_of t))
        ∷ unless_composition role (reasons_among role None (declares ++ outer) (level_inside role level) (roses_of (kids_of t)))
    reasons_of-element = elim t as (λ u. label_of u ≡ Element name attributes declares at
        → reasons_of role outer level u
        ≡ (at, own_reason role (declares ++ outer) level attributes (kids_of u))
        ∷ unless_composition role (reasons_among role None (declares ++ outer) (level_inside role level) (roses_of (kids_of u)))) [ node l ts ↦ of_node l ts ]

module _ (parent : ElementRole) (before : Option Position) (outer : List (List ℕ × List ℕ)) (level : ℕ) (t : Rose ItemLabel) where
  pub reasons_at-text : (text : List ℕ) (at : ℕ) → label_of t ≡ Text text at → reasons_at parent before outer level t ≡ (at, reason_against_text text) ∷ []
  reasons_at-text text at = elim t as (λ u. label_of u ≡ Text text at → reasons_at parent before outer level u ≡ (at, reason_against_text text) ∷ []) [
    | node l ts ↦ λ is. ap (λ k. reasons_at parent before outer level (node k ts)) is
  ]

  module _ (name : Name) (attributes : List (Name × List ℕ)) (declares : List (List ℕ × List ℕ)) (at : ℕ) where
    at_node : (l : ItemLabel) (ts : Roses ItemLabel) → l ≡ Element name attributes declares at
        → reasons_at parent before outer level (node l ts) ≡ placed_at at (placement parent before name) (λ role. reasons_of role outer level (node l ts))
    at_node l ts is =
        ap (λ k. reasons_at parent before outer level (node k ts)) is
        ∙ ap (λ k. placed_at at (placement parent before name) (λ role. reasons_of role outer level (node k ts))) (sym is)

    pub reasons_at-element : label_of t ≡ Element name attributes declares at
        → reasons_at parent before outer level t ≡ placed_at at (placement parent before name) (λ role. reasons_of role outer level t)
    reasons_at-element = elim t as (λ u. label_of u ≡ Element name attributes declares at
        → reasons_at parent before outer level u ≡ placed_at at (placement parent before name) (λ role. reasons_of role outer level u)) [ node l ts ↦ at_node l ts ]

-- the kid with number i of a list, as a loop has it, behind kids without a fault
module _ (parent : ElementRole) (before : Option Position) (scope : List (List ℕ × List ℕ)) (level : ℕ) (kids : List (Rose ItemLabel)) (i : ℕ) (kid : Rose ItemLabel) (at : i < length kids) (here : kid ≡ get_or kids i kid) where
  rest : List LookedAt
  rest = reasons_among parent (position_behind parent before (label_of kid)) scope level (roses_of (drop (i + 1) kids))

  cut : first_fault (reasons_among parent before scope level (roses_of (drop i kids))) ≡ option_or (first_fault (reasons_at parent before scope level kid)) (first_fault rest)
  unfolding rest
  cut = ap (λ ts. first_fault (reasons_among parent before scope level ts)) (roses_of-drop kids i kid at here) ∙ first_fault-append (reasons_at parent before scope level kid) rest

  pub kid_passed : (found : Option DocumentFault) → found ≡ first_fault (reasons_at parent before scope level kid) → is_some found ≡ false
      → first_fault (reasons_among parent (position_behind parent before (label_of kid)) scope level (roses_of (drop (i + 1) kids)))
      ≡ first_fault (reasons_among parent before scope level (roses_of (drop i kids)))
  unfolding rest
  kid_passed None is none = ap (λ f. option_or f (first_fault rest)) is ∙ sym cut
  kid_passed (Some fault) is none = absurd (cc)

  pub kid_found : (found : Option DocumentFault) → found ≡ first_fault (reasons_at parent before scope level kid) → is_some found ≡ true
      → found ≡ first_fault (reasons_among parent before scope level (roses_of (drop i kids)))
  unfolding rest
  kid_found None is some = absurd (cc)
  kid_found (Some fault) is some = ap (λ f. option_or f (first_fault rest)) is ∙ sym cut

-- what `include` and `import` have in them, and what others have
inside_composition : (role : ElementRole) (inside : List LookedAt) → is_composition role ≡ true → unless_composition role inside ≡ []
inside_composition Composition inside is = refl
inside_composition role inside is = absurd (cc)

inside_other : (role : ElementRole) (inside : List LookedAt) → is_composition role ≡ false → unless_composition role inside ≡ inside
inside_other Composition inside is = absurd (cc)
inside_other role inside is = refl

-- what a node is in its parent
module _ (parent : ElementRole) (before : Option Position) (outer : List (List ℕ × List ℕ)) (level : ℕ) (t : Rose ItemLabel)
    (name : Name) (attributes : List (Name × List ℕ)) (declares : List (List ℕ × List ℕ)) (at : ℕ) (label : label_of t ≡ Element name attributes declares at) where
  pub skipped_at : Skipped ≡ placement parent before name → None ≡ first_fault (reasons_at parent before outer level t)
  skipped_at is =
      ap (λ p. first_fault (placed_at at p (λ role. reasons_of role outer level t))) is
      ∙ sym (ap first_fault (reasons_at-element parent before outer level t name attributes declares at label))

  pub refused_at : (why : SchemaWhy) (found : Option DocumentFault) → Refused why ≡ placement parent before name → found ≡ fault_if at (Some why)
      → found ≡ first_fault (reasons_at parent before outer level t)
  refused_at why found is shown =
      shown ∙ ap (λ p. first_fault (placed_at at p (λ role. reasons_of role outer level t))) is
      ∙ sym (ap first_fault (reasons_at-element parent before outer level t name attributes declares at label))

  pub part_at : (part : Part) → Placed part ≡ placement parent before name
      → first_fault (reasons_of part.role outer level t) ≡ first_fault (reasons_at parent before outer level t)
  part_at part is =
      ap (λ p. first_fault (placed_at at p (λ role. reasons_of role outer level t))) is
      ∙ sym (ap first_fault (reasons_at-element parent before outer level t name attributes declares at label))

-- an element of a role, by itself and by what stands in it
module _ (role : ElementRole) (outer : List (List ℕ × List ℕ)) (level : ℕ) (t : Rose ItemLabel)
    (name : Name) (attributes : List (Name × List ℕ)) (declares : List (List ℕ × List ℕ)) (at : ℕ) (label : label_of t ≡ Element name attributes declares at)
    (found : Option SchemaWhy) (is : found ≡ own_reason role (declares ++ outer) level attributes (kids_of t)) where
  whole : first_fault (reasons_of role outer level t)
      ≡ first_fault ((at, found) ∷ unless_composition role (reasons_among role None (declares ++ outer) (level_inside role level) (roses_of (kids_of t))))
  whole =
      ap first_fault (reasons_of-element role outer level t name attributes declares at label)
      ∙ ap (λ r. first_fault ((at, r) ∷ unless_composition role (reasons_among role None (declares ++ outer) (level_inside role level) (roses_of (kids_of t))))) (sym is)

  pub own_found : (shown : Option DocumentFault) → is_some found ≡ true → shown ≡ fault_if at found → shown ≡ first_fault (reasons_of role outer level t)
  own_found shown some e = e ∙ first_some at found (unless_composition role (reasons_among role None (declares ++ outer) (level_inside role level) (roses_of (kids_of t)))) some ∙ sym whole

  pub nothing_inside : is_some found ≡ false → is_composition role ≡ true → None ≡ first_fault (reasons_of role outer level t)
  nothing_inside none composed =
      ap first_fault (sym (inside_composition role (reasons_among role None (declares ++ outer) (level_inside role level) (roses_of (kids_of t))) composed))
      ∙ first_none at found (unless_composition role (reasons_among role None (declares ++ outer) (level_inside role level) (roses_of (kids_of t)))) none ∙ sym whole

  pub own_passed : is_some found ≡ false → is_composition role ≡ false
      → first_fault (reasons_among role None (declares ++ outer) (level_inside role level) (roses_of (kids_of t))) ≡ first_fault (reasons_of role outer level t)
  own_passed none other =
      ap first_fault (sym (inside_other role (reasons_among role None (declares ++ outer) (level_inside role level) (roses_of (kids_of t))) other))
      ∙ first_none at found (unless_composition role (reasons_among role None (declares ++ outer) (level_inside role level) (roses_of (kids_of t)))) none ∙ sym whole
