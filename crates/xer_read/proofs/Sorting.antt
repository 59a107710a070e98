-- Child elements in the order that numbers tell, and the elements of an all.
use Rattle.std.proofs.Common.{◌≡◌, ℕ, zero, suc, ◌<◌, Bool, true, false, ◌&&◌, List, [], ◌∷◌, length, true≢false, refl, sym, ap, subst, ◌∙◌, arith}
use Rattle.std.specs.List.{AllByRecursion}
use Rattle.base_trees.specs.Rose.{Rose, node, roses_of, list_of}
use Rattle.base_trees.specs.Rose as rose
use Rattle.base_trees.proofs.Roses.{list_of-roses_of}
use Rattle.simple_types.specs.declared.labels.ValueLabel.{ValueLabel}
use Rattle.content_models.specs.Particle.{Particle, occurs, element, sequence, choice, all, Particles, none, more}
use Rattle.content_models.specs.Clear.{IsNoAll}
use Rattle.xml_items.specs.Plain.{Plain}
use Rattle.xml_items.specs.Plain as plain
use Rattle.xml_items.specs.Mixing.{child_elements, AllElements}
use Rattle.asn_values.specs.Ordering.{in_order}
use Rattle.asn_values.specs.Orders.{is_set, cleared, are_just_set}
use Rattle.asn_values.specs.Values.{AreJustSet}
use Rattle.asn_values.proofs.JustSet.{just_set}
use Rattle.schema_components.specs.SetParts.{SetParts}
use Rattle.schema_components.specs.declared.components.Content.{Content}
use Rattle.schema_components.specs.declared.components.Content.TheVariants as content_
use Rattle.map_assignments.specs.Planning as planning
use Rattle.map_assignments.specs.Planning.{is_all}
use Rattle.map_laws.specs.Standing.{count_particles, count_elements}
use Rattle.validity_rules.specs.Asked.{inside_of}
use Rattle.xer_items.proofs.Ordering.{in_order-all}
use Rattle.value_contents.specs.Made.{Child, PartsMade, TopMade}
use Rattle.xer_read.specs.Private.Contents.{in_any_order, OrderMade}

-- ---- an all

pub no-all-plain : (p : Particle) → IsNoAll p → is_all p ≡ false
no-all-plain (occurs (element d a) least most) n = refl
no-all-plain (occurs (sequence ps) least most) n = refl
no-all-plain (occurs (choice ps) least most) n = refl
no-all-plain (occurs (all ps) least most) n = absurd n

parts-long : (ps : Particles) (flags : List Bool) (vs : List (Rose ValueLabel)) (gs : List Child) → PartsMade ps flags vs gs → length flags ≡ count_particles ps
parts-long none [] [] gs h = refl
parts-long none [] (v ∷ vs) gs h = absurd h
parts-long none (b ∷ flags) vs gs h = absurd h
parts-long (more (occurs t least most) ps) [] vs gs h = absurd h
parts-long (more (occurs t least most) ps) (true ∷ flags) [] gs h = absurd h
parts-long (more (occurs t least most) ps) (true ∷ flags) (v ∷ vs) gs (a, b, e, one, rest) = ap suc (parts-long ps flags vs b rest)
parts-long (more (occurs t least most) ps) (false ∷ flags) vs gs h = ap suc (parts-long ps flags vs gs h.1)

-- it has a flag for each particle
pub all-many : (p : Particle) (flags : List Bool) (vs : List (Rose ValueLabel)) (gs : List Child) → is_all p ≡ true → TopMade p flags vs gs → length flags ≡ count_elements p
all-many (occurs (element d a) least most) flags vs gs e h = absurd (true≢false (sym e))
all-many (occurs (sequence ps) least most) flags vs gs e h = absurd (true≢false (sym e))
all-many (occurs (choice ps) least most) flags vs gs e h = absurd (true≢false (sym e))
all-many (occurs (all ps) least most) flags vs gs e h = parts-long ps flags vs gs h

-- ---- numbers

cleared-long : (flags : List Bool) (i : ℕ) → length (cleared flags i) ≡ length flags
cleared-long [] i = refl
cleared-long (b ∷ flags) zero = refl
cleared-long (b ∷ flags) (suc i) = ap suc (cleared-long flags i)

set-below : (flags : List Bool) (i : ℕ) → is_set flags i ≡ true → i < length flags
set-below [] i e = absurd (true≢false (sym e))
set-below (b ∷ flags) zero e = omega arith
set-below (b ∷ flags) (suc i) e = let h = set-below flags i e in omega (arith, h)

and-parts : (a b : Bool) → (a && b) ≡ true → (a ≡ true) × (b ≡ true)
and-parts true b h = (refl, h)
and-parts false b h = absurd (true≢false (sym h))

below-by : (numbers : List ℕ) (flags : List Bool) (n : ℕ) → length flags ≡ n → are_just_set flags numbers ≡ true → AllByRecursion (λ i. i < n) numbers
below-by [] flags n e h = tt
below-by (i ∷ numbers) flags n e h =
    let b = and-parts (is_set flags i) (are_just_set (cleared flags i) numbers) h in (
      subst (λ m. i < m) e (set-below flags i b.0),
      below-by numbers (cleared flags i) n (cleared-long flags i ∙ e) b.1,
    )

-- they are those of some of the particles
pub numbers-below : (flags : List Bool) (numbers : List ℕ) → AreJustSet numbers flags → AllByRecursion (λ i. i < length flags) numbers
numbers-below flags numbers h = below-by numbers flags (length flags) refl ((just_set flags numbers).1 h)

-- ---- elements

abbrev IsElementItem : Rose Plain → Type 0
IsElementItem b = AllElements (rose.more b rose.none)

each-element : (bs : List (Rose Plain)) → AllElements (roses_of bs) → AllByRecursion IsElementItem bs
each-element [] h = tt
each-element (b ∷ bs) h = ((h.0, tt), each-element bs h.1)

all-elements : (bs : List (Rose Plain)) → AllByRecursion IsElementItem bs → AllElements (roses_of bs)
all-elements [] h = tt
all-elements (b ∷ bs) h = (h.0.0, all-elements bs h.1)

pub told-elements : (flags : List Bool) (numbers : List ℕ) (bs : List (Rose Plain)) → AllElements (roses_of bs) → AllElements (roses_of (in_order flags numbers bs))
told-elements flags numbers bs h = all-elements (in_order flags numbers bs) (in_order-all IsElementItem flags numbers bs (each-element bs h))

only-elements : (bs : List (Rose Plain)) → AllElements (roses_of bs) → child_elements (roses_of bs) ≡ roses_of bs
only-elements [] h = refl
only-elements (node (plain.element name attributes) ks ∷ bs) h = ap (λ z. rose.more (node (plain.element name attributes) ks) z) (only-elements bs h.1)
only-elements (node (plain.text words) ks ∷ bs) h = absurd h.0

-- elements alone are all put in order
pub in-order : (flags : List Bool) (numbers : List ℕ) (bs : List (Rose Plain)) → AllElements (roses_of bs)
    → roses_of (in_order flags numbers (list_of (child_elements (roses_of bs)))) ≡ roses_of (in_order flags numbers bs)
in-order flags numbers bs h = ap (λ z. roses_of (in_order flags numbers z)) (ap list_of (only-elements bs h) ∙ list_of-roses_of bs)

-- ---- contents

-- the walk and the map read alike whether child elements come in any order
ordered-same : (s : SetParts) (c : Content) → in_any_order (inside_of s c) ≡ planning.is_ordered c
ordered-same s content_.Empty = refl
ordered-same s (content_.Simple n) = refl
ordered-same s (content_.ElementOnly p) = refl
ordered-same s (content_.Mixed p) = refl

pub order-made : (s : SetParts) (c : Content) (numbers : List ℕ) (flags : List Bool) (vs : List (Rose ValueLabel)) → OrderMade (in_any_order (inside_of s c)) numbers flags vs → OrderMade (planning.is_ordered c) numbers flags vs
order-made s c numbers flags vs h = subst (λ b. OrderMade b numbers flags vs) (ordered-same s c) h
