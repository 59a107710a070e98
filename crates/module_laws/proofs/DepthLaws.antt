-- A type that is meant has as many levels as that of the text.
use Rattle.std.proofs.Common.{◌≡◌, ℕ, zero, suc, ◌≤◌, ◌+◌, max, List, [], ◌∷◌, ◌++◌, length, refl, ap, ap₂, arith}
use Rattle.base_trees.specs.Rose.{Rose, node, Roses, none, more, length_all, height, depth_all}
use Rattle.module_text.specs.declared.types.PlainPart.{PlainPart}
use Rattle.module_text.specs.declared.types.PlainLabel.{PlainLabel}
use Rattle.module_text.specs.declared.modules.PlainAssignment.{PlainAssignment}
use Rattle.module_text.specs.Texts.{parts_of}
use Rattle.module_text.specs.Plain.{IsType, AreTypes}
use Rattle.module_text.specs.Depth.{deep_default, deep_types, deep_in_parts}
use Rattle.module_text.specs.declared.spots.Spot.{Spot}
use Rattle.module_text.specs.Meaning.{type_meant, types_meant}

pub nothing-front : {A : Type 0} (xs ys : List A) → xs ++ ys ≡ [] → xs ≡ []
nothing-front [] ys e = refl
nothing-front (x ∷ xs) ys e = absurd (cc)

pub nothing-behind : {A : Type 0} (xs ys : List A) → xs ++ ys ≡ [] → ys ≡ []
nothing-behind [] ys e = e
nothing-behind (x ∷ xs) ys e = absurd (cc)

-- ---- nothing is too deep

abbrev Fits : Rose PlainLabel → Type 0
Fits t = (d : ℕ) → IsType t → deep_types d t ≡ [] → height t ≤ d

abbrev AllFit : Roses PlainLabel → Type 0
AllFit ts = (d : ℕ) (ps : List PlainPart) → length_all ts ≡ length ps → AreTypes ts → deep_in_parts d ps ts ≡ [] → depth_all ts ≤ d

node_fits : (l : PlainLabel) (ts : Roses PlainLabel) → AllFit ts → Fits (node l ts)
node_fits l ts rest zero is e = absurd (cc)
node_fits l ts rest (suc d) is e = let inner = rest d (parts_of l.form) is.2 is.3 e in omega (arith, inner)

more_fit : (t : Rose PlainLabel) (ts : Roses PlainLabel) → Fits t → AllFit ts → AllFit (more t ts)
more_fit t ts first rest d [] long types e = absurd (omega (arith, long))
more_fit t ts first rest d (part ∷ ps) long types e =
    let behind = deep_in_parts d ps ts in
    let front = nothing-front (deep_types d t ++ deep_default part.absence) behind e in
    let here = first d types.0 (nothing-front (deep_types d t) (deep_default part.absence) front) in
    let others = rest d ps (omega (arith, long)) types.1 (nothing-behind (deep_types d t ++ deep_default part.absence) behind e) in
    omega (arith, here, others)

none_fit : AllFit none
none_fit d ps long types e = omega arith

mutual
  pub fits : (t : Rose PlainLabel) → Fits t
  fits (node l ts) = node_fits l ts (all-fit ts)

  all-fit : (ts : Roses PlainLabel) → AllFit ts
  all-fit none = none_fit
  all-fit (more t ts) = more_fit t ts (fits t) (all-fit ts)

-- ---- as many levels

module _ (P : List PlainAssignment) where
  abbrev High : Rose PlainLabel → Type 0
  High t = (spot : Spot) → IsType t → height (type_meant P spot t) ≡ height t

  abbrev AllHigh : Roses PlainLabel → Type 0
  AllHigh ts = (spot : Spot) (l : PlainLabel) (i : ℕ) (ps : List PlainPart) → length_all ts ≡ length ps → AreTypes ts → depth_all (types_meant P spot l i ps ts) ≡ depth_all ts

  more_high : (t : Rose PlainLabel) (ts : Roses PlainLabel) → High t → AllHigh ts → AllHigh (more t ts)
  more_high t ts first rest spot l i [] long types = absurd (omega (arith, long))
  more_high t ts first rest spot l i (part ∷ ps) long types = ap₂ max (first _ types.0) (rest spot l (i + 1) ps (omega (arith, long)) types.1)

  none_high : AllHigh none
  none_high spot l i ps long types = refl

  node_high : (l : PlainLabel) (ts : Roses PlainLabel) → AllHigh ts → High (node l ts)
  node_high l ts rest spot is = ap suc (rest spot l 0 (parts_of l.form) is.2 is.3)

  mutual
    pub height-same : (t : Rose PlainLabel) → High t
    height-same (node l ts) = node_high l ts (all-height-same ts)

    all-height-same : (ts : Roses PlainLabel) → AllHigh ts
    all-height-same none = none_high
    all-height-same (more t ts) = more_high t ts (height-same t) (all-height-same ts)
