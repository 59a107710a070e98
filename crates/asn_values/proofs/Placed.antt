-- The places of a value's kids, one after the other.
use Rattle.std.proofs.Common.{◌≡◌, ℕ, suc, ◌+◌, ◌<◌, ◌≤◌, Bool, true, false, cond, Option, Some, None, List, [], ◌∷◌, ◌++◌, length, get_or, drop, refl, sym, ◌∙◌, ap, arith, append_assoc}
use Rattle.std.proofs.lemmas.List.{drop_more}
use Rattle.base_trees.specs.Rose.{Rose}
use Rattle.asn_types.specs.declared.types.Component.{Component}
use Rattle.asn_types.specs.declared.types.TypeLabel.{TypeLabel}
use Rattle.asn_values.specs.Values.{ComponentPlace, place_of, put_first, present_from}

-- these, and then those if there are some
abbrev pub prepended : List ComponentPlace → Option (List ComponentPlace) → Option (List ComponentPlace)
prepended ps None = None
prepended ps (Some qs) = Some (ps ++ qs)

prepended-put_first : (ps : List ComponentPlace) (p : ComponentPlace) (o : Option (List ComponentPlace)) → prepended ps (put_first p o) ≡ prepended (ps ++ p ∷ []) o
prepended-put_first ps p None = refl
prepended-put_first ps p (Some qs) = ap Some (sym (append_assoc ps (p ∷ []) qs))

none_if_none : (b : Bool) (o : Option (List ComponentPlace)) → o ≡ None → cond b o None ≡ None
none_if_none true o e = e
none_if_none false o e = refl

-- a flag for each component, and a type
pub present-differ : (l : TypeLabel) (i : ℕ) (parts : List Component) (ts : List (Rose TypeLabel)) (flags : List Bool)
    → (length parts ≡ length flags → length parts ≤ length ts → ⊥) → present_from l i parts ts flags ≡ None
present-differ l i [] ts [] h = absurd (h refl (omega arith))
present-differ l i [] ts (f ∷ fs) h = refl
present-differ l i (c ∷ cs) [] [] h = refl
present-differ l i (c ∷ cs) [] (f ∷ fs) h = refl
present-differ l i (c ∷ cs) (t ∷ ts) [] h = refl
present-differ l i (c ∷ cs) (t ∷ ts) (true ∷ fs) h =
    ap (put_first (place_of l i c t)) (present-differ l (i + 1) cs ts fs (λ e le. h (ap suc e) (omega arith)))
present-differ l i (c ∷ cs) (t ∷ ts) (false ∷ fs) h =
    none_if_none c.optional (present_from l (i + 1) cs ts fs) (present-differ l (i + 1) cs ts fs (λ e le. h (ap suc e) (omega arith)))

module _ (l : TypeLabel) (parts : List Component) (ts : List (Rose TypeLabel)) (flags : List Bool) where
  -- what the components from number i on have
  abbrev pub left : ℕ → Option (List ComponentPlace)
  left i = present_from l i (drop i parts) (drop i ts) (drop i flags)

  module _ (i : ℕ) (part : Component) (d : Rose TypeLabel) (in_parts : i < length parts) (in_ts : i < length ts) (in_flags : i < length flags) (part_is : part ≡ get_or parts i part) where
    opened : (flag : Bool) → get_or flags i false ≡ flag → left i ≡ present_from l i (part ∷ drop (i + 1) parts) (get_or ts i d ∷ drop (i + 1) ts) (flag ∷ drop (i + 1) flags)
    opened flag flag_is =
        ap (λ ps. present_from l i ps (drop i ts) (drop i flags)) (drop_more parts i part in_parts ∙ ap (λ p. p ∷ drop (i + 1) parts) (sym part_is))
        ∙ ap (λ us. present_from l i (part ∷ drop (i + 1) parts) us (drop i flags)) (drop_more ts i d in_ts)
        ∙ ap (λ fs. present_from l i (part ∷ drop (i + 1) parts) (get_or ts i d ∷ drop (i + 1) ts) fs) (drop_more flags i false in_flags ∙ ap (λ f. f ∷ drop (i + 1) flags) flag_is)

    pub left-unset : get_or flags i false ≡ false → part.optional ≡ true → left i ≡ left (i + 1)
    left-unset unset may = opened false unset ∙ ap (λ b. cond b (left (i + 1)) None) may

    pub left-missing : get_or flags i false ≡ false → part.optional ≡ false → left i ≡ None
    left-missing unset must = opened false unset ∙ ap (λ b. cond b (left (i + 1)) None) must

    -- the present ones so far, and those that are left
    pub push-left : (ps : List ComponentPlace) (whole : Option (List ComponentPlace)) → whole ≡ prepended ps (left i) → get_or flags i false ≡ true → whole ≡ prepended (ps ++ place_of l i part (get_or ts i d) ∷ []) (left (i + 1))
    push-left ps whole so_far set = so_far ∙ ap (prepended ps) (opened true set) ∙ prepended-put_first ps (place_of l i part (get_or ts i d)) (left (i + 1))
