-- The presence bits of a SEQUENCE, one after the other.
use Rattle.std.proofs.Common.{◌≡◌, ℕ, suc, ◌+◌, ◌<◌, ◌≤◌, Bool, true, false, cond, Option, Some, None, List, [], ◌∷◌, ◌++◌, length, get_or, take, refl, sym, ap, subst, arith}
use Rattle.std.specs.Prelude.{MatchBool}
use Rattle.std.proofs.lemmas.List.{take_more, take_all}
use Rattle.base_trees.specs.Rose.{Rose}
use Rattle.asn_types.specs.declared.types.Component.{Component}
use Rattle.asn_types.specs.declared.types.TypeLabel.{TypeLabel}
use Rattle.asn_values.specs.Values.{ComponentPlace, place_of, put_first, present_from}
use Rattle.per_fields.specs.Laws.{Present}

-- one that is not optional is there
there_of : (b flag : Bool) → (b ≡ false → flag ≡ true) → MatchBool b (Unit {0}) (flag ≡ true)
there_of true flag h = tt
there_of false flag h = h refl

pub present-push : (parts : List Component) (flags : List Bool) (part : Component) (flag : Bool) → Present parts flags → (part.optional ≡ false → flag ≡ true) → Present (parts ++ part ∷ []) (flags ++ flag ∷ [])
present-push [] [] part flag h k = (there_of part.optional flag k, tt)
present-push [] (f ∷ flags) part flag h k = absurd h
present-push (p ∷ parts) [] part flag h k = absurd h
present-push (p ∷ parts) (f ∷ flags) part flag h k = (h.0, present-push parts flags part flag h.1 k)

pub present_more : (parts : List Component) (i : ℕ) (flags : List Bool) (part : Component) (flag : Bool) → i < length parts → part ≡ get_or parts i part → Present (take i parts) flags → (part.optional ≡ false → flag ≡ true) → Present (take (i + 1) parts) (flags ++ flag ∷ [])
present_more parts i flags part flag lt is h k = subst (λ ps. Present ps (flags ++ flag ∷ [])) (sym (take_more parts i part lt)) (present-push (take i parts) flags (get_or parts i part) flag h (subst (λ p. p.optional ≡ false → flag ≡ true) is k))

pub present_all : (parts : List Component) (i : ℕ) (flags : List Bool) → length parts ≤ i → Present (take i parts) flags → Present parts flags
present_all parts i flags le h = subst (λ ps. Present ps flags) (take_all i parts le) h

pub present-length : (parts : List Component) (flags : List Bool) → Present parts flags → length flags ≡ length parts
present-length [] [] h = refl
present-length [] (f ∷ flags) h = absurd h
present-length (p ∷ parts) [] h = absurd h
present-length (p ∷ parts) (f ∷ flags) h = ap suc (present-length parts flags h.1)

put_some : (p : ComponentPlace) (o : Option (List ComponentPlace)) → (o ≡ None → ⊥) → put_first p o ≡ None → ⊥
put_some p None h e = h refl
put_some p (Some ps) h e = absurd cc

-- an absent component is OPTIONAL
left_out : (optional : Bool) (o : Option (List ComponentPlace)) → MatchBool optional (Unit {0}) (false ≡ true) → (o ≡ None → ⊥) → cond optional o None ≡ None → ⊥
left_out true o h k e = k e
left_out false o h k e = absurd cc

-- where each component has its type, no place is missing
pub places_there : (l : TypeLabel) (i : ℕ) (parts : List Component) (ts : List (Rose TypeLabel)) (flags : List Bool) → length ts ≡ length parts → Present parts flags → present_from l i parts ts flags ≡ None → ⊥
places_there l i [] ts [] n h e = absurd cc
places_there l i [] ts (flag ∷ flags) n h e = h
places_there l i (c ∷ cs) ts [] n h e = h
places_there l i (c ∷ cs) [] (flag ∷ flags) n h e = absurd (omega (arith, n))
places_there l i (c ∷ cs) (t ∷ ts) (true ∷ flags) n h e = put_some (place_of l i c t) (present_from l (i + 1) cs ts flags) (places_there l (i + 1) cs ts flags (omega (arith, n)) h.1) e
places_there l i (c ∷ cs) (t ∷ ts) (false ∷ flags) n h e = left_out c.optional (present_from l (i + 1) cs ts flags) h.0 (places_there l (i + 1) cs ts flags (omega (arith, n)) h.1) e
