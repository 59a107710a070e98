-- The parts of a module's types are there when they are read.
use Rattle.std.proofs.Common.{◌≡◌, ℕ, zero, suc, ◌+◌, ◌<◌, Bool, true, false, Option, Some, None, List, [], ◌∷◌, length, refl, arith}
use Rattle.std.specs.Prelude.{slice_get, MatchBool, if◌then◌else◌}
use Rattle.base_trees.specs.Rose.{Rose, label_of, kids_of}
use Rattle.asn_types.specs.declared.types.Component.{Component}
use Rattle.asn_types.specs.declared.types.TypeLabel.{TypeLabel}
use Rattle.asn_types.specs.Parts.{parts_of}
use Rattle.asn_types.specs.Refs.{resolve}
use Rattle.asn_values.specs.Values.{ComponentPlace, place_of, place_at, put_first, present_from}
use Rattle.asn_types.proofs.Chaining.{no-reference, well-formed, have-parts, resolved-of-module}
use Rattle.per_fields.specs.Laws.{Present, NothingIsMissing}

within : {A : Type 0} (xs : List A) (i : ℕ) → i < length xs → (x : A) × (slice_get xs i ≡ Some x)
within [] i below = absurd (omega arith)
within (x ∷ xs) zero below = (x, refl)
within (x ∷ xs) (suc i) below = within xs i (omega arith)

put_some : (p : ComponentPlace) (o : Option (List ComponentPlace)) → (o ≡ None → ⊥) → put_first p o ≡ None → ⊥
put_some p None h e = h refl
put_some p (Some ps) h e = absurd cc

-- an absent component is OPTIONAL
left_out : (optional : Bool) (o : Option (List ComponentPlace)) → MatchBool optional (Unit {0}) (false ≡ true) → (o ≡ None → ⊥) → (if optional then o else None) ≡ None → ⊥
left_out true o h k e = k e
left_out false o h k e = absurd cc

present_there : (l : TypeLabel) (i : ℕ) (parts : List Component) (ts : List (Rose TypeLabel)) (flags : List Bool) → length ts ≡ length parts → Present parts flags → present_from l i parts ts flags ≡ None → ⊥
present_there l i [] ts [] n h e = absurd cc
present_there l i [] ts (flag ∷ flags) n h e = h
present_there l i (c ∷ cs) ts [] n h e = h
present_there l i (c ∷ cs) [] (flag ∷ flags) n h e = absurd (omega (arith, n))
present_there l i (c ∷ cs) (t ∷ ts) (true ∷ flags) n h e =
    put_some (place_of l i c t) (present_from l (i + 1) cs ts flags) (present_there l (i + 1) cs ts flags (omega (arith, n)) h.1) e
present_there l i (c ∷ cs) (t ∷ ts) (false ∷ flags) n h e =
    left_out c.optional (present_from l (i + 1) cs ts flags) h.0 (present_there l (i + 1) cs ts flags (omega (arith, n)) h.1) e

at_place : (l : TypeLabel) (i : ℕ) (o : Option Component) (q : Option (Rose TypeLabel)) (c : Component) (t : Rose TypeLabel) → o ≡ Some c → q ≡ Some t → place_at l i o q ≡ None → ⊥
at_place l i None q c t h k e = absurd cc
at_place l i (Some d) None c t h k e = absurd cc
at_place l i (Some d) (Some u) c t h k e = absurd cc

pub nothing_missing : NothingIsMissing
nothing_missing M t is inside =
    let u = resolve M t in
    let parts = parts_of (label_of u).form in
    let all = have-parts M u is (resolved-of-module M t inside) in (
      no-reference M t is (well-formed M t is inside),
      (λ flags h e. present_there (label_of u) 0 parts (kids_of u) flags all h e),
      (λ i below e.
          let part = within parts i below in
          let type = within (kids_of u) i (omega (arith, all, below)) in
          at_place (label_of u) i (slice_get parts i) (slice_get (kids_of u) i) part.0 type.0 part.1 type.1 e),
    )
