-- Types that refer to one another by the numbers of their assignments.
use Rattle.std.specs.Prelude.{◌≡◌, ℕ, zero, suc, ◌+◌, Bool, true, false, Option, Some, None, List, [], ◌∷◌, slice_get, option_and_then, ◌⊎◌, IfSome, MatchBool}
use Rattle.std.specs.Option.{option_map}
use Rattle.base_trees.specs.Rose.{Rose, node, Roses, none, more, label_of}
use Rattle.asn_types.specs.declared.roles.Role.{Role}
use Rattle.asn_types.specs.declared.roles.Role.TheVariants.{Element}
use Rattle.asn_types.specs.declared.types.Component.{Component}
use Rattle.asn_types.specs.declared.types.Form.{Form}
use Rattle.asn_types.specs.declared.types.Form.TheVariants as form
use Rattle.asn_types.specs.declared.types.TypeLabel.{TypeLabel}
use Rattle.asn_types.specs.declared.modules.Assignment.{Assignment}
use Rattle.asn_types.specs.Parts.{parts_of}
use Rattle.asn_types.specs.Roles.{role_of}

abbrev pub target : Form → Option ℕ
target (form.Ref to) = Some to
target _ = None

abbrev pub body_at : List Assignment → ℕ → Option (Rose TypeLabel)
body_at M k = option_map (λ a. a.body) (slice_get M k)

-- The type that one reference reaches.
abbrev pub next : List Assignment → Rose TypeLabel → Option (Rose TypeLabel)
next M t = option_and_then (body_at M) (target (label_of t).form)

-- The type that at most n references reach.
unfoldable pub follow : List Assignment → ℕ → Rose TypeLabel → Rose TypeLabel
follow M zero t = t
follow M (suc n) t = elim (next M t) [ None ↦ t | Some u ↦ follow M n u ]

-- The type itself, or the type at the end of its references. In a module at most 4 references follow one another.
abbrev pub resolve : List Assignment → Rose TypeLabel → Rose TypeLabel
resolve M t = follow M 4 t

abbrev pub is_element : Role → Bool
is_element Element = true
is_element _ = false

module _ (P : ℕ → Type 0) where
  -- P holds of each reference that the type reaches without passing a part with the role of an element.
  unfoldable mutual
    pub NearRefs : Rose TypeLabel → Type 0
    NearRefs (node l ts) = IfSome (target l.form) P × NearRefsOf l 0 (parts_of l.form) ts

    pub NearRefsOf : TypeLabel → ℕ → List Component → Roses TypeLabel → Type 0
    NearRefsOf l i parts none = Unit {0}
    NearRefsOf l i parts (more t ts) =
        elim parts [
          | [] ↦ Unit {0}
          | part ∷ others ↦ MatchBool (is_element (role_of l i part)) (Unit {0}) (NearRefs t) × NearRefsOf l (i + 1) others ts
        ]

-- At most n references follow one another from the type without passing a part with the role of an element.
unfoldable pub ChainsWithin : List Assignment → ℕ → Rose TypeLabel → Type 0
ChainsWithin M zero t = NearRefs (λ k. ⊥) t
ChainsWithin M (suc n) t = NearRefs (λ k. IfSome (body_at M k) (λ u. ChainsWithin M n u)) t

-- The first type is the second or a part of it, at any depth.
abbrev mutual
  pub StandsIn : Rose TypeLabel → Rose TypeLabel → Type 0
  StandsIn t (node l ts) = (t ≡ node l ts) ⊎ StandsInSome t ts

  pub StandsInSome : Rose TypeLabel → Roses TypeLabel → Type 0
  StandsInSome t none = ⊥
  StandsInSome t (more u us) = StandsIn t u ⊎ StandsInSome t us

-- The type is the body of an assignment of the module, or a part of one.
abbrev pub IsOf : List Assignment → Rose TypeLabel → Type 0
IsOf [] t = ⊥
IsOf (a ∷ others) t = StandsIn t a.body ⊎ IsOf others t
