-- The order of faults: by files and places, and at one place by their reasons.
use Rattle.std.specs.Prelude.{◌≡◌, ℕ, Bool, false, ◌&&◌, ◌||◌, not, nat_eq, nat_lt, ◌⊎◌, List, [], ◌∷◌, Option, Some, None, MatchOption, if◌then◌else◌}
use Rattle.base_texts.specs.Lists.{HasItem}
use Rattle.link_names.specs.declared.places.Place.{Place}
use Rattle.link_names.specs.declared.faults.LinkWhy.{LinkWhy}
use Rattle.link_names.specs.declared.faults.LinkingFault.{LinkingFault}
pub use Rattle.link_names.specs.Reasons.{rank_of, rank_of_facet}

abbrev pub place : ℕ → ℕ → Place
place file at = record { file = file; at = at }

abbrev pub is_before : Place → Place → Bool
is_before a b = nat_lt a.file b.file || (nat_eq a.file b.file && nat_lt a.at b.at)

abbrev pub fault : LinkWhy → Place → LinkingFault
fault w p = record { place = p; why = w }

abbrev pub precedes : LinkingFault → LinkingFault → Bool
precedes f g = is_before f.place g.place || (not (is_before g.place f.place) && nat_lt (rank_of f.why) (rank_of g.why))

abbrev pub NonePrecedes : List LinkingFault → LinkingFault → Type 0
NonePrecedes [] f = Unit {0}
NonePrecedes (g ∷ gs) f = (precedes g f ≡ false) × NonePrecedes gs f

-- It is one of the faults, and none precedes it.
abbrev pub IsFirst : List LinkingFault → LinkingFault → Type 0
IsFirst fs f = HasItem fs f × NonePrecedes fs f

-- It is the first of the faults, or none if there are none.
abbrev pub IsFirstOf : List LinkingFault → Option LinkingFault → Type 0
IsFirstOf fs found = MatchOption found (fs ≡ []) (IsFirst fs)

-- It is a fault of this kind that no other of the kind precedes, or none if there is none of the kind.
abbrev pub IsFirstSuch : (LinkingFault → Type 0) → Option LinkingFault → Type 0
IsFirstSuch P found = MatchOption found ((f : LinkingFault) → P f → ⊥) (λ f. P f × ((g : LinkingFault) → P g → precedes g f ≡ false))

-- It is a fault of one of these.
abbrev pub OneHas : {A : Type 0} → (A → LinkingFault → Type 0) → List A → LinkingFault → Type 0
OneHas has [] f = ⊥
OneHas has (x ∷ xs) f = has x f ⊎ OneHas has xs f

-- The first of the fault found and one more.
abbrev pub earlier : Option LinkingFault → LinkingFault → Option LinkingFault
earlier None g = Some g
earlier (Some f) g = if precedes g f then Some g else Some f

abbrev pub first_of : Option LinkingFault → Option LinkingFault → Option LinkingFault
first_of found None = found
first_of found (Some f) = earlier found f
