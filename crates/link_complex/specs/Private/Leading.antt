-- What the code keeps of the element particles of one name: the first of them, and the first that has another type.
use Rattle.std.specs.Prelude.{◌≡◌, ◌↔◌, IsTrue, Bool, true, false, Option, Some, None, if◌then◌else◌}
use Rattle.link_names.specs.declared.places.Place.{Place}
use Rattle.link_names.specs.Order.{is_before}
use Rattle.link_names.specs.Private.Tables.{lesser, stands_before}
use Rattle.link_complex.specs.ElementTypes.{TypeIdentity, TypedParticle}

-- The place and the type of the first, and the place of the first with another type.
pub record Leader : Type 0 where
  pub place : Place
  pub kind : Option TypeIdentity
  pub other : Option Place

abbrev pub leading : TypedParticle → Leader
leading p = record { place = p.place; kind = p.kind; other = None }

-- The leader with a particle added; `same` is whether its type is that of the first.
abbrev pub joined : Bool → Leader → TypedParticle → Leader
joined true l p = record { place = lesser p.place (Some l.place); kind = l.kind; other = l.other }
joined false l p =
    if is_before p.place l.place then record { place = p.place; kind = p.kind; other = Some l.place }
    else record { place = l.place; kind = l.kind; other = Some (lesser p.place l.other) }

-- A particle with another type precedes the place.
abbrev pub has_other : Bool → Leader → Place → Bool
has_other true l p = stands_before l.other p
has_other false l p = is_before l.place p

-- The leader of a name with a particle added.
abbrev pub Joins : Option Leader → TypedParticle → Leader → Type 0
Joins None p r = r ≡ leading p
Joins (Some l) p r = (same : Bool) × (IsTrue same ↔ (l.kind ≡ p.kind)) × (r ≡ joined same l p)

-- The result is whether a particle of the name with another type precedes this one.
abbrev pub IsBehind : Option Leader → TypedParticle → Bool → Type 0
IsBehind None p r = r ≡ false
IsBehind (Some l) p r = (same : Bool) × (IsTrue same ↔ (l.kind ≡ p.kind)) × (r ≡ has_other same l p.place)
