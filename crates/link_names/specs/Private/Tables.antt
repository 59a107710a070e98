-- Tables of names.
use Rattle.std.specs.Prelude.{Bool, false, List, [], ◌∷◌, Option, Some, None, if◌then◌else◌}
use Rattle.std.specs.Borrow.{Bor}
use Rattle.std.specs.BTreeMap.{BTreeMap, get_by}
use Rattle.std.specs.BTreeSet.{BTreeSet, contains_by}
use Rattle.base_texts.specs.declared.texts.Name.{Name}
use Rattle.base_texts.specs.Names.{name_eq, name_cmp}
use Rattle.link_names.specs.declared.places.Place.{Place}
use Rattle.link_names.specs.Order.{is_before}
use Rattle.link_names.specs.Globals.{GlobalComponent}

-- The place that the table has for the name.
abbrev pub place_in : BTreeMap (Bor Name) Place → Name → Option Place
place_in table a = get_by (λ k. name_cmp a k.now) table

abbrev pub lesser : Place → Option Place → Place
lesser p None = p
lesser p (Some q) = if is_before q p then q else p

-- There is a place, and it is before this one.
abbrev pub stands_before : Option Place → Place → Bool
stands_before None p = false
stands_before (Some q) p = is_before q p

-- The place of the first component of the name.
abbrev pub first_place : List GlobalComponent → Name → Option Place
first_place [] a = None
first_place (g ∷ gs) a = if name_eq g.name a then Some (lesser g.place (first_place gs a)) else first_place gs a

-- The set contains the name.
abbrev pub holds : BTreeSet (Bor Name) → Name → Bool
holds set a = contains_by (λ k. name_cmp a k.now) set
