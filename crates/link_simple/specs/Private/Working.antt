-- For private contracts only: the types made so far, each after its parts.
use Rattle.std.specs.Prelude.{◌≡◌, ◌<◌, ℕ, Bool, true, List, length, Option, Some, None, Err, IsSome, IfSome, slice_get}
use Rattle.simple_types.specs.Seen.{space_of}
use Rattle.simple_types.specs.Sound.{Sound}
use Rattle.simple_types.specs.Space.{Space}
use Rattle.link_names.specs.declared.places.Place.{Place}
use Rattle.link_names.specs.declared.faults.LinkingFault.{LinkingFault}
use Rattle.link_names.specs.Order.{fault, IsFirstSuch}
use Rattle.link_names.specs.Cycles.{numbers_in, edges}
use Rattle.link_names.specs.Graphs.{IsEdge}
use Rattle.link_names.specs.Private.Searching.{mark}
use Rattle.link_names.specs.SimpleTypes.{SimpleDefinition}
use Rattle.link_simple.specs.declared.leaving.Left.{Left}
use Rattle.link_simple.specs.declared.leaving.Left.TheVariants as left
use Rattle.link_simple.specs.declared.working.Work.{Work}
use Rattle.link_simple.specs.Making.{entry_at, IsEntry, IsLeft, IsMaking}
use Rattle.link_simple.specs.Private.Parts.{entries_of}

abbrev pub space_left : Left → Option Space
space_left (left.Made simple) = Some (space_of simple)
space_left (left.Refused why) = None
space_left left.PartMissing = None

abbrev pub fault_left : Place → Left → Option LinkingFault
fault_left body (left.Made simple) = None
fault_left body (left.Refused why) = Some (fault why body)
fault_left body left.PartMissing = None

-- The fault is that of a type that is done.
abbrev pub IsFaultAmong : List SimpleDefinition → List (Option Space) → List Bool → LinkingFault → Type 0
IsFaultAmong ds made done f =
    (n : ℕ) × (d : SimpleDefinition) × (mark done n ≡ true) × (slice_get ds n ≡ Some d) × (f.place ≡ d.body)
    × IsLeft (numbers_in ds) made d.place.file d.how (Err f.why)

-- The types that are done are the results of making them from their parts, in each list of all spaces.
pub record Stands (ds : List SimpleDefinition) (made : List (Option Space)) (done : List Bool) (found : Option LinkingFault) : Type 0 where
  pub long : length made ≡ length ds
  pub marks : length done ≡ length ds
  pub fits : (n : ℕ) (d : SimpleDefinition) → mark done n ≡ true → slice_get ds n ≡ Some d → IsEntry (numbers_in ds) made d (entry_at made n)
  pub closed : (n m : ℕ) → mark done n ≡ true → IsEdge (edges ds) n m → mark done m ≡ true
  pub only : (others : List (Option Space)) → IsMaking ds others → (n : ℕ) → mark done n ≡ true → entry_at others n ≡ entry_at made n
  pub first : IsFirstSuch (IsFaultAmong ds made done) found
  pub sound : (n : ℕ) → IfSome (entry_at made n) Sound
  pub filled : found ≡ None → (n : ℕ) → mark done n ≡ true → IsSome (entry_at made n)

abbrev pub StandsIn : List SimpleDefinition → List Bool → Work → Type 0
StandsIn ds done w = Stands ds (entries_of w.entries.items) done w.found

-- All types are done.
pub record Finished (ds : List SimpleDefinition) (made : List (Option Space)) (done : List Bool) (found : Option LinkingFault) : Type 0 where
  pub stands : Stands ds made done found
  pub all : (n : ℕ) → n < length done → mark done n ≡ true

abbrev pub FinishedIn : List SimpleDefinition → Work → Type 0
FinishedIn ds w = (done : List Bool) × Finished ds (entries_of w.entries.items) done w.found
