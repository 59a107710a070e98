-- Where each part of a type has a number and is made, the parts leave something of it.
use Rattle.std.proofs.Common.{◌≡◌, ℕ, inl, List, refl, sym, ap, ◌∙◌, subst, Option, Some, None, Result}
use Rattle.std.specs.Prelude.{IsSome}
use Rattle.std.proofs.lemmas.Bool.{true≢false}
use Rattle.base_texts.specs.Lists.{HasItem}
use Rattle.base_texts.proofs.Lists.{has_left, has_right}
use Rattle.simple_types.specs.Builtins.{builtin_space}
use Rattle.simple_types.specs.Space.{Space, Spaces}
use Rattle.simple_types.specs.Space as space
use Rattle.schema_components.specs.declared.simple_definitions.RawRef.TheVariants as reference
use Rattle.schema_components.specs.Raw.{Base, Named, Inner, Bases, none, more, How, Restrict, ListOf, UnionOf}
use Rattle.link_names.specs.declared.faults.LinkWhy.{LinkWhy}
use Rattle.link_names.specs.Order.{place}
use Rattle.link_names.specs.Cycles as cycles
use Rattle.link_names.specs.Cycles.{numbers_in, one_of, part_of, parts_of_bases, parts_of, parts_in}
use Rattle.link_names.specs.SimpleTypes.{SimpleDefinition}
use Rattle.link_simple.specs.declared.leaving.Left.{Left}
use Rattle.link_simple.specs.declared.leaving.Left.TheVariants as left
use Rattle.link_simple.specs.Making.{entry_at, space_at, part_space, with_space, part_spaces, IsRestriction, IsList, IsUnion, IsLeft}
use Rattle.link_simple.specs.Private.Leaving.{LeftBy}
use Rattle.link_simple.specs.Private.Told.{IsPartTold, ArePartsTold, IsHowTold}
use Rattle.link_simple.specs.Private.Working.{space_left, fault_left}
use Rattle.link_simple.proofs.Existence.{some_restricted, restriction_left, list_left, union_left}

some_of : {A : Type 0} (o : Option A) → IsSome o → (x : A) × (o ≡ Some x)
some_of None is = absurd (true≢false (sym is))
some_of (Some x) is = (x, refl)

module _ (ns : cycles.SimpleNumbers) (made : List (Option Space)) (file : ℕ) where
  abbrev pub AreMade : List ℕ → Type 0
  AreMade parts = (m : ℕ) → HasItem parts m → IsSome (entry_at made m)

  number_made : (o : Option ℕ) → IsSome o → AreMade (one_of o) → (s : Space) × (space_at made o ≡ Some s)
  number_made None told all = absurd (true≢false (sym told))
  number_made (Some n) told all = some_of (entry_at made n) (all n (inl refl))

  part_made : (b : Base) → IsPartTold ns file b → AreMade (part_of ns file b) → (s : Space) × (part_space ns made file b ≡ Some s)
  part_made (Named (reference.Builtin which)) told all = (builtin_space which, refl)
  part_made (Named (reference.Other name)) told all = number_made (ns.named name) told all
  part_made (Inner at body_at how) told all = number_made (ns.placed (place file at)) told all

  parts_made : (bs : Bases) → ArePartsTold ns file bs → AreMade (parts_of_bases ns file bs) → (ss : Spaces) × (part_spaces ns made file bs ≡ Some ss)
  parts_made none told all = (space.none, refl)
  parts_made (more b bs) told all =
      let first = part_made b told.0 (λ m h. all m (has_left (part_of ns file b) (parts_of_bases ns file bs) m h)) in
      let rest = parts_made bs told.1 (λ m h. all m (has_right (part_of ns file b) (parts_of_bases ns file bs) m h)) in
      (space.more first.0 rest.0, ap (λ o. with_space o (part_spaces ns made file bs)) first.1 ∙ ap (with_space (Some first.0)) rest.1)

  pub something_left : (how : How) → IsHowTold ns file how → AreMade (parts_of ns file how) → (r : Result Space LinkWhy) × IsLeft ns made file how r
  something_left (Restrict base facets) told all =
      let part = part_made base told all in
      let now = some_restricted part.0 facets in
      let it = restriction_left part.0 facets now.0 now.1 in
      (it.0, subst (λ o. IsRestriction o facets it.0) (sym part.1) it.1)
  something_left (ListOf item) told all =
      let part = part_made item told all in
      let it = list_left part.0 in
      (it.0, subst (λ o. IsList o it.0) (sym part.1) it.1)
  something_left (UnionOf members) told all =
      let them = parts_made members told all in
      let it = union_left them.0 in
      (it.0, subst (λ o. IsUnion o it.0) (sym them.1) it.1)

-- a space, where there is no reason
module _ (ds : List SimpleDefinition) (made : List (Option Space)) (d : SimpleDefinition) where
  pub left_filled : (l : Left) → LeftBy (IsLeft (numbers_in ds) made d.place.file d.how) l → IsHowTold (numbers_in ds) d.place.file d.how
      → ((m : ℕ) → HasItem (parts_in (numbers_in ds) d) m → IsSome (entry_at made m)) → fault_left d.body l ≡ None → IsSome (space_left l)
  left_filled (left.Made simple) h told all quiet = refl
  left_filled (left.Refused why) h told all quiet = absurd cc
  left_filled left.PartMissing h told all quiet =
      let it = something_left (numbers_in ds) made d.place.file d.how told all in
      absurd (h it.0 it.1)
