-- How many parts a simple type is made of.
use Rattle.std.proofs.Common.{ℕ, suc, ◌+◌, ◌<◌, ◌≤◌, arith, List, [], ◌∷◌, length, get_or, zero}
use Rattle.schema_components.specs.Raw.{Base, Named, Inner, Bases, none, more, How, Restrict, ListOf, UnionOf}
use Rattle.schema_components.specs.Seen.{base_of, bases_in}
use Rattle.schema_components.specs.declared.simple_definitions.RawBase.{RawBase}

abbrev mutual
  pub base_size : Base → ℕ
  base_size (Named r) = 1
  base_size (Inner at body how) = suc (how_size how)

  pub how_size : How → ℕ
  how_size (Restrict base facets) = suc (base_size base)
  how_size (ListOf item) = suc (base_size item)
  how_size (UnionOf members) = suc (bases_size members)

  pub bases_size : Bases → ℕ
  bases_size none = 0
  bases_size (more b bs) = base_size b + bases_size bs

pub part_base : (bs : List RawBase) (i : ℕ) (d : RawBase) → i < length bs → base_size (base_of (get_or bs i d)) ≤ bases_size (bases_in bs)
part_base [] i d lt = absurd (omega (arith, lt))
part_base (b ∷ bs) zero d lt = omega arith
part_base (b ∷ bs) (suc i) d lt = let ih = part_base bs i d (omega (arith, lt)) in omega (arith, ih)
