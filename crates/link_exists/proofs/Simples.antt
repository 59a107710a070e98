-- Each space that is sound is that of a simple type.
use Rattle.std.proofs.Common.{◌≡◌, ◌<◌, ◌^◌, refl, ap, ◌∙◌, arith, List, [], ◌∷◌, length, Box, Global}
use denote.RawPtr.{null_ptr}
use Rattle.simple_types.specs.declared.simples.Simple.{Simple}
use Rattle.simple_types.specs.declared.simples.Simple.TheVariants as variant
use Rattle.simple_types.specs.declared.simples.SimpleList.{SimpleList}
use Rattle.simple_types.specs.Space.{Space, Spaces, none, more, Booleans, Wholes, Numbers, Words, Characters, ListOf, UnionOf, count_members}
use Rattle.simple_types.specs.Seen.{space_of, spaces_in}
use Rattle.simple_types.specs.Sound.{Sound, AreSound}
use Rattle.simple_types.proofs.Seen.{union_space, list_space}

abbrev boxed : Simple → Box Simple Global
boxed s = record { ptr = null_ptr; alloc = record { memory = record { seal = tt } }; value = s }

abbrev listed : (ss : List Simple) → length ss < 2 ^ 32 → SimpleList
listed ss few = record { entries = record { ptr = null_ptr; len = length ss; cap = length ss; alloc = record { memory = record { seal = tt } }; items = ss; ok = (refl, omega arith); small = omega (arith, few) } }

count_in : (ss : List Simple) → count_members (spaces_in ss) ≡ length ss
count_in [] = refl
count_in (s ∷ ss) = let e = count_in ss in omega (arith, e)

mutual
  unfolding space_of

  pub some_simple : (s : Space) → Sound s → (x : Simple) × (space_of x ≡ s)
  some_simple Booleans h = (variant.Bool, refl)
  some_simple (Wholes least greatest) h = (variant.Whole least greatest, refl)
  some_simple (Numbers numbers) h = (variant.Numbers numbers, refl)
  some_simple (Words how words) h = (variant.Words how words, refl)
  some_simple (Characters how least most class) h = (variant.Chars how least most class, refl)
  some_simple (ListOf item least most) h =
      let x = some_simple item h.0 in
      (variant.List (boxed x.0) least most, list_space (boxed x.0) least most ∙ ap (λ s. ListOf s least most) x.1)
  some_simple (UnionOf members) h =
      let xs = some_simples members h.1 in
      let few : length xs.0 < 2 ^ 32 = let e = count_in xs.0 in let f = ap count_members xs.1 in let g = h.0.1 in omega (arith, e, f, g) in
      (variant.Union (listed xs.0 few), union_space (listed xs.0 few) ∙ ap UnionOf xs.1)

  some_simples : (ss : Spaces) → AreSound ss → (xs : List Simple) × (spaces_in xs ≡ ss)
  some_simples none h = ([], refl)
  some_simples (more s ss) h =
      let x = some_simple s h.0 in
      let xs = some_simples ss h.2 in
      (x.0 ∷ xs.0, ap (λ a. more a (spaces_in xs.0)) x.1 ∙ ap (more s) xs.1)
