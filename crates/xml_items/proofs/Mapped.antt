-- Trees of other labels, by their label and their kids.
use Rattle.std.proofs.Common.{◌≡◌, suc, List, [], ◌∷◌, ◌++◌, length, map, refl, ap, ◌∙◌, arith}
use Rattle.std.proofs.lemmas.List.{map-append}
use Rattle.base_trees.specs.Rose.{Rose, node, Roses, none, more, roses_of, list_of, label_of, kids_of, node_count, count_all}
use Rattle.base_flat_trees.specs.Zips.{Above, Zip, added, closed, closed_in, above_count, zip_count}
use Rattle.xml_items.specs.Meaning.{map_rose, map_roses, map_above, map_zip}

module _ {K L : Type 0} (f : K → L) where
  pub map_roses-of : (ts : List (Rose K)) → map_roses f (roses_of ts) ≡ roses_of (map (map_rose f) ts)
  map_roses-of [] = refl
  map_roses-of (t ∷ ts) = ap (λ us. more (map_rose f t) us) (map_roses-of ts)

  list_of-map : (ts : Roses K) → list_of (map_roses f ts) ≡ map (map_rose f) (list_of ts)
  list_of-map none = refl
  list_of-map (more t ts) = ap (λ us. map_rose f t ∷ us) (list_of-map ts)

  -- the label and the kids of a mapped tree
  pub label-map : (t : Rose K) → label_of (map_rose f t) ≡ f (label_of t)
  label-map (node l ts) = refl

  pub kids-map : (t : Rose K) → kids_of (map_rose f t) ≡ map (map_rose f) (kids_of t)
  kids-map (node l ts) = list_of-map ts

  -- as many nodes
  mutual
    pub node_count-map : (t : Rose K) → node_count (map_rose f t) ≡ node_count t
    node_count-map (node l ts) = ap suc (count_all-map ts)

    pub count_all-map : (ts : Roses K) → count_all (map_roses f ts) ≡ count_all ts
    count_all-map none = refl
    count_all-map (more t ts) = omega (arith, node_count-map t, count_all-map ts)

  above_count-map : (up : List (Above K)) → above_count (map (map_above f) up) ≡ above_count up
  above_count-map [] = refl
  above_count-map (a ∷ up) =
      omega (arith, above_count-map up, ap count_all (map_roses-of a.before), count_all-map (roses_of a.before))

  pub zip_count-map : (z : Zip K) → zip_count (map_zip f z) ≡ zip_count z
  zip_count-map z = omega (arith, above_count-map z.above, ap count_all (map_roses-of z.kids), count_all-map (roses_of z.kids))

  -- none are left, and none are open
  pub none_left : (ts : List (Rose K)) → map (map_rose f) ts ≡ [] → ts ≡ []
  none_left [] e = refl
  none_left (t ∷ ts) e = absurd (omega (arith, ap length e))

  pub none_open : (up : List (Above K)) → map (map_above f) up ≡ [] → up ≡ []
  none_open [] e = refl
  none_open (a ∷ up) e = absurd (omega (arith, ap length e))

  -- the steps of a builder
  pub added-map : (t : Rose K) (z : Zip K) → map_zip f (added t z) ≡ added (map_rose f t) (map_zip f z)
  added-map t z = ap (λ ks. record { above = map (map_above f) z.above; kids = ks }) (map-append (map_rose f) z.kids (t ∷ []))

  closed_in-map : (up : List (Above K)) (ts : List (Rose K)) → map_zip f (closed_in up ts) ≡ closed_in (map (map_above f) up) (map (map_rose f) ts)
  closed_in-map [] ts = refl
  closed_in-map (a ∷ up) ts =
      ap (λ ks. record { above = map (map_above f) up; kids = ks }) (map-append (map_rose f) a.before (node a.label (roses_of ts) ∷ []))
      ∙ ap (λ us. record { above = map (map_above f) up; kids = map (map_rose f) a.before ++ node (f a.label) us ∷ [] }) (map_roses-of ts)

  pub closed-map : (z : Zip K) → map_zip f (closed z) ≡ closed (map_zip f z)
  closed-map z = closed_in-map z.above z.kids
