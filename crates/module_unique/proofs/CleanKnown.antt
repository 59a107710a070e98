-- What is known of the types that are found through references and within types.
use Rattle.std.proofs.Common.{◌≡◌, ℕ, zero, suc, ◌<◌, ◌≤◌, ◌+◌, Option, Some, None, List, [], ◌∷◌, map, length, refl, ap, subst, ◌∙◌, arith, option_map}
use Rattle.std.specs.Prelude.{All, bytes_eq, slice_get, option_and_then}
use Rattle.std.specs.List.{IsDistinct}
use Rattle.base_trees.specs.Rose.{Rose, Roses, none, more, label_of, list_of, height, depth_all}
use Rattle.asn_types.specs.declared.types.Component.{Component}
use Rattle.asn_types.specs.declared.types.TypeLabel.{TypeLabel}
use Rattle.asn_types.specs.declared.modules.Assignment.{Assignment}
use Rattle.asn_types.specs.Refs as refs
use Rattle.module_print.specs.Printed.{reference_at}
use Rattle.module_text.specs.declared.modules.PlainAssignment.{PlainAssignment}
use Rattle.module_text.specs.Plain.{limit}
use Rattle.module_text.specs.declared.spots.Spot.{Spot}
use Rattle.module_text.specs.declared.spots.Spot.TheVariants.{Elsewhere}
use Rattle.module_text.specs.Printable.{part_spot}
use Rattle.module_text.specs.Resolving as resolving
use Rattle.module_laws.proofs.Firsts.{got-at, got-mapped, mapped, all-at}
use Rattle.module_unique.specs.Utf8Texts.{TypeIsUtf8, TypesAreUtf8}
use Rattle.module_unique.proofs.Telling.{assignment_told, type_told, module_told}
use Rattle.module_unique.proofs.Goods.{Good, AllGood, GoodBody, Sits, fine}
use Rattle.module_unique.proofs.Back.{number_found}

module _ (M : List Assignment) where
  pub record Known (t : Rose TypeLabel) : Type 0 where
    pub spot : Spot
    pub good : Good M spot t
    pub low : height t ≤ limit
    pub utf8 : TypeIsUtf8 t

  pub known_sits : (t : Rose TypeLabel) → Known t → Sits M t
  known_sits t known = record { is = fine M t known.spot known.good; low = known.low }

  pub kid_known : (ts : Roses TypeLabel) (spot : Spot) (l : TypeLabel) (i : ℕ) (parts : List Component) → AllGood M spot l i parts ts → depth_all ts ≤ limit → TypesAreUtf8 ts
      → (k : ℕ) (t : Rose TypeLabel) → slice_get (list_of ts) k ≡ Some t → Known t
  kid_known none spot l i parts good low utf8 k t e = absurd (cc)
  kid_known (more u us) spot l i [] good low utf8 k t e = absurd good
  kid_known (more u us) spot l i (part ∷ parts) good low utf8 zero t e =
      let same : u ≡ t = cc in
      let here : Known u = record { spot = part_spot spot l i part; good = good.0; low = omega (arith, low); utf8 = utf8.0 } in
      subst Known same here
  kid_known (more u us) spot l i (part ∷ parts) good low utf8 (suc k) t e = kid_known us spot l (i + 1) parts good.1 (omega (arith, low)) utf8.1 k t e

  module _ (all : All (GoodBody M) M) (utf8 : All (λ (a : Assignment). TypeIsUtf8 a.body) M) where
    pub body_known : (k : ℕ) (a : Assignment) → slice_get M k ≡ Some a → Known a.body
    body_known k a e =
        let good = all-at (GoodBody M) M k a all e in
        record { spot = Elsewhere; good = good.good; low = good.printable.depth; utf8 = all-at (λ (b : Assignment). TypeIsUtf8 b.body) M k a utf8 e }

    next_known : (o : Option ℕ) (u : Rose TypeLabel) → option_and_then (refs.body_at M) o ≡ Some u → Known u
    next_known None u e = absurd (cc)
    next_known (Some k) u e =
        let body = mapped (λ (a : Assignment). a.body) (slice_get M k) u e in
        subst Known body.2 (body_known k body.0 body.1)

    follow_known : (n : ℕ) (t : Rose TypeLabel) → Known t → Known (refs.follow M n t)
    unfolding refs.follow
    follow_known zero t known = known
    follow_known (suc n) t known = by (refs.next M t) refl (λ u there. follow_known n u there)
      where
        by : (o : Option (Rose TypeLabel)) → refs.next M t ≡ o → ((u : Rose TypeLabel) → Known u → Known (refs.follow M n u)) → Known (elim o [ None ↦ t | Some u ↦ refs.follow M n u ])
        by None e rest = known
        by (Some u) e rest = rest u (next_known (refs.target (label_of t).form) u e)

    pub resolve_known : (t : Rose TypeLabel) → Known t → Known (refs.resolve M t)
    resolve_known t known = follow_known 4 t known

    -- the body of the assignment to which a reference leads
    pub record Body (to : ℕ) : Type 0 where
      pub assignment : Assignment
      pub found : slice_get M to ≡ Some assignment
      pub told : resolving.body_of (module_told M) (reference_at M to) ≡ Some (type_told M assignment.body)

    pub body_told : IsDistinct bytes_eq (map (λ (a : Assignment). a.reference) M) → (to : ℕ) → to < length M → Body to
    body_told distinct to lt =
        let a = got-at M to lt in
        record {
          assignment = a.0;
          found = a.1;
          told = ap (option_and_then (resolving.body_at (module_told M))) (number_found M distinct all to lt)
              ∙ ap (option_map (λ (b : PlainAssignment). b.body)) (got-mapped (assignment_told M) M to)
              ∙ ap (λ o. option_map (λ (b : PlainAssignment). b.body) (option_map (assignment_told M) o)) a.1;
        }
