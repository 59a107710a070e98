-- What is known behind some kids of an element whose child elements come in any order.
use Rattle.std.proofs.Common.{◌≡◌, ℕ, zero, suc, ◌+◌, ◌≤◌, ◌<◌, ◌⊎◌, List, [], ◌∷◌, ◌++◌, Option, Some, None, Bool, true, false, ◌&&◌, cond, length, get_or, refl, sym, ◌∙◌, ap, subst, add-one, arith, length-append}
use Rattle.std.specs.Prelude.{Result, Ok, Err, MatchResult, All, slice_get}
use Rattle.base_texts.specs.declared.texts.Name.{Name}
use Rattle.base_texts.specs.WhiteSpace.{is_blank}
use Rattle.base_trees.specs.Rose.{Rose, Roses, roses_of, label_of}
use Rattle.base_trees.specs.Rose as rose
use Rattle.simple_types.specs.declared.labels.ValueLabel.{ValueLabel}
use Rattle.content_models.specs.Particle.{Particle, occurs, Term, element, sequence, choice, all, Particles, none, more}
use Rattle.content_models.specs.Language.{Leaf, Turn, leaf_at, turn_of, size_of, names, Lang, Viable}
use Rattle.content_models.specs.Clear.{is_zero, empties, IsSingle, AreSingle, Clear}
use Rattle.content_models.specs.Occurring.{AllowOne, AllMayOccur}
use Rattle.content_models.specs.Spots.{Spot, at, among, over, Picked, picked, or_else, picked_later, pick, is_named, among_picked, unmarked, missing, enter_term, leaf_of_kid, leaf_picked, leaf_of}
use Rattle.content_models.specs.SpotLaws as spots
use Rattle.content_models.specs.SpotLaws.{EndsAt, step_from, may_end}
use Rattle.content_models.proofs.Options.{over_some}
use Rattle.content_match.specs.Taking.{Matched, Took, TookMore, spot_of}
use Rattle.content_match.specs.Private.Alls.{whole}
use Rattle.content_match.specs.declared.places.Leaf as matched
use Rattle.content_match.proofs.Picked.{end_by}
use Rattle.content_match.specs.Private.Standing.{spot_among, spot_in}
use Rattle.xml_items.specs.declared.label.ItemLabel.{ItemLabel}
use Rattle.xml_items.specs.declared.label.ItemLabel.TheVariants.{Element, Text}
use Rattle.xml_read.specs.Sound.{levels_all}
use Rattle.xml_items.specs.Plain.{Plain}
use Rattle.simple_types.specs.Labels.{count_set}
use Rattle.asn_values.specs.Ordering.{taken, slots}
use Rattle.asn_values.specs.Orders.{is_set, are_just_set}
use Rattle.asn_values.proofs.JustSet.{just_set}
use Rattle.map_assignments.specs.Planning.{is_all}
use Rattle.schema_components.specs.Components.{Set}
use Rattle.schema_components.specs.Linked.{leaves, IsNamed}
use Rattle.schema_components.specs.SetParts.{parts_of}
use Rattle.xer_items.specs.Items.{joined}
use Rattle.validity_rules.specs.Asked.{Asked, asked_at}
use Rattle.validity_rules.specs.Valid.{ValidBy, KidsValid}
use Rattle.validity_rules.specs.Faults.{Begins, At, FaultBy}
use Rattle.validity_rules.specs.declared.why.InvalidWhy.TheVariants.{TextNotAllowed, UnexpectedElement, MissingElement}
use Rattle.validity_rules.proofs.Reading.{kid_here, front_long, named}
use Rattle.validity_check.specs.declared.error.CheckError.{CheckError}
use Rattle.validity_check.specs.declared.error.CheckError.TheVariants.{Invalid, Memory}
use Rattle.validity_check.specs.Walked.{Walked}
use Rattle.validity_check.specs.Answers.{Tells, KidsFault}
use Rattle.validity_check.proofs.Leaves.{last_has}
use Rattle.validity_check.proofs.Walking.{end_judged, text_judged, name_refused, kid_judged}
use Rattle.value_builder.specs.Built.{Built}
use Rattle.value_contents.specs.Bounds.{is_single, is_optional}
use Rattle.value_contents.specs.Made.{Child, Several, Standing, TermMade, PartsMade, TopMade}
use Rattle.xer_read.specs.declared.gathering.Gathered.{Gathered}
use Rattle.xer_read.specs.Private.Given.{IsElementOf, IsRead}
use Rattle.xer_read.specs.Private.Keeping.{IsKept, AllKept, IsOf, SlotKept, SlotsKept, marks_at, Gathers}
use Rattle.xer_read.specs.Private.Contents.{KidsGathered}
use Rattle.xer_read.specs.Private.Slots.{none_for, filled_at, flags_of, all_of, values_of, AreSlots, Keeps}
use Rattle.xer_read.proofs.Leading.{Stop, stop-at}
use Rattle.xer_read.proofs.Mixing.{valid-element}
use Rattle.xer_read.proofs.Reaching.{text_kept, text-valid, element-valid, text-adds, element-adds, roses-more, level-within}
use Rattle.xer_read.proofs.Slots.{just-more, taken-more, slots-all, count-all}

-- ---- an all

-- its bounds are 1 and 1, and its particles are single elements
pub all-whole : (p : Particle) → is_all p ≡ true → Clear p [] → (ps : Particles) × (p ≡ whole ps) × AreSingle ps
all-whole (occurs (element d a) least most) e c = absurd (cc)
all-whole (occurs (sequence ps) least most) e c = absurd (cc)
all-whole (occurs (choice ps) least most) e c = absurd (cc)
all-whole (occurs (all none) least most) e c = absurd (cc)
all-whole (occurs (all (more p ps)) least most) e c =
    let qs = more p ps in
    let r = c.3 in
    (qs, ap (λ n. occurs (all qs) n most) r.1 ∙ ap (λ m. occurs (all qs) 1 m) r.2, r.4)

-- ---- no child element came

pub none-unmarked : (A : Type 0) (ps : Particles) → unmarked ps ≡ flags_of {A = A} (none_for ps)
none-unmarked A none = refl
none-unmarked A (more p ps) = ap (λ fs. false ∷ fs) (none-unmarked A ps)

pub none-just : (A : Type 0) (ps : Particles) → are_just_set (flags_of {A = A} (none_for ps)) [] ≡ true
none-just A none = refl
none-just A (more p ps) = none-just A ps

-- ---- a name is picked

record LaterPicked (m : Bool) (o : Option Picked) (k : ℕ) (ns : List Bool) : Type 0 where
  pub kid : ℕ
  pub marks : List Bool
  pub found : o ≡ Some (picked kid marks)
  pub kid_is : k ≡ suc kid
  pub marks_are : ns ≡ m ∷ marks

later-picked : (m : Bool) (o : Option Picked) (k : ℕ) (ns : List Bool) → over (picked_later m) o ≡ Some (picked k ns) → LaterPicked m o k ns
later-picked m o k ns e =
    let (r, found, same) = over_some (picked_later m) o (picked k ns) e in
    record { kid = r.kid; marks = r.marks; found = found; kid_is = ap (λ (x : Picked). x.kid) same; marks_are = ap (λ (x : Picked). x.marks) same }

module _ (s : Set) (high : ℕ) where
  pub slots-none : (ps : Particles) → SlotsKept s high ps (none_for ps) (none_for ps)
  slots-none none = tt
  slots-none (more (occurs t least most) ps) = (tt, slots-none ps)

  pub kept-flags : (ps : Particles) (os : List (Option Child)) (us : List (Option (Rose Plain))) → SlotsKept s high ps os us → flags_of os ≡ flags_of us
  kept-flags none [] [] h = refl
  kept-flags none [] (u ∷ us) h = absurd h
  kept-flags none (o ∷ os) us h = absurd h
  kept-flags (more (occurs t least most) ps) [] us h = absurd h
  kept-flags (more (occurs t least most) ps) (o ∷ os) [] h = absurd h
  kept-flags (more (occurs t least most) ps) (None ∷ os) (None ∷ us) h = ap (λ fs. false ∷ fs) (kept-flags ps os us h.1)
  kept-flags (more (occurs t least most) ps) (None ∷ os) (Some b ∷ us) h = absurd h.0
  kept-flags (more (occurs t least most) ps) (Some g ∷ os) (None ∷ us) h = absurd h.0
  kept-flags (more (occurs t least most) ps) (Some g ∷ os) (Some b ∷ us) h = ap (λ fs. true ∷ fs) (kept-flags ps os us h.1)

  pub kept-all : (ps : Particles) (os : List (Option Child)) (us : List (Option (Rose Plain))) → SlotsKept s high ps os us → AllKept s high (all_of os) (all_of us)
  kept-all none [] [] h = tt
  kept-all none [] (u ∷ us) h = absurd h
  kept-all none (o ∷ os) us h = absurd h
  kept-all (more (occurs t least most) ps) [] us h = absurd h
  kept-all (more (occurs t least most) ps) (o ∷ os) [] h = absurd h
  kept-all (more (occurs t least most) ps) (None ∷ os) (None ∷ us) h = kept-all ps os us h.1
  kept-all (more (occurs t least most) ps) (None ∷ os) (Some b ∷ us) h = absurd h.0
  kept-all (more (occurs t least most) ps) (Some g ∷ os) (None ∷ us) h = absurd h.0
  kept-all (more (occurs t least most) ps) (Some g ∷ os) (Some b ∷ us) h = (h.0.1, kept-all ps os us h.1)

  -- the slot of the name that is picked was empty and is filled
  pub record Fills (ps : Particles) (os : List (Option Child)) (us : List (Option (Rose Plain))) (k : ℕ) (ns : List Bool) (g : Child) (b : Rose Plain) : Type 0 where
    pub kept : SlotsKept s high ps (filled_at os k g) (filled_at us k b)
    pub marks : ns ≡ flags_of (filled_at os k g)
    pub free : is_set (flags_of us) k ≡ false
    pub within : k < length us
    pub within_code : k < length os

  kid-of : (t : Term) (least : ℕ) (most : Option ℕ) (n : ℕ) (path : List Turn) (l : Leaf) (e : ℕ) → leaf_of_kid (occurs t least most) n path ≡ Some l → l.decl ≡ e → IsOf s t e
  kid-of (element d a) least most n path l e h f = let same : leaf_at n d a (path ++ turn_of n 0 ∷ []) ≡ l = cc in ap (λ (x : Leaf). x.decl) same ∙ f
  kid-of (sequence ps) least most n path l e h f = absurd (cc)
  kid-of (choice ps) least most n path l e h f = absurd (cc)
  kid-of (all ps) least most n path l e h f = absurd (cc)

  some-marked : (ms fs : List Bool) → true ∷ ms ≡ false ∷ fs → ⊥
  some-marked ms fs e = cc

  none-marked : (ms fs : List Bool) → false ∷ ms ≡ true ∷ fs → ⊥
  none-marked ms fs e = cc

  tails : (m n : Bool) (ms ns : List Bool) → m ∷ ms ≡ n ∷ ns → ms ≡ ns
  tails m n ms ns e = cc

  module _ (a : Name) (g : Child) (b : Rose Plain) (kept : IsKept s high g b) (l : Leaf) (decl : l.decl ≡ g.decl) where
    fills-later : (t : Term) (least : ℕ) (most : Option ℕ) (ps : Particles) (o : Option Child) (os : List (Option Child)) (u : Option (Rose Plain)) (us : List (Option (Rose Plain)))
        (m : Bool) (k : ℕ) (ns : List Bool) → flags_of (o ∷ os) ≡ m ∷ flags_of os → flags_of (u ∷ us) ≡ m ∷ flags_of us → SlotKept s high t o u
        → (j : ℕ) (js : List Bool) → k ≡ suc j → ns ≡ m ∷ js → Fills ps os us j js g b → Fills (more (occurs t least most) ps) (o ∷ os) (u ∷ us) k ns g b
    fills-later t least most ps o os u us m k ns fo fu here j js ek en f =
        subst (λ i. Fills (more (occurs t least most) ps) (o ∷ os) (u ∷ us) i ns g b) (sym ek)
        (record {
          kept = (here, f.kept);
          marks = en ∙ ap (λ zs. m ∷ zs) f.marks ∙ by o fo;
          free = ap (λ fs. is_set fs (suc j)) fu ∙ f.free;
          within = let w = f.within in omega (arith, w);
          within_code = let w = f.within_code in omega (arith, w);
        })
      where
        by : (o : Option Child) → flags_of (o ∷ os) ≡ m ∷ flags_of os → m ∷ flags_of (filled_at os j g) ≡ flags_of (o ∷ filled_at os j g)
        by None e = let q : false ≡ m = cc in ap (λ x. x ∷ flags_of (filled_at os j g)) (sym q)
        by (Some x) e = let q : true ≡ m = cc in ap (λ x. x ∷ flags_of (filled_at os j g)) (sym q)

    pub pick-fills : (ps : Particles) (ms : List Bool) (k : ℕ) (ns : List Bool) → pick ps ms a ≡ Some (picked k ns) → (os : List (Option Child)) (us : List (Option (Rose Plain))) → SlotsKept s high ps os us → ms ≡ flags_of os
        → (n : ℕ) (path : List Turn) → leaf_picked ps n path k ≡ Some l → Fills ps os us k ns g b
    pick-fills none ms k ns e os us h f n path q = absurd (cc (e))
    pick-fills (more p ps) [] k ns e os us h f n path q = absurd (cc (e))
    pick-fills (more (occurs t least most) ps) (m ∷ ms) k ns e [] us h f n path q = absurd h
    pick-fills (more (occurs t least most) ps) (m ∷ ms) k ns e (o ∷ os) [] h f n path q = absurd h
    pick-fills (more (occurs t least most) ps) (m ∷ ms) k ns e (None ∷ os) (Some c ∷ us) h f n path q = absurd h.0
    pick-fills (more (occurs t least most) ps) (m ∷ ms) k ns e (Some x ∷ os) (None ∷ us) h f n path q = absurd h.0
    pick-fills (more (occurs t least most) ps) (false ∷ ms) k ns e (Some x ∷ os) (Some c ∷ us) h f n path q = absurd (none-marked ms (flags_of os) f)
    pick-fills (more (occurs t least most) ps) (true ∷ ms) k ns e (None ∷ os) (None ∷ us) h f n path q = absurd (some-marked ms (flags_of os) f)
    pick-fills (more (occurs t least most) ps) (true ∷ ms) k ns e (Some x ∷ os) (Some c ∷ us) h f n path q =
        by (λ j js found leaf. pick-fills ps ms j js found os us h.1 (tails true true ms (flags_of os) f) (n + size_of (occurs t least most)) path leaf) (is_named (occurs t least most) a) e
      where
        by : ((j : ℕ) (js : List Bool) → pick ps ms a ≡ Some (picked j js) → leaf_picked ps (n + size_of (occurs t least most)) path j ≡ Some l → Fills ps os us j js g b)
            → (c1 : Bool) → cond c1 None (over (picked_later true) (pick ps ms a)) ≡ Some (picked k ns) → Fills (more (occurs t least most) ps) (Some x ∷ os) (Some c ∷ us) k ns g b
        by rest true e = absurd (cc (e))
        by rest false e =
            let r = later-picked true (pick ps ms a) k ns e in
            fills-later t least most ps (Some x) os (Some c) us true k ns refl refl h.0 r.kid r.marks r.kid_is r.marks_are
            (rest r.kid r.marks r.found
            (subst (λ i. leaf_picked (more (occurs t least most) ps) n path i ≡ Some l) r.kid_is q))
    pick-fills (more (occurs t least most) ps) (false ∷ ms) k ns e (None ∷ os) (None ∷ us) h f n path q =
        by (λ j js found leaf. pick-fills ps ms j js found os us h.1 (tails false false ms (flags_of os) f) (n + size_of (occurs t least most)) path leaf) (is_named (occurs t least most) a) e
      where
        here : (j : ℕ) (js : List Bool) → picked 0 (true ∷ ms) ≡ picked j js → leaf_picked (more (occurs t least most) ps) n path j ≡ Some l → Fills (more (occurs t least most) ps) (None ∷ os) (None ∷ us) j js g b
        here j js same leaf =
            let kid : 0 ≡ j = ap (λ (x : Picked). x.kid) same in
            let marks : true ∷ ms ≡ js = ap (λ (x : Picked). x.marks) same in
            subst (λ i. Fills (more (occurs t least most) ps) (None ∷ os) (None ∷ us) i js g b) kid
            (record {
              kept = ((kid-of t least most n path l g.decl (subst (λ i. leaf_picked (more (occurs t least most) ps) n path i ≡ Some l) (sym kid) leaf) decl, kept), h.1);
              marks = sym marks ∙ ap (λ zs. true ∷ zs) (tails false false ms (flags_of os) f);
              free = refl;
              within = omega arith;
              within_code = omega arith;
            })

        by : ((j : ℕ) (js : List Bool) → pick ps ms a ≡ Some (picked j js) → leaf_picked ps (n + size_of (occurs t least most)) path j ≡ Some l → Fills ps os us j js g b)
            → (c1 : Bool) → cond c1 (Some (picked 0 (true ∷ ms))) (over (picked_later false) (pick ps ms a)) ≡ Some (picked k ns) → Fills (more (occurs t least most) ps) (None ∷ os) (None ∷ us) k ns g b
        by rest true e = here k ns (cc) q
        by rest false e =
            let r = later-picked false (pick ps ms a) k ns e in
            fills-later t least most ps None os None us false k ns refl refl h.0 r.kid r.marks r.kid_is r.marks_are
            (rest r.kid r.marks r.found
            (subst (λ i. leaf_picked (more (occurs t least most) ps) n path i ≡ Some l) r.kid_is q))

  -- ---- all came that have to

  single-is : (least : ℕ) → least ≤ 1 → is_single false least (Some 1) ≡ true
  single-is zero h = refl
  single-is (suc zero) h = refl
  single-is (suc (suc n)) h = absurd (omega (arith, h))

  optional-is : (t : Term) (least : ℕ) → IsSingle (occurs t least (Some 1)) → empties (occurs t least (Some 1)) ≡ true → is_optional least (Some 1) ≡ true
  optional-is (element d a) zero h e = refl
  optional-is (element d a) (suc n) h e = absurd (cc (e))
  optional-is (sequence ps) least h e = absurd h.0
  optional-is (choice ps) least h e = absurd h.0
  optional-is (all ps) least h e = absurd h.0

  one-made : (t : Term) (least : ℕ) (most : Option ℕ) → IsSingle (occurs t least most) → AllowOne least most → (g : Child) → IsOf s t g.decl → Standing (TermMade t) false least most g.value (g ∷ [])
  one-made (element d a) least most h may g of =
      subst (λ q. Standing (TermMade (element d a)) false least q g.value (g ∷ [])) (sym h.1)
      (let low : least ≤ 1 = (subst (AllowOne least) h.1 may).0 in
      subst (λ c. elim c as (λ _. Type 0) [ true ↦ TermMade (element d a) g.value (g ∷ []) | false ↦ Several (TermMade (element d a)) least (Some 1) g.value (g ∷ []) ]) (sym (single-is least low))
      (g, refl, sym of, refl))
  one-made (sequence ps) least most h may g of = absurd of
  one-made (choice ps) least most h may g of = absurd of
  one-made (all ps) least most h may g of = absurd of

  pub parts-made : (ps : Particles) (os : List (Option Child)) (us : List (Option (Rose Plain))) → SlotsKept s high ps os us → AreSingle ps → AllMayOccur ps → is_zero (missing ps (flags_of os)) ≡ true
      → PartsMade ps (flags_of os) (values_of os) (all_of os)
  parts-made none [] [] h single may e = refl
  parts-made none [] (u ∷ us) h single may e = absurd h
  parts-made none (o ∷ os) us h single may e = absurd h
  parts-made (more (occurs t least most) ps) [] us h single may e = absurd h
  parts-made (more (occurs t least most) ps) (o ∷ os) [] h single may e = absurd h
  parts-made (more (occurs t least most) ps) (None ∷ os) (Some b ∷ us) h single may e = absurd h.0
  parts-made (more (occurs t least most) ps) (Some g ∷ os) (None ∷ us) h single may e = absurd h.0
  parts-made (more (occurs t least most) ps) (Some g ∷ os) (Some b ∷ us) h single may e =
      (g ∷ [], all_of os, refl, one-made t least most single.0 may.0.0 g h.0.0, parts-made ps os us h.1 single.1 may.1 e)
  parts-made (more (occurs t least most) ps) (None ∷ os) (None ∷ us) h single may e = by (λ f. parts-made ps os us h.1 single.1 may.1 f) (empties (occurs t least most)) refl e
    where
      by : (is_zero (missing ps (flags_of os)) ≡ true → PartsMade ps (flags_of os) (values_of os) (all_of os)) → (c : Bool) → empties (occurs t least most) ≡ c → is_zero (cond c (missing ps (flags_of os)) (suc (missing ps (flags_of os)))) ≡ true
          → PartsMade (more (occurs t least most) ps) (false ∷ flags_of os) (values_of os) (all_of os)
      by rest true q e =
          let one : most ≡ Some 1 = single.0.1 in (
            subst (λ z. is_optional least z ≡ true) (sym one) (optional-is t least (subst (λ z. IsSingle (occurs t least z)) one single.0) (subst (λ z. empties (occurs t least z) ≡ true) one q)),
            rest e,
          )
      by rest false q e = absurd (cc (e))

-- ---- where a matcher stands

no-more : {A : Type 0} (o : Option A) (b : Bool) (q : Option A) → or_else o (cond (b && false) q None) ≡ o
no-more (Some x) b q = refl
no-more None true q = refl
no-more None false q = refl

step-by : (ps : Particles) (ks : List ℕ) (ms : List Bool) (a : Name) → step_from (whole ps) (spot_among ks ms) a ≡ over (at 0) (over among_picked (pick ps (marks_at ps (spot_among ks ms)) a))
step-by ps [] ms a = refl
step-by ps (k ∷ ks) ms a = no-more (over (at 0) (over among_picked (pick ps ms a))) (is_zero (missing ps ms)) (over (at 1) (enter_term (all ps) a))

missing-by : (ps : Particles) (ks : List ℕ) (ms : List Bool) → may_end (whole ps) (spot_among ks ms) ≡ true → is_zero (missing ps (marks_at ps (spot_among ks ms))) ≡ true
missing-by ps [] ms e = sym (end_by ps [] (unmarked ps) refl) ∙ e
missing-by ps (k ∷ ks) ms e = sym (end_by ps (k ∷ ks) ms tt) ∙ e

pub spot-all : (k : Matched) (ps : Particles) → k.particle ≡ whole ps → spot_of k ≡ spot_among k.kids k.marks
spot-all k ps e = ap (λ p. spot_in p k.turns k.kids k.marks) e

-- a name that leads on is picked, and its leaf is that of a particle
pub record PicksOn (ps : Particles) (from to : Option Spot) (a : Name) (l : Leaf) : Type 0 where
  pub kid : ℕ
  pub marks : List Bool
  pub found : pick ps (marks_at ps from) a ≡ Some (picked kid marks)
  pub to_is : to ≡ Some (at 0 (among kid marks))
  pub leaf : leaf_picked ps 1 (turn_of 0 0 ∷ []) kid ≡ Some l

picks-by : (ps : Particles) (from to : Option Spot) (a : Name) (l : Leaf) → over (at 0) (over among_picked (pick ps (marks_at ps from) a)) ≡ to → Stop (whole ps) to l → PicksOn ps from to a l
picks-by ps from to a l e stop =
    let (x, found, same) = over_some (at 0) (over among_picked (pick ps (marks_at ps from) a)) stop.spot (e ∙ stop.is) in
    let (r, got, inner) = over_some among_picked (pick ps (marks_at ps from) a) x found in
    let spot : stop.spot ≡ at 0 (among r.kid r.marks) = same ∙ ap (at 0) inner in
    record {
      kid = r.kid;
      marks = r.marks;
      found = got;
      to_is = stop.is ∙ ap (λ z. Some z) spot;
      leaf = subst (λ z. leaf_of (whole ps) 0 [] z ≡ Some l) spot stop.leaf;
    }

pub picks-on : (ps : Particles) (k new : Matched) (us : List Leaf) (a : Name) (l : Leaf) → k.particle ≡ whole ps → new.particle ≡ k.particle → step_from k.particle (spot_of k) a ≡ spot_of new
    → EndsAt new.particle (spot_of new) (us ++ l ∷ []) → PicksOn ps (spot_of k) (spot_of new) a l
picks-on ps k new us a l e same goes ends =
    let here = spot-all k ps e in
    let step : over (at 0) (over among_picked (pick ps (marks_at ps (spot_of k)) a)) ≡ spot_of new =
    ap (λ o. over (at 0) (over among_picked (pick ps (marks_at ps o) a))) here ∙ sym (step-by ps k.kids k.marks a) ∙ ap (λ o. step_from (whole ps) o a) (sym here)
    ∙ ap (λ p. step_from p (spot_of k) a) (sym e) ∙ goes in
    picks-by ps (spot_of k) (spot_of new) a l step (stop-at (whole ps) (spot_of new) us l (subst (λ p. EndsAt p (spot_of new) (us ++ l ∷ [])) (same ∙ e) ends))

pub pick-within : (ps : Particles) (ms : List Bool) (a : Name) (k : ℕ) (ns : List Bool) → pick ps ms a ≡ Some (picked k ns) → k < length ms
pick-within none ms a k ns e = absurd (cc (e))
pick-within (more p ps) [] a k ns e = absurd (cc (e))
pick-within (more p ps) (true ∷ ms) a k ns e = by (λ j js f. pick-within ps ms a j js f) (is_named p a) e
  where
    by : ((j : ℕ) (js : List Bool) → pick ps ms a ≡ Some (picked j js) → j < length ms) → (c : Bool) → cond c None (over (picked_later true) (pick ps ms a)) ≡ Some (picked k ns) → k < suc (length ms)
    by rest true e = absurd (cc (e))
    by rest false e =
        let r = later-picked true (pick ps ms a) k ns e in
        let less = rest r.kid r.marks r.found in
        let is = r.kid_is in
        omega (arith, less, is)
pick-within (more p ps) (false ∷ ms) a k ns e = by (λ j js f. pick-within ps ms a j js f) (is_named p a) e
  where
    by : ((j : ℕ) (js : List Bool) → pick ps ms a ≡ Some (picked j js) → j < length ms) → (c : Bool) → cond c (Some (picked 0 (true ∷ ms))) (over (picked_later false) (pick ps ms a)) ≡ Some (picked k ns) → k < suc (length ms)
    by rest true e = let same : picked 0 (true ∷ ms) ≡ picked k ns = cc in let kid : 0 ≡ k = ap (λ (x : Picked). x.kid) same in omega (arith, kid)
    by rest false e =
        let r = later-picked false (pick ps ms a) k ns e in
        let less = rest r.kid r.marks r.found in
        let is = r.kid_is in
        omega (arith, less, is)

length-flags : {A : Type 0} (os : List (Option A)) → length (flags_of os) ≡ length os
length-flags [] = refl
length-flags (None ∷ os) = ap suc (length-flags os)
length-flags (Some x ∷ os) = ap suc (length-flags os)

-- the kid that is picked had no mark
pub pick-free : (ps : Particles) (ms : List Bool) (a : Name) (k : ℕ) (ns : List Bool) → pick ps ms a ≡ Some (picked k ns) → is_set ms k ≡ false
pick-free none ms a k ns e = absurd (cc (e))
pick-free (more p ps) [] a k ns e = absurd (cc (e))
pick-free (more p ps) (true ∷ ms) a k ns e = by (λ j js f. pick-free ps ms a j js f) (is_named p a) e
  where
    by : ((j : ℕ) (js : List Bool) → pick ps ms a ≡ Some (picked j js) → is_set ms j ≡ false) → (c : Bool) → cond c None (over (picked_later true) (pick ps ms a)) ≡ Some (picked k ns) → is_set (true ∷ ms) k ≡ false
    by rest true e = absurd (cc (e))
    by rest false e = let r = later-picked true (pick ps ms a) k ns e in subst (λ i. is_set (true ∷ ms) i ≡ false) (sym r.kid_is) (rest r.kid r.marks r.found)
pick-free (more p ps) (false ∷ ms) a k ns e = by (λ j js f. pick-free ps ms a j js f) (is_named p a) e
  where
    by : ((j : ℕ) (js : List Bool) → pick ps ms a ≡ Some (picked j js) → is_set ms j ≡ false) → (c : Bool) → cond c (Some (picked 0 (true ∷ ms))) (over (picked_later false) (pick ps ms a)) ≡ Some (picked k ns) → is_set (false ∷ ms) k ≡ false
    by rest true e =
        let same : picked 0 (true ∷ ms) ≡ picked k ns = cc in
        let kid : 0 ≡ k = ap (λ (x : Picked). x.kid) same in
        subst (λ i. is_set (false ∷ ms) i ≡ false) kid refl
    by rest false e = let r = later-picked false (pick ps ms a) k ns e in subst (λ i. is_set (false ∷ ms) i ≡ false) (sym r.kid_is) (rest r.kid r.marks r.found)

-- so its slot is empty
slot-empty : (bs : List (Option Built)) (os : List (Option Child)) (k : ℕ) → AreSlots bs os → is_set (flags_of os) k ≡ false → k < length os → slice_get bs k ≡ Some None
slot-empty [] [] k h f less = absurd (omega (arith, less))
slot-empty [] (o ∷ os) k h f less = absurd h
slot-empty (None ∷ bs) [] k h f less = absurd h
slot-empty (Some b ∷ bs) [] k h f less = absurd h
slot-empty (None ∷ bs) (Some g ∷ os) k h f less = absurd h
slot-empty (Some b ∷ bs) (None ∷ os) k h f less = absurd h
slot-empty (None ∷ bs) (None ∷ os) zero h f less = refl
slot-empty (None ∷ bs) (None ∷ os) (suc k) h f less = slot-empty bs os k h f (omega (arith, less))
slot-empty (Some b ∷ bs) (Some g ∷ os) zero h f less = absurd (cc)
slot-empty (Some b ∷ bs) (Some g ∷ os) (suc k) h f less = slot-empty bs os k h.2 f (omega (arith, less))

-- ---- behind some kids

-- a fault of the kids, where the content model has two names
pub told-as : (s : Set) (m : Bool) (ts : Roses ItemLabel) (place : ℕ) (p q : Particle) → p ≡ q → (e : CheckError) → Tells (KidsFault (asked_at (parts_of s)) m p ts place) e → Tells (KidsFault (asked_at (parts_of s)) m q ts place) e
told-as s m ts place p q same e h = subst (λ r. Tells (KidsFault (asked_at (parts_of s)) m r ts place) e) same h

pub none-gathered : (s : Set) (m : Bool) (ps : Particles) (kids : List (Rose ItemLabel)) (k : Matched) (g : Gathered) → Took k []
    → Keeps g [] (none_for ps) → Gathers s m ps kids 0 k g
none-gathered s m ps kids k g h keeps = record {
  us = [];
  took = h;
  few = omega arith;
  vs = rose.none;
  fine = (refl, refl);
  numbers = [];
  children = none_for ps;
  items = none_for ps;
  kept_are = keeps;
  slots_kept = slots-none s (levels_all (roses_of kids)) ps;
  marks_are = ap (marks_at ps) (at-start (spot_of k) h.leads.ends) ∙ none-unmarked Child ps;
  are = refl;
  just = none-just (Rose Plain) ps;
}
  where
    at-start : (o : Option Spot) → EndsAt k.particle o [] → o ≡ None
    at-start None e = refl
    at-start (Some spot) (earlier, last, e, leaf) = absurd (let n = ap length e in let long = length-append earlier (last ∷ []) in omega (arith, n, long))

module _ (s : Set) (m : Bool) (ps : Particles) (kids : List (Rose ItemLabel)) (place : ℕ) (i : ℕ) (k : Matched) (g : Gathered) (whole_is : k.particle ≡ whole ps) (r : Gathers s m ps kids i k g) where
  abbrev asks : ℕ → Asked
  asks = asked_at (parts_of s)

  abbrev high : ℕ
  high = levels_all (roses_of kids)

  abbrev walked : Walked s m k.particle kids i k
  walked = record { particle = refl; us = r.us; took = r.took; vs = r.vs; fine = r.fine; few = r.few }

  -- the particle of a name that leads on has no value yet
  pub slot-free : (to : Option Spot) (a : Name) (l : Leaf) → (f : PicksOn ps (spot_of k) to a l) → 1 ≤ g.most → slice_get g.slots.items f.kid ≡ Some None
  slot-free to a l f some =
      slot-empty g.slots.items r.children f.kid (r.kept_are.slots_are some) (subst (λ fs. is_set fs f.kid ≡ false) r.marks_are (pick-free ps (marks_at ps (spot_of k)) a f.kid f.marks f.found))
      (let less = pick-within ps (marks_at ps (spot_of k)) a f.kid f.marks f.found in
      let long = ap length r.marks_are in
      let many = length-flags r.children in
      omega (arith, less, long, many))

  -- ---- behind all

  pub end-refused : length kids ≤ i → (e : CheckError) → Tells (At place MissingElement (spots.IsNamed k.particle (names r.us) → ⊥)) e → Tells (KidsFault asks m k.particle (roses_of kids) place) e
  end-refused past e h =
      let refused : Result (Unit {0}) CheckError = Err e in
      end_judged s m k.particle kids place i k walked past refused h

  pub end-gathered : length kids ≤ i → Lang k.particle 0 [] r.us → may_end k.particle (spot_of k) ≡ true → AreSingle ps → AllMayOccur ps → KidsGathered s m k.particle (roses_of kids) g
  end-gathered past lang ends single may =
      let here = spot-all k ps whole_is in
      let nothing_missing : is_zero (missing ps (marks_at ps (spot_of k))) ≡ true =
      ap (λ o. is_zero (missing ps (marks_at ps o))) here ∙ missing-by ps k.kids k.marks (ap (may_end (whole ps)) (sym here) ∙ ap (λ p. may_end p (spot_of k)) (sym whole_is) ∙ ends) in
      let flags = kept-flags s high ps r.children r.items r.slots_kept in
      let table : slots (flags_of r.children) (all_of r.items) ≡ r.items = ap (λ fs. slots fs (all_of r.items)) flags ∙ slots-all r.items in
      record {
        leaves_are = r.us;
        lang = lang;
        vs = r.vs;
        valid = subst (λ ts. KidsValid asks m ts r.us r.vs) (front_long kids i past) r.fine;
        numbers = r.numbers;
        children = r.children;
        items = all_of r.items;
        kept_are = r.kept_are;
        all_kept = kept-all s high ps r.children r.items r.slots_kept;
        are = r.are ∙ ap (λ us. roses_of (taken us r.numbers)) (sym table);
        many = ap count_set flags ∙ count-all r.items;
        just = (just_set (flags_of r.children) r.numbers).0 (ap (λ fs. are_just_set fs r.numbers) flags ∙ r.just);
        made = subst (λ p. TopMade p (flags_of r.children) (values_of r.children) (all_of r.children)) (sym whole_is)
            (parts-made s high ps r.children r.items r.slots_kept single may (ap (λ fs. is_zero (missing ps fs)) (sym r.marks_are) ∙ nothing_missing));
      }

  module _ (t : Rose ItemLabel) (below : i < length kids) (here : t ≡ get_or kids i t) where
    -- ---- behind a text

    text-gathered : (words : List ℕ) (b : ℕ) → label_of t ≡ Text words b → (m ≡ true) ⊎ (is_blank words ≡ true) → Gathers s m ps kids (i + 1) k g
    text-gathered words b l why = record {
      us = r.us;
      took = r.took;
      few = let f = r.few in omega (arith, f);
      vs = joined r.vs (text_kept m words);
      fine = rw add-one (text-valid asks m (roses_of kids) i t r.us words b (kid_here kids i t below here) l why r.vs r.fine);
      numbers = r.numbers;
      children = r.children;
      items = r.items;
      kept_are = r.kept_are;
      slots_kept = r.slots_kept;
      marks_are = r.marks_are;
      are = text-adds m words r.vs ∙ r.are;
      just = r.just;
    }

    pub text-judged : {X : Type 0} (words : List ℕ) (b : ℕ) → label_of t ≡ Text words b → (o : Result X CheckError)
        → MatchResult o (λ _. (m ≡ true) ⊎ (is_blank words ≡ true)) (Tells (At b TextNotAllowed ((m ≡ false) × (is_blank words ≡ false))))
        → MatchResult o (λ _. Gathers s m ps kids (i + 1) k g) (Tells (KidsFault asks m k.particle (roses_of kids) place))
    text-judged words b l (Ok x) h = text-gathered words b l h
    text-judged {X} words b l (Err e) h =
        let refused : Result X CheckError = Err e in
        text_judged s m k.particle kids place i k walked t below here words b l refused h

    -- ---- behind a child element

    module _ (n : Name) (xs : List (Name × List ℕ)) (declares : List (List ℕ × List ℕ)) (c : ℕ) (is : label_of t ≡ Element n xs declares c) where
      pub name-refused : (e : CheckError) → Tells (At c UnexpectedElement (Viable k.particle (names r.us ++ n ∷ []) → ⊥)) e → Tells (KidsFault asks m k.particle (roses_of kids) place) e
      name-refused (Invalid byte why) (e, f, not_viable) =
          subst (λ a. KidsFault asks m k.particle (roses_of kids) place a why) (sym e)
          (subst (λ w. KidsFault asks m k.particle (roses_of kids) place c w) (sym f) (name_refused s m k.particle kids place i k walked t below here n xs declares c is not_viable))
      name-refused Memory h = tt

      module _ (new : Matched) (leaf : matched.Leaf) (same : new.particle ≡ k.particle) (further : TookMore k new r.us n leaf) (named_all : All (IsNamed s) (leaves k.particle))
          (goes : step_from k.particle (spot_of k) n ≡ spot_of new) where
        pub picks : PicksOn ps (spot_of k) (spot_of new) n further.last
        picks = picks-on ps k new r.us n further.last whole_is same goes further.took.leads.ends

        ahead : Begins k.particle (r.us ++ further.last ∷ [])
        ahead =
            let leads = further.took.leads in
            subst (λ q. Begins q (r.us ++ further.last ∷ [])) same (leads.rest, leads.forth leads.rest leads.some)

        is-named : IsNamed s (leaf.decl, n)
        is-named =
            let own : IsNamed s (further.last.decl, further.last.name) = last_has (λ d a. IsNamed s (d, a)) k.particle r.us further.last named_all ahead in
            subst (λ d. IsNamed s (d, n)) further.decl (subst (λ a. IsNamed s (further.last.decl, a)) further.named own)

        kept-one : (v : Rose ValueLabel) → (one : IsRead s leaf.decl t v) → IsKept s high (record { decl = leaf.decl; value = v }) one.treated
        kept-one v one = record {
          name = n;
          named = is-named;
          inner = one.inner;
          is = subst (λ l. IsElementOf l one.inner one.treated) is one.is;
          gives = λ M is_map depth u within type.
              let low = level-within (roses_of kids) i t (kid_here kids i t below here) in
              one.gives M is_map depth u (omega (arith, within, low)) type;
        }

        fills : (v : Rose ValueLabel) → (one : IsRead s leaf.decl t v) → Fills s high ps r.children r.items picks.kid picks.marks (record { decl = leaf.decl; value = v }) one.treated
        fills v one =
            pick-fills s high n (record { decl = leaf.decl; value = v }) one.treated (kept-one v one) further.last further.decl ps (marks_at ps (spot_of k)) picks.kid picks.marks picks.found r.children r.items r.slots_kept
            r.marks_are 1 (turn_of 0 0 ∷ []) picks.leaf

        -- its value is kept
        pub kid-gathered : (v : Rose ValueLabel) → IsRead s leaf.decl t v → (grown : Gathered)
            → Keeps grown (r.numbers ++ picks.kid ∷ []) (filled_at r.children picks.kid (record { decl = leaf.decl; value = v })) → Gathers s m ps kids (i + 1) new grown
        kid-gathered v one grown keeps =
            let filled = fills v one in
            let flags = kept-flags s high ps (filled_at r.children picks.kid (record { decl = leaf.decl; value = v })) (filled_at r.items picks.kid one.treated) filled.kept in
            record {
              us = r.us ++ further.last ∷ [];
              took = further.took;
              few = let f = r.few in let e = length-append r.us (further.last ∷ []) in omega (arith, f, e);
              vs = joined r.vs (rose.more one.treated rose.none);
              fine = rw add-one (element-valid asks m (roses_of kids) i t r.us n further.last one.treated (kid_here kids i t below here) (named t n xs declares c is) further.named
                  (subst (λ d. ValidBy asks d t one.treated) (sym further.decl) one.valid) r.vs r.fine);
              numbers = r.numbers ++ picks.kid ∷ [];
              children = filled_at r.children picks.kid (record { decl = leaf.decl; value = v });
              items = filled_at r.items picks.kid one.treated;
              kept_are = keeps;
              slots_kept = filled.kept;
              marks_are = ap (marks_at ps) picks.to_is ∙ filled.marks;
              are = element-adds one.treated (valid-element asks leaf.decl t one.treated one.valid rose.none) r.vs ∙ ap (λ z. joined z (rose.more one.treated rose.none)) r.are
                  ∙ roses-more (taken r.items r.numbers) one.treated ∙ ap roses_of (sym (taken-more r.numbers r.items picks.kid one.treated r.just filled.free filled.within));
              just = just-more r.numbers r.items picks.kid one.treated r.just filled.free filled.within;
            }

        pub kid-refused : (e : CheckError) → Tells (FaultBy asks leaf.decl t) e → Tells (KidsFault asks m k.particle (roses_of kids) place) e
        kid-refused e h =
            let refused : Result (Unit {0}) CheckError = Err e in
            kid_judged s m k.particle kids place i k walked t below here n xs declares c is new leaf same further refused h
