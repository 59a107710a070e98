-- The values of the code can hold the components of a document without a fault: each choice has a particle, and a place is below the end of the document.
use Rattle.std.proofs.Common.{◌≡◌, ℕ, ◌+◌, ◌≤◌, true, false, List, [], ◌∷◌, ◌++◌, length, inl, inr, refl, sym, subst, arith, ◌&&◌, ◌==◌, not, Bool}
use Rattle.schema_read.proofs.Words.{list_any, Rose, Roses, roses_of, list_of, label_of, length_all, Allowed, AllowedAll, ItemLabel, KindMayHave, MayHave, ParticleLabel, RawContent, Local, never_occurs, ElementRole, Sequence, Choice, All, is_empty_choice, occurs, Settings, is_nothing, compositor, group_of, ContentHeld, KindHeld, ElementHeld, LocalHeld, TypeHeld, LocalsHeld}
use Rattle.base_trees.specs.Rose as rose
use Rattle.schema_components.specs.declared.declarations.RawContent.TheVariants as content
use Rattle.schema_read.proofs.FaultlessRoles.{IsGroupRole, IsAll, HasGroup, word_of_particle, no_group_in_both}
use Rattle.schema_read.proofs.Reading.{own_of, ContentBy, IsModel}
use Rattle.schema_read.proofs.Points.{Every, every_as, Property, Points}

-- unless it is a group that counts as none; in a group it is a particle in any case
abbrev IsHeldIn : ElementRole → Rose ParticleLabel → Type 0
IsHeldIn parent t = (is_nothing t ≡ false → Allowed MayHave t) × (IsGroupRole parent → Allowed MayHave t)

abbrev pub holding : Property
holding =
    record {
      base = λ around b. Unit {0};
      how = λ around at how. Unit {0};
      declared = λ around u. Unit {0};
      particle = λ around t. IsHeldIn around.role t;
      kind = λ around k. KindHeld k;
      element = ElementHeld;
      attribute = λ a. Unit {0};
      definition = TypeHeld;
      local = LocalHeld;
    }

-- ---- a group by its role

not_empty : (never any : Bool) → (true && not never && not any) ≡ false → never ≡ false → any ≡ true
not_empty true any h is = absurd (let e : true ≡ false = is in cc)
not_empty false true h is = refl
not_empty false false h is = absurd (let e : true ≡ false = h in cc)

filled_from : (ts : Roses ParticleLabel) → (length (list_of ts) == 0) ≡ false → 1 ≤ length_all ts
filled_from rose.none is = absurd (let e : true ≡ false = is in cc)
filled_from (rose.more t ts) is = omega arith

allowed_from : (parent role : ElementRole) → IsGroupRole role → (ts : List (Rose ParticleLabel)) → Every (IsHeldIn role) ts → AllowedAll MayHave (roses_of ts)
allowed_from parent role is ts h = every_as (IsHeldIn role) (λ l. AllowedAll MayHave (roses_of l)) tt (λ t l a b. (a.1 is, b)) ts h

-- its kind may have these particles
module _ (file : ℕ) where
  abbrev MayStand : (parent : ElementRole) (name : List ℕ) (at : ℕ) (own : List (List ℕ × List ℕ)) → List (Rose ParticleLabel) → Type 0
  MayStand parent name at own ts =
      (is_nothing (group_of file at name own ts) ≡ false → KindMayHave (compositor name) (length_all (roses_of ts)))
      × (IsGroupRole parent → KindMayHave (compositor name) (length_all (roses_of ts)))

  may_stand_in : (parent role : ElementRole) → IsGroupRole role → (IsAll role → HasGroup parent) → (name : List ℕ) → name ≡ word_of_particle role → (at : ℕ) (own : List (List ℕ × List ℕ)) (kids : List (Rose ItemLabel))
      (ts : List (Rose ParticleLabel)) → is_empty_choice role own kids ≡ false → never_occurs own ≡ false → (list_any (λ (kid : Rose ItemLabel). occurs (label_of kid)) kids ≡ true → 1 ≤ length_all (roses_of ts))
      → MayStand parent name at own ts
  may_stand_in parent Sequence g lone name is at own kids ts filled stays there = subst (λ w. MayStand parent w at own ts) (sym is) (λ some. tt, λ group. tt)
  may_stand_in parent Choice g lone name is at own kids ts filled stays there =
      let one = there (not_empty (never_occurs own) (list_any (λ (kid : Rose ItemLabel). occurs (label_of kid)) kids) filled stays) in
      subst (λ w. MayStand parent w at own ts) (sym is) (λ some. one, λ group. one)
  may_stand_in parent All g lone name is at own kids ts filled stays there =
      subst (λ w. MayStand parent w at own ts) (sym is) (λ some. filled_from (roses_of ts) some, λ group. absurd (no_group_in_both parent group (lone tt)))
  may_stand_in parent role g lone name is at own kids ts filled stays there = absurd g

-- ---- contents

model_held : (role : ElementRole) (model : Rose ParticleLabel) (ts : List (Rose ParticleLabel)) → IsModel model ts → Every (IsHeldIn role) ts → Allowed MayHave model
model_held role model ts is h = (subst (Every (IsHeldIn role)) is.0 h).0.0 is.1

content_held : (file at : ℕ) (role : ElementRole) (ts : List (Rose ParticleLabel)) (written : RawContent) → ContentBy file at ts written → Every (IsHeldIn role) ts → ContentHeld written
content_held file at role ts content.Empty by h = tt
content_held file at role ts (content.Simple base place) by h = tt
content_held file at role ts (content.ElementOnly model) by h = model_held role model ts by h
content_held file at role ts (content.Mixed model) by h = elim by [ inl empty ↦ subst (Allowed MayHave) (sym empty.2) (tt, tt) | inr is ↦ model_held role model ts is h ]

pub holding_points : (said : Settings) (all : List Local) → Points said all holding
holding_points said all =
    record {
      named = λ around reference. tt;
      restriction = λ s base fact h. tt;
      list = λ s base fact h. tt;
      union = λ s fact h. tt;
      simple = λ role s body_at how fact h. tt;
      reference_use = λ role s name fact. tt;
      declared_use = λ role s base is fact unnamed h. tt;
      named_kind = λ around reference. tt;
      simple_kind = λ around body h. tt;
      complex_kind = λ role s uses ts written is fact deep by u t. record { place = fact.low; content = content_held said.file s.at role ts written by t };
      reference = λ role s name fact x. (tt, (λ some. (refl, tt), λ group. (refl, tt)));
      own_element = λ role s kind fact unnamed x h. (h, (λ some. (refl, tt), λ group. (refl, tt)));
      group = λ role s ts fact some h.
          let m = may_stand_in said.file s.around.role role fact.group fact.lone s.name.local fact.named s.at (own_of s) (list_of s.kids) ts fact.fact.passes.filled fact.stays some in
          let a = allowed_from s.around.role role fact.group ts h in
          (λ none. (m.0 none, a), λ group. (m.1 group, a));
      element = λ s kind fact deep h. h;
      attribute = λ s fact h. tt;
      simple_type = λ s body fact h. tt;
      complex_type = λ s body fact small h. h;
    }

pub locals_held_append : (ls ms : List Local) → LocalsHeld ls → LocalsHeld ms → LocalsHeld (ls ++ ms)
locals_held_append [] ms h g = g
locals_held_append (l ∷ ls) ms h g = (h.0, locals_held_append ls ms h.1 g)
