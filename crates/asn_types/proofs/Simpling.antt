-- The simple types of lists and unions.
use Rattle.std.proofs.Common.{◌≡◌, ℕ, zero, suc, ◌<◌, true, false, Option, Some, None, List, [], ◌∷◌, ◌++◌, length, get_or, refl, sym, ap, subst, arith}
use Rattle.std.specs.Prelude.{slice_get}
use Rattle.base_trees.specs.Rose.{Rose, node, Roses, roses_of, list_of, kids_of, label_of}
use Rattle.base_trees.specs.Rose as rose
use Rattle.base_trees.proofs.Roses.{roses_of-list_of}
use Rattle.simple_types.specs.declared.simples.Simple.{Simple}
use Rattle.simple_types.specs.Space.{Space, Spaces, none, more, ListOf, UnionOf, count_members}
use Rattle.simple_types.specs.Seen.{space_of, spaces_in}
use Rattle.simple_types.specs.Sound.{Sound, AreSound, is_union}
use Rattle.asn_types.specs.declared.marks.Instruction.TheVariants as mark
use Rattle.asn_types.specs.declared.types.Component.{Component}
use Rattle.asn_types.specs.declared.types.Form.{Form}
use Rattle.asn_types.specs.declared.types.Form.TheVariants as form
use Rattle.asn_types.specs.declared.types.TypeLabel.{TypeLabel}
use Rattle.asn_types.specs.Simples.{counting, IsPlain, ArePlain, MapsTo, MapToEach, IsSimple}
use Rattle.asn_types.specs.Private.Telling.{Finds}
use Rattle.asn_types.specs.Spaces.{space_at, first_space, spaces_at}
use Rattle.asn_types.proofs.SimpleLaws.{is_seen}

-- the type with number i of a union has a member
pub record Member (t : Rose TypeLabel) : Type 0 where
  pub space : Space
  pub sound : Sound space
  pub alone : is_union space ≡ false
  pub maps : MapsTo space t

pub member_at : (ss : Spaces) (ts : List (Rose TypeLabel)) (i : ℕ) (t : Rose TypeLabel) → i < length ts → t ≡ get_or ts i t → AreSound ss → MapToEach ss (roses_of ts) → Member t
member_at ss [] i t below here sound maps = absurd (omega arith)
member_at none (u ∷ ts) i t below here sound maps = absurd maps
member_at (more s ss) (u ∷ ts) zero t below here sound maps = record { space = s; sound = sound.0; alone = sound.1; maps = subst (MapsTo s) (sym here) maps.0 }
member_at (more s ss) (u ∷ ts) (suc i) t below here sound maps = member_at ss ts i t (omega arith) here sound.2 maps.1

-- one more member
pub members-push : (members : List Simple) (ts : List (Rose TypeLabel)) (member : Simple) (t : Rose TypeLabel)
    → AreSound (spaces_in members) → MapToEach (spaces_in members) (roses_of ts) → Sound (space_of member) → is_union (space_of member) ≡ false → MapsTo (space_of member) t
    → AreSound (spaces_in (members ++ member ∷ [])) × MapToEach (spaces_in (members ++ member ∷ [])) (roses_of (ts ++ t ∷ []))
members-push [] [] member t sound maps one alone is = ((one, alone, tt), (is, tt))
members-push [] (u ∷ ts) member t sound maps one alone is = absurd maps
members-push (m ∷ ms) [] member t sound maps one alone is = absurd maps
members-push (m ∷ ms) (u ∷ ts) member t sound maps one alone is =
    let inner = members-push ms ts member t sound.2 maps.1 one alone is in
    ((sound.0, sound.1, inner.0), (maps.0, inner.1))

-- as many members as types
pub count-maps : (ss : Spaces) (ts : List (Rose TypeLabel)) → MapToEach ss (roses_of ts) → count_members ss ≡ length ts
count-maps none [] maps = refl
count-maps none (t ∷ ts) maps = absurd maps
count-maps (more s ss) [] maps = absurd maps
count-maps (more s ss) (t ∷ ts) maps = ap suc (count-maps ss ts maps.1)

-- what a CHOICE that stands for a simple type has
pub record Union (t : Rose TypeLabel) (parts : List Component) : Type 0 where
  pub members : Spaces
  pub sound : Sound (UnionOf members)
  pub marks : counting (label_of t).marks ≡ mark.UseUnion ∷ []
  pub plain : ArePlain parts
  pub maps : MapToEach members (roses_of (kids_of t))

same_parts : (f : Form) (parts others : List Component) → f ≡ form.Choice parts → f ≡ form.Choice others → others ≡ parts
same_parts f parts others e o = cc

pub union-of : (t : Rose TypeLabel) (parts : List Component) → (label_of t).form ≡ form.Choice parts → IsSimple t → Union t parts
union-of (node l ts) parts e simple =
    let seen : space_at (node l ts) ≡ UnionOf (spaces_at ts) = rw e in
    let known = is_seen l ts simple (UnionOf (spaces_at ts)) seen in
    let maps = known.1 in
    record {
      members = spaces_at ts;
      sound = known.0;
      marks = maps.1.1;
      plain = subst ArePlain (same_parts l.form parts maps.0 e maps.1.0) maps.2;
      maps = subst (MapToEach (spaces_at ts)) (sym (roses_of-list_of ts)) maps.3;
    }

pub union-maps : (t : Rose TypeLabel) (parts : List Component) (ss : Spaces) → (label_of t).form ≡ form.Choice parts → counting (label_of t).marks ≡ mark.UseUnion ∷ [] → ArePlain parts
    → MapToEach ss (roses_of (kids_of t)) → MapsTo (UnionOf ss) t
union-maps (node l ts) parts ss e marks plain maps = (parts, (e, marks), plain, subst (MapToEach ss) (roses_of-list_of ts) maps)

-- what a SEQUENCE OF that stands for a simple type has
pub record Listing (t : Rose TypeLabel) (part : Component) (least : ℕ) (most : Option ℕ) : Type 0 where
  pub item : Space
  pub sound : Sound (ListOf item least most)
  pub marks : counting (label_of t).marks ≡ mark.List ∷ []
  pub plain : IsPlain part
  pub first : Rose TypeLabel
  pub is_first : slice_get (kids_of t) 0 ≡ Some first
  pub maps : MapsTo item first

same_part : (f : Form) (part other : Component) (least : ℕ) (most : Option ℕ) → f ≡ form.SequenceOf part least most → f ≡ form.SequenceOf other least most → other ≡ part
same_part f part other least most e o = cc

pub list-of : (t : Rose TypeLabel) (part : Component) (least : ℕ) (most : Option ℕ) → (label_of t).form ≡ form.SequenceOf part least most → IsSimple t → Listing t part least most
list-of (node l rose.none) part least most e simple =
    let seen : space_at (node l rose.none) ≡ ListOf (first_space rose.none) least most = rw e in
    let known = is_seen l rose.none simple (ListOf (first_space rose.none) least most) seen in
    absurd known.1.3
list-of (node l (rose.more t ts)) part least most e simple =
    let seen : space_at (node l (rose.more t ts)) ≡ ListOf (space_at t) least most = rw e in
    let known = is_seen l (rose.more t ts) simple (ListOf (space_at t) least most) seen in
    let maps = known.1 in
    record {
      item = space_at t;
      sound = known.0;
      marks = maps.1.1;
      plain = subst IsPlain (same_part l.form part maps.0 least most e maps.1.0) maps.2;
      first = t;
      is_first = refl;
      maps = maps.3;
    }

pub list-maps : (t : Rose TypeLabel) (part : Component) (least : ℕ) (most : Option ℕ) (item : Space) (first : Rose TypeLabel) → (label_of t).form ≡ form.SequenceOf part least most
    → counting (label_of t).marks ≡ mark.List ∷ [] → IsPlain part → slice_get (kids_of t) 0 ≡ Some first → MapsTo item first → MapsTo (ListOf item least most) t
list-maps (node l rose.none) part least most item first e marks plain is maps = absurd cc
list-maps (node l (rose.more t ts)) part least most item first e marks plain is maps =
    let same : first ≡ t = cc in (part, (e, marks), plain, subst (MapsTo item) same maps)

pub same_some : {A : Type 0} (a b : A) → Some a ≡ Some b → a ≡ b
same_some a b e = cc

pub true_is_false : true ≡ false → ⊥
true_is_false e = cc

-- nothing is found of a type that stands for none
pub not_found : (o : Option Simple) (t : Rose TypeLabel) → ((x : Simple) → o ≡ Some x → ⊥) → Finds o t → IsSimple t → ⊥
not_found None t never finds simple = finds simple
not_found (Some x) t never finds simple = absurd (never x refl)
