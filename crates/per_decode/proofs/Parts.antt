-- The parts of a type of a module, as reading finds them.
use Rattle.std.proofs.Common.{Bool, false, get_or, ◌-◌, ◌≡◌, ℕ, zero, suc, ◌+◌, ◌<◌, ◌≤◌, ◌^◌, List, [], ◌∷◌, length, drop, refl, sym, ap, ◌∙◌, subst, arith, Option, Some}
use Rattle.std.specs.Prelude.{slice_get, replicate, IfSome, ℤ}
use Rattle.std.proofs.lemmas.List.{drop_more}
use Rattle.base_trees.specs.Rose.{Rose, node, label_of, kids_of}
use Rattle.simple_types.specs.declared.standards.Standard.TheVariants.{Free}
use Rattle.simple_types.specs.Sound.{IsCounted, AreBounds, AreSizes}
use Rattle.asn_types.specs.declared.modules.Assignment.{Assignment}
use Rattle.asn_types.specs.declared.roles.Role.{Role}
use Rattle.asn_types.specs.declared.types.Component.{Component}
use Rattle.asn_types.specs.declared.types.Form.{Form}
use Rattle.asn_types.specs.declared.types.Form.TheVariants as form
use Rattle.asn_types.specs.declared.types.TypeLabel.{TypeLabel}
use Rattle.asn_types.specs.Modules.{IsForm}
use Rattle.asn_types.specs.Parts.{parts_of}
use Rattle.asn_types.specs.Refs.{IsOf}
use Rattle.asn_types.specs.Roles.{role_of}
use Rattle.asn_values.specs.Values.{below}
use Rattle.asn_types.proofs.Chaining.{well-formed, have-parts, parts-of-module}
use Rattle.asn_types.proofs.Inside.{form-well_formed}
use Rattle.asn_values.proofs.Standards.{choice-free, item-free}
use Rattle.per_fields.specs.Levels.{levels_needed}
use Rattle.per_decode.specs.Private.Bodies.{IsKnown, HasFields}
use Rattle.per_decode.proofs.Types.{kid-fewer}

pub got : {A : Type 0} (xs : List A) (i : ℕ) → i < length xs → (x : A) × (slice_get xs i ≡ Some x)
got [] i lt = absurd (omega arith)
got (x ∷ xs) zero lt = (x, refl)
got (x ∷ xs) (suc i) lt = got xs i (omega arith)

pub got_within : {A : Type 0} (xs : List A) (i : ℕ) (x : A) → slice_get xs i ≡ Some x → i < length xs
got_within [] i x e = absurd cc
got_within (y ∷ xs) zero x e = omega arith
got_within (y ∷ xs) (suc i) x e = let k = got_within xs i x e in omega (arith, k)

-- an element of a list, and those behind it
pub got_split : {A : Type 0} (xs : List A) (i : ℕ) (x : A) → slice_get xs i ≡ Some x → drop i xs ≡ x ∷ drop (i + 1) xs
got_split [] i x e = absurd cc
got_split (y ∷ xs) zero x e = let same : y ≡ x = cc in ap (λ z. z ∷ xs) same
got_split (y ∷ xs) (suc i) x e = let k : suc (i + 1) ≡ suc i + 1 = omega arith in got_split xs i x e ∙ ap (λ j. x ∷ drop j (y ∷ xs)) k

-- a flag, and those behind it
pub flag_split : (flags : List Bool) (i : ℕ) (b : Bool) → i < length flags → get_or flags i false ≡ b → drop i flags ≡ b ∷ drop (i + 1) flags
flag_split flags i b lt e = drop_more flags i false lt ∙ ap (λ f. f ∷ drop (i + 1) flags) e

-- no copies are left
pub copies-none : {A : Type 0} (n i : ℕ) (x : A) → n ≤ i → replicate (n - i) x ≡ []
copies-none n i x le = let e : n - i ≡ 0 = omega arith in ap (λ k. replicate k x) e

pub if_some : {A : Type 0} (P : A → Type 0) (o : Option A) (x : A) → o ≡ Some x → IfSome o P → P x
if_some P o x e h = subst (λ o. IfSome o P) e h

-- an element that a slice has at an index
pub got_here : {A : Type 0} (xs : List A) (i : ℕ) (x : A) → i < length xs → x ≡ get_or xs i x → slice_get xs i ≡ Some x
got_here [] i x lt is = absurd (omega arith)
got_here (y ∷ xs) zero x lt is = ap Some (sym is)
got_here (y ∷ xs) (suc i) x lt is = got_here xs i x (omega arith) is

module _ (M : List Assignment) (known : IsKnown M) (u : Rose TypeLabel) (of : IsOf M u) where
  pub kids-parts : length (kids_of u) ≡ length (parts_of (label_of u).form)
  kids-parts = have-parts M u known.0 of

  abbrev as_form : Form → Type 0
  as_form f = IsForm M f

  its_form : IsForm M (label_of u).form
  its_form = form-well_formed M u (well-formed M u known.0 of)

  pub bounds_ordered : (lo hi : Option ℤ) → (label_of u).form ≡ form.Int lo hi → AreBounds lo hi
  bounds_ordered lo hi e = subst as_form e its_form

  pub numbers_counted : (numbers : List ℤ) → (label_of u).form ≡ form.Numbers numbers → IsCounted (length numbers)
  numbers_counted numbers e = (subst as_form e its_form).0

  pub words_counted : (identifiers words : List (List ℕ)) → (label_of u).form ≡ form.Words identifiers words → IsCounted (length words)
  words_counted identifiers words e = (subst as_form e its_form).0

  pub components_few : (parts : List Component) → (label_of u).form ≡ form.Sequence parts → length parts < 2 ^ 32
  components_few parts e = subst as_form e its_form

  pub alternatives_counted : (parts : List Component) → (label_of u).form ≡ form.Choice parts → IsCounted (length parts)
  alternatives_counted parts e = subst as_form e its_form

  pub sizes_ordered : (part : Component) (least : ℕ) (most : Option ℕ) → (label_of u).form ≡ form.SequenceOf part least most → AreSizes least most
  sizes_ordered part least most e = subst as_form e its_form

  pub order_counted : (identifiers : List (List ℕ)) → (label_of u).form ≡ form.Order identifiers → IsCounted (length identifiers)
  order_counted identifiers e = subst as_form e its_form

  -- an alternative has no default or fixed value
  pub choice_free : (parts : List Component) (i : ℕ) (part : Component) → (label_of u).form ≡ form.Choice parts → slice_get parts i ≡ Some part → part.standard ≡ Free
  choice_free parts i part e is = choice-free M u parts i part (well-formed M u known.0 of) e is

  -- and an item neither
  pub item_free : (part : Component) (least : ℕ) (most : Option ℕ) → (label_of u).form ≡ form.SequenceOf part least most → part.standard ≡ Free
  item_free part least most e = item-free M u part least most (well-formed M u known.0 of) e

  -- the part with number i, where it has its type
  pub part_there : (i : ℕ) (kid : Rose TypeLabel) → slice_get (kids_of u) i ≡ Some kid → (part : Component) × (slice_get (parts_of (label_of u).form) i ≡ Some part)
  part_there i kid is_kid = let lt = got_within (kids_of u) i kid is_kid in got (parts_of (label_of u).form) i (omega (arith, lt, kids-parts))

  kid-of_module : (t : Rose TypeLabel) → IsOf M t → (i : ℕ) (kid : Rose TypeLabel) → slice_get (kids_of t) i ≡ Some kid → IsOf M kid
  kid-of_module (node l ts) inside i kid e = parts-of-module M l ts i kid inside e

  -- a kid, where so many elements stand in one another down to it
  pub record Kid (depth i inner : ℕ) (part : Component) (kid : Rose TypeLabel) : Type 0 where
    pub inner_is : inner ≡ below (role_of (label_of u) i part) depth
    pub of_module : IsOf M kid
    pub fewer : levels_needed M inner kid < levels_needed M depth u

  pub kid_here : (depth i inner : ℕ) (part : Component) (kid : Rose TypeLabel) (role : Role) → HasFields (label_of u).form → depth ≤ 64 → slice_get (parts_of (label_of u).form) i ≡ Some part → slice_get (kids_of u) i ≡ Some kid
      → IfSome (slice_get (parts_of (label_of u).form) i) (λ part. role ≡ role_of (label_of u) i part) → inner ≡ below role depth → Kid depth i inner part kid
  kid_here depth i inner part kid role has deep is_part is_kid is_role is_inner =
      let r : role ≡ role_of (label_of u) i part = if_some (λ part. role ≡ role_of (label_of u) i part) (slice_get (parts_of (label_of u).form) i) part is_part is_role in
      let e : inner ≡ below (role_of (label_of u) i part) depth = is_inner ∙ ap (λ r. below r depth) r in
      record {
        inner_is = e;
        of_module = kid-of_module u of i kid is_kid;
        fewer = subst (λ n. levels_needed M n kid < levels_needed M depth u) (sym e) (kid-fewer M known depth u of has deep i part kid is_part is_kid);
      }
