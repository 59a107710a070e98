-- The parts of a type of a module, as reading finds them.
use Rattle.std.proofs.Common.{get_or, ◌≡◌, ℕ, zero, suc, ◌+◌, ◌<◌, ◌≤◌, ◌^◌, List, [], ◌∷◌, length, drop, refl, sym, ap, ◌∙◌, subst, arith, Some}
use Rattle.std.specs.Prelude.{slice_get}
use Rattle.base_trees.specs.Rose.{Rose, node, label_of, kids_of}
use Rattle.simple_types.specs.Sound.{IsCounted}
use Rattle.asn_types.specs.declared.modules.Assignment.{Assignment}
use Rattle.asn_types.specs.declared.types.Component.{Component}
use Rattle.asn_types.specs.declared.types.Form.{Form}
use Rattle.asn_types.specs.declared.types.Form.TheVariants as form
use Rattle.asn_types.specs.declared.types.TypeLabel.{TypeLabel}
use Rattle.asn_types.specs.Modules.{IsModule, IsForm}
use Rattle.asn_types.specs.Parts.{parts_of}
use Rattle.asn_types.specs.Refs.{IsOf}
use Rattle.asn_types.specs.Roles.{role_of}
use Rattle.asn_values.specs.Values.{below, place_of}
use Rattle.asn_types.proofs.Chaining.{well-formed, have-parts, parts-of-module}
use Rattle.asn_types.proofs.Inside.{form-well_formed}
use Rattle.per_fields.specs.Levels.{levels_needed}
use Rattle.der_fields.specs.Encoding.{tagged_place}
use Rattle.der_fields.specs.Reading.{parts_from}
use Rattle.der_decode.specs.Private.Bodies.{HasKids}
use Rattle.der_decode.proofs.Types.{kid-fewer}

pub got : {A : Type 0} (xs : List A) (i : ℕ) → i < length xs → (x : A) × (slice_get xs i ≡ Some x)
got [] i lt = absurd (omega arith)
got (x ∷ xs) zero lt = (x, refl)
got (x ∷ xs) (suc i) lt = got xs i (omega arith)

pub got_within : {A : Type 0} (xs : List A) (i : ℕ) (x : A) → slice_get xs i ≡ Some x → i < length xs
got_within [] i x e = absurd cc
got_within (y ∷ xs) zero x e = omega arith
got_within (y ∷ xs) (suc i) x e = let k = got_within xs i x e in omega (arith, k)

-- an element of a list, and those behind it
pub got_split : {A : Type 0} (xs : List A) (i : ℕ) (x : A) → slice_get xs i ≡ Some x → drop i xs ≡ x ∷ drop (i + 1) xs
got_split [] i x e = absurd cc
got_split (y ∷ xs) zero x e = let same : y ≡ x = cc in ap (λ z. z ∷ xs) same
got_split (y ∷ xs) (suc i) x e = let k : suc (i + 1) ≡ suc i + 1 = omega arith in got_split xs i x e ∙ ap (λ j. x ∷ drop j (y ∷ xs)) k

-- an element that a slice has at an index
pub got_here : {A : Type 0} (xs : List A) (i : ℕ) (x : A) → i < length xs → x ≡ get_or xs i x → slice_get xs i ≡ Some x
got_here [] i x lt is = absurd (omega arith)
got_here (y ∷ xs) zero x lt is = ap Some (sym is)
got_here (y ∷ xs) (suc i) x lt is = got_here xs i x (omega arith) is

-- a part with its place, and those behind it
pub parts_split : (l : TypeLabel) (i : ℕ) (parts : List Component) (ts : List (Rose TypeLabel)) (part : Component) (t : Rose TypeLabel) → slice_get parts i ≡ Some part → slice_get ts i ≡ Some t
    → parts_from l i (drop i parts) (drop i ts) ≡ tagged_place (Some i) (place_of l i part t) ∷ parts_from l (i + 1) (drop (i + 1) parts) (drop (i + 1) ts)
parts_split l i parts ts part t is_part is_kid =
    ap (λ cs. parts_from l i cs (drop i ts)) (got_split parts i part is_part) ∙ ap (λ us. parts_from l i (part ∷ drop (i + 1) parts) us) (got_split ts i t is_kid)

module _ (M : List Assignment) (is : IsModule M) (u : Rose TypeLabel) (of : IsOf M u) where
  pub kids-parts : length (kids_of u) ≡ length (parts_of (label_of u).form)
  kids-parts = have-parts M u is of

  abbrev as_form : Form → Type 0
  as_form f = IsForm M f

  its_form : IsForm M (label_of u).form
  its_form = form-well_formed M u (well-formed M u is of)

  pub components_few : (parts : List Component) → (label_of u).form ≡ form.Sequence parts → length parts < 2 ^ 32
  components_few parts e = subst as_form e its_form

  pub alternatives_counted : (parts : List Component) → (label_of u).form ≡ form.Choice parts → IsCounted (length parts)
  alternatives_counted parts e = subst as_form e its_form

  kid-of_module : (t : Rose TypeLabel) → IsOf M t → (i : ℕ) (kid : Rose TypeLabel) → slice_get (kids_of t) i ≡ Some kid → IsOf M kid
  kid-of_module (node l ts) inside i kid e = parts-of-module M l ts i kid inside e

  -- a kid, where so many elements stand in one another down to it
  pub record Kid (depth i inner : ℕ) (part : Component) (kid : Rose TypeLabel) : Type 0 where
    pub of_module : IsOf M kid
    pub inner_is : inner ≡ below (role_of (label_of u) i part) depth
    pub fewer : levels_needed M inner kid < levels_needed M depth u

  pub kid_here : (depth i inner : ℕ) (part : Component) (kid : Rose TypeLabel) → HasKids (label_of u).form → depth ≤ 64 → slice_get (parts_of (label_of u).form) i ≡ Some part → slice_get (kids_of u) i ≡ Some kid
      → inner ≡ below (role_of (label_of u) i part) depth → Kid depth i inner part kid
  kid_here depth i inner part kid has deep is_part is_kid is_inner = record {
    of_module = kid-of_module u of i kid is_kid;
    inner_is = is_inner;
    fewer = subst (λ n. levels_needed M n kid < levels_needed M depth u) (sym is_inner) (kid-fewer M is depth u of has deep i part kid is_part is_kid);
  }
