-- Chains of references end as they are told.
use Rattle.std.proofs.Common.{◌≡◌, ℕ, zero, suc, ◌<◌, ◌+◌, Bool, true, false, ◌&&◌, Some, None, List, [], ◌∷◌, map, length, refl, ap, ap₂, subst, ◌∙◌, arith, option_map}
use Rattle.std.specs.Prelude.{All, bytes_eq, IfSome, MatchBool, if◌then◌else◌}
use Rattle.std.specs.List.{IsDistinct}
use Rattle.base_trees.specs.Rose.{Rose, node, Roses, none, more, length_all}
use Rattle.asn_types.specs.declared.types.Component.{Component}
use Rattle.asn_types.specs.declared.types.Form.{Form}
use Rattle.asn_types.specs.declared.types.Form.TheVariants as form
use Rattle.asn_types.specs.declared.types.TypeLabel.{TypeLabel}
use Rattle.asn_types.specs.declared.modules.Assignment.{Assignment}
use Rattle.asn_types.specs.Modules as modules
use Rattle.asn_types.specs.Parts.{parts_of}
use Rattle.asn_types.specs.Roles as roles
use Rattle.asn_types.specs.Refs as refs
use Rattle.module_print.specs.Printed.{reference_at}
use Rattle.module_text.specs.declared.modules.PlainAssignment.{PlainAssignment}
use Rattle.module_text.specs.Texts as laid
use Rattle.module_text.specs.declared.spots.Spot.{Spot}
use Rattle.module_text.specs.Resolving as resolving
use Rattle.module_text.specs.Printable.{part_spot}
use Rattle.module_unique.specs.Utf8Texts.{TypeIsUtf8}
use Rattle.module_unique.proofs.Telling.{components_told, form_told, type_told, types_told, module_told}
use Rattle.module_unique.proofs.Goods.{Good, AllGood, GoodBody}
use Rattle.module_unique.proofs.CleanForms.{both-so}
use Rattle.module_unique.proofs.CleanRoles.{AreMarked, label_told, role_told}
use Rattle.module_unique.proofs.CleanKnown.{Known, body_known, body_told}

module _ (M : List Assignment) where
  pub parts_are : (f : Form) (ts : Roses TypeLabel) → length_all ts ≡ length (parts_of f) → laid.parts_of (form_told M f ts) ≡ components_told M (parts_of f) ts
  parts_are form.Bool ts long = refl
  parts_are (form.Int least greatest) ts long = refl
  parts_are (form.Numbers numbers) ts long = refl
  parts_are (form.Words identifiers words) ts long = refl
  parts_are (form.Order identifiers) ts long = refl
  parts_are (form.Utf8 least most class) ts long = refl
  parts_are (form.Sequence parts) ts long = refl
  parts_are (form.Choice parts) ts long = refl
  parts_are (form.SequenceOf part least most) none long = absurd (omega (arith, long))
  parts_are (form.SequenceOf part least most) (more t ts) long = refl
  parts_are (form.Ref to) ts long = refl

  module _ (Q : ℕ → Type 0) (is : List ℕ → Bool) (so : (to : ℕ) → to < length M → Q to → is (reference_at M to) ≡ true) where
    if_told : (f : Form) (ts : Roses TypeLabel) → modules.IsForm M f → IfSome (refs.target f) Q → resolving.if_reference is (form_told M f ts) ≡ true
    if_told (form.Ref to) ts fits q = so to fits q
    if_told form.Bool ts fits q = refl
    if_told (form.Int least greatest) ts fits q = refl
    if_told (form.Numbers numbers) ts fits q = refl
    if_told (form.Words identifiers words) ts fits q = refl
    if_told (form.Order identifiers) ts fits q = refl
    if_told (form.Utf8 least most class) ts fits q = refl
    if_told (form.Sequence parts) ts fits q = refl
    if_told (form.Choice parts) ts fits q = refl
    if_told (form.SequenceOf part least most) ts fits q = refl

    abbrev NearOne : Rose TypeLabel → Type 0
    NearOne t = (spot : Spot) → Good M spot t → refs.NearRefs Q t → resolving.near_references is (type_told M t) ≡ true

    abbrev NearAll : Roses TypeLabel → Type 0
    NearAll ts = (spot : Spot) (l : TypeLabel) (kids : Roses TypeLabel) (i : ℕ) (parts : List Component) → length_all kids ≡ length (parts_of l.form) → AllGood M spot l i parts ts → AreMarked parts
        → refs.NearRefsOf Q l i parts ts → resolving.near_references_of is (label_told M l kids) i (components_told M parts ts) (types_told M ts) ≡ true

    near_node : (l : TypeLabel) (ts : Roses TypeLabel) → NearAll ts → NearOne (node l ts)
    unfolding resolving.near_references refs.NearRefs
    near_node l ts rest spot good near =
        both-so (resolving.if_reference is (form_told M l.form ts)) (resolving.near_references_of is (label_told M l ts) 0 (laid.parts_of (form_told M l.form ts)) (types_told M ts))
        (if_told l.form ts good.0.well.form near.0)
        (ap (λ ps. resolving.near_references_of is (label_told M l ts) 0 ps (types_told M ts)) (parts_are l.form ts good.0.long)
        ∙ rest spot l ts 0 (parts_of l.form) good.0.long good.1 good.0.printable.parts near.1)

    near_none : NearAll none
    unfolding resolving.near_references_of
    near_none spot l kids i parts long good marks near = refl

    near_if : (b : Bool) (t : Rose TypeLabel) → MatchBool b (Unit {0}) (refs.NearRefs Q t) → (refs.NearRefs Q t → resolving.near_references is (type_told M t) ≡ true)
        → (if b then true else resolving.near_references is (type_told M t)) ≡ true
    near_if true t near one = refl
    near_if false t near one = one near

    near_more : (t : Rose TypeLabel) (ts : Roses TypeLabel) → NearOne t → NearAll ts → NearAll (more t ts)
    unfolding resolving.near_references_of refs.NearRefsOf
    near_more t ts one rest spot l kids i [] long good marks near = absurd good
    near_more t ts one rest spot l kids i (part ∷ parts) long good marks near =
        let here = marks zero part (omega arith) in
        ap₂ (λ a b. a && b)
        (ap (λ r. if refs.is_element r then true else resolving.near_references is (type_told M t)) (role_told M l kids i part t long here.part)
        ∙ near_if (refs.is_element (roles.role_of l i part)) t near.0 (λ n. one (part_spot spot l i part) good.0 n))
        (rest spot l kids (i + 1) parts long good.1 (λ k d lt. marks (suc k) d (omega (arith, lt))) near.1)

    mutual
      pub near_one : (t : Rose TypeLabel) → NearOne t
      near_one (node l ts) = near_node l ts (near_all ts)

      near_all : (ts : Roses TypeLabel) → NearAll ts
      near_all none = near_none
      near_all (more t ts) = near_more t ts (near_one t) (near_all ts)

  module _ (distinct : IsDistinct bytes_eq (map (λ (a : Assignment). a.reference) M)) (all : All (GoodBody M) M) (utf8 : All (λ (a : Assignment). TypeIsUtf8 a.body) M) where
    abbrev P : List PlainAssignment
    P = module_told M

    abbrev leads : ℕ → List ℕ → Bool
    leads n reference = elim (resolving.body_of P reference) [ None ↦ true | Some u ↦ resolving.chains_within P n u ]

    abbrev Within : ℕ → Type 0
    Within n = (u : Rose TypeLabel) → Known M u → refs.ChainsWithin M n u → resolving.chains_within P n (type_told M u) ≡ true

    leads_so : (n : ℕ) → Within n → (to : ℕ) → to < length M → IfSome (refs.body_at M to) (λ u. refs.ChainsWithin M n u) → leads n (reference_at M to) ≡ true
    leads_so n within to lt q =
        let b = body_told M all utf8 distinct to lt in
        let chain : refs.ChainsWithin M n b.assignment.body = subst (λ o. IfSome (option_map (λ (a : Assignment). a.body) o) (λ u. refs.ChainsWithin M n u)) b.found q in
        ap (λ o. elim o as (λ _. Bool) [ None ↦ true | Some u ↦ resolving.chains_within P n u ]) b.told
        ∙ within b.assignment.body (body_known M all utf8 to b.assignment b.found) chain

    within_none : Within 0
    unfolding resolving.chains_within refs.ChainsWithin
    within_none u known chains = near_one (λ k. ⊥) (λ reference. false) (λ to lt no. absurd no) u known.spot known.good chains

    within_more : (n : ℕ) → Within n → Within (suc n)
    unfolding resolving.chains_within refs.ChainsWithin
    within_more n within u known chains = near_one (λ k. IfSome (refs.body_at M k) (λ v. refs.ChainsWithin M n v)) (leads n) (leads_so n within) u known.spot known.good chains

    within_all : (n : ℕ) → Within n
    within_all zero = within_none
    within_all (suc n) = within_more n (within_all n)

    chain_target : (l : TypeLabel) (ts : Roses TypeLabel) → refs.ChainsWithin M 4 (node l ts) → IfSome (refs.target l.form) (λ k. IfSome (refs.body_at M k) (λ u. refs.ChainsWithin M 3 u))
    unfolding refs.ChainsWithin refs.NearRefs
    chain_target l ts chains = chains.0

    all_node : (l : TypeLabel) (ts : Roses TypeLabel) (spot : Spot) → Good M spot (node l ts) → resolving.all_references_in (leads 3) (types_told M ts) ≡ true
        → resolving.all_references (leads 3) (type_told M (node l ts)) ≡ true
    unfolding resolving.all_references
    all_node l ts spot good rest =
        ap₂ (λ a b. a && b)
        (if_told (λ k. IfSome (refs.body_at M k) (λ u. refs.ChainsWithin M 3 u)) (leads 3) (leads_so 3 (within_all 3)) l.form ts good.0.well.form (chain_target l ts good.0.well.chains))
        rest

    all_none : resolving.all_references_in (leads 3) (types_told M none) ≡ true
    unfolding resolving.all_references_in
    all_none = refl

    all_more : (t : Rose TypeLabel) (ts : Roses TypeLabel) → resolving.all_references (leads 3) (type_told M t) ≡ true → resolving.all_references_in (leads 3) (types_told M ts) ≡ true
        → resolving.all_references_in (leads 3) (types_told M (more t ts)) ≡ true
    unfolding resolving.all_references_in
    all_more t ts first rest = ap₂ (λ a b. a && b) first rest

    mutual
      all_one : (t : Rose TypeLabel) (spot : Spot) → Good M spot t → resolving.all_references (leads 3) (type_told M t) ≡ true
      all_one (node l ts) spot good = all_node l ts spot good (all_in ts spot l 0 (parts_of l.form) good.1)

      all_in : (ts : Roses TypeLabel) (spot : Spot) (l : TypeLabel) (i : ℕ) (parts : List Component) → AllGood M spot l i parts ts → resolving.all_references_in (leads 3) (types_told M ts) ≡ true
      all_in none spot l i parts good = all_none
      all_in (more t ts) spot l i [] good = absurd good
      all_in (more t ts) spot l i (part ∷ parts) good = all_more t ts (all_one t (part_spot spot l i part) good.0) (all_in ts spot l (i + 1) parts good.1)

    -- each chain that starts in the type ends
    pub chains_told : (t : Rose TypeLabel) (spot : Spot) → Good M spot t → resolving.chains_end P (type_told M t) ≡ true
    chains_told t spot good = all_one t spot good
