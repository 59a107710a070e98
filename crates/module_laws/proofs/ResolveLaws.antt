-- References of the module that is meant lead where those of the text lead.
use Rattle.std.proofs.Common.{◌≡◌, ℕ, zero, suc, ◌<◌, ◌+◌, Bool, true, false, ◌&&◌, Option, Some, None, List, [], ◌∷◌, length, map, refl, sym, ap, ◌∙◌, subst, arith, option_map, position, option_and_then, is_some, IfSome, MatchBool}
use Rattle.std.specs.Prelude.{bytes_eq, slice_get, unwrap_or, if◌then◌else◌}
use Rattle.std.proofs.lemmas.Bool.{true≢false}
use Rattle.std.proofs.lemmas.List.Quantifiers.{position-Some}
use Rattle.base_trees.specs.Rose.{Rose, node, Roses, label_of, length_all}
use Rattle.base_trees.specs.Rose as rose
use Rattle.simple_types.specs.declared.simples.Class.{Class}
use Rattle.simple_types.specs.Space.{Space}
use Rattle.asn_types.specs.declared.types.Component.{Component}
use Rattle.asn_types.specs.declared.types.TypeLabel.{TypeLabel}
use Rattle.asn_types.specs.declared.modules.Assignment.{Assignment}
use Rattle.asn_types.specs.Refs as refs
use Rattle.asn_types.specs.Refs.{is_element, NearRefs, NearRefsOf, ChainsWithin}
use Rattle.module_text.specs.declared.marks.TypeMark.{TypeMark}
use Rattle.module_text.specs.declared.types.PlainName.{PlainName}
use Rattle.module_text.specs.declared.types.PlainPart.{PlainPart}
use Rattle.module_text.specs.declared.types.PlainForm.{PlainForm}
use Rattle.module_text.specs.declared.types.PlainForm.TheVariants as form
use Rattle.module_text.specs.declared.types.PlainLabel.{PlainLabel}
use Rattle.module_text.specs.declared.modules.PlainAssignment.{PlainAssignment}
use Rattle.module_text.specs.Texts.{parts_of}
use Rattle.module_text.specs.Plain.{IsType, AreTypes}
use Rattle.module_text.specs.declared.spots.Spot.{Spot}
use Rattle.module_text.specs.declared.spots.Spot.TheVariants.{Elsewhere}
use Rattle.module_text.specs.Told.{Bounds, Sizes, range_of, sizes_of}
use Rattle.module_text.specs.Resolving.{role_of, reference_of, number_of, body_at, body_of, next, follow, resolve, if_reference, near_references, near_references_of, all_references, all_references_in, chains_within, chains_end}
use Rattle.module_text.specs.Simple.{is_order_item, simple_told}
use Rattle.module_text.specs.Faults.{part_spot, space_through}
use Rattle.module_text.specs.Meaning.{words_meant, int_meant, utf8_meant, list_meant, components_meant, form_meant, type_meant, types_meant, assignment_meant, module_meant}
use Rattle.module_text.proofs.PrintedBounds.{and-first, and-second}
use Rattle.module_laws.proofs.SimpleLaws.{Meant, simply}
use Rattle.module_laws.proofs.RoleLaws.{parts-meant, label_meant, role-same}

-- ---- the targets of types

int_target : (o : Option Bounds) → refs.target (int_meant o) ≡ None
int_target None = refl
int_target (Some b) = refl

utf8_target : (o : Option Sizes) (class : Class) → refs.target (utf8_meant o class) ≡ None
utf8_target None class = refl
utf8_target (Some b) class = refl

words_target : (order : Bool) (ms : List TypeMark) (is : List PlainName) → refs.target (words_meant order ms is) ≡ None
words_target true ms is = refl
words_target false ms is = refl

list_target : (o : Option Sizes) (part : Component) → refs.target (list_meant o part) ≡ None
list_target None part = refl
list_target (Some b) part = refl

got_mapped : {A B : Type 0} (f : A → B) (xs : List A) (k : ℕ) → slice_get (map f xs) k ≡ option_map f (slice_get xs k)
got_mapped f [] k = refl
got_mapped f (x ∷ xs) zero = refl
got_mapped f (x ∷ xs) (suc k) = got_mapped f xs k

module _ (P : List PlainAssignment) where
  abbrev pub M : List Assignment
  M = module_meant P

  -- a type that is no reference, or one to an assignment
  abbrev pub Leads : PlainForm → Type 0
  Leads f = (name : List ℕ) → reference_of f ≡ Some name → (k : ℕ) × (number_of P name ≡ Some k)

  -- so it is of each assignment's type
  abbrev pub AllLead : Type 0
  AllLead = (k : ℕ) (t : Rose PlainLabel) → body_at P k ≡ Some t → Leads (label_of t).form

  -- what the target of a type is
  target_by : (at : ℕ) (ms : List TypeMark) (f : PlainForm) (ts : Roses PlainLabel) (spot : Spot) → Leads f
      → refs.target (form_meant P spot (record { at = at; marks = ms; form = f }) ts) ≡ option_and_then (number_of P) (reference_of f)
  target_by at ms form.Bool ts spot h = refl
  target_by at ms (form.Int r) ts spot h = int_target (range_of r)
  target_by at ms (form.Numbers items) ts spot h = refl
  target_by at ms (form.Words is) ts spot h = words_target (is_order_item spot) ms is
  target_by at ms (form.Utf8 size class) ts spot h = utf8_target (sizes_of size) class
  target_by at ms (form.Sequence components) ts spot h = refl
  target_by at ms (form.Choice alternatives) ts spot h = refl
  target_by at ms (form.SequenceOf size item) ts spot h = list_target (sizes_of size) _
  target_by at ms (form.Ref reference) ts spot h =
      let k = h reference.name refl in
      ap (λ o. Some (unwrap_or o 0)) k.1 ∙ sym k.1

  pub target-meant : (spot : Spot) (l : PlainLabel) (ts : Roses PlainLabel) → Leads l.form
      → refs.target (form_meant P spot l ts) ≡ option_and_then (number_of P) (reference_of l.form)
  target-meant spot l ts h = target_by l.at l.marks l.form ts spot h

  -- the types of assignments
  body_by : (o : Option PlainAssignment) → option_map (λ (a : Assignment). a.body) (option_map (assignment_meant P) o) ≡ option_map (type_meant P Elsewhere) (option_map (λ (a : PlainAssignment). a.body) o)
  body_by None = refl
  body_by (Some a) = refl

  pub body-meant : (k : ℕ) → refs.body_at M k ≡ option_map (type_meant P Elsewhere) (body_at P k)
  body-meant k = ap (λ o. option_map (λ (a : Assignment). a.body) o) (got_mapped (assignment_meant P) P k) ∙ body_by (slice_get P k)

  next_by : (o : Option (List ℕ)) → option_and_then (refs.body_at M) (option_and_then (number_of P) o) ≡ option_map (type_meant P Elsewhere) (option_and_then (body_of P) o)
  next_by None = refl
  next_by (Some name) = by (number_of P name)
    where
      by : (k : Option ℕ) → option_and_then (refs.body_at M) k ≡ option_map (type_meant P Elsewhere) (option_and_then (body_at P) k)
      by None = refl
      by (Some k) = body-meant k

  pub next-meant : (spot : Spot) (t : Rose PlainLabel) → Leads (label_of t).form → refs.next M (type_meant P spot t) ≡ option_map (type_meant P Elsewhere) (next P t)
  next-meant spot (node l ts) h = ap (λ o. option_and_then (refs.body_at M) o) (target-meant spot l ts h) ∙ next_by (reference_of l.form)

  -- where a type stands that is meant, through references
  abbrev through_form : Spot → PlainForm → Spot
  through_form spot (form.Ref reference) = Elsewhere
  through_form spot _ = spot

  abbrev pub through : Spot → Rose PlainLabel → Spot
  through spot t = through_form spot (label_of t).form

  pub body_found : (o : Option (List ℕ)) (u : Rose PlainLabel) → option_and_then (body_of P) o ≡ Some u → (k : ℕ) × (body_at P k ≡ Some u)
  body_found None u e = absurd (cc)
  body_found (Some name) u e = by (number_of P name) e
    where
      by : (k : Option ℕ) → option_and_then (body_at P) k ≡ Some u → (k : ℕ) × (body_at P k ≡ Some u)
      by None e = absurd (cc)
      by (Some k) e = (k, e)

  got : {A : Type 0} (xs : List A) (k : ℕ) → k < length xs → (x : A) × (slice_get xs k ≡ Some x)
  got [] k lt = absurd (omega (arith, lt))
  got (x ∷ xs) zero lt = (x, refl)
  got (x ∷ xs) (suc k) lt = got xs k (omega (arith, lt))

  -- a reference that has a number has a type
  pub body_there : (name : List ℕ) (k : ℕ) → number_of P name ≡ Some k → (u : Rose PlainLabel) × (body_of P name ≡ Some u)
  body_there name k e =
      let a = got P k (within P k e) in
      (a.0.body, ap (λ o. option_and_then (body_at P) o) e ∙ ap (λ o. option_map (λ (a : PlainAssignment). a.body) o) a.1)
    where
      within : (others : List PlainAssignment) (k : ℕ) → position (λ (a : PlainAssignment). bytes_eq a.reference name) others ≡ Some k → k < length others
      within [] k e = absurd (cc)
      within (a ∷ others) k e = (position-Some (λ (a : PlainAssignment). bytes_eq a.reference name) (a ∷ others) k a e).0

  through_none : (spot : Spot) (f : PlainForm) → Leads f → option_and_then (body_of P) (reference_of f) ≡ None → through_form spot f ≡ spot
  through_none spot form.Bool h e = refl
  through_none spot (form.Int r) h e = refl
  through_none spot (form.Numbers items) h e = refl
  through_none spot (form.Words is) h e = refl
  through_none spot (form.Utf8 size class) h e = refl
  through_none spot (form.Sequence components) h e = refl
  through_none spot (form.Choice alternatives) h e = refl
  through_none spot (form.SequenceOf size item) h e = refl
  through_none spot (form.Ref reference) h e =
      let k = h reference.name refl in
      let u = body_there reference.name k.0 k.1 in
      let found = u.1 in
      absurd (cc)

  through_some : (spot : Spot) (f : PlainForm) (u : Rose PlainLabel) → option_and_then (body_of P) (reference_of f) ≡ Some u → through_form spot f ≡ Elsewhere
  through_some spot form.Bool u e = absurd (cc)
  through_some spot (form.Int r) u e = absurd (cc)
  through_some spot (form.Numbers items) u e = absurd (cc)
  through_some spot (form.Words is) u e = absurd (cc)
  through_some spot (form.Utf8 size class) u e = absurd (cc)
  through_some spot (form.Sequence components) u e = absurd (cc)
  through_some spot (form.Choice alternatives) u e = absurd (cc)
  through_some spot (form.SequenceOf size item) u e = absurd (cc)
  through_some spot (form.Ref reference) u e = refl

  through_else : (f : PlainForm) → through_form Elsewhere f ≡ Elsewhere
  through_else form.Bool = refl
  through_else (form.Int r) = refl
  through_else (form.Numbers items) = refl
  through_else (form.Words is) = refl
  through_else (form.Utf8 size class) = refl
  through_else (form.Sequence components) = refl
  through_else (form.Choice alternatives) = refl
  through_else (form.SequenceOf size item) = refl
  through_else (form.Ref reference) = refl

  abbrev FollowsBody : ℕ → Type 0
  FollowsBody n = (t : Rose PlainLabel) → Leads (label_of t).form → refs.follow M n (type_meant P Elsewhere t) ≡ type_meant P Elsewhere (follow P n t)

  -- one reference
  follow_by : AllLead → (n : ℕ) → FollowsBody n → (spot : Spot) (t : Rose PlainLabel) → Leads (label_of t).form → (o : Option (Rose PlainLabel)) → next P t ≡ o
      → (elim (option_map (type_meant P Elsewhere) o) [ None ↦ type_meant P spot t | Some u ↦ refs.follow M n u ]) ≡ type_meant P (through spot t) (elim o [ None ↦ t | Some u ↦ follow P n u ])
  follow_by all n rest spot t h None e = ap (λ s. type_meant P s t) (sym (through_none spot (label_of t).form h e))
  follow_by all n rest spot t h (Some u) e =
      let k = body_found (reference_of (label_of t).form) u e in
      rest u (all k.0 u k.1) ∙ ap (λ s. type_meant P s (follow P n u)) (sym (through_some spot (label_of t).form u e))

  follow_one : AllLead → (n : ℕ) → FollowsBody n → (spot : Spot) (t : Rose PlainLabel) → Leads (label_of t).form
      → refs.follow M (suc n) (type_meant P spot t) ≡ type_meant P (through spot t) (follow P (suc n) t)
  unfolding refs.follow follow
  follow_one all n rest spot t h =
      ap (λ o. elim o [ None ↦ type_meant P spot t | Some u ↦ refs.follow M n u ]) (next-meant spot t h) ∙ follow_by all n rest spot t h (next P t) refl

  follow-body : AllLead → (n : ℕ) → FollowsBody n
  unfolding refs.follow follow
  follow-body all zero t h = refl
  follow-body all (suc n) t h =
      follow_one all n (λ u g. follow-body all n u g) Elsewhere t h ∙ ap (λ s. type_meant P s (follow P (suc n) t)) (through_else (label_of t).form)

  pub resolve-meant : AllLead → (spot : Spot) (t : Rose PlainLabel) → Leads (label_of t).form → refs.resolve M (type_meant P spot t) ≡ type_meant P (through spot t) (resolve P t)
  resolve-meant all spot t h = follow_one all 3 (follow-body all 3) spot t h

  -- ---- the simple type for which a type stands, through references

  abbrev pub AllTyped : Type 0
  AllTyped = (k : ℕ) (t : Rose PlainLabel) → body_at P k ≡ Some t → IsType t

  typed_by : AllTyped → (n : ℕ) → ((u : Rose PlainLabel) → IsType u → IsType (follow P n u)) → (t : Rose PlainLabel) → IsType t → (o : Option (Rose PlainLabel)) → next P t ≡ o
      → IsType (elim o [ None ↦ t | Some u ↦ follow P n u ])
  typed_by all n rest t h None e = h
  typed_by all n rest t h (Some u) e = let k = body_found (reference_of (label_of t).form) u e in rest u (all k.0 u k.1)

  follow-typed : AllTyped → (n : ℕ) (t : Rose PlainLabel) → IsType t → IsType (follow P n t)
  unfolding follow
  follow-typed all zero t h = h
  follow-typed all (suc n) t h = typed_by all n (λ u g. follow-typed all n u g) t h (next P t) refl

  pub resolved-typed : AllTyped → (t : Rose PlainLabel) → IsType t → IsType (resolve P t)
  resolved-typed all t h = follow-typed all 4 t h

  space_by : (at : ℕ) (ms : List TypeMark) (f : PlainForm) (ts : Roses PlainLabel) (spot : Spot)
      → let t : Rose PlainLabel = node (record { at = at; marks = ms; form = f }) ts in
      space_through P spot t ≡ simple_told (through_form spot f) (resolve P t)
  unfolding follow
  space_by at ms form.Bool ts spot = refl
  space_by at ms (form.Int r) ts spot = refl
  space_by at ms (form.Numbers items) ts spot = refl
  space_by at ms (form.Words is) ts spot = refl
  space_by at ms (form.Utf8 size class) ts spot = refl
  space_by at ms (form.Sequence components) ts spot = refl
  space_by at ms (form.Choice alternatives) ts spot = refl
  space_by at ms (form.SequenceOf size item) ts spot = refl
  space_by at ms (form.Ref reference) ts spot = refl

  pub space-is : (spot : Spot) (t : Rose PlainLabel) → space_through P spot t ≡ simple_told (through spot t) (resolve P t)
  space-is spot (node l ts) = space_by l.at l.marks l.form ts spot

  pub resolved-simply : AllLead → AllTyped → (spot : Spot) (t : Rose PlainLabel) (s : Space) → IsType t → Leads (label_of t).form → space_through P spot t ≡ Some s
      → Meant s (refs.resolve M (type_meant P spot t))
  resolved-simply all typed spot t s is h e =
      let Q : Rose TypeLabel → Type 0 = λ u. Meant s u in
      subst Q (sym (resolve-meant all spot t h)) (simply P (resolve P t) (through spot t) s (follow-typed typed 4 t is) (sym (space-is spot t) ∙ e))

  -- ---- chains of references

  -- each reference in the type leads
  abbrev pub LeadsIn : Rose PlainLabel → Type 0
  LeadsIn t = all_references (λ name. is_some (number_of P name)) t ≡ true

  some_number : (o : Option ℕ) → is_some o ≡ true → (k : ℕ) × (o ≡ Some k)
  some_number None e = absurd (true≢false (sym e))
  some_number (Some k) e = (k, refl)

  leads_by : (f : PlainForm) → if_reference (λ name. is_some (number_of P name)) f ≡ true → Leads f
  leads_by form.Bool e = λ name same. absurd (cc)
  leads_by (form.Int r) e = λ name same. absurd (cc)
  leads_by (form.Numbers items) e = λ name same. absurd (cc)
  leads_by (form.Words is) e = λ name same. absurd (cc)
  leads_by (form.Utf8 size class) e = λ name same. absurd (cc)
  leads_by (form.Sequence components) e = λ name same. absurd (cc)
  leads_by (form.Choice alternatives) e = λ name same. absurd (cc)
  leads_by (form.SequenceOf size item) e = λ name same. absurd (cc)
  leads_by (form.Ref reference) e =
      λ name same.
      let names : reference.name ≡ name = cc in
      let Q : List ℕ → Type 0 = λ n. (k : ℕ) × (number_of P n ≡ Some k) in
      subst Q names (some_number (number_of P reference.name) e)

  pub leads-in : (l : PlainLabel) (ts : Roses PlainLabel) → LeadsIn (node l ts) → Leads l.form
  unfolding all_references
  leads-in l ts e = leads_by l.form (and-first (if_reference (λ name. is_some (number_of P name)) l.form) (all_references_in (λ name. is_some (number_of P name)) ts) e)

  module _ (is : List ℕ → Bool) (Q : ℕ → Type 0) (turn : (name : List ℕ) (k : ℕ) → number_of P name ≡ Some k → is name ≡ true → Q k) where
    abbrev Near : Rose PlainLabel → Type 0
    Near t = (spot : Spot) → IsType t → LeadsIn t → near_references is t ≡ true → NearRefs Q (type_meant P spot t)

    abbrev NearAll : Roses PlainLabel → Type 0
    NearAll ts = (spot : Spot) (l : PlainLabel) (us : Roses PlainLabel) (i : ℕ) (ps : List PlainPart) → length_all us ≡ length (parts_of l.form) → AreTypes ts
        → all_references_in (λ name. is_some (number_of P name)) ts ≡ true → near_references_of is l i ps ts ≡ true
        → NearRefsOf Q (label_meant P spot l us) i (components_meant P spot l i ps ts) (types_meant P spot l i ps ts)

    target_near : (o : Option (List ℕ)) → ((name : List ℕ) → o ≡ Some name → (k : ℕ) × (number_of P name ≡ Some k)) → ((name : List ℕ) → o ≡ Some name → is name ≡ true)
        → IfSome (option_and_then (number_of P) o) Q
    target_near None h e = tt
    target_near (Some name) h e =
        let k = h name refl in
        let R : Option ℕ → Type 0 = λ o. IfSome o Q in
        subst R (sym k.1) (turn name k.0 k.1 (e name refl))

    is_by : (f : PlainForm) → if_reference is f ≡ true → (name : List ℕ) → reference_of f ≡ Some name → is name ≡ true
    is_by form.Bool e name same = absurd (cc)
    is_by (form.Int r) e name same = absurd (cc)
    is_by (form.Numbers items) e name same = absurd (cc)
    is_by (form.Words is_) e name same = absurd (cc)
    is_by (form.Utf8 size class) e name same = absurd (cc)
    is_by (form.Sequence components) e name same = absurd (cc)
    is_by (form.Choice alternatives) e name same = absurd (cc)
    is_by (form.SequenceOf size item) e name same = absurd (cc)
    is_by (form.Ref reference) e name same =
        let names : reference.name ≡ name = cc in
        subst (λ n. is n ≡ true) names e

    near_node : (l : PlainLabel) (ts : Roses PlainLabel) → NearAll ts → Near (node l ts)
    unfolding NearRefs near_references all_references
    near_node l ts rest spot typed leads e =
        let h = leads-in l ts leads in
        let R : Option ℕ → Type 0 = λ o. IfSome o Q in
        let S : List Component → Type 0 = λ cs. NearRefsOf Q (label_meant P spot l ts) 0 cs (types_meant P spot l 0 (parts_of l.form) ts) in (
          subst R (sym (target-meant spot l ts h)) (target_near (reference_of l.form) h (is_by l.form (and-first (if_reference is l.form) (near_references_of is l 0 (parts_of l.form) ts) e))),
          subst S (sym (parts-meant P l ts spot typed.2))
              (rest spot l ts 0 (parts_of l.form) typed.2 typed.3
              (and-second (if_reference (λ name. is_some (number_of P name)) l.form) (all_references_in (λ name. is_some (number_of P name)) ts) leads)
              (and-second (if_reference is l.form) (near_references_of is l 0 (parts_of l.form) ts) e)),
        )

    near_more : (t : Rose PlainLabel) (ts : Roses PlainLabel) → Near t → NearAll ts → NearAll (rose.more t ts)
    unfolding NearRefs near_references all_references
    near_more t ts first rest spot l us i [] long typed leads e = tt
    near_more t ts first rest spot l us i (part ∷ ps) long typed leads e =
        let there = part_spot spot l i part in
        let inner = is_element (role_of l i part) in
        let R : Bool → Type 0 = λ b. MatchBool b (Unit {0}) (NearRefs Q (type_meant P there t)) in
        let here = and-first (if inner then true else near_references is t) (near_references_of is l (i + 1) ps ts) e in (
          subst R (ap is_element (sym (role-same P spot l us i there part t long))) (by inner here),
          rest spot l us (i + 1) ps long typed.1
              (and-second (all_references (λ name. is_some (number_of P name)) t) (all_references_in (λ name. is_some (number_of P name)) ts) leads)
              (and-second (if inner then true else near_references is t) (near_references_of is l (i + 1) ps ts) e),
        )
      where
        by : (b : Bool) → (if b then true else near_references is t) ≡ true → MatchBool b (Unit {0}) (NearRefs Q (type_meant P (part_spot spot l i part) t))
        by true f = tt
        by false f =
            first (part_spot spot l i part) typed.0
            (and-first (all_references (λ name. is_some (number_of P name)) t) (all_references_in (λ name. is_some (number_of P name)) ts) leads) f

    near_none : NearAll rose.none
    unfolding NearRefs near_references all_references
    near_none spot l us i [] long typed leads e = tt
    near_none spot l us i (part ∷ ps) long typed leads e = tt

    mutual
      near : (t : Rose PlainLabel) → Near t
      near (node l ts) = near_node l ts (near-all ts)

      near-all : (ts : Roses PlainLabel) → NearAll ts
      near-all rose.none = near_none
      near-all (rose.more t ts) = near_more t ts (near t) (near-all ts)

  -- what holds of each assignment's type
  abbrev pub AllLeadIn : Type 0
  AllLeadIn = (k : ℕ) (t : Rose PlainLabel) → body_at P k ≡ Some t → LeadsIn t

  turned : AllTyped → AllLeadIn → (n : ℕ) → ((u : Rose PlainLabel) → IsType u → LeadsIn u → chains_within P n u ≡ true → ChainsWithin M n (type_meant P Elsewhere u))
      → (name : List ℕ) (k : ℕ) → number_of P name ≡ Some k → (elim (body_of P name) [ None ↦ true | Some u ↦ chains_within P n u ]) ≡ true
      → IfSome (refs.body_at M k) (λ u. ChainsWithin M n u)
  turned typed leads n rest name k found e =
      let R : Option (Rose TypeLabel) → Type 0 = λ o. IfSome o (λ u. ChainsWithin M n u) in
      subst R (sym (body-meant k)) (by (body_at P k) refl (sym (ap (λ o. elim (option_and_then (body_at P) o) [ None ↦ true | Some u ↦ chains_within P n u ]) found) ∙ e))
    where
      by : (o : Option (Rose PlainLabel)) → body_at P k ≡ o → (elim o [ None ↦ true | Some u ↦ chains_within P n u ]) ≡ true
          → IfSome (option_map (type_meant P Elsewhere) o) (λ u. ChainsWithin M n u)
      by None is f = tt
      by (Some u) is f = rest u (typed k u is) (leads k u is) f

  pub chains-body : AllTyped → AllLeadIn → (n : ℕ) (u : Rose PlainLabel) → IsType u → LeadsIn u → chains_within P n u ≡ true → ChainsWithin M n (type_meant P Elsewhere u)
  unfolding ChainsWithin chains_within
  chains-body typed leads zero u is h e = near (λ name. false) (λ k. ⊥) (λ name k found f. absurd (true≢false (sym f))) u Elsewhere is h e
  chains-body typed leads (suc n) u is h e =
      near (λ name. elim (body_of P name) [ None ↦ true | Some u ↦ chains_within P n u ]) (λ k. IfSome (refs.body_at M k) (λ u. ChainsWithin M n u))
      (turned typed leads n (λ u is h e. chains-body typed leads n u is h e)) u Elsewhere is h e

  -- what holds of each reference in a type holds of those that are near
  module _ (is : List ℕ → Bool) where
    abbrev AllNear : Rose PlainLabel → Type 0
    AllNear t = all_references is t ≡ true → near_references is t ≡ true

    abbrev AllNearIn : Roses PlainLabel → Type 0
    AllNearIn ts = (l : PlainLabel) (i : ℕ) (ps : List PlainPart) → all_references_in is ts ≡ true → near_references_of is l i ps ts ≡ true

    near_step : (t : Rose PlainLabel) (ts : Roses PlainLabel) → AllNear t → AllNearIn ts → AllNearIn (rose.more t ts)
    unfolding near_references all_references
    near_step t ts first rest l i [] e = refl
    near_step t ts first rest l i (part ∷ ps) e =
        both (is_element (role_of l i part)) (near_references is t) (near_references_of is l (i + 1) ps ts)
        (first (and-first (all_references is t) (all_references_in is ts) e)) (rest l (i + 1) ps (and-second (all_references is t) (all_references_in is ts) e))
      where
        both : (b c d : Bool) → c ≡ true → d ≡ true → ((if b then true else c) && d) ≡ true
        both true c d e f = f
        both false c d e f = ap (λ x. x && d) e ∙ f

    near_leaf : AllNearIn rose.none
    unfolding near_references all_references
    near_leaf l i ps e = refl

    near_head : (l : PlainLabel) (ts : Roses PlainLabel) → AllNearIn ts → AllNear (node l ts)
    unfolding near_references all_references
    near_head l ts rest e =
        ap (λ b. b && near_references_of is l 0 (parts_of l.form) ts) (and-first (if_reference is l.form) (all_references_in is ts) e)
        ∙ rest l 0 (parts_of l.form) (and-second (if_reference is l.form) (all_references_in is ts) e)

    mutual
      all-near : (t : Rose PlainLabel) → AllNear t
      all-near (node l ts) = near_head l ts (all-near-in ts)

      all-near-in : (ts : Roses PlainLabel) → AllNearIn ts
      all-near-in rose.none = near_leaf
      all-near-in (rose.more t ts) = near_step t ts (all-near t) (all-near-in ts)

  -- No type has more than four references in a row.
  pub chains-type : AllTyped → AllLeadIn → (spot : Spot) (t : Rose PlainLabel) → IsType t → LeadsIn t → chains_end P t ≡ true → ChainsWithin M 4 (type_meant P spot t)
  unfolding ChainsWithin
  chains-type typed leads spot t is h e =
      let leads_on : List ℕ → Bool = λ name. elim (body_of P name) [ None ↦ true | Some u ↦ chains_within P 3 u ] in
      near leads_on (λ k. IfSome (refs.body_at M k) (λ u. ChainsWithin M 3 u)) (turned typed leads 3 (chains-body typed leads 3)) t spot is h (all-near leads_on t e)
