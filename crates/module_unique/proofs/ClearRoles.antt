-- Places count for nothing in the roles of parts, in chains of references, and in orders.
use Rattle.std.proofs.Common.{◌≡◌, ℕ, zero, suc, ◌+◌, Bool, true, false, ◌&&◌, Option, Some, None, List, [], ◌∷◌, map, length, refl, ap, ap₂, ◌∙◌, option_map}
use Rattle.std.specs.Prelude.{◌==◌, if◌then◌else◌}
use Rattle.base_trees.specs.Rose.{Rose, node, Roses, none, more}
use Rattle.asn_types.specs.declared.roles.Role.{Role}
use Rattle.asn_types.specs.declared.roles.Role.TheVariants.{Attribute, Element, Group, Content, Embed, Order, Item, Alternative}
use Rattle.asn_types.specs.Refs.{is_element}
use Rattle.module_text.specs.declared.types.PlainPart.{PlainPart}
use Rattle.module_text.specs.declared.types.PlainForm.{PlainForm}
use Rattle.module_text.specs.declared.types.PlainForm.TheVariants as form
use Rattle.module_text.specs.declared.types.PlainLabel.{PlainLabel}
use Rattle.module_text.specs.declared.modules.PlainAssignment.{PlainAssignment}
use Rattle.module_text.specs.Texts.{parts_of}
use Rattle.module_text.specs.Told as told
use Rattle.module_text.specs.Resolving as resolving
use Rattle.module_unique.proofs.Clearing.{clear_type_marks, clear_part, clear_form, clear_type, clear_types, clear_assignment}
use Rattle.module_unique.proofs.ClearSimple.{any_type, any_part, body_of_same}

abbrev pub clear_label : PlainLabel → PlainLabel
clear_label l = record { at = 0; marks = clear_type_marks l.marks; form = clear_form l.form }

pub parts_same : (f : PlainForm) → parts_of (clear_form f) ≡ map clear_part (parts_of f)
parts_same form.Bool = refl
parts_same (form.Int r) = refl
parts_same (form.Numbers items) = refl
parts_same (form.Words identifiers) = refl
parts_same (form.Utf8 size class) = refl
parts_same (form.Sequence parts) = refl
parts_same (form.Choice parts) = refl
parts_same (form.SequenceOf size part) = refl
parts_same (form.Ref reference) = refl

map_long : {A B : Type 0} (f : A → B) (xs : List A) → length (map f xs) ≡ length xs
map_long f [] = refl
map_long f (x ∷ xs) = ap suc (map_long f xs)

pub parts_long : (f : PlainForm) → length (parts_of (clear_form f)) ≡ length (parts_of f)
parts_long f = ap length (parts_same f) ∙ map_long clear_part (parts_of f)

item_same : (f : PlainForm) (part : PlainPart) → resolving.is_item (clear_form f) (clear_part part) ≡ resolving.is_item f part
item_same form.Bool part = refl
item_same (form.Int r) part = refl
item_same (form.Numbers items) part = refl
item_same (form.Words identifiers) part = refl
item_same (form.Utf8 size class) part = refl
item_same (form.Sequence parts) part = refl
item_same (form.Choice parts) part = refl
item_same (form.SequenceOf size item) part = refl
item_same (form.Ref reference) part = refl

-- the role by what the instructions and the place say
abbrev pub role_by : ℕ → ℕ → Bool → Bool → Bool → Bool → Bool → Bool → Bool → Role
role_by i long attribute untagged nil embed order item union =
    if attribute then Attribute
    else (if untagged then Group
    else (if nil && (i + 1 == long) then Content
    else (if (i == 0) && embed then Embed
    else (if (i == (if embed then 1 else 0)) && order then Order
    else (if item then Item
    else (if union then Alternative
    else Element))))))

pub same_role : (i m n : ℕ) (a b c d e f g a' b' c' d' e' f' g' : Bool) → m ≡ n → a ≡ a' → b ≡ b' → c ≡ c' → d ≡ d' → e ≡ e' → f ≡ f' → g ≡ g'
    → role_by i m a b c d e f g ≡ role_by i n a' b' c' d' e' f' g'
same_role i m n a b c d e f g a' b' c' d' e' f' g' p q r s t u v w = rw (p, q, r, s, t, u, v, w) refl

pub role_same : (l : PlainLabel) (i : ℕ) (part : PlainPart) → resolving.role_of (clear_label l) i (clear_part part) ≡ resolving.role_of l i part
role_same l i part =
    same_role i _ _ _ _ _ _ _ _ _ _ _ _ _ _ _ _
    (parts_long l.form)
    (any_part told.is_attribute (λ m. refl) part.marks)
    (any_part told.is_untagged (λ m. refl) part.marks)
    (any_type told.is_use_nil (λ m. refl) l.marks)
    (any_type told.is_embed_values (λ m. refl) l.marks)
    (any_type told.is_use_order (λ m. refl) l.marks)
    (item_same l.form part)
    (any_type told.is_use_union (λ m. refl) l.marks)

-- ---- references that are reached

if_reference_same : (is js : List ℕ → Bool) → ((name : List ℕ) → is name ≡ js name) → (f : PlainForm) → resolving.if_reference is (clear_form f) ≡ resolving.if_reference js f
if_reference_same is js same form.Bool = refl
if_reference_same is js same (form.Int r) = refl
if_reference_same is js same (form.Numbers items) = refl
if_reference_same is js same (form.Words identifiers) = refl
if_reference_same is js same (form.Utf8 size class) = refl
if_reference_same is js same (form.Sequence parts) = refl
if_reference_same is js same (form.Choice parts) = refl
if_reference_same is js same (form.SequenceOf size part) = refl
if_reference_same is js same (form.Ref reference) = same reference.name

module _ (is js : List ℕ → Bool) (same : (name : List ℕ) → is name ≡ js name) where
  abbrev NearSame : Roses PlainLabel → Type 0
  NearSame ts = (l : PlainLabel) (i : ℕ) (parts : List PlainPart) → resolving.near_references_of is (clear_label l) i (map clear_part parts) (clear_types ts) ≡ resolving.near_references_of js l i parts ts

  near_node : (l : PlainLabel) (ts : Roses PlainLabel) → NearSame ts → resolving.near_references is (clear_type (node l ts)) ≡ resolving.near_references js (node l ts)
  unfolding resolving.near_references
  near_node l ts rest =
      ap₂ (λ a b. a && b) (if_reference_same is js same l.form)
      (ap (λ ps. resolving.near_references_of is (clear_label l) 0 ps (clear_types ts)) (parts_same l.form) ∙ rest l 0 (parts_of l.form))

  near_none : NearSame none
  unfolding resolving.near_references_of
  near_none l i parts = refl

  near_more : (t : Rose PlainLabel) (ts : Roses PlainLabel) → resolving.near_references is (clear_type t) ≡ resolving.near_references js t → NearSame ts → NearSame (more t ts)
  unfolding resolving.near_references_of
  near_more t ts first rest l i [] = refl
  near_more t ts first rest l i (part ∷ parts) =
      ap₂ (λ a b. a && b) (ap₂ (λ r b. if is_element r then true else b) (role_same l i part) first) (rest l (i + 1) parts)

  mutual
    pub near_same : (t : Rose PlainLabel) → resolving.near_references is (clear_type t) ≡ resolving.near_references js t
    near_same (node l ts) = near_node l ts (nears_same ts)

    nears_same : (ts : Roses PlainLabel) → NearSame ts
    nears_same none = near_none
    nears_same (more t ts) = near_more t ts (near_same t) (nears_same ts)

  all_node : (l : PlainLabel) (ts : Roses PlainLabel) → resolving.all_references_in is (clear_types ts) ≡ resolving.all_references_in js ts
      → resolving.all_references is (clear_type (node l ts)) ≡ resolving.all_references js (node l ts)
  unfolding resolving.all_references
  all_node l ts rest = ap₂ (λ a b. a && b) (if_reference_same is js same l.form) rest

  all_none : resolving.all_references_in is (clear_types none) ≡ resolving.all_references_in js none
  unfolding resolving.all_references_in
  all_none = refl

  all_more : (t : Rose PlainLabel) (ts : Roses PlainLabel) → resolving.all_references is (clear_type t) ≡ resolving.all_references js t
      → resolving.all_references_in is (clear_types ts) ≡ resolving.all_references_in js ts → resolving.all_references_in is (clear_types (more t ts)) ≡ resolving.all_references_in js (more t ts)
  unfolding resolving.all_references_in
  all_more t ts first rest = ap₂ (λ a b. a && b) first rest

  mutual
    pub all_same : (t : Rose PlainLabel) → resolving.all_references is (clear_type t) ≡ resolving.all_references js t
    all_same (node l ts) = all_node l ts (alls_same ts)

    alls_same : (ts : Roses PlainLabel) → resolving.all_references_in is (clear_types ts) ≡ resolving.all_references_in js ts
    alls_same none = all_none
    alls_same (more t ts) = all_more t ts (all_same t) (alls_same ts)

module _ (P : List PlainAssignment) where
  abbrev Q : List PlainAssignment
  Q = map clear_assignment P

  abbrev leads : List PlainAssignment → (Rose PlainLabel → Bool) → List ℕ → Bool
  leads R on name = elim (resolving.body_of R name) [ None ↦ true | Some u ↦ on u ]

  leads_by : (o : Option (Rose PlainLabel)) (on over : Rose PlainLabel → Bool) → ((u : Rose PlainLabel) → on (clear_type u) ≡ over u)
      → (elim (option_map clear_type o) as (λ _. Bool) [ None ↦ true | Some u ↦ on u ]) ≡ (elim o as (λ _. Bool) [ None ↦ true | Some u ↦ over u ])
  leads_by None on over same = refl
  leads_by (Some u) on over same = same u

  leads_same : (on over : Rose PlainLabel → Bool) → ((u : Rose PlainLabel) → on (clear_type u) ≡ over u) → (name : List ℕ) → leads Q on name ≡ leads P over name
  leads_same on over same name =
      ap (λ o. elim o as (λ _. Bool) [ None ↦ true | Some u ↦ on u ]) (body_of_same P name) ∙ leads_by (resolving.body_of P name) on over same

  chains_same : (n : ℕ) (t : Rose PlainLabel) → resolving.chains_within Q n (clear_type t) ≡ resolving.chains_within P n t
  unfolding resolving.chains_within
  chains_same zero t = near_same (λ name. false) (λ name. false) (λ name. refl) t
  chains_same (suc n) t =
      near_same (leads Q (resolving.chains_within Q n)) (leads P (resolving.chains_within P n))
      (leads_same (resolving.chains_within Q n) (resolving.chains_within P n) (λ u. chains_same n u)) t

  pub ends_same : (t : Rose PlainLabel) → resolving.chains_end Q (clear_type t) ≡ resolving.chains_end P t
  ends_same t =
      all_same (leads Q (resolving.chains_within Q 3)) (leads P (resolving.chains_within P 3))
      (leads_same (resolving.chains_within Q 3) (resolving.chains_within P 3) (λ u. chains_same 3 u)) t
