-- Which elements of a value stand in an order, and in which.
use Rattle.std.proofs.Common.{◌≡◌, ℕ, ◌+◌, ◌-◌, Bool, true, false, Option, Some, None, List, [], ◌∷◌, ◌++◌, length, length-append, refl, ap, ◌∙◌, arith}
use Rattle.std.specs.Prelude.{slice_get, if◌then◌else◌}
use Rattle.std.specs.Option.{option_map}
use Rattle.base_trees.specs.Rose.{Rose, node, Roses, list_of, roses_of, label_of}
use Rattle.base_trees.proofs.Roses.{list_of-roses_of}
use Rattle.simple_types.specs.declared.labels.ValueLabel.{ValueLabel}
use Rattle.simple_types.specs.declared.labels.ValueLabel.TheVariants as value
use Rattle.asn_types.specs.declared.modules.Assignment.{Assignment}
use Rattle.asn_types.specs.declared.types.Component.{Component}
use Rattle.asn_types.specs.declared.types.Form.TheVariants as form
use Rattle.asn_types.specs.declared.types.TypeLabel.{TypeLabel}
use Rattle.asn_types.specs.Refs.{resolve}
use Rattle.asn_values.specs.Values.{flags_from, element_flags, ordered_flags, is_last_absent}
use Rattle.schema_components.specs.Components.{Set}
use Rattle.map_assignments.specs.Naming.{type_label, sequence_marks}
use Rattle.map_assignments.proofs.Marked.{sequence-nil}
use Rattle.map_assignments.proofs.Resolving.{follow-none}

-- ---- lists

pub last-at : {A : Type 0} (xs : List A) (x : A) → slice_get (xs ++ x ∷ []) (length (xs ++ x ∷ []) - 1) ≡ Some x
last-at {A = A} xs x =
    let many = length-append xs (x ∷ []) in
    let place : length (xs ++ x ∷ []) - 1 ≡ length xs = omega (arith, many) in
    ap (slice_get (xs ++ x ∷ [])) place ∙ at xs
  where
    at : (ys : List A) → slice_get (ys ++ x ∷ []) (length ys) ≡ Some x
    at [] = refl
    at (y ∷ ys) = at ys

-- ---- the content of an element that may be nil

module _ (M : List Assignment) (E : ℕ → Rose TypeLabel → Type 0) (depth : ℕ) (s : Set) where
  abbrev flags_by : Option TypeLabel → Option ValueLabel → List Bool
  flags_by o x = elim o [ None ↦ [] | Some inner ↦ elim x [ None ↦ [] | Some w ↦ element_flags inner w ] ]

  flags-of-none : (o : Option TypeLabel) (x : Option ValueLabel) → x ≡ None → flags_by o x ≡ []
  flags-of-none None x e = refl
  flags-of-none (Some inner) x e = ap (λ y. elim y as (λ _. List Bool) [ None ↦ [] | Some w ↦ element_flags inner w ]) e

  module _ (mixed : Bool) (cs : List Component) (us : Roses TypeLabel) (flags : List Bool) (values : List (Rose ValueLabel)) where
    abbrev own_label : Bool → TypeLabel
    own_label nillable = type_label (form.Sequence cs) (sequence_marks nillable mixed true)

    abbrev own_value : Rose ValueLabel
    own_value = node (value.Sequence flags) (roses_of values)

    -- of one that may not be nil, they are those of its own parts
    pub plain-told : ordered_flags M (own_label false) (node (own_label false) us) own_value ≡ flags_from (own_label false) 0 cs flags
    plain-told =
        ap (λ (b : Bool). flags_by (if b then option_map (λ t. label_of (resolve M t)) (slice_get (list_of (roses_of (list_of us))) (length cs - 1)) else Some (own_label false))
        (if b then (if is_last_absent (value.Sequence flags) then None else option_map label_of (slice_get (list_of (roses_of values)) (length (list_of (roses_of values)) - 1))) else Some (value.Sequence flags)))
        (sequence-nil false mixed true)

    nillable-told : ordered_flags M (own_label true) (node (own_label true) us) own_value
        ≡ flags_by (option_map (λ t. label_of (resolve M t)) (slice_get (list_of (roses_of (list_of us))) (length cs - 1)))
        (if is_last_absent (value.Sequence flags) then None else option_map label_of (slice_get (list_of (roses_of values)) (length (list_of (roses_of values)) - 1)))
    nillable-told =
        ap (λ (b : Bool). flags_by (if b then option_map (λ t. label_of (resolve M t)) (slice_get (list_of (roses_of (list_of us))) (length cs - 1)) else Some (own_label true))
        (if b then (if is_last_absent (value.Sequence flags) then None else option_map label_of (slice_get (list_of (roses_of values)) (length (list_of (roses_of values)) - 1))) else Some (value.Sequence flags)))
        (sequence-nil true mixed true)

    -- of one that is nil there are none
    pub nil-told : is_last_absent (value.Sequence flags) ≡ true → ordered_flags M (own_label true) (node (own_label true) us) own_value ≡ []
    nil-told last =
        nillable-told
        ∙ flags-of-none (option_map (λ t. label_of (resolve M t)) (slice_get (list_of (roses_of (list_of us))) (length cs - 1)))
        (if is_last_absent (value.Sequence flags) then None else option_map label_of (slice_get (list_of (roses_of values)) (length (list_of (roses_of values)) - 1)))
        (ap (λ (b : Bool). if b then None else option_map label_of (slice_get (list_of (roses_of values)) (length (list_of (roses_of values)) - 1))) last)

    -- of another they are those of its content
    pub content-told : (front : List (Rose ValueLabel)) (fs : List Bool) (ws : List (Rose ValueLabel)) → values ≡ front ++ node (value.Sequence fs) (roses_of ws) ∷ [] → is_last_absent (value.Sequence flags) ≡ false
        → (types : List (Rose TypeLabel)) (t : Rose TypeLabel) → list_of us ≡ types ++ t ∷ [] → length cs ≡ length types + 1 → (parts : List Component) (kids : Roses TypeLabel)
        → t ≡ node (type_label (form.Sequence parts) []) kids → ordered_flags M (own_label true) (node (own_label true) us) own_value ≡ flags_from (type_label (form.Sequence parts) []) 0 parts fs
    content-told front fs ws values_are last types t types_are many parts kids is =
        let inner = type_label (form.Sequence parts) [] in
        let w = node (value.Sequence fs) (roses_of ws) in
        let type_at : slice_get (list_of (roses_of (list_of us))) (length cs - 1) ≡ Some t =
        ap (λ z. slice_get z (length cs - 1)) (list_of-roses_of (list_of us) ∙ types_are)
        ∙ ap (slice_get (types ++ t ∷ [])) (omega (arith, many, length-append types (t ∷ []))) ∙ last-at types t in
        let found : option_map (λ z. label_of (resolve M z)) (slice_get (list_of (roses_of (list_of us))) (length cs - 1)) ≡ Some inner =
        ap (option_map (λ z. label_of (resolve M z))) type_at ∙ ap Some (ap (λ z. label_of (resolve M z)) is ∙ ap label_of (follow-none M 4 (node inner kids) refl)) in
        let value_at : (if is_last_absent (value.Sequence flags) then None else option_map label_of (slice_get (list_of (roses_of values)) (length (list_of (roses_of values)) - 1))) ≡ Some (value.Sequence fs) =
        ap (λ (b : Bool). if b then None else option_map label_of (slice_get (list_of (roses_of values)) (length (list_of (roses_of values)) - 1))) last
        ∙ ap (λ z. option_map label_of (slice_get z (length z - 1))) (list_of-roses_of values ∙ values_are) ∙ ap (option_map label_of) (last-at front w) in
        nillable-told
        ∙ ap (λ y. flags_by y (if is_last_absent (value.Sequence flags) then None else option_map label_of (slice_get (list_of (roses_of values)) (length (list_of (roses_of values)) - 1)))) found
        ∙ ap (flags_by (Some inner)) value_at
