-- A type has the order that USE-ORDER asks as it is told.
use Rattle.std.proofs.Common.{◌≡◌, ℕ, suc, ◌≤◌, ◌-◌, Bool, true, false, ◌&&◌, not, Option, Some, List, map, length, refl, sym, ap, subst, ◌∙◌, arith, option_map}
use Rattle.std.specs.Prelude.{All, bytes_eq, slice_get, if◌then◌else◌}
use Rattle.std.specs.List.{IsDistinct}
use Rattle.base_trees.specs.Rose.{Rose, node, Roses, none, more, label_of, list_of, length_all, depth_all}
use Rattle.base_trees.proofs.Roses.{length-list_of}
use Rattle.asn_types.specs.declared.types.Component.{Component}
use Rattle.asn_types.specs.declared.types.Form.{Form}
use Rattle.asn_types.specs.declared.types.Form.TheVariants as form
use Rattle.asn_types.specs.declared.types.TypeLabel.{TypeLabel}
use Rattle.asn_types.specs.declared.modules.Assignment.{Assignment}
use Rattle.asn_types.specs.Marks as marked
use Rattle.asn_types.specs.Modules as modules
use Rattle.asn_types.specs.Parts.{parts_of}
use Rattle.asn_types.specs.Roles as roles
use Rattle.asn_types.specs.Refs as refs
use Rattle.module_text.specs.declared.types.PlainLabel.{PlainLabel}
use Rattle.module_text.specs.declared.modules.PlainAssignment.{PlainAssignment}
use Rattle.module_text.specs.Plain.{limit}
use Rattle.module_text.specs.Texts as laid
use Rattle.module_text.specs.declared.spots.Spot.{Spot}
use Rattle.module_text.specs.Told as told
use Rattle.module_text.specs.Resolving as resolving
use Rattle.module_text.specs.Orders as orders
use Rattle.module_text.specs.Printable.{HasPartMarks}
use Rattle.module_laws.proofs.Firsts.{mapped, all-at}
use Rattle.module_unique.specs.Utf8Texts.{TypeIsUtf8, TypesAreUtf8}
use Rattle.module_unique.proofs.Telling.{component_told, form_told, type_told, types_told, module_told}
use Rattle.module_unique.proofs.Values.{types_got}
use Rattle.module_unique.proofs.Goods.{GoodAt, AllGood, GoodBody}
use Rattle.module_unique.proofs.Back.{resolve_same}
use Rattle.module_unique.proofs.ClearOrders.{order_at, order_is}
use Rattle.module_unique.proofs.CleanForms.{both-so}
use Rattle.module_unique.proofs.CleanRoles.{AreMarked, label_told, component_got, role_told, absent_told, sequence_told, no_groups, elements_told, order_of, nil_same, embed_same, order_same}
use Rattle.module_unique.proofs.CleanKnown.{Known, known_sits, kid_known, resolve_known}

module _ (M : List Assignment) (distinct : IsDistinct bytes_eq (map (λ (a : Assignment). a.reference) M)) (all : All (GoodBody M) M) (utf8 : All (λ (a : Assignment). TypeIsUtf8 a.body) M) where
  abbrev P : List PlainAssignment
  P = module_told M

  types_long : (ts : Roses TypeLabel) → length_all (types_told M ts) ≡ length_all ts
  types_long none = refl
  types_long (more t ts) = ap suc (types_long ts)

  -- the type whose elements are in an order
  record InnerIs (inner : TypeLabel) (o : Option PlainLabel) : Type 0 where
    pub kids : Roses TypeLabel
    pub long : length_all kids ≡ length (parts_of inner.form)
    pub marked : AreMarked (parts_of inner.form)
    pub found : o ≡ Some (label_told M inner kids)

  node_inner : (u : Rose TypeLabel) → Known M u → InnerIs (label_of u) (Some (label_of (type_told M u)))
  node_inner (node k us) known = record { kids = us; long = known.good.0.long; marked = known.good.0.printable.parts; found = refl }

  inner_found : (inner : TypeLabel) (o p : Option PlainLabel) → p ≡ o → InnerIs inner o → InnerIs inner p
  inner_found inner o p e is = record { kids = is.kids; long = is.long; marked = is.marked; found = e ∙ is.found }

  module _ (spot : Spot) (l : TypeLabel) (ts : Roses TypeLabel) (good : GoodAt M spot l ts) (kids : AllGood M spot l 0 (parts_of l.form) ts) (low : depth_all ts ≤ limit) (texts : TypesAreUtf8 ts) where
    abbrev L : PlainLabel
    L = label_told M l ts

    abbrev TS : Roses PlainLabel
    TS = types_told M ts

    inner_by : (inner : TypeLabel) (nil : Bool) → (if nil then option_map (λ t. label_of (refs.resolve M t)) (slice_get (list_of ts) (length (parts_of l.form) - 1)) else Some l) ≡ Some inner
        → InnerIs inner (if nil then option_map (λ t. label_of (resolving.resolve P t)) (slice_get (list_of TS) (length (list_of TS) - 1)) else Some L)
    inner_by inner false e =
        let same : l ≡ inner = cc in
        let here : InnerIs l (Some L) = record { kids = ts; long = good.long; marked = good.printable.parts; found = refl } in
        subst (λ x. InnerIs x (Some L)) same here
    inner_by inner true e =
        let place = length (parts_of l.form) - 1 in
        let kid = mapped (λ t. label_of (refs.resolve M t)) (slice_get (list_of ts) place) inner e in
        let known = kid_known M ts spot l 0 (parts_of l.form) kids low texts place kid.0 kid.1 in
        let count = length-list_of TS in
        let as_many = types_long ts in
        let long = good.long in
        let last : length (list_of TS) ≡ length (parts_of l.form) = omega (arith, count, as_many, long) in
        let there = node_inner (refs.resolve M kid.0) (resolve_known M all utf8 kid.0 known) in
        let found : option_map (λ t. label_of (resolving.resolve P t)) (slice_get (list_of TS) (length (list_of TS) - 1)) ≡ Some (label_of (type_told M (refs.resolve M kid.0))) =
        ap (λ n. option_map (λ t. label_of (resolving.resolve P t)) (slice_get (list_of TS) (n - 1))) last
        ∙ ap (option_map (λ t. label_of (resolving.resolve P t))) (types_got M ts place ∙ ap (option_map (type_told M)) kid.1)
        ∙ ap (λ u. Some (label_of u)) (resolve_same M distinct all kid.0 (known_sits M kid.0 known)) in
        subst (λ x. InnerIs x (option_map (λ t. label_of (resolving.resolve P t)) (slice_get (list_of TS) (length (list_of TS) - 1)))) kid.2
        (inner_found (label_of (refs.resolve M kid.0)) _ _ found there)

    inner_is : (h : modules.HasOrderPart M l ts) → InnerIs h.inner (orders.ordered P L TS)
    inner_is h =
        let is = inner_by h.inner (marked.has_use_nil l.marks) h.inner_found in
        inner_found h.inner _ _
        (ap (λ b. if b then option_map (λ t. label_of (resolving.resolve P t)) (slice_get (list_of TS) (length (list_of TS) - 1)) else Some L) (nil_same l.form l.marks))
        is

    alone_by : (inner : TypeLabel) (us : Roses TypeLabel) (nil : Bool)
        → (nil ≡ true → (marked.has_use_nil inner.marks ≡ false) × (marked.has_embed_values inner.marks ≡ false) × (marked.has_use_order inner.marks ≡ false))
        → (if nil then orders.stands_alone (label_told M inner us) else true) ≡ true
    alone_by inner us false h = refl
    alone_by inner us true h =
        let k = label_told M inner us in
        let has = h refl in
        both-so (not (told.has_use_nil k.marks) && not (told.has_embed_values k.marks)) (not (told.has_use_order k.marks))
        (both-so (not (told.has_use_nil k.marks)) (not (told.has_embed_values k.marks))
        (ap not (nil_same inner.form inner.marks ∙ has.0))
        (ap not (embed_same inner.form inner.marks ∙ has.1)))
        (ap not (order_same inner.form inner.marks ∙ has.2))

    sequence_got : (f : Form) (i : ℕ) (part : Component) (t : Rose TypeLabel) → modules.IsSequence f → length_all ts ≡ length (parts_of f) → slice_get (parts_of f) i ≡ Some part → slice_get (list_of ts) i ≡ Some t
        → slice_get (laid.parts_of (form_told M f ts)) i ≡ Some (component_told M part t)
    sequence_got (form.Sequence parts) i part t is long e found =
        let got = component_got M parts ts i part long e in
        let same : got.type ≡ t = some_same got.type t (sym got.found ∙ found) in
        got.told ∙ ap (λ u. Some (component_told M part u)) same
      where
        some_same : (u v : Rose TypeLabel) → Some u ≡ Some v → u ≡ v
        some_same u v e = cc
    sequence_got f i part t is long e found = absurd is

    order_part : (h : modules.HasOrderPart M l ts) (us : Roses TypeLabel) → length_all us ≡ length (parts_of h.inner.form) → AreMarked (parts_of h.inner.form)
        → orders.is_order_part L TS (label_told M h.inner us) ≡ true
    order_part h us long marks =
        let inner = label_told M h.inner us in
        let n = roles.order_place l.marks in
        let place : resolving.order_place L.marks ≡ n = ap (λ b. if b then 1 else 0) (embed_same l.form l.marks) in
        let part = component_told M h.part h.type in
        let has = all-at (λ (p : Component). HasPartMarks p.identifier p.marks) (parts_of l.form) n h.part good.printable.parts h.part_found.0 in
        let role = orders.is_order (resolving.role_of L n part) in
        let present = not (orders.may_be_absent part.absence) in
        order_is L TS inner (Some part) (Some (type_told M h.type))
        (ap (slice_get (laid.parts_of L.form)) place ∙ sequence_got l.form n h.part h.type h.sequence good.long h.part_found.0 h.part_found.1)
        (ap (slice_get (list_of TS)) place ∙ types_got M ts n ∙ ap (option_map (type_told M)) h.part_found.1)
        ∙ ap (λ k. order_at L inner k (Some part) (Some (type_told M h.type))) place
        ∙ both-so (role && present) (orders.is_order_of (orders.element_identifiers inner) (type_told M h.type))
        (both-so role present
        (ap orders.is_order (role_told M l ts n h.part h.type good.long has.part ∙ h.role))
        (ap not (absent_told M h.part h.type h.part.optional h.part.standard ∙ h.present)))
        (ap (λ names. orders.is_order_of names (type_told M h.type)) (elements_told M h.inner us h.inner_sequence long marks) ∙ order_of M (map (λ (p : Component). p.identifier) (modules.element_parts h.inner)) h.type h.identifiers)

    pub order_told : modules.HasOrderPart M l ts → orders.has_order_part P L TS ≡ true
    order_told h =
        let is = inner_is h in
        let inner = label_told M h.inner is.kids in
        let alone = if told.has_use_nil L.marks then orders.stands_alone inner else true in
        both-so (orders.is_sequence L.form && orders.has_no_group L) (orders.is_ordered L (orders.ordered P L TS) TS)
        (both-so (orders.is_sequence L.form) (orders.has_no_group L) (sequence_told M l.form ts h.sequence) (no_groups M l ts h.sequence good.long good.printable.parts h.groups))
        (ap (λ o. orders.is_ordered L o TS) is.found
        ∙ both-so (orders.is_sequence inner.form && orders.has_no_group inner && alone) (orders.is_order_part L TS inner)
        (both-so (orders.is_sequence inner.form && orders.has_no_group inner) alone
        (both-so (orders.is_sequence inner.form) (orders.has_no_group inner) (sequence_told M h.inner.form is.kids h.inner_sequence) (no_groups M h.inner is.kids h.inner_sequence is.long is.marked h.inner_groups))
        (ap (λ b. if b then orders.stands_alone inner else true) (nil_same l.form l.marks) ∙ alone_by h.inner is.kids (marked.has_use_nil l.marks) h.inner_alone))
        (order_part h is.kids is.long is.marked))
