-- What EMBED-VALUES, USE-NIL and USE-ORDER ask of a text, they have in the module that it tells.
use Rattle.std.proofs.Common.{◌≡◌, ℕ, zero, suc, ◌+◌, ◌-◌, Bool, true, false, ◌&&◌, not, Option, Some, None, List, [], ◌∷◌, length, map, refl, sym, ap, ◌∙◌, subst, arith, option_map}
use Rattle.std.specs.Prelude.{bytes_eq, slice_get, if◌then◌else◌}
use Rattle.std.proofs.lemmas.Bool.{true≢false}
use Rattle.base_trees.specs.Rose.{Rose, node, Roses, label_of, list_of, length_all}
use Rattle.base_trees.specs.Rose as rose
use Rattle.simple_types.specs.declared.simples.Class.TheVariants as class_
use Rattle.asn_types.specs.declared.roles.Role.{Role}
use Rattle.asn_types.specs.declared.roles.Role.TheVariants as role
use Rattle.asn_types.specs.declared.types.Component.{Component}
use Rattle.asn_types.specs.declared.types.Form.TheVariants as meant
use Rattle.asn_types.specs.declared.types.TypeLabel.{TypeLabel}
use Rattle.asn_types.specs.Marks as marked
use Rattle.asn_types.specs.Parts as parts
use Rattle.asn_types.specs.Roles as roles
use Rattle.asn_types.specs.Refs as refs
use Rattle.asn_types.specs.Refs.{is_element}
use Rattle.asn_types.specs.Modules as modules
use Rattle.module_text.specs.declared.marks.TypeMark.{TypeMark}
use Rattle.module_text.specs.declared.types.PlainPart.{PlainPart}
use Rattle.module_text.specs.declared.types.PlainForm.{PlainForm}
use Rattle.module_text.specs.declared.types.PlainForm.TheVariants as form
use Rattle.module_text.specs.declared.types.PlainLabel.{PlainLabel}
use Rattle.module_text.specs.declared.modules.PlainAssignment.{PlainAssignment}
use Rattle.module_text.specs.Texts.{parts_of}
use Rattle.module_text.specs.Plain.{IsType, AreTypes}
use Rattle.module_text.specs.declared.spots.Spot.{Spot}
use Rattle.module_text.specs.declared.spots.Spot.TheVariants as spot_
use Rattle.module_text.specs.Told as told
use Rattle.module_text.specs.Resolving.{order_place, role_of, resolve}
use Rattle.module_text.specs.Simple.{item_spot}
use Rattle.module_text.specs.Orders as orders
use Rattle.module_text.specs.Orders.{may_be_absent}
use Rattle.module_text.specs.Faults.{part_spot}
use Rattle.module_text.specs.Meaning.{type_marks_meant, names_of, component_meant, components_meant, form_meant, type_meant, types_meant, module_meant}
use Rattle.module_text.proofs.PrintedBounds.{and-first, and-second}
use Rattle.module_laws.proofs.Firsts.{same_bytes, mapped, got-within, got-at}
use Rattle.module_laws.proofs.WordLaws.{not-true}
use Rattle.module_laws.proofs.RoleLaws.{parts-meant, components-long, label_meant, role-same, nil-same, embed-same, order-same}
use Rattle.module_laws.proofs.ResolveLaws.{AllLead, AllTyped, Leads, through, resolve-meant, resolved-typed}

list-long : (ts : Roses PlainLabel) → length (list_of ts) ≡ length_all ts
list-long rose.none = refl
list-long (rose.more t ts) = ap suc (list-long ts)

-- ---- parts by their numbers

module _ (P : List PlainAssignment) where
  -- the part with this number, behind others
  pub record PartAt (spot : Spot) (l : PlainLabel) (i : ℕ) (ps : List PlainPart) (ts : Roses PlainLabel) (k : ℕ) (part : PlainPart) : Type 0 where
    pub type : Rose PlainLabel
    pub kid : slice_get (list_of ts) k ≡ Some type
    pub part_found : slice_get (components_meant P spot l i ps ts) k ≡ Some (component_meant P (part_spot spot l (i + k) part) part type)
    pub type_found : slice_get (list_of (types_meant P spot l i ps ts)) k ≡ Some (type_meant P (part_spot spot l (i + k) part) type)
    pub typed : IsType type

  pub part-at : (spot : Spot) (l : PlainLabel) (i : ℕ) (ps : List PlainPart) (ts : Roses PlainLabel) (k : ℕ) (part : PlainPart) → length_all ts ≡ length ps → AreTypes ts
      → slice_get ps k ≡ Some part → PartAt spot l i ps ts k part
  part-at spot l i [] ts k part long types e = absurd (cc)
  part-at spot l i (p ∷ ps) rose.none k part long types e = absurd (omega (arith, long))
  part-at spot l i (p ∷ ps) (rose.more t ts) zero part long types e =
      let same : p ≡ part = cc in
      let here : i ≡ i + 0 = omega arith in
      let Q : PlainPart → Type 0 = λ q. PartAt spot l i (p ∷ ps) (rose.more t ts) zero q in
      subst Q same (record {
        type = t;
        kid = refl;
        part_found = ap (λ j. Some (component_meant P (part_spot spot l j p) p t)) here;
        type_found = ap (λ j. Some (type_meant P (part_spot spot l j p) t)) here;
        typed = types.0;
      })
  part-at spot l i (p ∷ ps) (rose.more t ts) (suc k) part long types e =
      let rest = part-at spot l (i + 1) ps ts k part (omega (arith, long)) types.1 e in
      let there : (i + 1) + k ≡ i + suc k = omega arith in
      record {
        type = rest.type;
        kid = rest.kid;
        part_found = rest.part_found ∙ ap (λ j. Some (component_meant P (part_spot spot l j part) part rest.type)) there;
        type_found = rest.type_found ∙ ap (λ j. Some (type_meant P (part_spot spot l j part) rest.type)) there;
        typed = rest.typed;
      }

  -- ---- USE-NIL

  content_by : (spot : Spot) (l : PlainLabel) (ps : List PlainPart) (ts : Roses PlainLabel) → length_all ts ≡ length ps → AreTypes ts → (o : Option PlainPart) → slice_get ps (length ps - 1) ≡ o
      → (elim o [ None ↦ false | Some part ↦ may_be_absent part.absence ]) ≡ true
      → (part : Component) × (slice_get (components_meant P spot l 0 ps ts) (length (components_meant P spot l 0 ps ts) - 1) ≡ Some part) × (part.optional ≡ true)
  content_by spot l ps ts long types None is e = absurd (true≢false (sym e))
  content_by spot l ps ts long types (Some part) is e =
      let cs = components_meant P spot l 0 ps ts in
      let a = part-at spot l 0 ps ts (length ps - 1) part long types is in (
        component_meant P (part_spot spot l (0 + (length ps - 1)) part) part a.type,
        ap (λ n. slice_get cs (n - 1)) (components-long P spot l 0 ps ts long) ∙ a.part_found,
        e,
      )

  pub content-is : (at : ℕ) (ms : List TypeMark) (f : PlainForm) (ts : Roses PlainLabel) (spot : Spot) → length_all ts ≡ length (parts_of f) → AreTypes ts → orders.has_content f ≡ true
      → modules.HasContent (form_meant P spot (record { at = at; marks = ms; form = f }) ts)
  content-is at ms form.Bool ts spot long types e = absurd (true≢false (sym e))
  content-is at ms (form.Int r) ts spot long types e = absurd (true≢false (sym e))
  content-is at ms (form.Numbers items) ts spot long types e = absurd (true≢false (sym e))
  content-is at ms (form.Words names) ts spot long types e = absurd (true≢false (sym e))
  content-is at ms (form.Utf8 size class) ts spot long types e = absurd (true≢false (sym e))
  content-is at ms (form.Sequence ps) ts spot long types e =
      content_by spot (record { at = at; marks = ms; form = form.Sequence ps }) ps ts long types (slice_get ps (length ps - 1)) refl e
  content-is at ms (form.Choice ps) ts spot long types e = absurd (true≢false (sym e))
  content-is at ms (form.SequenceOf size item) ts spot long types e = absurd (true≢false (sym e))
  content-is at ms (form.Ref reference) ts spot long types e = absurd (true≢false (sym e))

  -- ---- EMBED-VALUES

  any_text : (at : ℕ) (ms : List TypeMark) (f : PlainForm) (ts : Roses PlainLabel) (spot : Spot) → orders.is_any_text f ≡ true
      → form_meant P spot (record { at = at; marks = ms; form = f }) ts ≡ meant.Utf8 0 None class_.Any
  any_text at ms form.Bool ts spot e = absurd (true≢false (sym e))
  any_text at ms (form.Int r) ts spot e = absurd (true≢false (sym e))
  any_text at ms (form.Numbers items) ts spot e = absurd (true≢false (sym e))
  any_text at ms (form.Words names) ts spot e = absurd (true≢false (sym e))
  any_text at ms (form.Utf8 None class_.Any) ts spot e = refl
  any_text at ms (form.Utf8 None class_.Language) ts spot e = absurd (true≢false (sym e))
  any_text at ms (form.Utf8 None class_.NmToken) ts spot e = absurd (true≢false (sym e))
  any_text at ms (form.Utf8 None class_.Name) ts spot e = absurd (true≢false (sym e))
  any_text at ms (form.Utf8 None class_.NcName) ts spot e = absurd (true≢false (sym e))
  any_text at ms (form.Utf8 (Some size) class) ts spot e = absurd (true≢false (sym e))
  any_text at ms (form.Sequence ps) ts spot e = absurd (true≢false (sym e))
  any_text at ms (form.Choice ps) ts spot e = absurd (true≢false (sym e))
  any_text at ms (form.SequenceOf size item) ts spot e = absurd (true≢false (sym e))
  any_text at ms (form.Ref reference) ts spot e = absurd (true≢false (sym e))

  text_list : (at : ℕ) (ms : List TypeMark) (f : PlainForm) (u : Rose PlainLabel) (us : Roses PlainLabel) (spot : Spot) → (orders.is_any_list f && orders.is_any_text (label_of u).form) ≡ true
      → modules.AreTexts (type_meant P spot (node (record { at = at; marks = ms; form = f }) (rose.more u us)))
  text_list at ms form.Bool u us spot e = absurd (true≢false (sym e))
  text_list at ms (form.Int r) u us spot e = absurd (true≢false (sym e))
  text_list at ms (form.Numbers items) u us spot e = absurd (true≢false (sym e))
  text_list at ms (form.Words names) u us spot e = absurd (true≢false (sym e))
  text_list at ms (form.Utf8 size class) u us spot e = absurd (true≢false (sym e))
  text_list at ms (form.Sequence ps) u us spot e = absurd (true≢false (sym e))
  text_list at ms (form.Choice ps) u us spot e = absurd (true≢false (sym e))
  text_list at ms (form.SequenceOf None item) (node l ts) us spot e = (_, refl, any_text l.at l.marks l.form ts _ e)
  text_list at ms (form.SequenceOf (Some size) item) u us spot e = absurd (true≢false (sym e))
  text_list at ms (form.Ref reference) u us spot e = absurd (true≢false (sym e))

  texts_of : (t : Rose PlainLabel) (spot : Spot) → orders.is_text_list t ≡ true → modules.AreTexts (type_meant P spot t)
  texts_of (node l rose.none) spot e = absurd (true≢false (sym e))
  texts_of (node l (rose.more u us)) spot e = text_list l.at l.marks l.form u us spot e

  pub texts-are : (at : ℕ) (ms : List TypeMark) (f : PlainForm) (ts : Roses PlainLabel) (spot : Spot) → length_all ts ≡ length (parts_of f) → orders.has_texts f ts ≡ true
      → let l : PlainLabel = record { at = at; marks = ms; form = f } in modules.HasTexts (form_meant P spot l ts) (types_meant P spot l 0 (parts_of f) ts)
  texts-are at ms f rose.none spot long e = absurd (true≢false (sym e))
  texts-are at ms form.Bool (rose.more t ts) spot long e = absurd (true≢false (sym e))
  texts-are at ms (form.Int r) (rose.more t ts) spot long e = absurd (true≢false (sym e))
  texts-are at ms (form.Numbers items) (rose.more t ts) spot long e = absurd (true≢false (sym e))
  texts-are at ms (form.Words names) (rose.more t ts) spot long e = absurd (true≢false (sym e))
  texts-are at ms (form.Utf8 size class) (rose.more t ts) spot long e = absurd (true≢false (sym e))
  texts-are at ms (form.Sequence []) (rose.more t ts) spot long e = absurd (omega (arith, long))
  texts-are at ms (form.Sequence (part ∷ ps)) (rose.more t ts) spot long e = texts_of t _ e
  texts-are at ms (form.Choice ps) (rose.more t ts) spot long e = absurd (true≢false (sym e))
  texts-are at ms (form.SequenceOf size item) (rose.more t ts) spot long e = absurd (true≢false (sym e))
  texts-are at ms (form.Ref reference) (rose.more t ts) spot long e = absurd (true≢false (sym e))

  -- ---- parts with a role

  module _ (is to : Role → Bool) (same : (r : Role) → to r ≡ is r) (spot : Spot) (l : PlainLabel) (us : Roses PlainLabel) (wide : length_all us ≡ length (parts_of l.form)) where
    abbrev names_with : List PlainPart → List (List ℕ)
    names_with ps = map (λ (part : PlainPart). part.identifier) ps

    abbrev names_from : List Component → List (List ℕ)
    names_from cs = map (λ (part : Component). part.identifier) cs

    either_role : (b : Bool) (part : PlainPart) (c : Component) (cs : List Component) (ps : List PlainPart) → c.identifier ≡ part.identifier → names_from cs ≡ names_with ps
        → names_from (if b then c ∷ cs else cs) ≡ names_with (if b then part ∷ ps else ps)
    either_role true part c cs ps e rest = ap (λ n. n ∷ names_from cs) e ∙ ap (λ ns. part.identifier ∷ ns) rest
    either_role false part c cs ps e rest = rest

    with_role : (i : ℕ) (ps : List PlainPart) (ts : Roses PlainLabel) → length_all ts ≡ length ps
        → names_from (modules.parts_from (label_meant P spot l us) to i (components_meant P spot l i ps ts)) ≡ names_with (orders.parts_from l is i ps)
    with_role i [] ts long = refl
    with_role i (part ∷ ps) rose.none long = absurd (omega (arith, long))
    with_role i (part ∷ ps) (rose.more t ts) long =
        let L = label_meant P spot l us in
        let there = part_spot spot l i part in
        let c = component_meant P there part t in
        let cs = modules.parts_from L to (i + 1) (components_meant P spot l (i + 1) ps ts) in
        ap (λ b. names_from (if b then c ∷ cs else cs)) (ap to (role-same P spot l us i there part t wide) ∙ same (role_of l i part))
        ∙ either_role (is (role_of l i part)) part c cs (orders.parts_from l is (i + 1) ps) refl (with_role (i + 1) ps ts (omega (arith, long)))

    pub roles-same : names_from (modules.parts_from (label_meant P spot l us) to 0 (parts.parts_of (label_meant P spot l us).form)) ≡ names_with (orders.parts_from l is 0 (parts_of l.form))
    roles-same = ap (λ cs. names_from (modules.parts_from (label_meant P spot l us) to 0 cs)) (parts-meant P l us spot wide) ∙ with_role 0 (parts_of l.form) us wide

  -- ---- USE-ORDER

  group_same : (r : Role) → modules.is_group r ≡ orders.is_group r
  group_same role.Attribute = refl
  group_same role.Element = refl
  group_same role.Group = refl
  group_same role.Content = refl
  group_same role.Embed = refl
  group_same role.Order = refl
  group_same role.Item = refl
  group_same role.Alternative = refl

  order_is : (r : Role) → orders.is_order r ≡ true → r ≡ role.Order
  order_is role.Attribute e = absurd (true≢false (sym e))
  order_is role.Element e = absurd (true≢false (sym e))
  order_is role.Group e = absurd (true≢false (sym e))
  order_is role.Content e = absurd (true≢false (sym e))
  order_is role.Embed e = absurd (true≢false (sym e))
  order_is role.Order e = refl
  order_is role.Item e = absurd (true≢false (sym e))
  order_is role.Alternative e = absurd (true≢false (sym e))

  nothing_named : (ps : List PlainPart) (cs : List Component) → orders.are_none ps ≡ true → map (λ (part : Component). part.identifier) cs ≡ map (λ (part : PlainPart). part.identifier) ps → cs ≡ []
  nothing_named [] [] e f = refl
  nothing_named [] (c ∷ cs) e f = absurd (cc)
  nothing_named (part ∷ ps) cs e f = absurd (true≢false (sym e))

  no_groups : (spot : Spot) (l : PlainLabel) (ts : Roses PlainLabel) → length_all ts ≡ length (parts_of l.form) → orders.has_no_group l ≡ true → modules.group_parts (label_meant P spot l ts) ≡ []
  no_groups spot l ts long e =
      nothing_named (orders.parts_from l orders.is_group 0 (parts_of l.form)) _ e (roles-same orders.is_group modules.is_group group_same spot l ts long)

  sequence_by : (at : ℕ) (ms : List TypeMark) (f : PlainForm) (ts : Roses PlainLabel) (spot : Spot) → orders.is_sequence f ≡ true
      → modules.IsSequence (form_meant P spot (record { at = at; marks = ms; form = f }) ts) × (orders.is_sequence_of f ≡ false)
  sequence_by at ms form.Bool ts spot e = absurd (true≢false (sym e))
  sequence_by at ms (form.Int r) ts spot e = absurd (true≢false (sym e))
  sequence_by at ms (form.Numbers items) ts spot e = absurd (true≢false (sym e))
  sequence_by at ms (form.Words names) ts spot e = absurd (true≢false (sym e))
  sequence_by at ms (form.Utf8 size class) ts spot e = absurd (true≢false (sym e))
  sequence_by at ms (form.Sequence ps) ts spot e = (tt, refl)
  sequence_by at ms (form.Choice ps) ts spot e = absurd (true≢false (sym e))
  sequence_by at ms (form.SequenceOf size item) ts spot e = absurd (true≢false (sym e))
  sequence_by at ms (form.Ref reference) ts spot e = absurd (true≢false (sym e))

  names_equal : (bs cs : List (List ℕ)) → orders.are_equal bs cs ≡ true → cs ≡ bs
  names_equal [] [] e = refl
  names_equal [] (c ∷ cs) e = absurd (true≢false (sym e))
  names_equal (b ∷ bs) [] e = absurd (true≢false (sym e))
  names_equal (b ∷ bs) (c ∷ cs) e =
      let first = same_bytes b c (and-first (bytes_eq b c) (orders.are_equal bs cs) e) in
      ap (λ x. x ∷ cs) (sym first) ∙ ap (λ xs. b ∷ xs) (names_equal bs cs (and-second (bytes_eq b c) (orders.are_equal bs cs) e))

  -- the items of an order
  order_items : (names : List (List ℕ)) (at : ℕ) (ms : List TypeMark) (f : PlainForm) (ts : Roses PlainLabel) → orders.are_identifiers names f ≡ true
      → form_meant P spot_.OrderItem (record { at = at; marks = ms; form = f }) ts ≡ meant.Order names
  order_items names at ms form.Bool ts e = absurd (true≢false (sym e))
  order_items names at ms (form.Int r) ts e = absurd (true≢false (sym e))
  order_items names at ms (form.Numbers items) ts e = absurd (true≢false (sym e))
  order_items names at ms (form.Words is) ts e = ap (λ ns. meant.Order ns) (names_equal names (names_of is) e)
  order_items names at ms (form.Utf8 size class) ts e = absurd (true≢false (sym e))
  order_items names at ms (form.Sequence ps) ts e = absurd (true≢false (sym e))
  order_items names at ms (form.Choice ps) ts e = absurd (true≢false (sym e))
  order_items names at ms (form.SequenceOf size item) ts e = absurd (true≢false (sym e))
  order_items names at ms (form.Ref reference) ts e = absurd (true≢false (sym e))

  order_list : (names : List (List ℕ)) (at : ℕ) (ms : List TypeMark) (f : PlainForm) (u : Rose PlainLabel) (us : Roses PlainLabel)
      → (orders.is_any_list f && orders.are_identifiers names (label_of u).form) ≡ true
      → modules.IsOrderOf names (type_meant P spot_.Order (node (record { at = at; marks = ms; form = f }) (rose.more u us)))
  order_list names at ms form.Bool u us e = absurd (true≢false (sym e))
  order_list names at ms (form.Int r) u us e = absurd (true≢false (sym e))
  order_list names at ms (form.Numbers items) u us e = absurd (true≢false (sym e))
  order_list names at ms (form.Words is) u us e = absurd (true≢false (sym e))
  order_list names at ms (form.Utf8 size class) u us e = absurd (true≢false (sym e))
  order_list names at ms (form.Sequence ps) u us e = absurd (true≢false (sym e))
  order_list names at ms (form.Choice ps) u us e = absurd (true≢false (sym e))
  order_list names at ms (form.SequenceOf None item) (node l ts) us e = (_, refl, order_items names l.at l.marks l.form ts e)
  order_list names at ms (form.SequenceOf (Some size) item) u us e = absurd (true≢false (sym e))
  order_list names at ms (form.Ref reference) u us e = absurd (true≢false (sym e))

  order_of : (names : List (List ℕ)) (t : Rose PlainLabel) → orders.is_order_of names t ≡ true → modules.IsOrderOf names (type_meant P spot_.Order t)
  order_of names (node l rose.none) e = absurd (true≢false (sym e))
  order_of names (node l (rose.more u us)) e = order_list names l.at l.marks l.form u us e

  -- the part that has the order
  pub record OrderPart (spot : Spot) (l : PlainLabel) (ts : Roses PlainLabel) (inner : PlainLabel) : Type 0 where
    pub part : Component
    pub type : Rose TypeLabel
    pub found : parts.IsPart (label_meant P spot l ts) (types_meant P spot l 0 (parts_of l.form) ts) (roles.order_place (label_meant P spot l ts).marks) part type
    pub role : roles.role_of (label_meant P spot l ts) (roles.order_place (label_meant P spot l ts).marks) part ≡ role.Order
    pub present : part.optional ≡ false
    pub items : modules.IsOrderOf (orders.element_identifiers inner) type

  place-same : (spot : Spot) (l : PlainLabel) → roles.order_place (type_marks_meant spot l.form l.marks) ≡ order_place l.marks
  place-same spot l = ap (λ b. if b then 1 else 0) (embed-same spot l.form l.marks)

  module _ (spot : Spot) (l : PlainLabel) (ts : Roses PlainLabel) (inner : PlainLabel) (long : length_all ts ≡ length (parts_of l.form)) (types : AreTypes ts) (flat : orders.is_sequence_of l.form ≡ false) where
    order_from : (part : PlainPart) → slice_get (parts_of l.form) (order_place l.marks) ≡ Some part → (t : Rose PlainLabel) → slice_get (list_of ts) (order_place l.marks) ≡ Some t
        → (orders.is_order (role_of l (order_place l.marks) part) && not (may_be_absent part.absence) && orders.is_order_of (orders.element_identifiers inner) t) ≡ true → OrderPart spot l ts inner
    order_from part is t got e =
        let k = order_place l.marks in
        let place = place-same spot l in
        let there = part_spot spot l (0 + k) part in
        let a = part-at spot l 0 (parts_of l.form) ts k part long types is in
        let kid = a.kid in
        let same : t ≡ a.type = cc in
        let is_order = orders.is_order (role_of l k part) in
        let first = and-first (is_order && not (may_be_absent part.absence)) (orders.is_order_of (orders.element_identifiers inner) t) e in
        let has : is_order ≡ true = and-first is_order (not (may_be_absent part.absence)) first in
        let c = component_meant P there part a.type in
        let start : 0 + k ≡ k = omega arith in
        let at_order : there ≡ spot_.Order =
        ap (λ j. part_spot spot l j part) start
        ∙ ap (λ b. if b then item_spot spot else (if is_order then spot_.Order else spot_.Elsewhere)) flat
        ∙ ap (λ b. if b then spot_.Order else spot_.Elsewhere) has in
        record {
          part = c;
          type = type_meant P there a.type;
          found = (
            ap (λ j. slice_get (parts.parts_of (form_meant P spot l ts)) j) place ∙ ap (λ cs. slice_get cs k) (parts-meant P l ts spot long) ∙ a.part_found,
            ap (λ j. slice_get (list_of (types_meant P spot l 0 (parts_of l.form) ts)) j) place ∙ a.type_found,
          );
          role = ap (λ j. roles.role_of (label_meant P spot l ts) j c) place ∙ role-same P spot l ts k there part a.type long ∙ order_is (role_of l k part) has;
          present = not-true (may_be_absent part.absence) (and-second is_order (not (may_be_absent part.absence)) first);
          items =
              subst (λ s. modules.IsOrderOf (orders.element_identifiers inner) (type_meant P s a.type)) (sym at_order)
              (order_of (orders.element_identifiers inner) a.type
              (sym (ap (orders.is_order_of (orders.element_identifiers inner)) same) ∙ and-second (is_order && not (may_be_absent part.absence)) (orders.is_order_of (orders.element_identifiers inner) t) e));
        }

    order_kid : (part : PlainPart) → slice_get (parts_of l.form) (order_place l.marks) ≡ Some part → (o : Option (Rose PlainLabel)) → slice_get (list_of ts) (order_place l.marks) ≡ o
        → (elim o [ None ↦ false | Some t ↦ orders.is_order (role_of l (order_place l.marks) part) && not (may_be_absent part.absence) && orders.is_order_of (orders.element_identifiers inner) t ]) ≡ true
        → OrderPart spot l ts inner
    order_kid part is None got e = absurd (true≢false (sym e))
    order_kid part is (Some t) got e = order_from part is t got e

    order_part : (o : Option PlainPart) → slice_get (parts_of l.form) (order_place l.marks) ≡ o
        → (elim o [
          | None ↦ false
          | Some part ↦ elim (slice_get (list_of ts) (order_place l.marks)) [
            | None ↦ false
            | Some t ↦ orders.is_order (role_of l (order_place l.marks) part) && not (may_be_absent part.absence) && orders.is_order_of (orders.element_identifiers inner) t
          ]
        ]) ≡ true → OrderPart spot l ts inner
    order_part None is e = absurd (true≢false (sym e))
    order_part (Some part) is e = order_kid part is (slice_get (list_of ts) (order_place l.marks)) refl e

    pub order-part : orders.is_order_part l ts inner ≡ true → OrderPart spot l ts inner
    order-part e = order_part (slice_get (parts_of l.form) (order_place l.marks)) refl e

  -- the type whose elements are in the order
  pub record Inner (spot : Spot) (l : PlainLabel) (ts : Roses PlainLabel) (inner : PlainLabel) : Type 0 where
    pub at : Spot
    pub kids : Roses PlainLabel
    pub long : length_all kids ≡ length (parts_of inner.form)
    pub found : modules.ordered (module_meant P) (label_meant P spot l ts) (types_meant P spot l 0 (parts_of l.form) ts) ≡ Some (label_meant P at inner kids)

  element_same : (r : Role) → is_element r ≡ is_element r
  element_same r = refl

  nil_alone : (spot : Spot) (l inner : PlainLabel) → (if told.has_use_nil l.marks then orders.stands_alone inner else true) ≡ true → marked.has_use_nil (type_marks_meant spot l.form l.marks) ≡ true
      → (at : Spot) → (marked.has_use_nil (type_marks_meant at inner.form inner.marks) ≡ false) × (marked.has_embed_values (type_marks_meant at inner.form inner.marks) ≡ false) × (marked.has_use_order (type_marks_meant at inner.form inner.marks) ≡ false)
  nil_alone spot l inner e f at =
      let nil = sym (nil-same spot l.form l.marks) ∙ f in
      let stands = sym (ap (λ b. if b then orders.stands_alone inner else true) nil) ∙ e in
      let a = not (told.has_use_nil inner.marks) in
      let b = not (told.has_embed_values inner.marks) in
      let c = not (told.has_use_order inner.marks) in
      let ab = and-first (a && b) c stands in (
        nil-same at inner.form inner.marks ∙ not-true (told.has_use_nil inner.marks) (and-first a b ab),
        embed-same at inner.form inner.marks ∙ not-true (told.has_embed_values inner.marks) (and-second a b ab),
        order-same at inner.form inner.marks ∙ not-true (told.has_use_order inner.marks) (and-second (a && b) c stands),
      )

  order_has : (spot : Spot) (l : PlainLabel) (ts : Roses PlainLabel) (inner : PlainLabel) → length_all ts ≡ length (parts_of l.form) → AreTypes ts → orders.is_sequence l.form ≡ true → orders.has_no_group l ≡ true
      → Inner spot l ts inner → orders.is_ordered l (Some inner) ts ≡ true
      → modules.HasOrderPart (module_meant P) (label_meant P spot l ts) (types_meant P spot l 0 (parts_of l.form) ts)
  order_has spot l ts inner long types seq free i e =
      let a = orders.is_sequence inner.form in
      let b = orders.has_no_group inner in
      let c = if told.has_use_nil l.marks then orders.stands_alone inner else true in
      let d = orders.is_order_part l ts inner in
      let abc = and-first ((a && b) && c) d e in
      let ab = and-first (a && b) c abc in
      let s = sequence_by l.at l.marks l.form ts spot seq in
      let p = order-part spot l ts inner long types s.1 (and-second ((a && b) && c) d e) in
      record {
        sequence = s.0;
        groups = no_groups spot l ts long free;
        inner = label_meant P i.at inner i.kids;
        inner_found = i.found;
        inner_sequence = (sequence_by inner.at inner.marks inner.form i.kids i.at (and-first a b ab)).0;
        inner_groups = no_groups i.at inner i.kids i.long (and-second a b ab);
        inner_alone = λ f. nil_alone spot l inner (and-second (a && b) c abc) f i.at;
        part = p.part;
        type = p.type;
        part_found = p.found;
        role = p.role;
        present = p.present;
        identifiers = subst (λ ns. modules.IsOrderOf ns p.type) (sym (roles-same is_element is_element element_same i.at inner i.kids i.long)) p.items;
      }

  module _ (leads : AllLead P) (typed : AllTyped P) where
    -- through USE-NIL
    inner_of : (spot there : Spot) (l : PlainLabel) (ts : Roses PlainLabel) (t u : Rose PlainLabel) → resolve P t ≡ u → IsType u → Leads P (label_of t).form → (inner : PlainLabel) → label_of u ≡ inner
        → modules.ordered (module_meant P) (label_meant P spot l ts) (types_meant P spot l 0 (parts_of l.form) ts) ≡ Some (label_of (refs.resolve (module_meant P) (type_meant P there t)))
        → Inner spot l ts inner
    inner_of spot there l ts t (node m us) is typed_ h inner e found =
        let Q : PlainLabel → Type 0 = λ k. Inner spot l ts k in
        let R : Rose PlainLabel → Type 0 = λ u. refs.resolve (module_meant P) (type_meant P there t) ≡ type_meant P (through P there t) u in
        let meant_ = subst R is (resolve-meant P leads there t h) in
        subst Q e (record { at = through P there t; kids = us; long = typed_.2; found = found ∙ ap (λ v. Some (label_of v)) meant_ })

    inner_kid : (spot : Spot) (l : PlainLabel) (ts : Roses PlainLabel) → length_all ts ≡ length (parts_of l.form) → AreTypes ts
        → ((t : Rose PlainLabel) → slice_get (list_of ts) (length (list_of ts) - 1) ≡ Some t → Leads P (label_of t).form)
        → told.has_use_nil l.marks ≡ true → (inner : PlainLabel) (t : Rose PlainLabel) → slice_get (list_of ts) (length (list_of ts) - 1) ≡ Some t → label_of (resolve P t) ≡ inner → Inner spot l ts inner
    inner_kid spot l ts long types h nil inner t got e =
        let k = length (parts_of l.form) - 1 in
        let many = list-long ts in
        let last : length (list_of ts) - 1 ≡ k = omega (arith, many, long) in
        let within = got-within (list_of ts) (length (list_of ts) - 1) t got in
        let p = got-at (parts_of l.form) k (omega (arith, within, many, long)) in
        let a = part-at spot l 0 (parts_of l.form) ts k p.0 long types p.1 in
        let there = part_spot spot l (0 + k) p.0 in
        let here = sym (ap (λ j. slice_get (list_of ts) j) last) ∙ got in
        let kid = a.kid in
        let same : a.type ≡ t = cc in
        let us = types_meant P spot l 0 (parts_of l.form) ts in
        let wide : length (parts.parts_of (form_meant P spot l ts)) ≡ length (parts_of l.form) = ap length (parts-meant P l ts spot long) ∙ components-long P spot l 0 (parts_of l.form) ts long in
        inner_of spot there l ts t (resolve P t) refl (resolved-typed P typed t (subst (λ u. IsType u) same a.typed)) (h t got) inner e
        (ap (λ b. if b then option_map (λ t. label_of (refs.resolve (module_meant P) t)) (slice_get (list_of us) (length (parts.parts_of (form_meant P spot l ts)) - 1)) else Some (label_meant P spot l ts)) (nil-same spot l.form l.marks ∙ nil)
        ∙ ap (λ n. option_map (λ t. label_of (refs.resolve (module_meant P) t)) (slice_get (list_of us) (n - 1))) wide
        ∙ ap (λ o. option_map (λ t. label_of (refs.resolve (module_meant P) t)) o) a.type_found
        ∙ ap (λ u. Some (label_of (refs.resolve (module_meant P) (type_meant P there u)))) same)

    inner_nil : (spot : Spot) (l : PlainLabel) (ts : Roses PlainLabel) → length_all ts ≡ length (parts_of l.form) → AreTypes ts
        → ((t : Rose PlainLabel) → slice_get (list_of ts) (length (list_of ts) - 1) ≡ Some t → Leads P (label_of t).form)
        → told.has_use_nil l.marks ≡ true → (inner : PlainLabel) → option_map (λ t. label_of (resolve P t)) (slice_get (list_of ts) (length (list_of ts) - 1)) ≡ Some inner → Inner spot l ts inner
    inner_nil spot l ts long types h nil inner e =
        let m = mapped (λ t. label_of (resolve P t)) (slice_get (list_of ts) (length (list_of ts) - 1)) inner e in
        inner_kid spot l ts long types h nil inner m.0 m.1 m.2

    inner_by : (spot : Spot) (l : PlainLabel) (ts : Roses PlainLabel) → length_all ts ≡ length (parts_of l.form) → AreTypes ts
        → ((t : Rose PlainLabel) → slice_get (list_of ts) (length (list_of ts) - 1) ≡ Some t → Leads P (label_of t).form)
        → (b : Bool) → told.has_use_nil l.marks ≡ b → (inner : PlainLabel)
        → (if b then option_map (λ t. label_of (resolve P t)) (slice_get (list_of ts) (length (list_of ts) - 1)) else Some l) ≡ Some inner → Inner spot l ts inner
    inner_by spot l ts long types h true nil inner e = inner_nil spot l ts long types h nil inner e
    inner_by spot l ts long types h false nil inner e =
        let same : l ≡ inner = cc in
        let Q : PlainLabel → Type 0 = λ k. Inner spot l ts k in
        subst Q same (record {
          at = spot;
          kids = ts;
          long = long;
          found = ap (λ b. if b then option_map (λ t. label_of (refs.resolve (module_meant P) t)) (slice_get (list_of (types_meant P spot l 0 (parts_of l.form) ts)) (length (parts.parts_of (form_meant P spot l ts)) - 1)) else Some (label_meant P spot l ts)) (nil-same spot l.form l.marks ∙ nil);
        })

    order_by : (spot : Spot) (l : PlainLabel) (ts : Roses PlainLabel) → length_all ts ≡ length (parts_of l.form) → AreTypes ts
        → ((t : Rose PlainLabel) → slice_get (list_of ts) (length (list_of ts) - 1) ≡ Some t → Leads P (label_of t).form)
        → orders.is_sequence l.form ≡ true → orders.has_no_group l ≡ true → (o : Option PlainLabel) → orders.ordered P l ts ≡ o → orders.is_ordered l o ts ≡ true
        → modules.HasOrderPart (module_meant P) (label_meant P spot l ts) (types_meant P spot l 0 (parts_of l.form) ts)
    order_by spot l ts long types h seq free None is e = absurd (true≢false (sym e))
    order_by spot l ts long types h seq free (Some inner) is e =
        order_has spot l ts inner long types seq free (inner_by spot l ts long types h (told.has_use_nil l.marks) refl inner is) e

    pub order-is : (spot : Spot) (l : PlainLabel) (ts : Roses PlainLabel) → length_all ts ≡ length (parts_of l.form) → AreTypes ts
        → ((t : Rose PlainLabel) → slice_get (list_of ts) (length (list_of ts) - 1) ≡ Some t → Leads P (label_of t).form)
        → orders.has_order_part P l ts ≡ true → modules.HasOrderPart (module_meant P) (label_meant P spot l ts) (types_meant P spot l 0 (parts_of l.form) ts)
    order-is spot l ts long types h e =
        let a = orders.is_sequence l.form in
        let b = orders.has_no_group l in
        let c = orders.is_ordered l (orders.ordered P l ts) ts in
        let ab = and-first (a && b) c e in
        order_by spot l ts long types h (and-first a b ab) (and-second a b ab) (orders.ordered P l ts) refl (and-second (a && b) c e)
