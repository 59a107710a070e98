-- The types that a text without a fault tells are those of a module, and printable.
use Rattle.std.proofs.Common.{◌≡◌, ℕ, zero, suc, ◌<◌, ◌≤◌, ◌+◌, ◌-◌, ◌^◌, Bool, true, false, ◌&&◌, ◌||◌, ◌⊎◌, inl, inr, Option, Some, None, List, [], ◌∷◌, ◌++◌, length, All, is_some, refl, sym, ap, ap₂, ◌∙◌, subst, arith, codes, length-append}
use Rattle.std.specs.Prelude.{bytes_eq, nat_lt, slice_get, if◌then◌else◌}
use Rattle.std.specs.List.{list_any, IsDistinct}
use Rattle.std.proofs.lemmas.Bool.{true≢false}
use Rattle.std.proofs.lemmas.List.Elements.{All-nil, All-cons}
use Rattle.base_trees.specs.Rose.{Rose, node, Roses, label_of, list_of, length_all, Allowed, AllowedAll}
use Rattle.base_trees.specs.Rose as rose
use Rattle.base_texts.specs.Limits.{is_empty}
use Rattle.simple_types.specs.declared.simples.Class.{Class}
use Rattle.simple_types.specs.declared.standards.Standard.TheVariants.{Free}
use Rattle.simple_types.specs.Space.{Space}
use Rattle.asn_types.specs.declared.roles.Role.{Role}
use Rattle.asn_types.specs.declared.roles.Role.TheVariants as role
use Rattle.asn_types.specs.Roles as roles
use Rattle.asn_types.specs.declared.types.Component.{Component}
use Rattle.asn_types.specs.declared.types.TypeLabel.{TypeLabel}
use Rattle.asn_types.specs.Parts as parts
use Rattle.asn_types.specs.Simples.{IsSimple}
use Rattle.asn_types.specs.Bounds.{AreBounded, AllBounded}
use Rattle.asn_types.specs.Modules as modules
use Rattle.asn_types.specs.Modules.{IsWellFormed, AreWellFormed, AllWellFormed, AreItemsNamed, AllItemsNamed, IsItemNamed, HasStandards}
use Rattle.module_print.specs.Notation.{new_line}
use Rattle.module_text.specs.declared.marks.TypeMark.{TypeMark}
use Rattle.module_text.specs.declared.marks.TypeMarkKind.{TypeMarkKind}
use Rattle.module_text.specs.declared.marks.TypeMarkKind.TheVariants as type_mark
use Rattle.module_text.specs.declared.values.Absence.TheVariants as absence
use Rattle.module_text.specs.declared.types.PlainPart.{PlainPart}
use Rattle.module_text.specs.declared.types.PlainForm.{PlainForm}
use Rattle.module_text.specs.declared.types.PlainForm.TheVariants as form
use Rattle.module_text.specs.declared.types.PlainLabel.{PlainLabel}
use Rattle.module_text.specs.declared.modules.PlainAssignment.{PlainAssignment}
use Rattle.module_text.specs.Names.{is_identifier}
use Rattle.module_text.specs.Ranks.{rank_of_type_mark}
use Rattle.module_text.specs.Texts.{size_text, type_marks_text, part_marks_text, fixed_text, absence_text, all_of, parts_of, level_of_parts, form_text, part_text, part_texts, type_text}
use Rattle.module_text.specs.Plain.{ArePartMarks, IsComponent, IsAlternative, IsItem, IsForm, IsType, AreTypes}
use Rattle.module_print.specs.Printed.{labelled}
use Rattle.module_text.specs.declared.reasons.ModuleWhy.TheVariants as why
use Rattle.module_text.specs.declared.spots.Spot.{Spot}
use Rattle.module_text.specs.declared.spots.Spot.TheVariants as spot_
use Rattle.module_text.specs.Told as told
use Rattle.module_text.specs.Told.{Bounds, Sizes, range_of, sizes_of}
use Rattle.module_text.specs.Resolving.{role_of, resolve, number_of, body_of, chains_within, chains_end, all_references, all_references_in}
use Rattle.module_text.specs.Simple.{is_order_item, item_spot, simple_told, is_simple}
use Rattle.module_text.specs.Orders as orders
use Rattle.module_text.specs.Marks.{stands_once, type_mark_may, next_item}
use Rattle.module_text.specs.Faults.{type_mark_faults, is_listed, are_alike, one_if, nameless_parts, part_spot, has_text, space_at}
use Rattle.module_text.specs.Meaning.{type_marks_meant, words_meant, int_meant, utf8_meant, list_meant, standard_meant, component_meant, components_meant, item_meant, form_meant, type_meant, types_meant, module_meant}
use Rattle.module_text.specs.Printable as printable
use Rattle.module_text.specs.Printable.{HasPartMarks, IsPrintableType, ArePrintable, AllPrintable}
use Rattle.module_text.proofs.PrintedBounds.{unless-none, front-none, behind-none, and-first, and-second}
use Rattle.module_laws.proofs.NameLaws.{NameBytes, identifier-bytes}
use Rattle.module_laws.proofs.PartMarkLaws.{part_marks-printable}
use Rattle.module_laws.proofs.TypeMarkLaws.{type_marks-printable}
use Rattle.module_laws.proofs.Firsts.{AreNew, new-distinct}
use Rattle.module_laws.proofs.SimpleLaws.{simply, all_head, all_tail}
use Rattle.module_laws.proofs.RoleLaws.{parts-meant, components-long, label_meant, role-same, nil-same, embed-same, order-same, list-same, union-same, no_attribute}
use Rattle.module_laws.proofs.ResolveLaws.{AllLead, AllTyped, AllLeadIn, Leads, LeadsIn, leads-in, chains-type}
use Rattle.module_laws.proofs.OrderLaws.{content-is, texts-are, order-is}
use Rattle.module_laws.proofs.StandardLaws.{standards-are, attributes-are}
use Rattle.module_laws.proofs.FormLaws.{FineForm, identifiers_of, form-fine}
use Rattle.module_laws.proofs.Clean.{TypeClean, PartsClean}
use Rattle.module_laws.proofs.Placed.{total, block-long}

-- ---- what an instruction asks

either_asks : (b c R : Bool) → (b || c) ≡ true → (b ≡ true → R ≡ true) → (c ≡ true → R ≡ true) → R ≡ true
either_asks true c R e here later = here refl
either_asks false c R e here later = later e

module _ (P : List PlainAssignment) (spot : Spot) (l : PlainLabel) (ts : Roses PlainLabel) where
  asks : (q : TypeMark → Bool) (R : Bool) → ((at : ℕ) (k : TypeMarkKind) (least : ℕ) → q (record { at = at; kind = k }) ≡ true → type_mark_may P spot l ts least k ≡ true → R ≡ true)
      → (before : Option ℕ) (least : ℕ) (ms : List TypeMark) → list_any q ms ≡ true → type_mark_faults P spot l ts before least ms ≡ [] → R ≡ true
  asks q R h before least [] e f = absurd (true≢false (sym e))
  asks q R h before least (m ∷ ms) e f =
      let others = type_mark_faults P spot l ts (Some (rank_of_type_mark m.kind)) (next_item spot l.form least m.kind) ms in
      let once = stands_once before (rank_of_type_mark m.kind) in
      let may = type_mark_may P spot l ts least m.kind in
      let ok = unless-none (once && may) m.at why.Spelling (front-none _ others f) in
      either_asks (q m) (list_any q ms) R e (λ is. h m.at m.kind least is (and-second once may ok))
      (λ is. asks q R h (Some (rank_of_type_mark m.kind)) (next_item spot l.form least m.kind) ms is (behind-none _ others f))

  nil_asks : (at : ℕ) (k : TypeMarkKind) (least : ℕ) → told.is_use_nil (record { at = at; kind = k }) ≡ true → type_mark_may P spot l ts least k ≡ true → orders.has_content l.form ≡ true
  nil_asks at type_mark.UseNil least e f = f
  nil_asks at type_mark.EmbedValues least e f = absurd (true≢false (sym e))
  nil_asks at type_mark.UseOrder least e f = absurd (true≢false (sym e))
  nil_asks at type_mark.List least e f = absurd (true≢false (sym e))
  nil_asks at type_mark.UseUnion least e f = absurd (true≢false (sym e))
  nil_asks at type_mark.UseNumber least e f = absurd (true≢false (sym e))
  nil_asks at type_mark.Replace least e f = absurd (true≢false (sym e))
  nil_asks at type_mark.Collapse least e f = absurd (true≢false (sym e))
  nil_asks at (type_mark.Text identifier text) least e f = absurd (true≢false (sym e))

  embed_asks : (at : ℕ) (k : TypeMarkKind) (least : ℕ) → told.is_embed_values (record { at = at; kind = k }) ≡ true → type_mark_may P spot l ts least k ≡ true → orders.has_texts l.form ts ≡ true
  embed_asks at type_mark.UseNil least e f = absurd (true≢false (sym e))
  embed_asks at type_mark.EmbedValues least e f = f
  embed_asks at type_mark.UseOrder least e f = absurd (true≢false (sym e))
  embed_asks at type_mark.List least e f = absurd (true≢false (sym e))
  embed_asks at type_mark.UseUnion least e f = absurd (true≢false (sym e))
  embed_asks at type_mark.UseNumber least e f = absurd (true≢false (sym e))
  embed_asks at type_mark.Replace least e f = absurd (true≢false (sym e))
  embed_asks at type_mark.Collapse least e f = absurd (true≢false (sym e))
  embed_asks at (type_mark.Text identifier text) least e f = absurd (true≢false (sym e))

  order_asks : (at : ℕ) (k : TypeMarkKind) (least : ℕ) → told.is_use_order (record { at = at; kind = k }) ≡ true → type_mark_may P spot l ts least k ≡ true → orders.has_order_part P l ts ≡ true
  order_asks at type_mark.UseNil least e f = absurd (true≢false (sym e))
  order_asks at type_mark.EmbedValues least e f = absurd (true≢false (sym e))
  order_asks at type_mark.UseOrder least e f = f
  order_asks at type_mark.List least e f = absurd (true≢false (sym e))
  order_asks at type_mark.UseUnion least e f = absurd (true≢false (sym e))
  order_asks at type_mark.UseNumber least e f = absurd (true≢false (sym e))
  order_asks at type_mark.Replace least e f = absurd (true≢false (sym e))
  order_asks at type_mark.Collapse least e f = absurd (true≢false (sym e))
  order_asks at (type_mark.Text identifier text) least e f = absurd (true≢false (sym e))

  list_asks : (at : ℕ) (k : TypeMarkKind) (least : ℕ) → told.is_list (record { at = at; kind = k }) ≡ true → type_mark_may P spot l ts least k ≡ true
      → (orders.is_sequence_of l.form && is_simple spot (node l ts)) ≡ true
  list_asks at type_mark.UseNil least e f = absurd (true≢false (sym e))
  list_asks at type_mark.EmbedValues least e f = absurd (true≢false (sym e))
  list_asks at type_mark.UseOrder least e f = absurd (true≢false (sym e))
  list_asks at type_mark.List least e f = f
  list_asks at type_mark.UseUnion least e f = absurd (true≢false (sym e))
  list_asks at type_mark.UseNumber least e f = absurd (true≢false (sym e))
  list_asks at type_mark.Replace least e f = absurd (true≢false (sym e))
  list_asks at type_mark.Collapse least e f = absurd (true≢false (sym e))
  list_asks at (type_mark.Text identifier text) least e f = absurd (true≢false (sym e))

  union_asks : (at : ℕ) (k : TypeMarkKind) (least : ℕ) → told.is_use_union (record { at = at; kind = k }) ≡ true → type_mark_may P spot l ts least k ≡ true
      → (orders.is_choice l.form && is_simple spot (node l ts)) ≡ true
  union_asks at type_mark.UseNil least e f = absurd (true≢false (sym e))
  union_asks at type_mark.EmbedValues least e f = absurd (true≢false (sym e))
  union_asks at type_mark.UseOrder least e f = absurd (true≢false (sym e))
  union_asks at type_mark.List least e f = absurd (true≢false (sym e))
  union_asks at type_mark.UseUnion least e f = f
  union_asks at type_mark.UseNumber least e f = absurd (true≢false (sym e))
  union_asks at type_mark.Replace least e f = absurd (true≢false (sym e))
  union_asks at type_mark.Collapse least e f = absurd (true≢false (sym e))
  union_asks at (type_mark.Text identifier text) least e f = absurd (true≢false (sym e))

-- ---- forms that are asked for

list_is : (o : Option Sizes) (part : Component) → modules.IsSequenceOf (list_meant o part)
list_is None part = tt
list_is (Some b) part = tt

int_free : (M : _) (o : Option Bounds) (us : Roses TypeLabel) → HasStandards M (int_meant o) us
int_free M None us = tt
int_free M (Some b) us = tt

utf8_free : (M : _) (o : Option Sizes) (class : Class) (us : Roses TypeLabel) → HasStandards M (utf8_meant o class) us
utf8_free M None class us = tt
utf8_free M (Some b) class us = tt

words_free : (M : _) (order : Bool) (ms : List TypeMark) (is : _) (us : Roses TypeLabel) → HasStandards M (words_meant order ms is) us
words_free M true ms is us = tt
words_free M false ms is us = tt

list_free : (M : _) (o : Option Sizes) (part : Component) (us : Roses TypeLabel) → part.standard ≡ Free → HasStandards M (list_meant o part) us
list_free M None part us e = e
list_free M (Some b) part us e = e

int_named : (nameless : Bool) (o : Option Bounds) → IsItemNamed nameless (int_meant o)
int_named nameless None = tt
int_named nameless (Some b) = tt

utf8_named : (nameless : Bool) (o : Option Sizes) (class : Class) → IsItemNamed nameless (utf8_meant o class)
utf8_named nameless None class = tt
utf8_named nameless (Some b) class = tt

words_named : (nameless order : Bool) (ms : List TypeMark) (is : _) → IsItemNamed nameless (words_meant order ms is)
words_named nameless true ms is = tt
words_named nameless false ms is = tt

list_named : (nameless : Bool) (o : Option Sizes) (part : Component) → is_empty part.identifier ≡ nameless → IsItemNamed nameless (list_meant o part)
list_named nameless None part e = e
list_named nameless (Some b) part e = e

int_list : (o : Option Bounds) → printable.is_sequence_of (int_meant o) ≡ false
int_list None = refl
int_list (Some b) = refl

utf8_list : (o : Option Sizes) (class : Class) → printable.is_sequence_of (utf8_meant o class) ≡ false
utf8_list None class = refl
utf8_list (Some b) class = refl

words_list : (order : Bool) (ms : List TypeMark) (is : _) → printable.is_sequence_of (words_meant order ms is) ≡ false
words_list true ms is = refl
words_list false ms is = refl

list_list : (o : Option Sizes) (part : Component) → printable.is_sequence_of (list_meant o part) ≡ true
list_list None part = refl
list_list (Some b) part = refl

alike_is : (b c : Bool) → are_alike b c ≡ true → b ≡ c
alike_is true true e = refl
alike_is true false e = absurd (true≢false (sym e))
alike_is false true e = absurd (true≢false (sym e))
alike_is false false e = refl

-- ---- texts of parts are no longer than that of the type

less_total : (k : ℕ) (ts : List (List ℕ)) → total 0 ts ≤ total k ts
less_total k [] = omega arith
less_total k (t ∷ ts) = omega (arith, less_total k ts)

all_long : (ts : List (List ℕ)) → length (all_of ts) ≡ total 0 ts
all_long [] = refl
all_long (t ∷ ts) = omega (arith, length-append t (all_of ts), all_long ts)

no_texts : (levels : ℕ) (ts : Roses PlainLabel) → part_texts levels [] ts ≡ []
no_texts levels rose.none = refl
no_texts levels (rose.more t ts) = refl

pub inside_form : (f : PlainForm) (levels : ℕ) (ts : Roses PlainLabel)
    → total 0 (part_texts (level_of_parts levels f) (parts_of f) ts) ≤ length (form_text levels f (part_texts (level_of_parts levels f) (parts_of f) ts))
inside_form (form.Sequence ps) levels ts =
    let texts = part_texts (suc levels) ps ts in
    omega (arith, less_total (suc (length (new_line (suc levels)))) texts, block-long levels texts)
inside_form (form.Choice ps) levels ts =
    let texts = part_texts (suc levels) ps ts in
    omega (arith, less_total (suc (length (new_line (suc levels)))) texts, block-long levels texts)
inside_form (form.SequenceOf size item) levels ts =
    let texts = part_texts levels (item ∷ []) ts in
    omega (arith, all_long texts, length-append (codes "SEQUENCE" ++ size_text size ++ codes " OF ") (all_of texts))
inside_form form.Bool levels ts = let none = ap (total 0) (no_texts (suc levels) ts) in omega (arith, none)
inside_form (form.Int r) levels ts = let none = ap (total 0) (no_texts (suc levels) ts) in omega (arith, none)
inside_form (form.Numbers items) levels ts = let none = ap (total 0) (no_texts (suc levels) ts) in omega (arith, none)
inside_form (form.Words names) levels ts = let none = ap (total 0) (no_texts (suc levels) ts) in omega (arith, none)
inside_form (form.Utf8 size class) levels ts = let none = ap (total 0) (no_texts (suc levels) ts) in omega (arith, none)
inside_form (form.Ref reference) levels ts = let none = ap (total 0) (no_texts (suc levels) ts) in omega (arith, none)

pub part_long : (part : PlainPart) (type : List ℕ) → length type ≤ length (part_text part (part_marks_text part.marks ++ type))
part_long part type =
    let marks = part_marks_text part.marks in
    omega (
      arith,
      length-append marks type,
      length-append (labelled part.identifier) (marks ++ type),
      length-append (labelled part.identifier ++ (marks ++ type)) (fixed_text part.fixed),
      length-append (labelled part.identifier ++ (marks ++ type) ++ fixed_text part.fixed) (absence_text part.absence),
    )

-- ---- parts that are plain

abbrev PlainPartIs : PlainPart → Type 0
PlainPartIs part = NameBytes part.identifier × ArePartMarks part.marks

components_plain : (ps : List PlainPart) → All IsComponent ps → All PlainPartIs ps
components_plain [] h = All-nil PlainPartIs
components_plain (part ∷ ps) h =
    let is = all_head IsComponent part ps h in
    All-cons PlainPartIs part ps (identifier-bytes part.identifier is.identifier, is.marks) (components_plain ps (all_tail IsComponent part ps h))

alternatives_plain : (ps : List PlainPart) → All IsAlternative ps → All PlainPartIs ps
alternatives_plain [] h = All-nil PlainPartIs
alternatives_plain (part ∷ ps) h =
    let is = all_head IsAlternative part ps h in
    All-cons PlainPartIs part ps (identifier-bytes part.identifier is.identifier, is.marks) (alternatives_plain ps (all_tail IsAlternative part ps h))

item_bytes : (name : List ℕ) → (name ≡ []) ⊎ (is_identifier name ≡ true) → NameBytes name
item_bytes name (inl none) = subst (λ n. NameBytes n) (sym none) tt
item_bytes name (inr is) = identifier-bytes name is

plain_parts : (f : PlainForm) → IsForm f → All PlainPartIs (parts_of f)
plain_parts form.Bool is = All-nil PlainPartIs
plain_parts (form.Int r) is = All-nil PlainPartIs
plain_parts (form.Numbers items) is = All-nil PlainPartIs
plain_parts (form.Words names) is = All-nil PlainPartIs
plain_parts (form.Utf8 size class) is = All-nil PlainPartIs
plain_parts (form.Sequence ps) is = components_plain ps is
plain_parts (form.Choice ps) is = alternatives_plain ps is.1
plain_parts (form.SequenceOf size item) is = All-cons PlainPartIs item [] (item_bytes item.identifier is.1.identifier, is.1.marks) (All-nil PlainPartIs)
plain_parts (form.Ref reference) is = All-nil PlainPartIs

-- ---- identifiers of parts differ

new_named : (before : List (List ℕ)) (name : List ℕ) → is_identifier name ≡ true → is_listed before name ≡ false → has_text before name ≡ false
new_named before [] is e = absurd (true≢false (sym is))
new_named before (b ∷ bs) is e = e

module _ (P : List PlainAssignment) where
  parts_new : (spot : Spot) (nameless : Bool) (l : PlainLabel) (i : ℕ) (before : List (List ℕ)) (front : ℕ) (ps : List PlainPart) (ts : Roses PlainLabel) → length_all ts ≡ length ps
      → All (λ (part : PlainPart). is_identifier part.identifier ≡ true) ps → PartsClean P spot nameless l i before front ps ts → AreNew before (identifiers_of ps)
  parts_new spot nameless l i before front [] ts long named c = tt
  parts_new spot nameless l i before front (part ∷ ps) rose.none long named c = absurd (omega (arith, long))
  parts_new spot nameless l i before front (part ∷ ps) (rose.more t ts) long named c = (
    new_named before part.identifier (all_head (λ (part : PlainPart). is_identifier part.identifier ≡ true) part ps named) c.0.new,
    parts_new spot nameless l (i + 1) (before ++ part.identifier ∷ []) _ ps ts (omega (arith, long)) (all_tail (λ (part : PlainPart). is_identifier part.identifier ≡ true) part ps named) c.2,
  )

  components_named : (ps : List PlainPart) → All IsComponent ps → All (λ (part : PlainPart). is_identifier part.identifier ≡ true) ps
  components_named [] h = All-nil (λ (part : PlainPart). is_identifier part.identifier ≡ true)
  components_named (part ∷ ps) h =
      All-cons (λ (part : PlainPart). is_identifier part.identifier ≡ true) part ps (all_head IsComponent part ps h).identifier (components_named ps (all_tail IsComponent part ps h))

  alternatives_named : (ps : List PlainPart) → All IsAlternative ps → All (λ (part : PlainPart). is_identifier part.identifier ≡ true) ps
  alternatives_named [] h = All-nil (λ (part : PlainPart). is_identifier part.identifier ≡ true)
  alternatives_named (part ∷ ps) h =
      All-cons (λ (part : PlainPart). is_identifier part.identifier ≡ true) part ps (all_head IsAlternative part ps h).identifier (alternatives_named ps (all_tail IsAlternative part ps h))

  nothing_distinct : IsDistinct bytes_eq []
  unfolding IsDistinct
  nothing_distinct = tt

  one_distinct : (name : List ℕ) → IsDistinct bytes_eq (name ∷ [])
  unfolding IsDistinct
  one_distinct name = (tt, tt)

  pub parts_distinct : (f : PlainForm) (ts : Roses PlainLabel) (spot : Spot) (nameless : Bool) (l : PlainLabel) (front : ℕ) → IsForm f → length_all ts ≡ length (parts_of f)
      → PartsClean P spot nameless l 0 [] front (parts_of f) ts → IsDistinct bytes_eq (identifiers_of (parts_of f))
  parts_distinct form.Bool ts spot nameless l front is long c = nothing_distinct
  parts_distinct (form.Int r) ts spot nameless l front is long c = nothing_distinct
  parts_distinct (form.Numbers items) ts spot nameless l front is long c = nothing_distinct
  parts_distinct (form.Words names) ts spot nameless l front is long c = nothing_distinct
  parts_distinct (form.Utf8 size class) ts spot nameless l front is long c = nothing_distinct
  parts_distinct (form.Sequence ps) ts spot nameless l front is long c =
      new-distinct [] (identifiers_of ps) (parts_new spot nameless l 0 [] front ps ts long (components_named ps is) c)
  parts_distinct (form.Choice ps) ts spot nameless l front is long c =
      new-distinct [] (identifiers_of ps) (parts_new spot nameless l 0 [] front ps ts long (alternatives_named ps is.1) c)
  parts_distinct (form.SequenceOf size item) ts spot nameless l front is long c = one_distinct item.identifier
  parts_distinct (form.Ref reference) ts spot nameless l front is long c = nothing_distinct

  -- ---- where parts stand

  list_same : (at : ℕ) (ms : List TypeMark) (f : PlainForm) (ts : Roses PlainLabel) (spot : Spot)
      → printable.is_sequence_of (form_meant P spot (record { at = at; marks = ms; form = f }) ts) ≡ orders.is_sequence_of f
  list_same at ms form.Bool ts spot = refl
  list_same at ms (form.Int r) ts spot = int_list (range_of r)
  list_same at ms (form.Numbers items) ts spot = refl
  list_same at ms (form.Words names) ts spot = words_list (is_order_item spot) ms names
  list_same at ms (form.Utf8 size class) ts spot = utf8_list (sizes_of size) class
  list_same at ms (form.Sequence ps) ts spot = refl
  list_same at ms (form.Choice ps) ts spot = refl
  list_same at ms (form.SequenceOf size item) ts spot = list_list (sizes_of size) _
  list_same at ms (form.Ref reference) ts spot = refl

  item_same : (spot : Spot) → printable.item_spot spot ≡ item_spot spot
  item_same spot_.Elsewhere = refl
  item_same spot_.Order = refl
  item_same spot_.OrderItem = refl

  is_order_same : (r : Role) → printable.is_order r ≡ orders.is_order r
  is_order_same role.Attribute = refl
  is_order_same role.Element = refl
  is_order_same role.Group = refl
  is_order_same role.Content = refl
  is_order_same role.Embed = refl
  is_order_same role.Order = refl
  is_order_same role.Item = refl
  is_order_same role.Alternative = refl

  spot-same : (spot : Spot) (l : PlainLabel) (ts : Roses PlainLabel) (i : ℕ) (there : Spot) (part : PlainPart) (t : Rose PlainLabel) → length_all ts ≡ length (parts_of l.form)
      → printable.part_spot spot (label_meant P spot l ts) i (component_meant P there part t) ≡ part_spot spot l i part
  spot-same spot l ts i there part t long =
      let r = roles.role_of (label_meant P spot l ts) i (component_meant P there part t) in
      ap (λ b. if b then printable.item_spot spot else (if printable.is_order r then spot_.Order else spot_.Elsewhere)) (list_same l.at l.marks l.form ts spot)
      ∙ ap (λ s. if orders.is_sequence_of l.form then s else (if printable.is_order r then spot_.Order else spot_.Elsewhere)) (item_same spot)
      ∙ ap (λ b. if orders.is_sequence_of l.form then item_spot spot else (if b then spot_.Order else spot_.Elsewhere))
      (ap printable.is_order (role-same P spot l ts i there part t long) ∙ is_order_same (role_of l i part))

  types-long : (spot : Spot) (l : PlainLabel) (i : ℕ) (ps : List PlainPart) (ts : Roses PlainLabel) → length_all ts ≡ length ps → length_all (types_meant P spot l i ps ts) ≡ length ps
  types-long spot l i [] rose.none long = refl
  types-long spot l i [] (rose.more t ts) long = refl
  types-long spot l i (part ∷ ps) rose.none long = long
  types-long spot l i (part ∷ ps) (rose.more t ts) long = ap suc (types-long spot l (i + 1) ps ts (omega (arith, long)))

  -- ---- default and fixed values stand on components alone

  bare_free : (space : Option Space) (u : Rose PlainLabel) (part : PlainPart) → part.fixed ≡ None → part.absence ≡ absence.Never → standard_meant space u part.fixed part.absence ≡ Free
  bare_free space u part e f = ap (λ o. standard_meant space u o part.absence) e ∙ ap (λ a. standard_meant space u None a) f

  choice_free : (spot : Spot) (l : PlainLabel) (i : ℕ) (ps : List PlainPart) (ts : Roses PlainLabel) → All IsAlternative ps
      → All (λ (part : Component). part.standard ≡ Free) (components_meant P spot l i ps ts)
  choice_free spot l i [] ts h = All-nil (λ (part : Component). part.standard ≡ Free)
  choice_free spot l i (part ∷ ps) rose.none h = All-nil (λ (part : Component). part.standard ≡ Free)
  choice_free spot l i (part ∷ ps) (rose.more t ts) h =
      let bare = (all_head IsAlternative part ps h).bare in
      All-cons (λ (part : Component). part.standard ≡ Free) _ (components_meant P spot l (i + 1) ps ts)
      (bare_free (space_at P (part_spot spot l i part) part.marks t) (resolve P t) part bare.0 bare.1)
      (choice_free spot l (i + 1) ps ts (all_tail IsAlternative part ps h))

  item_free : (spot : Spot) (item : PlainPart) (ts : Roses PlainLabel) → IsItem item → (item_meant P spot item ts).standard ≡ Free
  item_free spot item rose.none h = refl
  item_free spot item (rose.more t ts) h = bare_free (space_at P spot item.marks t) (resolve P t) item h.bare.0 h.bare.1

  has_standards : (at : ℕ) (ms : List TypeMark) (f : PlainForm) (ts : Roses PlainLabel) (spot : Spot) (us : Roses TypeLabel) → IsForm f
      → modules.AreStandards (module_meant P) (components_meant P spot (record { at = at; marks = ms; form = f }) 0 (parts_of f) ts) us
      → HasStandards (module_meant P) (form_meant P spot (record { at = at; marks = ms; form = f }) ts) us
  has_standards at ms form.Bool ts spot us is h = tt
  has_standards at ms (form.Int r) ts spot us is h = int_free (module_meant P) (range_of r) us
  has_standards at ms (form.Numbers items) ts spot us is h = tt
  has_standards at ms (form.Words names) ts spot us is h = words_free (module_meant P) (is_order_item spot) ms names us
  has_standards at ms (form.Utf8 size class) ts spot us is h = utf8_free (module_meant P) (sizes_of size) class us
  has_standards at ms (form.Sequence ps) ts spot us is h = h
  has_standards at ms (form.Choice ps) ts spot us is h = choice_free spot (record { at = at; marks = ms; form = form.Choice ps }) 0 ps ts is.1
  has_standards at ms (form.SequenceOf size item) ts spot us is h = list_free (module_meant P) (sizes_of size) _ us (item_free _ item ts is.1)
  has_standards at ms (form.Ref reference) ts spot us is h = tt

  -- ---- names of items

  item_is : (spot : Spot) (item : PlainPart) (ts : Roses PlainLabel) → (item_meant P spot item ts).identifier ≡ item.identifier
  item_is spot item rose.none = refl
  item_is spot item (rose.more t ts) = refl

  item_named : (at : ℕ) (ms : List TypeMark) (f : PlainForm) (ts : Roses PlainLabel) (spot : Spot) (nameless : Bool) (front : ℕ) → length_all ts ≡ length (parts_of f)
      → let l : PlainLabel = record { at = at; marks = ms; form = f } in
      PartsClean P spot nameless l 0 [] front (parts_of f) ts → IsItemNamed nameless (form_meant P spot l ts)
  item_named at ms form.Bool ts spot nameless front long c = tt
  item_named at ms (form.Int r) ts spot nameless front long c = int_named nameless (range_of r)
  item_named at ms (form.Numbers items) ts spot nameless front long c = tt
  item_named at ms (form.Words names) ts spot nameless front long c = words_named nameless (is_order_item spot) ms names
  item_named at ms (form.Utf8 size class) ts spot nameless front long c = utf8_named nameless (sizes_of size) class
  item_named at ms (form.Sequence ps) ts spot nameless front long c = tt
  item_named at ms (form.Choice ps) ts spot nameless front long c = tt
  item_named at ms (form.SequenceOf size item) rose.none spot nameless front long c = absurd (omega (arith, long))
  item_named at ms (form.SequenceOf size item) (rose.more t ts) spot nameless front long c =
      list_named nameless (sizes_of size) _ (alike_is (is_empty item.identifier) nameless c.0.named)
  item_named at ms (form.Ref reference) ts spot nameless front long c = tt

  -- ---- marks of parts

  parts_marked : (spot : Spot) (nameless : Bool) (l : PlainLabel) (i : ℕ) (before : List (List ℕ)) (front : ℕ) (ps : List PlainPart) (ts : Roses PlainLabel) → All PlainPartIs ps
      → PartsClean P spot nameless l i before front ps ts → All (λ (part : Component). HasPartMarks part.identifier part.marks) (components_meant P spot l i ps ts)
  parts_marked spot nameless l i before front [] ts plain c = All-nil (λ (part : Component). HasPartMarks part.identifier part.marks)
  parts_marked spot nameless l i before front (part ∷ ps) rose.none plain c = All-nil (λ (part : Component). HasPartMarks part.identifier part.marks)
  parts_marked spot nameless l i before front (part ∷ ps) (rose.more t ts) plain c =
      let is = all_head PlainPartIs part ps plain in
      All-cons (λ (part : Component). HasPartMarks part.identifier part.marks) _ (components_meant P spot l (i + 1) ps ts)
      (part_marks-printable _ part.identifier part.marks is.0 is.1 c.0.marks)
      (parts_marked spot nameless l (i + 1) _ _ ps ts (all_tail PlainPartIs part ps plain) c.2)

  -- ---- simple types

  simple_is : (spot : Spot) (t : Rose PlainLabel) → IsType t → is_simple spot t ≡ true → IsSimple (type_meant P spot t)
  simple_is spot t is e = by (simple_told spot t) refl e
    where
      by : (o : Option Space) → simple_told spot t ≡ o → is_some o ≡ true → IsSimple (type_meant P spot t)
      by None found f = absurd (true≢false (sym f))
      by (Some s) found f = let m = simply P t spot s is found in (s, m.sound, m.maps)

  list_form : (at : ℕ) (ms : List TypeMark) (f : PlainForm) (ts : Roses PlainLabel) (spot : Spot) → orders.is_sequence_of f ≡ true
      → modules.IsSequenceOf (form_meant P spot (record { at = at; marks = ms; form = f }) ts)
  list_form at ms form.Bool ts spot e = absurd (true≢false (sym e))
  list_form at ms (form.Int r) ts spot e = absurd (true≢false (sym e))
  list_form at ms (form.Numbers items) ts spot e = absurd (true≢false (sym e))
  list_form at ms (form.Words names) ts spot e = absurd (true≢false (sym e))
  list_form at ms (form.Utf8 size class) ts spot e = absurd (true≢false (sym e))
  list_form at ms (form.Sequence ps) ts spot e = absurd (true≢false (sym e))
  list_form at ms (form.Choice ps) ts spot e = absurd (true≢false (sym e))
  list_form at ms (form.SequenceOf size item) ts spot e = list_is (sizes_of size) _
  list_form at ms (form.Ref reference) ts spot e = absurd (true≢false (sym e))

  choice_form : (at : ℕ) (ms : List TypeMark) (f : PlainForm) (ts : Roses PlainLabel) (spot : Spot) → orders.is_choice f ≡ true
      → modules.IsChoice (form_meant P spot (record { at = at; marks = ms; form = f }) ts)
  choice_form at ms form.Bool ts spot e = absurd (true≢false (sym e))
  choice_form at ms (form.Int r) ts spot e = absurd (true≢false (sym e))
  choice_form at ms (form.Numbers items) ts spot e = absurd (true≢false (sym e))
  choice_form at ms (form.Words names) ts spot e = absurd (true≢false (sym e))
  choice_form at ms (form.Utf8 size class) ts spot e = absurd (true≢false (sym e))
  choice_form at ms (form.Sequence ps) ts spot e = absurd (true≢false (sym e))
  choice_form at ms (form.Choice ps) ts spot e = tt
  choice_form at ms (form.SequenceOf size item) ts spot e = absurd (true≢false (sym e))
  choice_form at ms (form.Ref reference) ts spot e = absurd (true≢false (sym e))

  -- ---- references of kids

  abbrev pub leads_all : Roses PlainLabel → Type 0
  leads_all ts = all_references_in (λ name. is_some (number_of P name)) ts ≡ true

  kid_leads : (ts : Roses PlainLabel) (k : ℕ) (t : Rose PlainLabel) → leads_all ts → slice_get (list_of ts) k ≡ Some t → Leads P (label_of t).form
  unfolding all_references
  kid_leads rose.none k t h e = absurd (cc)
  kid_leads (rose.more (node l us) ts) zero t h e =
      let same : node l us ≡ t = cc in
      subst (λ (u : Rose PlainLabel). Leads P (label_of u).form) same (leads-in P l us (and-first (all_references (λ name. is_some (number_of P name)) (node l us)) (all_references_in (λ name. is_some (number_of P name)) ts) h))
  kid_leads (rose.more u ts) (suc k) t h e =
      kid_leads ts k t (and-second (all_references (λ name. is_some (number_of P name)) u) (all_references_in (λ name. is_some (number_of P name)) ts) h) e

  pub kids_lead : (l : PlainLabel) (ts : Roses PlainLabel) → LeadsIn P (node l ts) → leads_all ts
  unfolding all_references
  kids_lead l ts h = and-second _ (all_references_in (λ name. is_some (number_of P name)) ts) h

  -- of each reference in these types no chain is too long
  abbrev chains_all : Roses PlainLabel → Type 0
  chains_all ts = all_references_in (λ reference. elim (body_of P reference) [ None ↦ true | Some u ↦ chains_within P 3 u ]) ts ≡ true

  kids_chain : (l : PlainLabel) (ts : Roses PlainLabel) → chains_end P (node l ts) ≡ true → chains_all ts
  unfolding all_references
  kids_chain l ts h = and-second _ (all_references_in (λ reference. elim (body_of P reference) [ None ↦ true | Some u ↦ chains_within P 3 u ]) ts) h

  first_chain : (t : Rose PlainLabel) (ts : Roses PlainLabel) → chains_all (rose.more t ts) → (chains_end P t ≡ true) × chains_all ts
  unfolding all_references
  first_chain t ts h =
      let leads_on : List ℕ → Bool = λ reference. elim (body_of P reference) [ None ↦ true | Some u ↦ chains_within P 3 u ] in
      (and-first (all_references leads_on t) (all_references_in leads_on ts) h, and-second (all_references leads_on t) (all_references_in leads_on ts) h)

  pub first_lead : (t : Rose PlainLabel) (ts : Roses PlainLabel) → leads_all (rose.more t ts) → LeadsIn P t × leads_all ts
  unfolding all_references
  first_lead t ts h = (
    and-first (all_references (λ name. is_some (number_of P name)) t) (all_references_in (λ name. is_some (number_of P name)) ts) h,
    and-second (all_references (λ name. is_some (number_of P name)) t) (all_references_in (λ name. is_some (number_of P name)) ts) h,
  )

  -- ---- types

  module _ (leads : AllLead P) (typed : AllTyped P) (deep : AllLeadIn P) where
    well_node : (spot : Spot) (nameless : Bool) (l : PlainLabel) (ts : Roses PlainLabel) → IsType (node l ts) → TypeClean P spot nameless (node l ts) → FineForm P spot l ts
        → LeadsIn P (node l ts) → chains_end P (node l ts) ≡ true → IsWellFormed (module_meant P) (label_meant P spot l ts) (types_meant P spot l 0 (parts_of l.form) ts)
    well_node spot nameless l ts is c fine h chains =
        let kids = kids_lead l ts h in
        let ms = l.marks in
        let us = types_meant P spot l 0 (parts_of l.form) ts in
        let list = λ (e : told.has_list ms ≡ true). asks P spot l ts told.is_list (orders.is_sequence_of l.form && is_simple spot (node l ts)) (list_asks P spot l ts) None 0 ms e c.0 in
        let union = λ (e : told.has_use_union ms ≡ true). asks P spot l ts told.is_use_union (orders.is_choice l.form && is_simple spot (node l ts)) (union_asks P spot l ts) None 0 ms e c.0 in
        record {
          form = fine.form;
          attribute = no_attribute spot l.form ms;
          embed_values = λ e. texts-are P l.at ms l.form ts spot is.2 (asks P spot l ts told.is_embed_values (orders.has_texts l.form ts) (embed_asks P spot l ts) None 0 ms (sym (embed-same spot l.form ms) ∙ e) c.0);
          use_nil = λ e. content-is P l.at ms l.form ts spot is.2 is.3 (asks P spot l ts told.is_use_nil (orders.has_content l.form) (nil_asks P spot l ts) None 0 ms (sym (nil-same spot l.form ms) ∙ e) c.0);
          use_order = λ e.
              order-is P leads typed spot l ts is.2 is.3 (λ t got. kid_leads ts _ t kids got)
              (asks P spot l ts told.is_use_order (orders.has_order_part P l ts) (order_asks P spot l ts) None 0 ms (sym (order-same spot l.form ms) ∙ e) c.0);
          list = λ e. list_form l.at ms l.form ts spot (and-first (orders.is_sequence_of l.form) (is_simple spot (node l ts)) (list (sym (list-same spot l.form ms) ∙ e)));
          use_union = λ e. choice_form l.at ms l.form ts spot (and-first (orders.is_choice l.form) (is_simple spot (node l ts)) (union (sym (union-same spot l.form ms) ∙ e)));
          simple = λ e.
              simple_is spot (node l ts) is
              (either_asks (told.has_list ms) (told.has_use_union ms) (is_simple spot (node l ts)) (sym (ap₂ (λ a b. a || b) (list-same spot l.form ms) (union-same spot l.form ms)) ∙ e)
              (λ f. and-second (orders.is_sequence_of l.form) (is_simple spot (node l ts)) (list f))
              (λ f. and-second (orders.is_choice l.form) (is_simple spot (node l ts)) (union f)));
          attributes =
              subst (λ cs. modules.AttributesAreSimple (module_meant P) cs us) (sym (parts-meant P l ts spot is.2))
              (attributes-are P leads typed spot _ l 0 [] _ (parts_of l.form) ts is.3 kids c.2);
          standards = has_standards l.at ms l.form ts spot us is.1 (standards-are P leads typed spot _ l 0 [] _ (parts_of l.form) ts is.3 kids c.2);
          chains = chains-type P typed deep spot (node l ts) is h chains;
        }

    -- what holds of a type that is meant
    pub record TypeMeant (spot : Spot) (nameless : Bool) (t : Rose PlainLabel) : Type 0 where
      pub well : AreWellFormed (module_meant P) (type_meant P spot t)
      pub named : AreItemsNamed nameless (type_meant P spot t)
      pub bounded : AreBounded (type_meant P spot t)
      pub allowed : Allowed parts.MayHave (type_meant P spot t)
      pub printable : ArePrintable spot (type_meant P spot t)

    pub record PartsMeant (spot : Spot) (l : PlainLabel) (us : Roses PlainLabel) (i front : ℕ) (ps : List PlainPart) (ts : Roses PlainLabel) : Type 0 where
      pub well : AllWellFormed (module_meant P) (types_meant P spot l i ps ts)
      pub named : AllItemsNamed front (types_meant P spot l i ps ts)
      pub bounded : AllBounded (types_meant P spot l i ps ts)
      pub allowed : AllowedAll parts.MayHave (types_meant P spot l i ps ts)
      pub printable : AllPrintable spot (label_meant P spot l us) i (components_meant P spot l i ps ts) (types_meant P spot l i ps ts)

    abbrev TypeGood : Rose PlainLabel → Type 0
    TypeGood t = (levels : ℕ) (spot : Spot) (nameless : Bool) → IsType t → TypeClean P spot nameless t → LeadsIn P t → chains_end P t ≡ true → length (type_text levels t) < 2 ^ 32 → TypeMeant spot nameless t

    abbrev PartsGood : Roses PlainLabel → Type 0
    PartsGood ts = (levels : ℕ) (spot : Spot) (nameless : Bool) (l : PlainLabel) (us : Roses PlainLabel) (i : ℕ) (before : List (List ℕ)) (front : ℕ) (ps : List PlainPart) → length_all us ≡ length (parts_of l.form)
        → length_all ts ≡ length ps → AreTypes ts → PartsClean P spot nameless l i before front ps ts → leads_all ts → chains_all ts → total 0 (part_texts levels ps ts) < 2 ^ 32
        → PartsMeant spot l us i front ps ts

    nameless_same : (spot : Spot) (l : PlainLabel) → modules.nameless_parts (type_marks_meant spot l.form l.marks) ≡ nameless_parts l.marks
    nameless_same spot l = ap₂ (λ a b. modules.one_if a + modules.one_if b) (embed-same spot l.form l.marks) (order-same spot l.form l.marks) ∙ one_same (told.has_embed_values l.marks) (told.has_use_order l.marks)
      where
        one_same : (a b : Bool) → modules.one_if a + modules.one_if b ≡ one_if a + one_if b
        one_same true true = refl
        one_same true false = refl
        one_same false true = refl
        one_same false false = refl

    node_good : (l : PlainLabel) (ts : Roses PlainLabel) → PartsGood ts → TypeGood (node l ts)
    node_good l ts rest levels spot nameless is c h chains short =
        let texts = part_texts (level_of_parts levels l.form) (parts_of l.form) ts in
        let body : length (form_text levels l.form texts) < 2 ^ 32 = omega (arith, short, length-append (type_marks_text l.marks) (form_text levels l.form texts)) in
        let apart = parts_distinct l.form ts spot (told.has_list l.marks || nameless) l (nameless_parts l.marks) is.1 is.2 c.2 in
        let fine = form-fine P l ts levels spot is.1 is.2 body c.0 c.1 apart in
        let inner = rest (level_of_parts levels l.form) spot (told.has_list l.marks || nameless) l ts 0 [] (nameless_parts l.marks) (parts_of l.form) is.2 is.2 is.3 c.2 (kids_lead l ts h) (kids_chain l ts chains)
        (omega (arith, inside_form l.form levels ts, body)) in
        let us = types_meant P spot l 0 (parts_of l.form) ts in
        let same = parts-meant P l ts spot is.2 in
        let named = item_named l.at l.marks l.form ts spot (told.has_list l.marks || nameless) (nameless_parts l.marks) is.2 c.2 in
        record {
          well = (well_node spot nameless l ts is c fine h chains, inner.well);
          named = (
            subst (λ b. IsItemNamed (b || nameless) (form_meant P spot l ts)) (sym (list-same spot l.form l.marks)) named,
            subst (λ n. AllItemsNamed n us) (sym (nameless_same spot l)) inner.named,
          );
          bounded = (fine.bounds, inner.bounded);
          allowed = (types-long spot l 0 (parts_of l.form) ts is.2 ∙ sym (components-long P spot l 0 (parts_of l.form) ts is.2) ∙ sym (ap length same), inner.allowed);
          printable = (
            record {
              marks = type_marks-printable P spot l ts (form_meant P spot l ts) fine.finds is.0 c.0 fine.texts;
              names = fine.names;
              parts =
                  subst (λ cs. All (λ (part : Component). HasPartMarks part.identifier part.marks) cs) (sym same)
                  (parts_marked spot (told.has_list l.marks || nameless) l 0 [] (nameless_parts l.marks) (parts_of l.form) ts (plain_parts l.form is.1) c.2);
              order = fine.stands;
            },
            subst (λ cs. AllPrintable spot (label_meant P spot l ts) 0 cs us) (sym same) inner.printable,
          );
        }

    none_good : PartsGood rose.none
    none_good levels spot nameless l us i before front [] wide long types c h chains short = record { well = tt; named = tt; bounded = tt; allowed = tt; printable = tt }
    none_good levels spot nameless l us i before front (part ∷ ps) wide long types c h chains short = absurd (omega (arith, long))

    more_good : (t : Rose PlainLabel) (ts : Roses PlainLabel) → TypeGood t → PartsGood ts → PartsGood (rose.more t ts)
    more_good t ts first rest levels spot nameless l us i before front [] wide long types c h chains short = absurd (omega (arith, long))
    more_good t ts first rest levels spot nameless l us i before front (part ∷ ps) wide long types c h chains short =
        let text = type_text levels t in
        let g = first_lead t ts h in
        let k = first_chain t ts chains in
        let there = part_spot spot l i part in
        let f = first levels there (nat_lt 0 front) types.0 c.1 g.0 k.0 (omega (arith, short, part_long part text)) in
        let r = rest levels spot nameless l us (i + 1) (before ++ part.identifier ∷ []) (front - 1) ps wide (omega (arith, long)) types.1 c.2 g.1 k.1 (omega (arith, short)) in
        record {
          well = (f.well, r.well);
          named = (f.named, r.named);
          bounded = (f.bounded, r.bounded);
          allowed = (f.allowed, r.allowed);
          printable = (subst (λ s. ArePrintable s (type_meant P there t)) (sym (spot-same spot l us i there part t wide)) f.printable, r.printable);
        }

    mutual
      pub type-good : (t : Rose PlainLabel) → TypeGood t
      type-good (node l ts) = node_good l ts (parts-good ts)

      parts-good : (ts : Roses PlainLabel) → PartsGood ts
      parts-good rose.none = none_good
      parts-good (rose.more t ts) = more_good t ts (type-good t) (parts-good ts)
