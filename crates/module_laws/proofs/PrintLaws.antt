-- The types that a text without a fault tells are printed as they are written.
use Rattle.std.proofs.Common.{◌≡◌, ℕ, zero, suc, ◌<◌, ◌+◌, ◌-◌, ◌^◌, Bool, true, false, ◌||◌, Option, Some, None, List, [], ◌∷◌, ◌++◌, length, All, is_some, refl, sym, ap, ◌∙◌, subst, arith, codes, length-append, append_assoc}
use Rattle.std.specs.Prelude.{bytes_eq, nat_lt, unwrap_or, if◌then◌else◌}
use Rattle.std.proofs.lemmas.Bool.{true≢false}
use Rattle.std.proofs.lemmas.List.Elements.{All-nil, All-cons}
use Rattle.base_trees.specs.Rose.{Rose, node, Roses, label_of, list_of, length_all}
use Rattle.base_trees.specs.Rose as rose
use Rattle.simple_types.specs.declared.labels.ValueLabel.{ValueLabel}
use Rattle.simple_types.specs.declared.simples.Class.{Class}
use Rattle.simple_types.specs.declared.standards.Standard.TheVariants.{Free, Default}
use Rattle.simple_types.specs.Space.{Space}
use Rattle.simple_types.specs.Reading.{reads}
use Rattle.asn_types.specs.declared.types.Component.{Component}
use Rattle.asn_types.specs.Parts as parts
use Rattle.asn_types.specs.Spaces as spaces
use Rattle.asn_types.proofs.SimpleLaws.{maps-seen}
use Rattle.module_print.specs.Notation.{commented, hexadecimal, fixed_range}
use Rattle.module_print.specs.Instructions.{instructions}
use Rattle.module_print.specs.Values.{value_notation, read_notation, value_of, default}
use Rattle.module_print.specs.Printed as print
use Rattle.module_print.specs.Printed.{labelled, type_of, if_absent, ending, with_type, prefixes, printed_type, printed_parts}
use Rattle.module_text.specs.declared.marks.PartMark.{PartMark}
use Rattle.module_text.specs.declared.marks.TypeMark.{TypeMark}
use Rattle.module_text.specs.declared.values.PlainValueLabel.{PlainValueLabel}
use Rattle.module_text.specs.declared.values.PlainOctets.{PlainOctets}
use Rattle.module_text.specs.declared.values.Absence.{Absence}
use Rattle.module_text.specs.declared.values.Absence.TheVariants as absence
use Rattle.module_text.specs.declared.types.PlainPart.{PlainPart}
use Rattle.module_text.specs.declared.types.PlainForm.{PlainForm}
use Rattle.module_text.specs.declared.types.PlainForm.TheVariants as form
use Rattle.module_text.specs.declared.types.PlainLabel.{PlainLabel}
use Rattle.module_text.specs.declared.modules.PlainAssignment.{PlainAssignment}
use Rattle.module_text.specs.Texts.{part_marks_text, type_marks_text, value_text, fixed_text, absence_text, parts_of, level_of_parts, form_text, part_text, part_texts, type_text}
use Rattle.module_text.specs.Plain.{ArePartMarks, IsAbsence, IsComponent, IsAlternative, IsForm, IsType, AreTypes}
use Rattle.module_text.specs.declared.reasons.ModuleWhy.TheVariants as why
use Rattle.module_text.specs.declared.spots.Spot.{Spot}
use Rattle.module_text.specs.declared.spots.Spot.TheVariants.{Elsewhere}
use Rattle.module_text.specs.Told as told
use Rattle.module_text.specs.Told.{Bounds, Sizes, range_of, sizes_of}
use Rattle.module_text.specs.Resolving.{body_at, next, follow, resolve, reference_of}
use Rattle.module_text.specs.Simple.{is_order_item, simple_told}
use Rattle.module_text.specs.Orders.{may_be_absent}
use Rattle.module_text.specs.Defaults.{spelling_told, is_told, default_told, octets_of}
use Rattle.module_text.specs.Faults.{part_mark_faults, is_canonical, fixed_faults, is_fixed, is_default, absence_faults, value_at, part_spot, nameless_parts, space_through, space_at}
use Rattle.module_text.specs.Meaning.{part_marks_meant, words_meant, int_meant, utf8_meant, list_meant, default_meant, standard_meant, component_meant, components_meant, form_meant, type_meant, types_meant, module_meant}
use Rattle.module_text.proofs.PrintedBounds.{unless-none}
use Rattle.module_laws.proofs.Firsts.{same_bytes}
use Rattle.module_laws.proofs.PartMarkLaws.{part_marks-printed}
use Rattle.module_laws.proofs.TypeMarkLaws.{type_marks-printed}
use Rattle.module_laws.proofs.OctetLaws.{octets-printed}
use Rattle.module_laws.proofs.SimpleLaws.{simply, all_head, all_tail}
use Rattle.module_laws.proofs.RoleLaws.{parts-meant, label_meant}
use Rattle.module_laws.proofs.ResolveLaws.{AllLead, AllTyped, Leads, LeadsIn, leads-in, through, resolve-meant, space-is, resolved-typed, body_found, body_there}
use Rattle.module_laws.proofs.StandardLaws.{canonical-is, default-told}
use Rattle.module_laws.proofs.FormLaws.{form-fine}
use Rattle.module_laws.proofs.Clean.{TypeClean, PartsClean}
use Rattle.module_laws.proofs.WellLaws.{leads_all, kids_lead, first_lead, parts_distinct, inside_form, part_long}
use Rattle.module_laws.proofs.Placed.{total}

-- ---- the level of parts

int_level : (levels : ℕ) (o : Option Bounds) → print.level_of_parts levels (int_meant o) ≡ suc levels
int_level levels None = refl
int_level levels (Some b) = refl

utf8_level : (levels : ℕ) (o : Option Sizes) (class : Class) → print.level_of_parts levels (utf8_meant o class) ≡ suc levels
utf8_level levels None class = refl
utf8_level levels (Some b) class = refl

words_level : (levels : ℕ) (order : Bool) (ms : List TypeMark) (is : _) → print.level_of_parts levels (words_meant order ms is) ≡ suc levels
words_level levels true ms is = refl
words_level levels false ms is = refl

list_level : (levels : ℕ) (o : Option Sizes) (part : Component) → print.level_of_parts levels (list_meant o part) ≡ levels
list_level levels None part = refl
list_level levels (Some b) part = refl

module _ (P : List PlainAssignment) where
  level_same : (levels at : ℕ) (ms : List TypeMark) (f : PlainForm) (ts : Roses PlainLabel) (spot : Spot)
      → print.level_of_parts levels (form_meant P spot (record { at = at; marks = ms; form = f }) ts) ≡ level_of_parts levels f
  level_same levels at ms form.Bool ts spot = refl
  level_same levels at ms (form.Int r) ts spot = int_level levels (range_of r)
  level_same levels at ms (form.Numbers items) ts spot = refl
  level_same levels at ms (form.Words names) ts spot = words_level levels (is_order_item spot) ms names
  level_same levels at ms (form.Utf8 size class) ts spot = utf8_level levels (sizes_of size) class
  level_same levels at ms (form.Sequence ps) ts spot = refl
  level_same levels at ms (form.Choice ps) ts spot = refl
  level_same levels at ms (form.SequenceOf size item) ts spot = list_level levels (sizes_of size) _
  level_same levels at ms (form.Ref reference) ts spot = refl

  -- ---- values behind DEFAULT, each at a type that stands for a simple one

  -- a value is printed as it is written, where it is told so
  abbrev pub Notates : Type 0
  Notates = (v : Rose PlainValueLabel) (l : PlainLabel) (ts : Roses PlainLabel) (spot : Spot) (nameless : Bool) (s : Space) (w : Rose ValueLabel) (text : List ℕ) → IsType (node l ts)
      → TypeClean P spot nameless (node l ts) → simple_told spot (node l ts) ≡ Some s → spelling_told l (list_of ts) v ≡ Some text → is_told l (list_of ts) v w ≡ true
      → value_notation (type_meant P spot (node l ts)) w ≡ value_text v

  -- the types of assignments have no fault
  abbrev pub AllClean : Type 0
  AllClean = (k : ℕ) (t : Rose PlainLabel) → body_at P k ≡ Some t → TypeClean P Elsewhere false t

  -- a type without a fault where it stands that one leads to
  abbrev CleanAt : Spot → Rose PlainLabel → Type 0
  CleanAt spot t = (nameless : Bool) × TypeClean P spot nameless t

  clean_by : AllClean → (n : ℕ) → ((u : Rose PlainLabel) → CleanAt Elsewhere u → CleanAt Elsewhere (follow P n u)) → (t : Rose PlainLabel) → CleanAt Elsewhere t → (o : Option (Rose PlainLabel)) → next P t ≡ o
      → CleanAt Elsewhere (elim o [ None ↦ t | Some u ↦ follow P n u ])
  clean_by all n rest t c None is = c
  clean_by all n rest t c (Some u) is = let k = body_found P (reference_of (label_of t).form) u is in rest u (false, all k.0 u k.1)

  follow_clean : AllClean → (n : ℕ) (t : Rose PlainLabel) → CleanAt Elsewhere t → CleanAt Elsewhere (follow P n t)
  unfolding follow
  follow_clean all zero t c = c
  follow_clean all (suc n) t c = clean_by all n (λ u d. follow_clean all n u d) t c (next P t) refl

  -- a reference that has an assignment
  led_clean : AllClean → (t : Rose PlainLabel) (o : Option (Rose PlainLabel)) → next P t ≡ o → ((u : Rose PlainLabel) × (next P t ≡ Some u)) → CleanAt Elsewhere (elim o [ None ↦ t | Some u ↦ follow P 3 u ])
  led_clean all t None is some = let found = some.1 in absurd (cc)
  led_clean all t (Some u) is some = let k = body_found P (reference_of (label_of t).form) u is in follow_clean all 3 u (false, all k.0 u k.1)

  resolved_by : AllClean → (at : ℕ) (ms : List TypeMark) (f : PlainForm) (ts : Roses PlainLabel) (spot : Spot) (nameless : Bool)
      → let t : Rose PlainLabel = node (record { at = at; marks = ms; form = f }) ts in
      Leads P f → TypeClean P spot nameless t → CleanAt (through P spot t) (resolve P t)
  unfolding follow
  resolved_by all at ms form.Bool ts spot nameless h c = (nameless, c)
  resolved_by all at ms (form.Int r) ts spot nameless h c = (nameless, c)
  resolved_by all at ms (form.Numbers items) ts spot nameless h c = (nameless, c)
  resolved_by all at ms (form.Words names) ts spot nameless h c = (nameless, c)
  resolved_by all at ms (form.Utf8 size class) ts spot nameless h c = (nameless, c)
  resolved_by all at ms (form.Sequence ps) ts spot nameless h c = (nameless, c)
  resolved_by all at ms (form.Choice ps) ts spot nameless h c = (nameless, c)
  resolved_by all at ms (form.SequenceOf size item) ts spot nameless h c = (nameless, c)
  resolved_by all at ms (form.Ref reference) ts spot nameless h c =
      let t : Rose PlainLabel = node (record { at = at; marks = ms; form = form.Ref reference }) ts in
      let k = h reference.name refl in
      led_clean all t (next P t) refl (body_there P reference.name k.0 k.1)

  resolved-clean : AllClean → (spot : Spot) (nameless : Bool) (t : Rose PlainLabel) → Leads P (label_of t).form → TypeClean P spot nameless t → CleanAt (through P spot t) (resolve P t)
  resolved-clean all spot nameless (node l ts) h c = resolved_by all l.at l.marks l.form ts spot nameless h c

  module _ (leads : AllLead P) (typed : AllTyped P) (clean_all : AllClean) (notates : Notates) where
    -- the value behind DEFAULT is printed as it is written
    value_by : (u : Rose PlainLabel) (spot : Spot) (s : Space) (v : Rose PlainValueLabel) (text : List ℕ) → IsType u → CleanAt spot u → simple_told spot u ≡ Some s
        → (elim u [ node l ts ↦ default_told s l (list_of ts) v ]) ≡ Some text → read_notation (type_meant P spot u) text (reads s text) ≡ value_text v
    value_by (node l ts) spot s v text is c e f =
        let d = default-told s l (list_of ts) v text f in
        let r = canonical-is s text d.value d.canonical in
        ap (λ r. read_notation (type_meant P spot (node l ts)) text r) r.0
        ∙ notates v l ts spot c.0 s d.value text is c.1 e d.spelling d.same

    value_printed : (spot : Spot) (nameless : Bool) (t : Rose PlainLabel) (s : Space) (v : Rose PlainValueLabel) (text : List ℕ) → IsType t → TypeClean P spot nameless t → Leads P (label_of t).form
        → space_through P spot t ≡ Some s → (elim (resolve P t) [ node l ts ↦ default_told s l (list_of ts) v ]) ≡ Some text
        → value_of (module_meant P) (type_meant P spot t) text ≡ value_text v
    value_printed spot nameless t s v text is c h e f =
        let U = type_meant P (through P spot t) (resolve P t) in
        let simple = sym (space-is P spot t) ∙ e in
        let rt = resolved-typed P typed t is in
        let m = simply P (resolve P t) (through P spot t) s rt simple in
        ap (λ u. read_notation u text (reads (spaces.space_at u) text)) (resolve-meant P leads spot t h)
        ∙ ap (λ x. read_notation U text (reads x text)) (sym (maps-seen s U m.maps))
        ∙ value_by (resolve P t) (through P spot t) s v text rt (resolved-clean clean_all spot nameless t h c) simple f

    -- ---- what stands behind the type of a part

    no_fixed : (o : Option Space) (u : Rose PlainLabel) (a : Absence) → fixed_range (default_meant o u a) ≡ []
    no_fixed o u absence.Never = refl
    no_fixed o u absence.Optional = refl
    no_fixed None (node l ts) (absence.Default v) = refl
    no_fixed (Some s) (node l ts) (absence.Default v) = by (default_told s l (list_of ts) v)
      where
        by : (o : Option (List ℕ)) → fixed_range (elim o [ None ↦ Free | Some text ↦ Default text ]) ≡ []
        by None = refl
        by (Some text) = refl

    octets_are : (o : Option Space) (digits : List ℕ) (text : Option (List ℕ)) → octets_of digits ≡ text → is_canonical o text ≡ true → (t : List ℕ) × (octets_of digits ≡ Some t)
    octets_are None digits text is e = absurd (true≢false (sym e))
    octets_are (Some s) digits None is e = absurd (true≢false (sym e))
    octets_are (Some s) digits (Some t) is e = (t, is)

    fixed_printed : (o : Option Space) (u : Rose PlainLabel) (fixed : Option PlainOctets) (a : Absence) → fixed_faults o fixed ≡ [] → fixed_range (standard_meant o u fixed a) ≡ fixed_text fixed
    fixed_printed o u None a e = no_fixed o u a
    fixed_printed o u (Some octets) a e =
        let t = octets_are o octets.digits (octets_of octets.digits) refl (unless-none (is_canonical o (octets_of octets.digits)) octets.at why.Spelling e) in
        ap (λ x. commented (codes "fixed " ++ hexadecimal (unwrap_or x []))) t.1 ∙ ap (λ x. commented (codes "fixed " ++ x)) (octets-printed octets.digits t.0 t.1)

    -- what is told of a default value
    told_text : (o : Option (List ℕ)) (fixed : Option PlainOctets) → (elim o [ None ↦ false | Some text ↦ is_fixed fixed text ]) ≡ true → (text : List ℕ) × (o ≡ Some text) × (is_fixed fixed text ≡ true)
    told_text None fixed e = absurd (true≢false (sym e))
    told_text (Some text) fixed e = (text, refl, e)

    default_tells : (o : Option Space) (fixed : Option PlainOctets) (u : Rose PlainLabel) (v : Rose PlainValueLabel) → is_default o fixed u v ≡ true
        → (s : Space) × (text : List ℕ) × (o ≡ Some s) × ((elim u [ node l ts ↦ default_told s l (list_of ts) v ]) ≡ Some text) × (is_fixed fixed text ≡ true)
    default_tells None fixed (node l ts) v e = absurd (true≢false (sym e))
    default_tells (Some s) fixed (node l ts) v e = let t = told_text (default_told s l (list_of ts) v) fixed e in (s, t.0, refl, t.1, t.2)

    space_found : (spot : Spot) (ms : List PartMark) (t : Rose PlainLabel) (s : Space) → space_at P spot ms t ≡ Some s → space_through P spot t ≡ Some s
    space_found spot ms t s e = by (told.has_attribute ms) e
      where
        by : (b : Bool) → (if b then space_through P spot t else None) ≡ Some s → space_through P spot t ≡ Some s
        by true f = f
        by false f = absurd (cc)

    default_standard : (s : Space) (u : Rose PlainLabel) (v : Rose PlainValueLabel) (text : List ℕ) → (elim u [ node l ts ↦ default_told s l (list_of ts) v ]) ≡ Some text
        → default_meant (Some s) u (absence.Default v) ≡ Default text
    default_standard s (node l ts) v text e = ap (λ o. elim o [ None ↦ Free | Some text ↦ Default text ]) e

    fixed_is : (octets : PlainOctets) (text : List ℕ) (o : Option (List ℕ)) → octets_of octets.digits ≡ o → (elim o [ None ↦ false | Some fixed ↦ bytes_eq fixed text ]) ≡ true → unwrap_or (octets_of octets.digits) [] ≡ text
    fixed_is octets text None is e = absurd (true≢false (sym e))
    fixed_is octets text (Some t) is e = ap (λ o. unwrap_or o []) is ∙ same_bytes t text e

    -- the standard of a part whose value is this
    absent_text : (spot : Spot) (ms : List PartMark) (t : Rose PlainLabel) (fixed : Option PlainOctets) (v : Rose PlainValueLabel) (s : Space) (text : List ℕ) → space_at P spot ms t ≡ Some s
        → (elim (resolve P t) [ node l ts ↦ default_told s l (list_of ts) v ]) ≡ Some text → is_fixed fixed text ≡ true
        → if_absent (module_meant P) (type_meant P spot t) (standard_meant (space_at P spot ms t) (resolve P t) fixed (absence.Default v)) ≡ default (module_meant P) (type_meant P spot t) text
    absent_text spot ms t None v s text e f g =
        ap (if_absent (module_meant P) (type_meant P spot t)) (ap (λ o. default_meant o (resolve P t) (absence.Default v)) e ∙ default_standard s (resolve P t) v text f)
    absent_text spot ms t (Some octets) v s text e f g = ap (default (module_meant P) (type_meant P spot t)) (fixed_is octets text (octets_of octets.digits) refl g)

    ending_by : (spot : Spot) (nameless : Bool) (ms : List PartMark) (t : Rose PlainLabel) (fixed : Option PlainOctets) (a : Absence) → IsType t → TypeClean P spot nameless t → Leads P (label_of t).form
        → IsAbsence fixed a → absence_faults (space_at P spot ms t) fixed (resolve P t) a ≡ []
        → (if may_be_absent a then if_absent (module_meant P) (type_meant P spot t) (standard_meant (space_at P spot ms t) (resolve P t) fixed a) else []) ≡ absence_text a
    ending_by spot nameless ms t fixed absence.Never is c h plain e = refl
    ending_by spot nameless ms t fixed absence.Optional is c h plain e =
        ap (λ o. if_absent (module_meant P) (type_meant P spot t) (standard_meant (space_at P spot ms t) (resolve P t) o absence.Optional)) plain
    ending_by spot nameless ms t fixed (absence.Default v) is c h plain e =
        let d = default_tells (space_at P spot ms t) fixed (resolve P t) v (unless-none (is_default (space_at P spot ms t) fixed (resolve P t) v) (value_at v) why.Spelling e) in
        absent_text spot ms t fixed v d.0 d.1 d.2 d.3 d.4
        ∙ ap (λ text. codes " DEFAULT " ++ text) (value_printed spot nameless t d.0 v d.1 is c h (space_found spot ms t d.0 d.2) d.3)

    -- ---- types

    -- what is plain of a part
    abbrev EndsPlain : PlainPart → Type 0
    EndsPlain part = ArePartMarks part.marks × IsAbsence part.fixed part.absence

    components_end : (ps : List PlainPart) → All IsComponent ps → All EndsPlain ps
    components_end [] h = All-nil EndsPlain
    components_end (part ∷ ps) h =
        let is = all_head IsComponent part ps h in
        All-cons EndsPlain part ps (is.marks, is.absence) (components_end ps (all_tail IsComponent part ps h))

    bare_end : (fixed : Option PlainOctets) (a : Absence) → a ≡ absence.Never → IsAbsence fixed a
    bare_end fixed a e = subst (λ b. IsAbsence fixed b) (sym e) tt

    alternatives_end : (ps : List PlainPart) → All IsAlternative ps → All EndsPlain ps
    alternatives_end [] h = All-nil EndsPlain
    alternatives_end (part ∷ ps) h =
        let is = all_head IsAlternative part ps h in
        All-cons EndsPlain part ps (is.marks, bare_end part.fixed part.absence is.bare.1) (alternatives_end ps (all_tail IsAlternative part ps h))

    parts_end : (f : PlainForm) → IsForm f → All EndsPlain (parts_of f)
    parts_end form.Bool is = All-nil EndsPlain
    parts_end (form.Int r) is = All-nil EndsPlain
    parts_end (form.Numbers items) is = All-nil EndsPlain
    parts_end (form.Words names) is = All-nil EndsPlain
    parts_end (form.Utf8 size class) is = All-nil EndsPlain
    parts_end (form.Sequence ps) is = components_end ps is
    parts_end (form.Choice ps) is = alternatives_end ps is.1
    parts_end (form.SequenceOf size item) is = All-cons EndsPlain item [] (is.1.marks, bare_end item.fixed item.absence is.1.bare.1) (All-nil EndsPlain)
    parts_end (form.Ref reference) is = All-nil EndsPlain

    abbrev TypePrinted : Rose PlainLabel → Type 0
    TypePrinted t = (levels : ℕ) (spot : Spot) (nameless simple : Bool) (g : List ℕ) (ms : List PartMark) → IsType t → TypeClean P spot nameless t → LeadsIn P t → length (type_text levels t) < 2 ^ 32
        → ArePartMarks ms → part_mark_faults simple g None ms ≡ []
        → printed_type (module_meant P) levels g (part_marks_meant g ms) (type_meant P spot t) ≡ part_marks_text ms ++ type_text levels t

    abbrev PartsPrinted : Roses PlainLabel → Type 0
    PartsPrinted ts = (levels : ℕ) (spot : Spot) (nameless : Bool) (l : PlainLabel) (i : ℕ) (before : List (List ℕ)) (front : ℕ) (ps : List PlainPart) → length_all ts ≡ length ps → AreTypes ts
        → PartsClean P spot nameless l i before front ps ts → leads_all P ts → All EndsPlain ps → total 0 (part_texts levels ps ts) < 2 ^ 32
        → printed_parts (module_meant P) levels (components_meant P spot l i ps ts) (types_meant P spot l i ps ts) ≡ part_texts levels ps ts

    node_printed : (l : PlainLabel) (ts : Roses PlainLabel) → PartsPrinted ts → TypePrinted (node l ts)
    node_printed l ts rest levels spot nameless simple g ms is c h short ranked marks =
        let M = module_meant P in
        let to = form_meant P spot l ts in
        let us = types_meant P spot l 0 (parts_of l.form) ts in
        let lower = level_of_parts levels l.form in
        let texts = part_texts lower (parts_of l.form) ts in
        let body : length (form_text levels l.form texts) < 2 ^ 32 = omega (arith, short, length-append (type_marks_text l.marks) (form_text levels l.form texts)) in
        let apart = parts_distinct P l.form ts spot (told.has_list l.marks || nameless) l (nameless_parts l.marks) is.1 is.2 c.2 in
        let fine = form-fine P l ts levels spot is.1 is.2 body c.0 c.1 apart in
        let inner = rest lower spot (told.has_list l.marks || nameless) l 0 [] (nameless_parts l.marks) (parts_of l.form) is.2 is.3 c.2 (kids_lead P l ts h) (parts_end l.form is.1) (omega (arith, inside_form l.form levels ts, body)) in
        let L = label_meant P spot l ts in
        ap (λ x. (x ++ instructions g to L.marks) ++ type_of M levels to (printed_parts M (print.level_of_parts levels to) (parts.parts_of to) us)) (part_marks-printed simple g to ms ranked marks)
        ∙ ap (λ x. (part_marks_text ms ++ x) ++ type_of M levels to (printed_parts M (print.level_of_parts levels to) (parts.parts_of to) us)) (type_marks-printed P spot l ts to fine.finds g is.0 c.0)
        ∙ ap (λ x. (part_marks_text ms ++ type_marks_text l.marks) ++ x)
        (fine.printed levels (printed_parts M (print.level_of_parts levels to) (parts.parts_of to) us)
        ∙ ap (λ n. form_text levels l.form (printed_parts M n (parts.parts_of to) us)) (level_same levels l.at l.marks l.form ts spot)
        ∙ ap (λ cs. form_text levels l.form (printed_parts M lower cs us)) (parts-meant P l ts spot is.2)
        ∙ ap (λ x. form_text levels l.form x) inner)
        ∙ append_assoc (part_marks_text ms) (type_marks_text l.marks) (form_text levels l.form texts)

    none_printed : PartsPrinted rose.none
    none_printed levels spot nameless l i before front [] long types c h plain short = refl
    none_printed levels spot nameless l i before front (part ∷ ps) long types c h plain short = absurd (omega (arith, long))

    more_printed : (t : Rose PlainLabel) (ts : Roses PlainLabel) → TypePrinted t → PartsPrinted ts → PartsPrinted (rose.more t ts)
    more_printed t ts first rest levels spot nameless l i before front [] long types c h plain short = absurd (omega (arith, long))
    more_printed (node m us) ts first rest levels spot nameless l i before front (part ∷ ps) long types c h plain short =
        let t : Rose PlainLabel = node m us in
        let M = module_meant P in
        let there = part_spot spot l i part in
        let text = type_text levels t in
        let g = first_lead P t ts h in
        let is = all_head EndsPlain part ps plain in
        let space = space_at P there part.marks t in
        let standard = standard_meant space (resolve P t) part.fixed part.absence in
        let u = type_meant P there t in
        let c_ = component_meant P there part t in
        let head = labelled part.identifier in
        let type = first levels there (nat_lt 0 front) (is_some space) part.identifier part.marks types.0 c.1 g.0 (omega (arith, short, part_long part text)) is.0 c.0.marks in
        let others = rest levels spot nameless l (i + 1) (before ++ part.identifier ∷ []) (front - 1) ps (omega (arith, long)) types.1 c.2 g.1 (all_tail EndsPlain part ps plain) (omega (arith, short)) in
        let written = part_marks_text part.marks ++ text in
        let behind_ = printed_parts M levels (components_meant P spot l (i + 1) ps ts) (types_meant P spot l (i + 1) ps ts) in
        ap (λ x. (head ++ x ++ fixed_range standard ++ ending M c_ u) ∷ behind_) type
        ∙ ap (λ x. (head ++ written ++ x ++ ending M c_ u) ∷ behind_) (fixed_printed space (resolve P t) part.fixed part.absence c.0.fixed)
        ∙ ap (λ x. (head ++ written ++ fixed_text part.fixed ++ x) ∷ behind_)
        (ending_by there (nat_lt 0 front) part.marks t part.fixed part.absence types.0 c.1 (leads-in P m us g.0) is.1 c.0.absence)
        ∙ ap (λ x. part_text part written ∷ x) others

    mutual
      pub type-printed : (t : Rose PlainLabel) → TypePrinted t
      type-printed (node l ts) = node_printed l ts (parts-printed ts)

      parts-printed : (ts : Roses PlainLabel) → PartsPrinted ts
      parts-printed rose.none = none_printed
      parts-printed (rose.more t ts) = more_printed t ts (type-printed t) (parts-printed ts)
