-- Default and fixed values of a text without a fault are those of attributes of a module.
use Rattle.std.proofs.Common.{◌≡◌, ℕ, ◌+◌, Bool, true, false, ◌||◌, not, Option, Some, None, Ok, Err, List, [], ◌∷◌, is_some, refl, sym, ap, ◌∙◌}
use Rattle.std.specs.Prelude.{bytes_eq, unwrap_or, if◌then◌else◌}
use Rattle.std.proofs.lemmas.Bool.{true≢false}
use Rattle.base_trees.specs.Rose.{Rose, node, Roses, label_of, list_of, length_all}
use Rattle.base_trees.specs.Rose as rose
use Rattle.simple_types.specs.declared.labels.ValueLabel.{ValueLabel}
use Rattle.simple_types.specs.declared.standards.Standard.{Standard}
use Rattle.simple_types.specs.declared.standards.Standard.TheVariants.{Free, Default, Fixed}
use Rattle.simple_types.specs.Space.{Space}
use Rattle.simple_types.specs.Reading.{Reading, reads, spelled}
use Rattle.asn_types.specs.declared.types.TypeLabel.{TypeLabel}
use Rattle.asn_types.specs.Marks as marked
use Rattle.asn_types.specs.Refs as refs
use Rattle.asn_types.specs.Simples.{IsSimple}
use Rattle.asn_types.specs.Modules.{IsSpellingOf, IsStandard, AreStandards, AttributesAreSimple}
use Rattle.module_text.specs.declared.marks.PartMark.{PartMark}
use Rattle.module_text.specs.declared.marks.PartMarkKind.{PartMarkKind}
use Rattle.module_text.specs.declared.marks.PartMarkKind.TheVariants as part_mark
use Rattle.module_text.specs.declared.values.PlainValueLabel.{PlainValueLabel}
use Rattle.module_text.specs.declared.values.PlainOctets.{PlainOctets}
use Rattle.module_text.specs.declared.values.Absence.{Absence}
use Rattle.module_text.specs.declared.values.Absence.TheVariants as absence
use Rattle.module_text.specs.declared.types.PlainPart.{PlainPart}
use Rattle.module_text.specs.declared.types.PlainLabel.{PlainLabel}
use Rattle.module_text.specs.declared.modules.PlainAssignment.{PlainAssignment}
use Rattle.module_text.specs.Ranks.{rank_of_part_mark}
use Rattle.module_text.specs.Plain.{IsType, AreTypes}
use Rattle.module_text.specs.declared.reasons.ModuleWhy.TheVariants as why
use Rattle.module_text.specs.declared.spots.Spot.{Spot}
use Rattle.module_text.specs.Told as told
use Rattle.module_text.specs.Told.{is_xml_text}
use Rattle.module_text.specs.Resolving.{resolve, all_references, all_references_in, number_of}
use Rattle.module_text.specs.Orders.{may_be_absent}
use Rattle.module_text.specs.Defaults.{own_value, canonical_value, spelling_told, is_told, default_told, octets_of}
use Rattle.module_text.specs.Marks.{is_rank, part_mark_may, part_mark_stands}
use Rattle.module_text.specs.Faults.{part_mark_faults, is_canonical, fixed_faults, part_spot, space_through, space_at}
use Rattle.module_text.specs.Meaning.{part_marks_meant, default_meant, standard_meant, component_meant, components_meant, type_meant, types_meant, module_meant}
use Rattle.module_text.proofs.PrintedBounds.{unless-none, front-none, behind-none, and-first, and-second}
use Rattle.module_laws.proofs.Firsts.{same_bytes}
use Rattle.module_laws.proofs.RoleLaws.{attribute-same}
use Rattle.module_laws.proofs.ResolveLaws.{AllLead, AllTyped, Leads, resolved-simply, leads-in}
use Rattle.module_laws.proofs.Clean.{PartsClean}

-- ---- ATTRIBUTE stands where there is a simple type

attribute_asks : (at : ℕ) (k : PartMarkKind) (simple : Bool) (g : List ℕ) → told.is_attribute (record { at = at; kind = k }) ≡ true → part_mark_may simple g k ≡ true → simple ≡ true
attribute_asks at part_mark.Attribute simple g e f = f
attribute_asks at part_mark.Untagged simple g e f = absurd (true≢false (sym e))
attribute_asks at (part_mark.Name name) simple g e f = absurd (true≢false (sym e))
attribute_asks at (part_mark.Namespace space) simple g e f = absurd (true≢false (sym e))

attribute_by : (b c simple : Bool) → (b || c) ≡ true → (b ≡ true → simple ≡ true) → (c ≡ true → simple ≡ true) → simple ≡ true
attribute_by true c simple e here later = here refl
attribute_by false c simple e here later = later e

attribute_simple : (simple : Bool) (g : List ℕ) (before : Option ℕ) (ms : List PartMark) → told.has_attribute ms ≡ true → part_mark_faults simple g before ms ≡ [] → simple ≡ true
attribute_simple simple g before [] e f = absurd (true≢false (sym e))
attribute_simple simple g before (m ∷ ms) e f =
    let others = part_mark_faults simple g (Some (rank_of_part_mark m.kind)) ms in
    let ok = unless-none (part_mark_stands simple g before m) m.at why.Spelling (front-none _ others f) in
    attribute_by (told.is_attribute m) (told.has_attribute ms) simple e
    (λ is. attribute_asks m.at m.kind simple g is (and-second (not (is_rank before (rank_of_part_mark m.kind))) (part_mark_may simple g m.kind) ok))
    (λ is. attribute_simple simple g (Some (rank_of_part_mark m.kind)) ms is (behind-none _ others f))

-- ---- texts that are spellings

xml_value : (s : Space) (text : List ℕ) (w : Rose ValueLabel) (b : Bool) → (if b then own_value s text (reads s text) else None) ≡ Some w → own_value s text (reads s text) ≡ Some w
xml_value s text w true e = e
xml_value s text w false e = absurd (cc)

own_is : (s : Space) (text : List ℕ) (w : Rose ValueLabel) (r : Reading) → reads s text ≡ r → own_value s text r ≡ Some w → (reads s text ≡ Ok w) × (spelled s w ≡ text)
own_is s text w (Err why_) is e = absurd (cc)
own_is s text w (Ok v) is e = by (bytes_eq (spelled s v) text) refl e
  where
    by : (b : Bool) → bytes_eq (spelled s v) text ≡ b → (if b then Some v else None) ≡ Some w → (reads s text ≡ Ok w) × (spelled s w ≡ text)
    by true same f =
        let value : v ≡ w = cc in
        (is ∙ ap (λ x. Ok x) value, sym (ap (spelled s) value) ∙ same_bytes (spelled s v) text same)
    by false same f = absurd (cc)

pub canonical-is : (s : Space) (text : List ℕ) (w : Rose ValueLabel) → canonical_value s text ≡ Some w → (reads s text ≡ Ok w) × (spelled s w ≡ text)
canonical-is s text w e = own_is s text w (reads s text) refl (xml_value s text w (is_xml_text text) e)

-- what a default value tells
pub record Told (s : Space) (l : PlainLabel) (ts : List (Rose PlainLabel)) (v : Rose PlainValueLabel) (text : List ℕ) : Type 0 where
  pub value : Rose ValueLabel
  pub spelling : spelling_told l ts v ≡ Some text
  pub canonical : canonical_value s text ≡ Some value
  pub same : is_told l ts v value ≡ true

told_value : (s : Space) (l : PlainLabel) (ts : List (Rose PlainLabel)) (v : Rose PlainValueLabel) (text spelt : List ℕ) → spelling_told l ts v ≡ Some spelt → (o : Option (Rose ValueLabel)) → canonical_value s spelt ≡ o
    → (elim o [ None ↦ None | Some w ↦ if is_told l ts v w then Some spelt else None ]) ≡ Some text → Told s l ts v text
told_value s l ts v text spelt is None can e = absurd (cc)
told_value s l ts v text spelt is (Some w) can e = by (is_told l ts v w) refl e
  where
    by : (b : Bool) → is_told l ts v w ≡ b → (if b then Some spelt else None) ≡ Some text → Told s l ts v text
    by true so f =
        let same : spelt ≡ text = cc in
        record { value = w; spelling = is ∙ ap (λ t. Some t) same; canonical = sym (ap (canonical_value s) same) ∙ can; same = so }
    by false so f = absurd (cc)

told_spelling : (s : Space) (l : PlainLabel) (ts : List (Rose PlainLabel)) (v : Rose PlainValueLabel) (text : List ℕ) (o : Option (List ℕ)) → spelling_told l ts v ≡ o
    → (elim o [ None ↦ None | Some text ↦ elim (canonical_value s text) [ None ↦ None | Some w ↦ if is_told l ts v w then Some text else None ] ]) ≡ Some text → Told s l ts v text
told_spelling s l ts v text None is e = absurd (cc)
told_spelling s l ts v text (Some spelt) is e = told_value s l ts v text spelt is (canonical_value s spelt) refl e

pub default-told : (s : Space) (l : PlainLabel) (ts : List (Rose PlainLabel)) (v : Rose PlainValueLabel) (text : List ℕ) → default_told s l ts v ≡ Some text → Told s l ts v text
default-told s l ts v text e = told_spelling s l ts v text (spelling_told l ts v) refl e

-- ---- standards

module _ (P : List PlainAssignment) (leads : AllLead P) (typed : AllTyped P) where
  attribute_space : (spot : Spot) (ms : List PartMark) (t : Rose PlainLabel) (s : Space) → space_at P spot ms t ≡ Some s → (told.has_attribute ms ≡ true) × (space_through P spot t ≡ Some s)
  attribute_space spot ms t s e = by (told.has_attribute ms) refl e
    where
      by : (b : Bool) → told.has_attribute ms ≡ b → (if b then space_through P spot t else None) ≡ Some s → (told.has_attribute ms ≡ true) × (space_through P spot t ≡ Some s)
      by true is f = (is, f)
      by false is f = absurd (cc)

  spelling_of : (spot : Spot) (t : Rose PlainLabel) (s : Space) (text : List ℕ) (w : Rose ValueLabel) → IsType t → Leads P (label_of t).form → space_through P spot t ≡ Some s
      → canonical_value s text ≡ Some w → IsSpellingOf (module_meant P) (type_meant P spot t) text
  spelling_of spot t s text w is h e f =
      let m = resolved-simply P leads typed spot t s is h e in
      let c = canonical-is s text w f in
      (s, w, m.sound, m.maps, ap (reads s) c.1 ∙ c.0, c.1)

  -- of a part with ATTRIBUTE or without it, which may be absent or not
  abbrev Stands : Standard → Bool → Bool → Rose TypeLabel → Type 0
  Stands standard attribute optional u = elim standard [
    | Free ↦ Unit {0}
    | Default text ↦ (attribute ≡ true) × (optional ≡ true) × IsSpellingOf (module_meant P) u text
    | Fixed text ↦ (attribute ≡ true) × IsSpellingOf (module_meant P) u text
  ]

  module _ (spot : Spot) (g : List ℕ) (ms : List PartMark) (t : Rose PlainLabel) (is : IsType t) (h : Leads P (label_of t).form) where
    has : (s : Space) → space_at P spot ms t ≡ Some s → marked.has_attribute (part_marks_meant g ms) ≡ true
    has s e = attribute-same g ms ∙ (attribute_space spot ms t s e).0

    told_stands : (s : Space) → space_at P spot ms t ≡ Some s → (l : PlainLabel) (us : List (Rose PlainLabel)) (v : Rose PlainValueLabel) (o : Option (List ℕ)) → default_told s l us v ≡ o
        → Stands (elim o [ None ↦ Free | Some text ↦ Default text ]) (marked.has_attribute (part_marks_meant g ms)) true (type_meant P spot t)
    told_stands s e l us v None f = tt
    told_stands s e l us v (Some text) f =
        let d = default-told s l us v text f in
        (has s e, refl, spelling_of spot t s text d.value is h (attribute_space spot ms t s e).1 d.canonical)

    default_stands : (o : Option Space) → space_at P spot ms t ≡ o → (u : Rose PlainLabel) (v : Rose PlainValueLabel)
        → Stands (default_meant o u (absence.Default v)) (marked.has_attribute (part_marks_meant g ms)) true (type_meant P spot t)
    default_stands None e (node l us) v = tt
    default_stands (Some s) e (node l us) v = told_stands s e l (list_of us) v (default_told s l (list_of us) v) refl

    some_value : (o : Option (Rose ValueLabel)) → is_some o ≡ true → (w : Rose ValueLabel) × (o ≡ Some w)
    some_value None e = absurd (true≢false (sym e))
    some_value (Some w) e = (w, refl)

    fixed_stands : (o : Option Space) → space_at P spot ms t ≡ o → (text : Option (List ℕ)) → is_canonical o text ≡ true
        → (marked.has_attribute (part_marks_meant g ms) ≡ true) × IsSpellingOf (module_meant P) (type_meant P spot t) (unwrap_or text [])
    fixed_stands None e text f = absurd (true≢false (sym f))
    fixed_stands (Some s) e None f = absurd (true≢false (sym f))
    fixed_stands (Some s) e (Some text) f =
        let w = some_value (canonical_value s text) f in
        (has s e, spelling_of spot t s text w.0 is h (attribute_space spot ms t s e).1 w.1)

    standard_by : (fixed : Option PlainOctets) (a : Absence) → fixed_faults (space_at P spot ms t) fixed ≡ []
        → Stands (standard_meant (space_at P spot ms t) (resolve P t) fixed a) (marked.has_attribute (part_marks_meant g ms)) (may_be_absent a) (type_meant P spot t)
    standard_by None absence.Never e = tt
    standard_by None absence.Optional e = tt
    standard_by None (absence.Default v) e = default_stands (space_at P spot ms t) refl (resolve P t) v
    standard_by (Some octets) a e =
        fixed_stands (space_at P spot ms t) refl (octets_of octets.digits) (unless-none (is_canonical (space_at P spot ms t) (octets_of octets.digits)) octets.at why.Spelling e)

  pub standard-is : (spot : Spot) (part : PlainPart) (t : Rose PlainLabel) → IsType t → Leads P (label_of t).form → fixed_faults (space_at P spot part.marks t) part.fixed ≡ []
      → IsStandard (module_meant P) (component_meant P spot part t) (type_meant P spot t)
  standard-is spot part t is h e = standard_by spot part.identifier part.marks t is h part.fixed part.absence e

  some_space : (o : Option Space) → is_some o ≡ true → (s : Space) × (o ≡ Some s)
  some_space None e = absurd (true≢false (sym e))
  some_space (Some s) e = (s, refl)

  -- the type of a part or an assignment with ATTRIBUTE stands for a simple type
  pub attribute-is : (spot : Spot) (g : List ℕ) (ms : List PartMark) (t : Rose PlainLabel) → IsType t → Leads P (label_of t).form
      → part_mark_faults (is_some (space_at P spot ms t)) g None ms ≡ [] → marked.has_attribute (part_marks_meant g ms) ≡ true
      → IsSimple (refs.resolve (module_meant P) (type_meant P spot t))
  attribute-is spot g ms t is h e f =
      let simple = attribute_simple (is_some (space_at P spot ms t)) g None ms (sym (attribute-same g ms) ∙ f) e in
      let s = some_space (space_at P spot ms t) simple in
      let m = resolved-simply P leads typed spot t s.0 is h (attribute_space spot ms t s.0 s.1).1 in
      (s.0, m.sound, m.maps)

  abbrev leads_all : Roses PlainLabel → Type 0
  leads_all ts = all_references_in (λ name. is_some (number_of P name)) ts ≡ true

  first_leads : (t : Rose PlainLabel) (ts : Roses PlainLabel) → leads_all (rose.more t ts) → Leads P (label_of t).form × leads_all ts
  unfolding all_references
  first_leads (node l us) ts e = (
    leads-in P l us (and-first (all_references (λ name. is_some (number_of P name)) (node l us)) (all_references_in (λ name. is_some (number_of P name)) ts) e),
    and-second (all_references (λ name. is_some (number_of P name)) (node l us)) (all_references_in (λ name. is_some (number_of P name)) ts) e,
  )

  pub standards-are : (spot : Spot) (nameless : Bool) (l : PlainLabel) (i : ℕ) (before : List (List ℕ)) (front : ℕ) (ps : List PlainPart) (ts : Roses PlainLabel) → AreTypes ts → leads_all ts
      → PartsClean P spot nameless l i before front ps ts → AreStandards (module_meant P) (components_meant P spot l i ps ts) (types_meant P spot l i ps ts)
  standards-are spot nameless l i before front [] ts types h c = tt
  standards-are spot nameless l i before front (part ∷ ps) rose.none types h c = tt
  standards-are spot nameless l i before front (part ∷ ps) (rose.more t ts) types h c =
      let g = first_leads t ts h in
      (standard-is (part_spot spot l i part) part t types.0 g.0 c.0.fixed, standards-are spot nameless l (i + 1) _ _ ps ts types.1 g.1 c.2)

  pub attributes-are : (spot : Spot) (nameless : Bool) (l : PlainLabel) (i : ℕ) (before : List (List ℕ)) (front : ℕ) (ps : List PlainPart) (ts : Roses PlainLabel) → AreTypes ts → leads_all ts
      → PartsClean P spot nameless l i before front ps ts → AttributesAreSimple (module_meant P) (components_meant P spot l i ps ts) (types_meant P spot l i ps ts)
  attributes-are spot nameless l i before front [] ts types h c = tt
  attributes-are spot nameless l i before front (part ∷ ps) rose.none types h c = tt
  attributes-are spot nameless l i before front (part ∷ ps) (rose.more t ts) types h c =
      let g = first_leads t ts h in
      (attribute-is (part_spot spot l i part) part.identifier part.marks t types.0 g.0 c.0.marks, attributes-are spot nameless l (i + 1) _ _ ps ts types.1 g.1 c.2)
