-- What is told of a printable module tells all of it.
use Rattle.std.proofs.Common.{◌≡◌, ℕ, zero, suc, ◌<◌, ◌≤◌, ◌+◌, ◌^◌, Bool, true, false, Option, Some, None, List, [], ◌∷◌, map, length, refl, sym, ap, ap₂, subst, ◌∙◌, arith, option_map}
use Rattle.std.specs.Prelude.{ℤ, pos, All, bytes_eq, slice_get, unwrap_or, option_and_then, if◌then◌else◌}
use Rattle.std.specs.List.{IsDistinct}
use Rattle.std.specs.Ordering.{int_eq}
use Rattle.std.proofs.lemmas.Bool.Decides.{Decides-int_eq}
use Rattle.base_trees.specs.Rose.{Rose, node, Roses, none, more, label_of, length_all, height, depth_all}
use Rattle.simple_types.specs.declared.standards.Standard.{Standard}
use Rattle.simple_types.specs.declared.standards.Standard.TheVariants.{Free, Default, Fixed}
use Rattle.simple_types.specs.Lexical.{is_128_bits}
use Rattle.asn_types.specs.declared.marks.Instruction.{Instruction}
use Rattle.asn_types.specs.declared.types.Component.{Component}
use Rattle.asn_types.specs.declared.types.Form.{Form}
use Rattle.asn_types.specs.declared.types.Form.TheVariants as form
use Rattle.asn_types.specs.declared.types.TypeLabel.{TypeLabel}
use Rattle.asn_types.specs.declared.modules.Assignment.{Assignment}
use Rattle.asn_types.specs.Bounds as bounds
use Rattle.asn_types.specs.Marks.{has_attribute}
use Rattle.asn_types.specs.Modules as modules
use Rattle.asn_types.specs.Parts.{parts_of}
use Rattle.asn_types.specs.Refs as refs
use Rattle.module_print.specs.Printed.{reference_at}
use Rattle.module_text.specs.declared.bounds.PlainEnds.TheVariants as ends
use Rattle.module_text.specs.declared.marks.TypeMark.{TypeMark}
use Rattle.module_text.specs.declared.values.PlainOctets.{PlainOctets}
use Rattle.module_text.specs.declared.values.Absence.{Absence}
use Rattle.module_text.specs.declared.values.Absence.TheVariants as absence
use Rattle.module_text.specs.declared.types.PlainPart.{PlainPart}
use Rattle.module_text.specs.declared.types.PlainForm.{PlainForm}
use Rattle.module_text.specs.declared.types.PlainForm.TheVariants as plain
use Rattle.module_text.specs.declared.types.PlainLabel.{PlainLabel}
use Rattle.module_text.specs.declared.modules.PlainAssignment.{PlainAssignment}
use Rattle.module_text.specs.Plain.{limit}
use Rattle.module_text.specs.declared.spots.Spot.{Spot}
use Rattle.module_text.specs.declared.spots.Spot.TheVariants.{Elsewhere, Order, OrderItem}
use Rattle.module_text.specs.Told as told
use Rattle.module_text.specs.Resolving as resolving
use Rattle.module_text.specs.Simple.{with_number, numbers_of, is_order_item}
use Rattle.module_text.specs.Defaults.{octets_of}
use Rattle.module_text.specs.Orders.{may_be_absent}
use Rattle.module_text.specs.Meaning.{part_marks_meant, type_marks_meant, names_of, words_meant, int_meant, utf8_meant, list_meant}
use Rattle.module_text.specs.Printable.{HasPartMarks, HasNames, IsInSpot, part_spot}
use Rattle.module_laws.proofs.Firsts.{got-at, got-mapped, only-at}
use Rattle.module_unique.specs.Alike.{HasOctets}
use Rattle.module_unique.proofs.Telling.{number_told, range_told, size_told, type_marks_told, fixed_told, default_told, standard_told, name_at, numbered_told, component_told, components_told, only_told, form_told, type_told, types_told, assignment_told, module_told}
use Rattle.module_unique.proofs.Digits.{number_back, size_back, octets_back}
use Rattle.module_unique.proofs.Marked.{part_marks_back}
use Rattle.module_unique.proofs.Words.{identifiers_in, texts_found, words_are, Lists, words_listed, none_listed, type_marks_back}
use Rattle.module_unique.proofs.Values.{FineAt, Fine, spelling_in}
use Rattle.module_unique.proofs.Goods.{GoodAt, Good, AllGood, GoodBody, Sits, next_at, resolved, default_is}
use Rattle.module_unique.proofs.Plainness.{IsStandardAt, AllSit, all_sit}

-- ---- bounds

both_by : (a b : ℤ) → is_128_bits a ≡ true → is_128_bits b ≡ true → (same : Bool) → int_eq a b ≡ same
    → told.bounds_of (if same then ends.One (number_told a) else ends.Both (number_told a) (number_told b)) ≡ Some (Some a, Some b)
both_by a b first second true e =
    let same : a ≡ b = (Decides-int_eq a b).0 e in
    ap told.just (number_back a first) ∙ ap (λ z. told.from_to (Some a) (Some z)) same
both_by a b first second false e = ap₂ told.from_to (number_back a first) (number_back b second)

pub range_back : (least greatest : Option ℤ) → bounds.IsBound least → bounds.IsBound greatest → told.range_of (range_told least greatest) ≡ Some (least, greatest)
range_back None None a b = refl
range_back None (Some z) a b = ap told.greatest_alone (number_back z b)
range_back (Some y) None a b = ap told.least_alone (number_back y a)
range_back (Some y) (Some z) a b = both_by y z a b (int_eq y z) refl

sizes_by : (m n : ℕ) → m < 2 ^ 32 → n < 2 ^ 32 → (same : Bool) → int_eq (pos m) (pos n) ≡ same
    → told.sizes_of (Some (if same then ends.One (number_told (pos m)) else ends.Both (number_told (pos m)) (number_told (pos n)))) ≡ Some (m, Some n)
sizes_by m n first second true e =
    let same : pos m ≡ pos n = (Decides-int_eq (pos m) (pos n)).0 e in
    let equal : m ≡ n = cc in
    ap₂ told.sizes_to (size_back m first) (size_back m first) ∙ ap (λ k. told.sizes_to (Some m) (Some k)) equal
sizes_by m n first second false e = ap₂ told.sizes_to (size_back m first) (size_back n second)

pub sizes_back : (least : ℕ) (most : Option ℕ) → least < 2 ^ 32 → bounds.IsSize most → told.sizes_of (size_told least most) ≡ Some (least, most)
sizes_back zero None a b = refl
sizes_back (suc n) None a b = ap told.sizes_from (size_back (suc n) a)
sizes_back zero (Some m) a b = sizes_by 0 m a b (int_eq (pos 0) (pos m)) refl
sizes_back (suc n) (Some m) a b = sizes_by (suc n) m a b (int_eq (pos (suc n)) (pos m)) refl

pub numbers_back : (numbers : List ℤ) → All (λ z. is_128_bits z ≡ true) numbers → numbers_of (map numbered_told numbers) ≡ Some numbers
numbers_back [] bits = refl
numbers_back (z ∷ zs) bits = ap₂ with_number (number_back z (bits zero z (omega arith))) (numbers_back zs (λ k d lt. bits (suc k) d (omega (arith, lt))))

names_back : (names : List (List ℕ)) → names_of (map name_at names) ≡ names
names_back [] = refl
names_back (name ∷ names) = ap (λ ns. name ∷ ns) (names_back names)

pub spot_of_words : (spot : Spot) (identifiers words : List (List ℕ)) → IsInSpot spot (form.Words identifiers words) → is_order_item spot ≡ false
spot_of_words Elsewhere identifiers words is = refl
spot_of_words Order identifiers words is = refl
spot_of_words OrderItem identifiers words is = absurd is

pub spot_of_order : (spot : Spot) (identifiers : List (List ℕ)) → IsInSpot spot (form.Order identifiers) → is_order_item spot ≡ true
spot_of_order Elsewhere identifiers is = absurd is
spot_of_order Order identifiers is = absurd is
spot_of_order OrderItem identifiers is = refl

-- ---- the module that is told, by the spellings of its default values

abbrev standard_back : Rose PlainLabel → Option PlainOctets → Absence → Standard
standard_back t (Some octets) a = Fixed (unwrap_or (octets_of octets.digits) [])
standard_back t None (absence.Default v) = Default (unwrap_or (spelling_in t v) [])
standard_back t None absence.Optional = Free
standard_back t None absence.Never = Free

module _ (P : List PlainAssignment) where
  abbrev component_back : PlainPart → Rose PlainLabel → Component
  component_back part t = record {
    identifier = part.identifier;
    optional = may_be_absent part.absence;
    standard = standard_back (resolving.resolve P t) part.fixed part.absence;
    marks = part_marks_meant part.identifier part.marks;
  }

  abbrev components_back : List PlainPart → Roses PlainLabel → List Component
  components_back [] ts = []
  components_back (part ∷ parts) none = []
  components_back (part ∷ parts) (more t ts) = component_back part t ∷ components_back parts ts

  abbrev item_back : PlainPart → Roses PlainLabel → Component
  item_back part none = record { identifier = part.identifier; optional = false; standard = Free; marks = part_marks_meant part.identifier part.marks }
  item_back part (more t ts) = component_back part t

  abbrev form_back : Spot → List TypeMark → PlainForm → Roses PlainLabel → Form
  form_back spot marks plain.Bool ts = form.Bool
  form_back spot marks (plain.Int r) ts = int_meant (told.range_of r)
  form_back spot marks (plain.Numbers items) ts = form.Numbers (unwrap_or (numbers_of items) [])
  form_back spot marks (plain.Words identifiers) ts = words_meant (is_order_item spot) marks identifiers
  form_back spot marks (plain.Utf8 size class) ts = utf8_meant (told.sizes_of size) class
  form_back spot marks (plain.Sequence components) ts = form.Sequence (components_back components ts)
  form_back spot marks (plain.Choice alternatives) ts = form.Choice (components_back alternatives ts)
  form_back spot marks (plain.SequenceOf size item) ts = list_meant (told.sizes_of size) (item_back item ts)
  form_back spot marks (plain.Ref reference) ts = form.Ref (unwrap_or (resolving.number_of P reference.name) 0)

  abbrev label_back : Spot → PlainLabel → Roses PlainLabel → TypeLabel
  label_back spot l ts = record { form = form_back spot l.marks l.form ts; marks = type_marks_meant spot l.form l.marks }

  abbrev mutual
    type_back : Spot → Rose PlainLabel → Rose TypeLabel
    type_back spot (node l ts) = node (label_back spot l ts) (types_back spot (label_back spot l ts) 0 (parts_of (label_back spot l ts).form) ts)

    types_back : Spot → TypeLabel → ℕ → List Component → Roses PlainLabel → Roses TypeLabel
    types_back spot l i parts none = none
    types_back spot l i [] (more t ts) = none
    types_back spot l i (part ∷ parts) (more t ts) = more (type_back (part_spot spot l i part) t) (types_back spot l (i + 1) parts ts)

  abbrev assignment_back : PlainAssignment → Assignment
  assignment_back a = record { reference = a.reference; marks = part_marks_meant a.reference a.marks; body = type_back Elsewhere a.body }

abbrev pub module_back : List PlainAssignment → List Assignment
module_back P = map (assignment_back P) P

-- ---- it is the module

module _ (M : List Assignment) (distinct : IsDistinct bytes_eq (map (λ (a : Assignment). a.reference) M)) (all : All (GoodBody M) M) where
  abbrev P : List PlainAssignment
  P = module_told M

  pub references_same : (entries : List Assignment) → map (λ (a : PlainAssignment). a.reference) (map (assignment_told M) entries) ≡ map (λ (a : Assignment). a.reference) entries
  references_same [] = refl
  references_same (a ∷ entries) = ap (λ rs. a.reference ∷ rs) (references_same entries)

  pub number_found : (to : ℕ) → to < length M → resolving.number_of P (reference_at M to) ≡ Some to
  number_found to lt =
      let a = got-at M to lt in
      let called : reference_at M to ≡ a.0.reference = ap (λ o. unwrap_or (option_map (λ (b : Assignment). b.reference) o) []) a.1 in
      let got : slice_get (map (λ (b : PlainAssignment). b.reference) P) to ≡ Some a.0.reference =
      ap (λ rs. slice_get rs to) (references_same M) ∙ got-mapped (λ (b : Assignment). b.reference) M to ∙ ap (option_map (λ (b : Assignment). b.reference)) a.1 in
      ap (resolving.number_of P) called
      ∙ only-at (λ (b : PlainAssignment). b.reference) a.0.reference P to (subst (IsDistinct bytes_eq) (sym (references_same M)) distinct) got

  pub body_same : (o : Option Assignment) → option_map (λ (a : PlainAssignment). a.body) (option_map (assignment_told M) o) ≡ option_map (type_told M) (option_map (λ (a : Assignment). a.body) o)
  body_same None = refl
  body_same (Some a) = refl

  next_by : (f : Form) (ts : Roses TypeLabel) → modules.IsForm M f
      → option_and_then (resolving.body_of P) (resolving.reference_of (form_told M f ts)) ≡ option_map (type_told M) (option_and_then (refs.body_at M) (refs.target f))
  next_by (form.Ref to) ts is =
      ap (option_and_then (resolving.body_at P)) (number_found to is)
      ∙ ap (option_map (λ (a : PlainAssignment). a.body)) (got-mapped (assignment_told M) M to)
      ∙ body_same (slice_get M to)
  next_by form.Bool ts is = refl
  next_by (form.Int least greatest) ts is = refl
  next_by (form.Numbers numbers) ts is = refl
  next_by (form.Words identifiers words) ts is = refl
  next_by (form.Order identifiers) ts is = refl
  next_by (form.Utf8 least most class) ts is = refl
  next_by (form.Sequence parts) ts is = refl
  next_by (form.Choice parts) ts is = refl
  next_by (form.SequenceOf part least most) ts is = refl

  pub next_same : (t : Rose TypeLabel) → Fine M t → resolving.next P (type_told M t) ≡ option_map (type_told M) (refs.next M t)
  next_same (node l ts) is = next_by l.form ts is.0.form

  follow_same : (n : ℕ) (t : Rose TypeLabel) → Sits M t → resolving.follow P n (type_told M t) ≡ type_told M (refs.follow M n t)
  unfolding resolving.follow refs.follow
  follow_same zero t sits = refl
  follow_same (suc n) t sits =
      ap (λ o. elim o [ None ↦ type_told M t | Some u ↦ resolving.follow P n u ]) (next_same t sits.is) ∙ by (refs.next M t) refl (λ u there. follow_same n u there)
    where
      by : (o : Option (Rose TypeLabel)) → refs.next M t ≡ o → ((u : Rose TypeLabel) → Sits M u → resolving.follow P n (type_told M u) ≡ type_told M (refs.follow M n u))
          → (elim (option_map (type_told M) o) [ None ↦ type_told M t | Some u ↦ resolving.follow P n u ])
          ≡ type_told M (elim o [ None ↦ t | Some u ↦ refs.follow M n u ])
      by None e rest = refl
      by (Some u) e rest = rest u (next_at M (refs.target (label_of t).form) u all e)

  pub resolve_same : (t : Rose TypeLabel) → Sits M t → resolving.resolve P (type_told M t) ≡ type_told M (refs.resolve M t)
  resolve_same t sits = follow_same 4 t sits

  -- ---- parts

  default_same : (t : Rose TypeLabel) (text : List ℕ) → Sits M t → modules.IsSpellingOf M t text
      → standard_back (resolving.resolve P (type_told M t)) None (default_told M t text) ≡ Default text
  default_same t text sits is =
      let known = default_is M t text (resolved M t all sits).is is in
      ap (λ u. standard_back u None (default_told M t text)) (resolve_same t sits)
      ∙ ap (λ v. Default (unwrap_or (spelling_in (type_told M (refs.resolve M t)) v) [])) known.reading
      ∙ ap (λ o. Default (unwrap_or o [])) known.told.spelling

  standard_same : (s : Standard) (attribute optional : Bool) (t : Rose TypeLabel) → Sits M t → IsStandardAt M all attribute optional s t → HasOctets s
      → standard_back (resolving.resolve P (type_told M t)) (fixed_told s) (if optional then standard_told M t s else absence.Never) ≡ s
  standard_same Free attribute true t sits is octets = refl
  standard_same Free attribute false t sits is octets = refl
  standard_same (Default text) attribute true t sits is octets = default_same t text sits is.2
  standard_same (Default text) attribute false t sits is octets = absurd (let no = is.1 in cc)
  standard_same (Fixed text) attribute true t sits is octets = ap (λ o. Fixed (unwrap_or o [])) (octets_back text octets)
  standard_same (Fixed text) attribute false t sits is octets = ap (λ o. Fixed (unwrap_or o [])) (octets_back text octets)

  pub absent_same : (s : Standard) (optional : Bool) (t : Rose TypeLabel) → may_be_absent (if optional then standard_told M t s else absence.Never) ≡ optional
  absent_same Free true t = refl
  absent_same Free false t = refl
  absent_same (Default text) true t = refl
  absent_same (Default text) false t = refl
  absent_same (Fixed text) true t = refl
  absent_same (Fixed text) false t = refl

  abbrev component_of : List ℕ → Bool → Standard → List Instruction → Component
  component_of identifier optional s marks = record { identifier = identifier; optional = optional; standard = s; marks = marks }

  part_with : (part : Component) (optional : Bool) (s : Standard) (marks : List Instruction) → optional ≡ part.optional → s ≡ part.standard → marks ≡ part.marks
      → component_of part.identifier optional s marks ≡ part
  part_with part optional s marks a b c = rw (a, b, c) refl

  component_same : (part : Component) (t : Rose TypeLabel) → HasPartMarks part.identifier part.marks → HasOctets part.standard → modules.IsStandard M part t → Sits M t
      → component_back P (component_told M part t) (type_told M t) ≡ part
  component_same part t marks octets standard sits =
      part_with part _ _ _ (absent_same part.standard part.optional t)
      (standard_same part.standard (has_attribute part.marks) part.optional t sits standard octets)
      (part_marks_back part.identifier part.marks marks.part)

  abbrev Standards : List Component → Roses TypeLabel → Type 0
  Standards parts ts = modules.AreStandards M parts ts

  free_standard : (part : Component) (t : Rose TypeLabel) → part.standard ≡ Free → modules.IsStandard M part t
  free_standard part t e = subst (λ s. IsStandardAt M all (has_attribute part.marks) part.optional s t) (sym e) tt

  pub free_standards : (parts : List Component) (ts : Roses TypeLabel) → All (λ (part : Component). part.standard ≡ Free) parts → Standards parts ts
  free_standards [] ts free = tt
  free_standards (part ∷ parts) none free = tt
  free_standards (part ∷ parts) (more t ts) free =
      (free_standard part t (free zero part (omega arith)), free_standards parts ts (λ k d lt. free (suc k) d (omega (arith, lt))))

  abbrev Marked : List Component → Type 0
  Marked parts = All (λ (part : Component). HasPartMarks part.identifier part.marks) parts

  abbrev Octets : List Component → Type 0
  Octets parts = All (λ (part : Component). HasOctets part.standard) parts

  components_same : (parts : List Component) (ts : Roses TypeLabel) → length_all ts ≡ length parts → Marked parts → Octets parts → Standards parts ts → AllSit M all ts
      → components_back P (components_told M parts ts) (types_told M ts) ≡ parts
  components_same [] ts long marks octets standards sit = refl
  components_same (part ∷ parts) none long marks octets standards sit = absurd (omega (arith, long))
  components_same (part ∷ parts) (more t ts) long marks octets standards sit =
      ap₂ (λ (x : Component) xs. x ∷ xs)
      (component_same part t (marks zero part (omega arith)) (octets zero part (omega arith)) standards.0 sit.0)
      (components_same parts ts (omega (arith, long)) (λ k d lt. marks (suc k) d (omega (arith, lt))) (λ k d lt. octets (suc k) d (omega (arith, lt))) standards.1 sit.1)

  item_same : (part : Component) (ts : Roses TypeLabel) → length_all ts ≡ 1 → HasPartMarks part.identifier part.marks → HasOctets part.standard → part.standard ≡ Free → AllSit M all ts
      → item_back P (only_told M part ts) (types_told M ts) ≡ part
  item_same part none long marks octets free sit = absurd (omega (arith, long))
  item_same part (more t ts) long marks octets free sit = component_same part t marks octets (free_standard part t free) sit.0

  -- ---- types

  record FormIs (spot : Spot) (f : Form) (marks : List Instruction) (ts : Roses TypeLabel) : Type 0 where
    pub fine : FineAt M f marks
    pub stands : IsInSpot spot f
    pub marked : Marked (parts_of f)
    pub octets : Octets (parts_of f)
    pub standards : modules.HasStandards M f ts
    pub long : length_all ts ≡ length (parts_of f)
    pub sit : AllSit M all ts

  form_same : (spot : Spot) (f : Form) (marks : List Instruction) (ts : Roses TypeLabel) → FormIs spot f marks ts
      → form_back P spot (type_marks_told f marks) (form_told M f ts) (types_told M ts) ≡ f
  form_same spot form.Bool marks ts is = refl
  form_same spot (form.Int least greatest) marks ts is = ap int_meant (range_back least greatest is.fine.bounds.0 is.fine.bounds.1)
  form_same spot (form.Numbers numbers) marks ts is = ap (λ o. form.Numbers (unwrap_or o [])) (numbers_back numbers is.fine.bounds)
  form_same spot (form.Words identifiers words) marks ts is =
      ap (λ b. words_meant b (type_marks_told (form.Words identifiers words) marks) (map name_at identifiers)) (spot_of_words spot identifiers words is.stands)
      ∙ ap₂ form.Words (names_back identifiers) (words_are identifiers words marks is.fine.form.2 is.fine.names.1 is.fine.texts)
  form_same spot (form.Order identifiers) marks ts is =
      ap (λ b. words_meant b (type_marks_told (form.Order identifiers) marks) (map name_at identifiers)) (spot_of_order spot identifiers is.stands)
      ∙ ap form.Order (names_back identifiers)
  form_same spot (form.Utf8 least most class) marks ts is = ap (λ o. utf8_meant o class) (sizes_back least most is.fine.bounds.0 is.fine.bounds.1)
  form_same spot (form.Sequence parts) marks ts is = ap form.Sequence (components_same parts ts is.long is.marked is.octets is.standards is.sit)
  form_same spot (form.Choice parts) marks ts is = ap form.Choice (components_same parts ts is.long is.marked is.octets (free_standards parts ts is.standards) is.sit)
  form_same spot (form.SequenceOf part least most) marks ts is =
      ap₂ list_meant (sizes_back least most is.fine.bounds.0 is.fine.bounds.1)
      (item_same part ts is.long (is.marked zero part (omega arith)) (is.octets zero part (omega arith)) is.standards is.sit)
  form_same spot (form.Ref to) marks ts is = ap (λ o. form.Ref (unwrap_or o 0)) (number_found to is.fine.form)

  lists : (spot : Spot) (f : Form) (ts : Roses TypeLabel) → HasNames f → IsInSpot spot f → Lists spot (identifiers_in f) (form_told M f ts)
  lists spot (form.Words identifiers words) ts names stands = words_listed spot identifiers (spot_of_words spot identifiers words stands) names.1
  lists spot f ts names stands = none_listed spot (form_told M f ts)

  abbrev label_of_form : Form → List Instruction → TypeLabel
  label_of_form f marks = record { form = f; marks = marks }

  label_with : (l : TypeLabel) (f : Form) (marks : List Instruction) → f ≡ l.form → marks ≡ l.marks → label_of_form f marks ≡ l
  label_with l f marks a b = rw (a, b) refl

  label_same : (spot : Spot) (l : TypeLabel) (ts : Roses TypeLabel) → GoodAt M spot l ts → AllSit M all ts
      → label_back P spot (record { at = 0; marks = type_marks_told l.form l.marks; form = form_told M l.form ts }) (types_told M ts) ≡ l
  label_same spot l ts good sit =
      let has = good.printable.marks in
      label_with l _ _
      (form_same spot l.form l.marks ts (record {
        fine = record { names = good.printable.names; texts = has.texts; form = good.well.form; bounds = good.bounds };
        stands = good.printable.order;
        marked = good.printable.parts;
        octets = good.octets;
        standards = good.well.standards;
        long = good.long;
        sit = sit;
      }))
      (type_marks_back spot l.form (form_told M l.form ts) (lists spot l.form ts good.printable.names good.printable.order) l.marks has.type has.each (texts_found l.form l.marks has.texts))

  mutual
    type_same : (t : Rose TypeLabel) (spot : Spot) → Good M spot t → height t ≤ limit → type_back P spot (type_told M t) ≡ t
    type_same (node l ts) spot good low =
        ap (λ (k : TypeLabel). node k (types_back P spot k 0 (parts_of k.form) (types_told M ts)))
        (label_same spot l ts good.0 (all_sit M all ts spot l 0 (parts_of l.form) good.1 (omega (arith, low))))
        ∙ ap (node l) (types_same ts spot l 0 (parts_of l.form) good.1 (omega (arith, low)))

    types_same : (ts : Roses TypeLabel) (spot : Spot) (l : TypeLabel) (i : ℕ) (parts : List Component) → AllGood M spot l i parts ts → depth_all ts ≤ limit
        → types_back P spot l i parts (types_told M ts) ≡ ts
    types_same none spot l i parts good low = refl
    types_same (more t ts) spot l i [] good low = absurd good
    types_same (more t ts) spot l i (part ∷ parts) good low =
        ap₂ more (type_same t (part_spot spot l i part) good.0 (omega (arith, low))) (types_same ts spot l (i + 1) parts good.1 (omega (arith, low)))

  abbrev assignment_of : List ℕ → List Instruction → Rose TypeLabel → Assignment
  assignment_of reference marks body = record { reference = reference; marks = marks; body = body }

  assignment_with : (a : Assignment) (marks : List Instruction) (body : Rose TypeLabel) → marks ≡ a.marks → body ≡ a.body
      → assignment_of a.reference marks body ≡ a
  assignment_with a marks body e f = rw (e, f) refl

  assignments_same : (entries : List Assignment) → All (GoodBody M) entries → map (assignment_back P) (map (assignment_told M) entries) ≡ entries
  assignments_same [] are = refl
  assignments_same (a ∷ entries) are =
      let here = are zero a (omega arith) in
      ap₂ (λ (x : Assignment) xs. x ∷ xs)
      (assignment_with a _ _ (part_marks_back a.reference a.marks here.printable.marks.part) (type_same a.body Elsewhere here.good here.printable.depth))
      (assignments_same entries (λ k d lt. are (suc k) d (omega (arith, lt))))

  pub told_back : module_back (module_told M) ≡ M
  told_back = assignments_same M all
