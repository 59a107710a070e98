-- What is told of a printable module is plain.
use Rattle.std.proofs.Common.{◌≡◌, ◌≢◌, ℕ, zero, suc, ◌<◌, ◌≤◌, ◌+◌, ◌^◌, Bool, true, false, Option, Some, None, List, [], ◌∷◌, map, length, refl, sym, ap, subst, ◌∙◌, arith, option_map, ◌⊎◌, inl, inr}
use Rattle.std.specs.Prelude.{ℤ, pos, All, unwrap_or, if◌then◌else◌}
use Rattle.std.specs.Ordering.{int_eq}
use Rattle.base_trees.specs.Rose.{Rose, node, Roses, none, more, length_all, height, depth_all}
use Rattle.simple_types.specs.declared.standards.Standard.{Standard}
use Rattle.simple_types.specs.declared.standards.Standard.TheVariants.{Free, Default, Fixed}
use Rattle.simple_types.specs.Lexical.{is_128_bits}
use Rattle.asn_types.specs.declared.types.Component.{Component}
use Rattle.asn_types.specs.declared.types.Form.{Form}
use Rattle.asn_types.specs.declared.types.Form.TheVariants as form
use Rattle.asn_types.specs.declared.types.TypeLabel.{TypeLabel}
use Rattle.asn_types.specs.declared.modules.Assignment.{Assignment}
use Rattle.asn_types.specs.Bounds as bounds
use Rattle.asn_types.specs.Marks.{has_attribute}
use Rattle.asn_types.specs.Modules as modules
use Rattle.asn_types.specs.Parts.{parts_of}
use Rattle.module_print.specs.Printed.{reference_at}
use Rattle.module_text.specs.declared.bounds.PlainEnds.TheVariants as ends
use Rattle.module_text.specs.declared.values.PlainOctets.{PlainOctets}
use Rattle.module_text.specs.declared.values.Absence.TheVariants as absence
use Rattle.module_text.specs.Names.{is_reference, is_identifier, is_type_word}
use Rattle.module_text.specs.Texts as laid
use Rattle.module_text.specs.Plain as plain
use Rattle.module_text.specs.declared.spots.Spot.{Spot}
use Rattle.module_text.specs.declared.spots.Spot.TheVariants.{Elsewhere}
use Rattle.module_text.specs.Printable.{HasPartMarks, HasNames, IsIdentifier, IsPresent, part_spot}
use Rattle.module_laws.proofs.Firsts.{got-at, all-at}
use Rattle.module_unique.specs.Alike.{HasOctets}
use Rattle.module_unique.proofs.Telling.{number_told, both_told, range_told, size_told, fixed_told, default_told, standard_told, name_at, numbered_told, component_told, components_told, only_told, form_told, type_told, types_told, assignment_told, module_told}
use Rattle.module_unique.proofs.Digits.{number_is, number_named, size_number, octets_are}
use Rattle.module_unique.proofs.Marked.{part_marks_ordered, type_marks_ordered}
use Rattle.module_unique.proofs.Words.{identifiers_in, texts_found, type_marks_plain}
use Rattle.module_unique.proofs.Goods.{GoodAt, Good, AllGood, fine, GoodBody, Sits, resolved, default_is, no_type_word}

-- ---- bounds

both_plain : (a b : ℤ) → plain.IsNumber (number_told a) → plain.IsNumber (number_told b) → plain.AreEnds (both_told a b)
both_plain a b first second = at (int_eq a b)
  where
    at : (same : Bool) → plain.AreEnds (if same then ends.One (number_told a) else ends.Both (number_told a) (number_told b))
    at true = first
    at false = (first, second)

range_plain : (least greatest : Option ℤ) → bounds.IsBound least → bounds.IsBound greatest → plain.IsRange (range_told least greatest)
range_plain None None a b = tt
range_plain None (Some z) a b = number_is z b
range_plain (Some y) None a b = number_is y a
range_plain (Some y) (Some z) a b = both_plain y z (number_is y a) (number_is z b)

size_plain : (least : ℕ) (most : Option ℕ) → least < 2 ^ 32 → bounds.IsSize most → plain.IsSize (size_told least most)
size_plain zero None a b = tt
size_plain (suc n) None a b = size_number (suc n) a
size_plain zero (Some m) a b = both_plain (pos 0) (pos m) (size_number 0 a) (size_number m b)
size_plain (suc n) (Some m) a b = both_plain (pos (suc n)) (pos m) (size_number (suc n) a) (size_number m b)

-- ---- items

some_parts : {A B : Type 0} (f : A → B) (xs : List A) → 0 < length xs → plain.HasParts (map f xs)
some_parts f [] lt = absurd (omega (arith, lt))
some_parts f (x ∷ xs) lt = tt

numbered_plain : (numbers : List ℤ) → All (λ z. is_128_bits z ≡ true) numbers → All plain.IsNumbered (map numbered_told numbers)
numbered_plain [] bits k d lt = absurd (omega (arith, lt))
numbered_plain (z ∷ zs) bits zero d lt = let here = bits zero z (omega arith) in (number_named z here, number_is z here)
numbered_plain (z ∷ zs) bits (suc k) d lt = numbered_plain zs (λ j x h. bits (suc j) x (omega (arith, h))) k d (omega (arith, lt))

names_plain : (names : List (List ℕ)) → All IsIdentifier names → All plain.IsName (map name_at names)
names_plain [] are k d lt = absurd (omega (arith, lt))
names_plain (name ∷ names) are zero d lt = are zero name (omega arith)
names_plain (name ∷ names) are (suc k) d lt = names_plain names (λ j x h. are (suc j) x (omega (arith, h))) k d (omega (arith, lt))

-- ---- parts

fixed_plain : (s : Standard) → HasOctets s → plain.IsFixed (fixed_told s)
fixed_plain Free o = tt
fixed_plain (Default text) o = tt
fixed_plain (Fixed text) o = octets_are text o

item_named : (name : List ℕ) → (name ≢ [] → IsIdentifier name) → (name ≡ []) ⊎ (is_identifier name ≡ true)
item_named [] h = inl refl
item_named (b ∷ bs) h = inr (h (λ e. cc))

module _ (M : List Assignment) (all : All (GoodBody M) M) where
  abbrev pub IsStandardAt : Bool → Bool → Standard → Rose TypeLabel → Type 0
  IsStandardAt attribute optional s t = elim s [
    | Free ↦ Unit {0}
    | Default text ↦ (attribute ≡ true) × (optional ≡ true) × modules.IsSpellingOf M t text
    | Fixed text ↦ (attribute ≡ true) × modules.IsSpellingOf M t text
  ]

  default_plain : (t : Rose TypeLabel) (text : List ℕ) (fixed : Option PlainOctets) → Sits M t → modules.IsSpellingOf M t text → plain.IsAbsence fixed (default_told M t text)
  default_plain t text fixed sits is =
      let told = default_is M t text (resolved M t all sits).is is in
      subst plain.IsValue (sym told.reading) told.told.value

  absence_plain : (s : Standard) (attribute optional : Bool) (t : Rose TypeLabel) → Sits M t → IsStandardAt attribute optional s t
      → plain.IsAbsence (fixed_told s) (if optional then standard_told M t s else absence.Never)
  absence_plain Free attribute true t sits is = refl
  absence_plain Free attribute false t sits is = tt
  absence_plain (Default text) attribute true t sits is = default_plain t text None sits is.2
  absence_plain (Default text) attribute false t sits is = tt
  absence_plain (Fixed text) attribute true t sits is = default_plain t text (fixed_told (Fixed text)) sits is.1
  absence_plain (Fixed text) attribute false t sits is = tt

  component_plain : (part : Component) (t : Rose TypeLabel) → IsIdentifier part.identifier → HasPartMarks part.identifier part.marks → HasOctets part.standard
      → modules.IsStandard M part t → Sits M t → plain.IsComponent (component_told M part t)
  component_plain part t name marks octets standard sits = record {
    identifier = name;
    marks = part_marks_ordered part.identifier part.marks marks.order marks.part;
    fixed = fixed_plain part.standard octets;
    absence = absence_plain part.standard (has_attribute part.marks) part.optional t sits standard;
  }

  abbrev pub AllSit : Roses TypeLabel → Type 0
  AllSit none = Unit {0}
  AllSit (more t ts) = Sits M t × AllSit ts

  abbrev Named : List Component → Type 0
  Named parts = All IsIdentifier (map (λ (part : Component). part.identifier) parts)

  abbrev Marked : List Component → Type 0
  Marked parts = All (λ (part : Component). HasPartMarks part.identifier part.marks) parts

  abbrev Octets : List Component → Type 0
  Octets parts = All (λ (part : Component). HasOctets part.standard) parts

  components_plain : (parts : List Component) (ts : Roses TypeLabel) → Named parts → Marked parts → Octets parts → modules.AreStandards M parts ts → AllSit ts
      → All plain.IsComponent (components_told M parts ts)
  components_plain [] ts names marks octets standards sit k d lt = absurd (omega (arith, lt))
  components_plain (part ∷ parts) none names marks octets standards sit k d lt = absurd (omega (arith, lt))
  components_plain (part ∷ parts) (more t ts) names marks octets standards sit zero d lt =
      component_plain part t (names zero part.identifier (omega arith)) (marks zero part (omega arith)) (octets zero part (omega arith)) standards.0 sit.0
  components_plain (part ∷ parts) (more t ts) names marks octets standards sit (suc k) d lt =
      components_plain parts ts (λ j x h. names (suc j) x (omega (arith, h))) (λ j x h. marks (suc j) x (omega (arith, h))) (λ j x h. octets (suc j) x (omega (arith, h)))
      standards.1 sit.1 k d (omega (arith, lt))

  -- nothing stands behind the type
  bare : (part : Component) (t : Rose TypeLabel) → part.standard ≡ Free → part.optional ≡ false → plain.IsBare (component_told M part t)
  bare part t free present = (ap fixed_told free, ap (λ optional. if optional then standard_told M t part.standard else absence.Never) present)

  alternatives_plain : (parts : List Component) (ts : Roses TypeLabel) → Named parts → Marked parts → All (λ (part : Component). part.standard ≡ Free) parts → All IsPresent parts
      → All plain.IsAlternative (components_told M parts ts)
  alternatives_plain [] ts names marks free present k d lt = absurd (omega (arith, lt))
  alternatives_plain (part ∷ parts) none names marks free present k d lt = absurd (omega (arith, lt))
  alternatives_plain (part ∷ parts) (more t ts) names marks free present zero d lt = record {
    identifier = names zero part.identifier (omega arith);
    marks = part_marks_ordered part.identifier part.marks (marks zero part (omega arith)).order (marks zero part (omega arith)).part;
    bare = bare part t (free zero part (omega arith)) (present zero part (omega arith));
  }
  alternatives_plain (part ∷ parts) (more t ts) names marks free present (suc k) d lt =
      alternatives_plain parts ts (λ j x h. names (suc j) x (omega (arith, h))) (λ j x h. marks (suc j) x (omega (arith, h))) (λ j x h. free (suc j) x (omega (arith, h)))
      (λ j x h. present (suc j) x (omega (arith, h))) k d (omega (arith, lt))

  item_plain : (part : Component) (ts : Roses TypeLabel) → (part.identifier ≢ [] → IsIdentifier part.identifier) → HasPartMarks part.identifier part.marks
      → part.standard ≡ Free → part.optional ≡ false → plain.IsItem (only_told M part ts)
  item_plain part none name marks free present = record {
    identifier = item_named part.identifier name;
    marks = part_marks_ordered part.identifier part.marks marks.order marks.part;
    bare = (refl, refl);
  }
  item_plain part (more t ts) name marks free present = record {
    identifier = item_named part.identifier name;
    marks = part_marks_ordered part.identifier part.marks marks.order marks.part;
    bare = bare part t free present;
  }

  -- ---- types

  some_alternatives : (parts : List Component) (ts : Roses TypeLabel) → 0 < length parts → length_all ts ≡ length parts → plain.HasParts (components_told M parts ts)
  some_alternatives [] ts lt long = absurd (omega (arith, lt))
  some_alternatives (part ∷ parts) none lt long = absurd (omega (arith, long))
  some_alternatives (part ∷ parts) (more t ts) lt long = tt

  reference_plain : (to : ℕ) → to < length M → (is_reference (reference_at M to) ≡ true) × (is_type_word (reference_at M to) ≡ false)
  reference_plain to lt =
      let a = got-at M to lt in
      let known = all-at (GoodBody M) M to a.0 all a.1 in
      let called : reference_at M to ≡ a.0.reference = ap (λ o. unwrap_or (option_map (λ (b : Assignment). b.reference) o) []) a.1 in
      (ap is_reference called ∙ known.printable.reference, ap is_type_word called ∙ no_type_word a.0.reference known.printable.free)

  record FormIs (f : Form) (ts : Roses TypeLabel) : Type 0 where
    pub names : HasNames f
    pub form : modules.IsForm M f
    pub bounded : bounds.HasBounds f
    pub marks : Marked (parts_of f)
    pub octets : Octets (parts_of f)
    pub standards : modules.HasStandards M f ts
    pub long : length_all ts ≡ length (parts_of f)
    pub sit : AllSit ts

  form_plain : (f : Form) (ts : Roses TypeLabel) → FormIs f ts → plain.IsForm (form_told M f ts)
  form_plain form.Bool ts is = tt
  form_plain (form.Int least greatest) ts is = range_plain least greatest is.bounded.0 is.bounded.1
  form_plain (form.Numbers numbers) ts is = (some_parts numbered_told numbers is.form.0.0, numbered_plain numbers is.bounded)
  form_plain (form.Words identifiers words) ts is =
      let some = is.form.0.0 in
      let long = is.form.2 in
      (some_parts name_at identifiers (omega (arith, some, long)), names_plain identifiers is.names.0)
  form_plain (form.Order identifiers) ts is = (some_parts name_at identifiers is.form.0, names_plain identifiers is.names.0)
  form_plain (form.Utf8 least most class) ts is = size_plain least most is.bounded.0 is.bounded.1
  form_plain (form.Sequence parts) ts is = components_plain parts ts is.names.0 is.marks is.octets is.standards is.sit
  form_plain (form.Choice parts) ts is = (some_alternatives parts ts is.form.0 is.long, alternatives_plain parts ts is.names.0.0 is.marks is.standards is.names.1)
  form_plain (form.SequenceOf part least most) ts is =
      (size_plain least most is.bounded.0 is.bounded.1, item_plain part ts is.names.0 (is.marks zero part (omega arith)) is.standards is.names.1)
  form_plain (form.Ref to) ts is = reference_plain to is.form

  types_long : (ts : Roses TypeLabel) → length_all (types_told M ts) ≡ length_all ts
  types_long none = refl
  types_long (more t ts) = ap suc (types_long ts)

  components_long : (parts : List Component) (ts : Roses TypeLabel) → length_all ts ≡ length parts → length (components_told M parts ts) ≡ length parts
  components_long [] ts long = refl
  components_long (part ∷ parts) none long = absurd (omega (arith, long))
  components_long (part ∷ parts) (more t ts) long = ap suc (components_long parts ts (omega (arith, long)))

  parts_long : (f : Form) (ts : Roses TypeLabel) → length_all ts ≡ length (parts_of f) → length (laid.parts_of (form_told M f ts)) ≡ length (parts_of f)
  parts_long form.Bool ts long = refl
  parts_long (form.Int least greatest) ts long = refl
  parts_long (form.Numbers numbers) ts long = refl
  parts_long (form.Words identifiers words) ts long = refl
  parts_long (form.Order identifiers) ts long = refl
  parts_long (form.Utf8 least most class) ts long = refl
  parts_long (form.Sequence parts) ts long = components_long parts ts long
  parts_long (form.Choice parts) ts long = components_long parts ts long
  parts_long (form.SequenceOf part least most) ts long = refl
  parts_long (form.Ref to) ts long = refl

  identifiers_good : (f : Form) → HasNames f → All IsIdentifier (identifiers_in f)
  identifiers_good (form.Words identifiers words) names = names.0
  identifiers_good f names = λ k d lt. absurd (omega (arith, lt))

  -- the types of parts
  pub all_sit : (ts : Roses TypeLabel) (spot : Spot) (l : TypeLabel) (i : ℕ) (parts : List Component) → AllGood M spot l i parts ts → depth_all ts ≤ plain.limit → AllSit ts
  all_sit none spot l i parts good low = tt
  all_sit (more t ts) spot l i [] good low = absurd good
  all_sit (more t ts) spot l i (part ∷ parts) good low =
      (record { is = fine M t (part_spot spot l i part) good.0; low = omega (arith, low) }, all_sit ts spot l (i + 1) parts good.1 (omega (arith, low)))

  form_is : (spot : Spot) (l : TypeLabel) (ts : Roses TypeLabel) → GoodAt M spot l ts → AllSit ts → FormIs l.form ts
  form_is spot l ts good sit = record {
    names = good.printable.names;
    form = good.well.form;
    bounded = good.bounds;
    marks = good.printable.parts;
    octets = good.octets;
    standards = good.well.standards;
    long = good.long;
    sit = sit;
  }

  mutual
    type_plain : (t : Rose TypeLabel) (spot : Spot) → Good M spot t → height t ≤ plain.limit → plain.IsType (type_told M t)
    type_plain (node l ts) spot good low =
        let has = good.0.printable.marks in (
          (
            type_marks_ordered l.form l.marks has.order has.type has.each,
            type_marks_plain l.form l.marks (identifiers_good l.form good.0.printable.names) (texts_found l.form l.marks has.texts),
          ),
          form_plain l.form ts (form_is spot l ts good.0 (all_sit ts spot l 0 (parts_of l.form) good.1 (omega (arith, low)))),
          types_long ts ∙ good.0.long ∙ sym (parts_long l.form ts good.0.long),
          types_plain ts spot l 0 (parts_of l.form) good.1 (omega (arith, low)),
        )

    types_plain : (ts : Roses TypeLabel) (spot : Spot) (l : TypeLabel) (i : ℕ) (parts : List Component) → AllGood M spot l i parts ts → depth_all ts ≤ plain.limit
        → plain.AreTypes (types_told M ts)
    types_plain none spot l i parts good low = tt
    types_plain (more t ts) spot l i [] good low = absurd good
    types_plain (more t ts) spot l i (part ∷ parts) good low =
        (type_plain t (part_spot spot l i part) good.0 (omega (arith, low)), types_plain ts spot l (i + 1) parts good.1 (omega (arith, low)))

  assignment_plain : (a : Assignment) → GoodBody M a → plain.IsAssignment (assignment_told M a)
  assignment_plain a is = record {
    reference = is.printable.reference;
    marks = part_marks_ordered a.reference a.marks is.printable.marks.order is.printable.marks.part;
    body = type_plain a.body Elsewhere is.good is.printable.depth;
  }

  assignments_plain : (entries : List Assignment) → All (GoodBody M) entries → All plain.IsAssignment (map (assignment_told M) entries)
  assignments_plain [] are k d lt = absurd (omega (arith, lt))
  assignments_plain (a ∷ entries) are zero d lt = assignment_plain a (are zero a (omega arith))
  assignments_plain (a ∷ entries) are (suc k) d lt = assignments_plain entries (λ j x h. are (suc j) x (omega (arith, h))) k d (omega (arith, lt))

  pub module_plain : plain.IsPlain (module_told M)
  module_plain = assignments_plain M all
