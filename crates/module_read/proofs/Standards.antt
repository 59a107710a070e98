-- Default and fixed values without a fault have their texts.
use Rattle.std.proofs.Common.{◌≡◌, ℕ, Bool, true, false, ◌&&◌, Option, Some, None, List, [], ◌∷◌, refl, sym, ap, ◌∙◌}
use Rattle.std.specs.Prelude.{IsUtf8, unwrap_or, is_some, bytes_eq, if◌then◌else◌}
use Rattle.base_trees.specs.Rose.{Rose, node, Roses, list_of}
use Rattle.simple_types.specs.Space.{Space}
use Rattle.simple_types.specs.declared.labels.ValueLabel.{ValueLabel}
use Rattle.simple_types.specs.declared.standards.Standard.{Standard}
use Rattle.simple_types.specs.declared.standards.Standard.TheVariants.{Free, Default, Fixed}
use Rattle.simple_types.specs.Reading.{reads}
use Rattle.module_text.specs.declared.values.PlainOctets.{PlainOctets}
use Rattle.module_text.specs.declared.values.PlainValueLabel.{PlainValueLabel}
use Rattle.module_text.specs.declared.values.Absence.{Absence}
use Rattle.module_text.specs.declared.values.Absence.TheVariants as absence
use Rattle.module_text.specs.declared.types.PlainLabel.{PlainLabel}
use Rattle.module_text.specs.declared.reasons.ModuleWhy.TheVariants.{Spelling}
use Rattle.module_text.specs.Told.{is_xml_text}
use Rattle.module_text.specs.Defaults.{octets_of, canonical_value, own_value, spelling_told, is_told, default_told}
use Rattle.module_text.specs.Faults.{is_canonical, fixed_faults, is_fixed, is_default, absence_faults, value_at}
use Rattle.module_text.specs.Meaning.{default_meant, standard_meant}
use Rattle.module_read.specs.Ready.{IsText, spelling_of, standard_told, IsStandardReady}
use Rattle.module_text.proofs.PrintedBounds.{unless-none as so}
use Rattle.module_read.proofs.Names.{xml-utf8}

-- The text of a value is XML.
canonical_at : (text : List ℕ) (s : Space) (is : Bool) → is_xml_text text ≡ is
    → is_some (if is then own_value s text (reads s text) else None) ≡ true → IsUtf8 text
canonical_at text s true e found = xml-utf8 text e
canonical_at text s false e found = absurd (cc)

canonical_utf8 : (s : Space) (text : List ℕ) → is_some (canonical_value s text) ≡ true → IsUtf8 text
canonical_utf8 s text found = canonical_at text s (is_xml_text text) refl found

fixed_text : (space : Option Space) (text : Option (List ℕ)) → is_canonical space text ≡ true → IsText text
fixed_text None text e = absurd (cc)
fixed_text (Some s) None e = absurd (cc)
fixed_text (Some s) (Some text) e = canonical_utf8 s text e

-- the text of a default value, where it is told
abbrev told_as : Space → PlainLabel → List (Rose PlainLabel) → Rose PlainValueLabel → Option (List ℕ) → Option (List ℕ)
told_as s l ts v found = elim found [
  | None ↦ None
  | Some text ↦ elim (canonical_value s text) [ None ↦ None | Some w ↦ if is_told l ts v w then Some text else None ]
]

abbrev meant_as : Option (List ℕ) → Standard
meant_as found = elim found [ None ↦ Free | Some text ↦ Default text ]

abbrev is_meant : Option (List ℕ) → Bool
is_meant found = elim found [ None ↦ false | Some text ↦ is_fixed None text ]

abbrev Stands : Option (List ℕ) → Option (List ℕ) → Type 0
Stands found told = IsText found × (meant_as told ≡ Default (unwrap_or found []))

told_value : (s : Space) (l : PlainLabel) (ts : List (Rose PlainLabel)) (v : Rose PlainValueLabel) (text : List ℕ) (value : Option (Rose ValueLabel))
    → (is_some value ≡ true → IsUtf8 text)
    → is_meant (elim value [ None ↦ None | Some w ↦ if is_told l ts v w then Some text else None ]) ≡ true
    → Stands (Some text) (elim value [ None ↦ None | Some w ↦ if is_told l ts v w then Some text else None ])
told_value s l ts v text None u e = absurd (cc)
told_value s l ts v text (Some w) u e = at (is_told l ts v w) e
  where
    at : (is : Bool) → is_meant (if is then Some text else None) ≡ true → Stands (Some text) (if is then Some text else None)
    at true e = (u refl, refl)
    at false e = absurd (cc)

told_text : (s : Space) (l : PlainLabel) (ts : List (Rose PlainLabel)) (v : Rose PlainValueLabel) (found : Option (List ℕ))
    → is_meant (told_as s l ts v found) ≡ true → Stands found (told_as s l ts v found)
told_text s l ts v None e = absurd (cc)
told_text s l ts v (Some text) e = told_value s l ts v text (canonical_value s text) (canonical_utf8 s text) e

default_ready : (space : Option Space) (t : Rose PlainLabel) (v : Rose PlainValueLabel) → is_default space None t v ≡ true
    → IsText (spelling_of t v) × (default_meant space t (absence.Default v) ≡ Default (unwrap_or (spelling_of t v) []))
default_ready None (node l ts) v e = absurd (cc)
default_ready (Some s) (node l ts) v e = told_text s l (list_of ts) v (spelling_told l (list_of ts) v) e

pub standard_ready : (space : Option Space) (t : Rose PlainLabel) (fixed : Option PlainOctets) (absence : Absence)
    → fixed_faults space fixed ≡ [] → absence_faults space fixed t absence ≡ []
    → IsStandardReady t fixed absence × (standard_meant space t fixed absence ≡ standard_told t fixed absence)
standard_ready space t (Some octets) absence e f =
    (fixed_text space (octets_of octets.digits) (so (is_canonical space (octets_of octets.digits)) octets.at Spelling e), refl)
standard_ready space (node l ts) None absence.Never e f = (tt, refl)
standard_ready space (node l ts) None absence.Optional e f = (tt, refl)
standard_ready space t None (absence.Default v) e f = default_ready space t v (so (is_default space None t v) (value_at v) Spelling f)
