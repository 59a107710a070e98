-- The values of attributes of schema documents (XML Schema Part 1, section 3, with the types of its schema in appendix A).
use Rattle.std.specs.Prelude.{ℕ, Bool, true, false, ◌||◌, ◌&&◌, not, List, [], ◌∷◌, bytes_eq, nat_lt, codes, Option, Some, None, unwrap_or, if◌then◌else◌}
use Rattle.std.specs.List.{list_any, list_all}
use Rattle.std.specs.Option.{is_some}
use Rattle.std.specs.Str.{chars}
use Rattle.base_texts.specs.Characters.{is_ncname}
use Rattle.base_texts.specs.Entries.{beside}
use Rattle.base_texts.specs.WhiteSpace.{words_of}
use Rattle.base_texts.specs.Limits.{is_empty, is_short_space, is_short_part}
use Rattle.base_texts.specs.Namespaces.{xmlns_space, schema_space, xsi_space}
use Rattle.base_texts.specs.Digits.{is_numeral, number_of}
use Rattle.simple_types.specs.Lexical.{boolean_of}
use Rattle.schema_syntax.specs.Digits.{is_over, is_zero, small}
use Rattle.schema_syntax.specs.References.{resolved, type_name}
use Rattle.schema_syntax.specs.declared.roles.ElementRole.{ElementRole}
use Rattle.schema_syntax.specs.declared.roles.ElementRole.TheVariants.{GlobalAttribute, LocalAttribute, All, AllElement}
use Rattle.schema_syntax.specs.declared.values.ValueForm.{ValueForm}
use Rattle.schema_syntax.specs.declared.values.ValueForm.TheVariants.{Truth, Qualification, Prescription, Digits, DigitsOrUnbounded, NcName, Reference, TypeName, TypeNames, TargetNamespace}

-- The form of the value of each attribute that has one.
abbrev pub forms : List (List ℕ × ValueForm)
forms =
    (codes "targetNamespace", TargetNamespace) ∷ (codes "elementFormDefault", Qualification) ∷ (codes "attributeFormDefault", Qualification)
    ∷ (codes "form", Qualification) ∷ (codes "name", NcName) ∷ (codes "ref", Reference) ∷ (codes "type", TypeName) ∷ (codes "base", TypeName)
    ∷ (codes "itemType", TypeName) ∷ (codes "memberTypes", TypeNames) ∷ (codes "nillable", Truth) ∷ (codes "abstract", Truth) ∷ (codes "mixed", Truth)
    ∷ (codes "use", Prescription) ∷ (codes "minOccurs", Digits) ∷ (codes "maxOccurs", DigitsOrUnbounded) ∷ []

abbrev pub qualifications : List (List ℕ × Bool)
qualifications = (codes "qualified", true) ∷ (codes "unqualified", false) ∷ []

abbrev pub prescriptions : List (List ℕ)
prescriptions = codes "optional" ∷ codes "required" ∷ codes "prohibited" ∷ []

abbrev pub unbounded : List ℕ
unbounded = codes "unbounded"

-- The text is a name that may be declared: an NCName within the limit.
abbrev pub is_declared_name : List ℕ → Bool
is_declared_name text = is_ncname (chars text) && is_short_part text

-- A namespace that names of documents may have: any except the reserved ones.
abbrev pub is_target : List ℕ → Bool
is_target space =
    not (is_empty space) && is_short_space space && not (bytes_eq space schema_space) && not (bytes_eq space xsi_space)
    && not (bytes_eq space xmlns_space)

abbrev pub has_form : List (List ℕ × List ℕ) → ValueForm → List ℕ → Bool
has_form scope Truth value = is_some (boolean_of value)
has_form scope Qualification value = is_some (beside value qualifications)
has_form scope Prescription value = list_any (bytes_eq value) prescriptions
has_form scope Digits value = is_numeral value
has_form scope DigitsOrUnbounded value = is_numeral value || bytes_eq value unbounded
has_form scope NcName value = is_declared_name value
has_form scope Reference value = is_some (resolved scope value)
has_form scope TypeName value = is_some (type_name scope value)
has_form scope TypeNames value = list_all (λ word. is_some (type_name scope word)) (words_of value)
has_form scope TargetNamespace value = is_target value

abbrev pub formed : List (List ℕ × List ℕ) → Option ValueForm → List ℕ → Bool
formed scope None value = true
formed scope (Some form) value = has_form scope form value

unfoldable pub is_well_formed : List (List ℕ × List ℕ) → List ℕ → List ℕ → Bool
is_well_formed scope name value = formed scope (beside name forms) value

abbrev pub has_malformed : List (List ℕ × List ℕ) → List (List ℕ × List ℕ) → Bool
has_malformed scope own = list_any (λ a. not (is_well_formed scope a.0 a.1)) own

-- The attribute `name` has this value. No attribute is named `xmlns` (Part 1, section 3.2.6).
abbrev pub is_named : List ℕ → List (List ℕ × List ℕ) → Bool
is_named name own = elim (beside (codes "name") own) [ None ↦ false | Some value ↦ bytes_eq value name ]

abbrev pub declares_xmlns : ElementRole → List (List ℕ × List ℕ) → Bool
declares_xmlns GlobalAttribute own = is_named (codes "xmlns") own
declares_xmlns LocalAttribute own = is_named (codes "xmlns") own
declares_xmlns role own = false

abbrev pub digits_of : List ℕ → List (List ℕ × List ℕ) → List ℕ
digits_of name own = elim (beside name own) [ None ↦ codes "1" | Some value ↦ value ]

-- `minOccurs` is over `maxOccurs` (Part 1, section 3.9.6); both are 1 by default.
abbrev pub is_crossed : List (List ℕ × List ℕ) → Bool
is_crossed own = is_over (digits_of (codes "minOccurs") own) (digits_of (codes "maxOccurs") own)

-- ---- occurrences

abbrev pub occurrences : List ℕ → Option ℕ
occurrences text = if is_numeral text then small (number_of text) else None

abbrev pub least_of : List (List ℕ × List ℕ) → ℕ
least_of own = unwrap_or (occurrences (digits_of (codes "minOccurs") own)) 1

-- The greatest number of occurrences; none if it is unbounded.
abbrev pub most_of : List (List ℕ × List ℕ) → Option ℕ
most_of own = occurrences (digits_of (codes "maxOccurs") own)

-- The particle is dropped (Part 1, section 3.9.6): its `maxOccurs` is zero.
abbrev pub never_occurs : List (List ℕ × List ℕ) → Bool
never_occurs own = elim (beside (codes "maxOccurs") own) [ None ↦ false | Some value ↦ is_zero value ]

-- It may occur more than once.
abbrev pub recurs : List (List ℕ × List ℕ) → Bool
recurs own = elim (most_of own) [ None ↦ true | Some most ↦ nat_lt 1 most ]

-- An `all` occurs once or may be absent, and each element in it, too (Part 1, sections 3.8.2 and 3.8.6, 'All Group Limited').
abbrev pub is_no_all : ElementRole → List (List ℕ × List ℕ) → Bool
is_no_all All own = never_occurs own || recurs own || is_over (digits_of (codes "minOccurs") own) (codes "1")
is_no_all AllElement own = recurs own
is_no_all role own = false

-- ---- all of them

abbrev pub has_bad_value : ElementRole → List (List ℕ × List ℕ) → List (List ℕ × List ℕ) → Bool
has_bad_value role scope own = has_malformed scope own || declares_xmlns role own || is_crossed own || is_no_all role own
