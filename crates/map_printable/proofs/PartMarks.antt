-- The instructions on the parts and assignments of a map are those that the printer tells.
use Rattle.std.proofs.Common.{◌≡◌, ◌≢◌, ℕ, Option, Some, None, List, [], ◌∷◌, ◌++◌, All, refl, sym, ◌∙◌}
use Rattle.std.proofs.lemmas.List.Elements.{All-nil, All-cons}
use Rattle.base_texts.specs.declared.texts.Name.{Name}
use Rattle.asn_names.specs.declared.restoration.NameForm.{NameForm}
use Rattle.asn_names.specs.Restoring.{form_of}
use Rattle.asn_types.specs.declared.marks.Instruction.{Instruction}
use Rattle.asn_types.specs.declared.marks.Instruction.TheVariants as mark
use Rattle.map_subjects.specs.declared.subjects.Subject.{Subject}
use Rattle.map_subjects.specs.declared.subjects.Subject.TheVariants as subject
use Rattle.map_assignments.specs.Plans.{Label, attribute, element, group, elements, groups, texts, order, item, base, content}
use Rattle.map_assignments.specs.Naming.{name_if, name_marks, namespace_marks, qualified_marks, part_marks}
use Rattle.map_assignments.specs.Mapped.{assignment_marks}
use Rattle.module_text.specs.Printable.{IsXmlText, MayHave, HasPartMarks}
use Rattle.map_printable.proofs.Characters.{IsXmlName}

pub no-marks : (generated : List ℕ) → HasPartMarks generated []
no-marks generated = record { order = refl; part = refl; names = All-nil (MayHave generated) }

untagged : (generated : List ℕ) → HasPartMarks generated (mark.Untagged ∷ [])
untagged generated = record { order = refl; part = refl; names = All-cons (MayHave generated) mark.Untagged [] tt (All-nil (MayHave generated)) }

module _ (generated : List ℕ) (some : generated ≢ []) where
  told : (o : Option NameForm) (text : List ℕ) (f : NameForm) → form_of generated text ≡ o → o ≡ Some f → form_of generated text ≢ None
  told o text f is known none = let e : Some f ≡ None = sym known ∙ sym is ∙ none in absurd (cc)

  may-name : (text : List ℕ) (f : NameForm) → form_of generated text ≡ Some f → IsXmlText text → MayHave generated (mark.Name text)
  may-name text f is xml = (some, told (Some f) text f is refl, xml)

  nothing : All (MayHave generated) []
  nothing = All-nil (MayHave generated)

  -- behind ATTRIBUTE, or not
  first : (marks : List Instruction) → All (MayHave generated) marks → All (MayHave generated) (mark.Attribute ∷ marks)
  first marks h = All-cons (MayHave generated) mark.Attribute marks tt h

  spaced : (b : ℕ) (bs : List ℕ) → IsXmlText (b ∷ bs) → All (MayHave generated) (mark.Namespace (b ∷ bs) ∷ [])
  spaced b bs xml = All-cons (MayHave generated) (mark.Namespace (b ∷ bs)) [] xml nothing

  named : (marks : List Instruction) (text : List ℕ) (f : NameForm) → form_of generated text ≡ Some f → IsXmlText text → All (MayHave generated) marks
      → All (MayHave generated) (mark.Name text ∷ marks)
  named marks text f is xml h = All-cons (MayHave generated) (mark.Name text) marks (may-name text f is xml) h

  qualified-by : (o : Option NameForm) (text space : List ℕ) → form_of generated text ≡ o → IsXmlText text → IsXmlText space
      → HasPartMarks generated (name_if o text ++ namespace_marks space)
  qualified-by None text [] is xml space = no-marks generated
  qualified-by None text (b ∷ bs) is xml space = record { order = refl; part = refl; names = spaced b bs space }
  qualified-by (Some f) text [] is xml space = record { order = refl; part = refl; names = named [] text f is xml nothing }
  qualified-by (Some f) text (b ∷ bs) is xml space =
      record { order = refl; part = refl; names = named (mark.Namespace (b ∷ bs) ∷ []) text f is xml (spaced b bs space) }

  attribute-by : (o : Option NameForm) (text space : List ℕ) → form_of generated text ≡ o → IsXmlText text → IsXmlText space
      → HasPartMarks generated (mark.Attribute ∷ name_if o text ++ namespace_marks space)
  attribute-by None text [] is xml space = record { order = refl; part = refl; names = first [] nothing }
  attribute-by None text (b ∷ bs) is xml space = record { order = refl; part = refl; names = first (mark.Namespace (b ∷ bs) ∷ []) (spaced b bs space) }
  attribute-by (Some f) text [] is xml space = record { order = refl; part = refl; names = first (mark.Name text ∷ []) (named [] text f is xml nothing) }
  attribute-by (Some f) text (b ∷ bs) is xml space =
      record {
        order = refl;
        part = refl;
        names = first (mark.Name text ∷ mark.Namespace (b ∷ bs) ∷ []) (named (mark.Namespace (b ∷ bs) ∷ []) text f is xml (spaced b bs space));
      }

  qualified : (name : Name) → IsXmlName name → HasPartMarks generated (qualified_marks generated name)
  qualified name xml = qualified-by (form_of generated name.local) name.local name.space refl xml.0 xml.1

  attributed : (name : Name) → IsXmlName name → HasPartMarks generated (mark.Attribute ∷ qualified_marks generated name)
  attributed name xml = attribute-by (form_of generated name.local) name.local name.space refl xml.0 xml.1

  name-alone : (text : List ℕ) → IsXmlText text → HasPartMarks generated (name_marks generated text)
  name-alone text xml = by (form_of generated text) refl
    where
      by : (o : Option NameForm) → form_of generated text ≡ o → HasPartMarks generated (name_if o text)
      by None is = no-marks generated
      by (Some f) is = record { order = refl; part = refl; names = named [] text f is xml nothing }

-- the name of XML that a part stands for has XML characters alone
abbrev pub HasXmlName : Label → Type 0
HasXmlName (attribute name standard) = IsXmlName name
HasXmlName (element name) = IsXmlName name
HasXmlName _ = Unit {0}

-- a part with a generated name, which only a part without a name of XML lacks
pub part-marked : (l : Label) (generated : List ℕ) → HasXmlName l → generated ≢ [] → HasPartMarks generated (part_marks l generated)
part-marked (attribute name standard) generated xml some = attributed generated some name xml
part-marked (element name) generated xml some = qualified generated some name xml
part-marked (group k) generated xml some = untagged generated
part-marked (elements name) generated xml some = untagged generated
part-marked (groups k) generated xml some = untagged generated
part-marked texts generated xml some = no-marks generated
part-marked order generated xml some = no-marks generated
part-marked item generated xml some = no-marks generated
part-marked base generated xml some = untagged generated
part-marked content generated xml some = no-marks generated

pub assignment-marked : (w : Subject) (name : Name) (reference : List ℕ) → IsXmlName name → reference ≢ [] → HasPartMarks reference (assignment_marks w name reference)
assignment-marked (subject.Element n) name reference xml some = qualified reference some name xml
assignment-marked (subject.Attribute n) name reference xml some = attributed reference some name xml
assignment-marked (subject.Simple n) name reference xml some = name-alone reference some name.local xml.0
assignment-marked (subject.Complex n) name reference xml some = name-alone reference some name.local xml.0
assignment-marked (subject.Nillable n) name reference xml some = no-marks reference
