-- The map of a linked set: one module, whose assignments are in the order of their components (X.694).
use Rattle.std.specs.Prelude.{◌≡◌, ℕ, List, [], ◌∷◌, ◌++◌, slice_get, unwrap_or, codes}
use Rattle.base_texts.specs.declared.texts.Name.{Name}
use Rattle.asn_names.specs.declared.conversion.NameKind.TheVariants.{Reference}
use Rattle.asn_names.specs.Taking.{IsTaken}
use Rattle.asn_types.specs.declared.marks.Instruction.{Instruction}
use Rattle.asn_types.specs.declared.marks.Instruction.TheVariants as mark
use Rattle.asn_types.specs.declared.modules.Assignment.{Assignment}
use Rattle.schema_components.specs.Components.{Set}
use Rattle.map_subjects.specs.declared.subjects.Subject.{Subject}
use Rattle.map_subjects.specs.declared.subjects.Subject.TheVariants as subject
use Rattle.map_subjects.specs.declared.subjects.NamedSubject.{NamedSubject}
use Rattle.map_subjects.specs.Subjects.{AreEntries, place_in}
use Rattle.map_assignments.specs.Planning.{body}
use Rattle.map_assignments.specs.Naming.{reference_of, name_marks, qualified_marks, IsNamed}

-- NAME, and for elements and attributes NAMESPACE; a type of nillable elements has neither.
abbrev pub assignment_marks : Subject → Name → List ℕ → List Instruction
assignment_marks (subject.Element d) name reference = qualified_marks reference name
assignment_marks (subject.Attribute n) name reference = mark.Attribute ∷ qualified_marks reference name
assignment_marks (subject.Simple n) name reference = name_marks reference name.local
assignment_marks (subject.Complex n) name reference = name_marks reference name.local
assignment_marks (subject.Nillable n) name reference = []

-- Assignments have these numbers.
module _ (place : Subject → ℕ) where
  -- The name from which a reference is made. It is a component's local name. For the type of nillable elements it is the reference
  -- of their complex type, one of these references of the assignments before, with `-nillable` after it.
  abbrev pub wanted_reference : List (List ℕ) → Subject → Name → List ℕ
  wanted_reference before (subject.Nillable n) name = unwrap_or (slice_get before (place (subject.Complex n))) [] ++ codes "-nillable"
  wanted_reference before _ name = reference_of name.local

  module _ (s : Set) where
    -- The assignment of a component after those with these references.
    pub record IsMapped (before : List (List ℕ)) (e : NamedSubject) (a : Assignment) : Type 0 where
      pub reference : IsTaken Reference before (wanted_reference before e.subject e.name) a.reference
      pub marks : a.marks ≡ assignment_marks e.subject e.name a.reference
      pub body : IsNamed place (body s e.subject) a.body

    abbrev pub AreMapped : List (List ℕ) → List NamedSubject → List Assignment → Type 0
    AreMapped before [] [] = Unit {0}
    AreMapped before (e ∷ others) (a ∷ assignments) = IsMapped before e a × AreMapped (before ++ a.reference ∷ []) others assignments
    AreMapped before _ _ = ⊥

-- The module is the map of the set.
pub record IsMapOf (s : Set) (M : List Assignment) : Type 0 where
  pub entries : List NamedSubject
  pub are_entries : AreEntries s entries
  pub assignments : AreMapped (place_in entries) s [] entries M

-- The root type of a global element: the number of its assignment in the map.
abbrev pub root_at : (s : Set) (M : List Assignment) → IsMapOf s M → ℕ → ℕ
root_at s M is_map d = place_in is_map.entries (subject.Element d)
