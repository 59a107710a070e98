-- What a plain text must be so that a module can be made from it. Names and texts are UTF-8, default values have their spelling,
-- and each part has its type. A text without faults is such a text.
use Rattle.std.specs.Prelude.{◌≡◌, ℕ, ◌+◌, ◌<◌, ◌^◌, true, false, Option, Some, None, List, [], ◌∷◌, length, All, IsUtf8, unwrap_or}
use Rattle.std.specs.List.{list_all}
use Rattle.std.specs.Str.{is_utf8}
use Rattle.base_trees.specs.Rose.{Rose, node, Roses, none, more, label_of, kids_of, length_all}
use Rattle.simple_types.specs.declared.standards.Standard.{Standard}
use Rattle.simple_types.specs.declared.standards.Standard.TheVariants.{Free, Default, Fixed}
use Rattle.asn_types.specs.declared.types.Component.{Component}
use Rattle.module_text.specs.declared.marks.PartMark.{PartMark}
use Rattle.module_text.specs.declared.marks.PartMarkKind.{PartMarkKind}
use Rattle.module_text.specs.declared.marks.PartMarkKind.TheVariants as part_mark
use Rattle.module_text.specs.declared.marks.TypeMark.{TypeMark}
use Rattle.module_text.specs.declared.marks.TypeMarkKind.{TypeMarkKind}
use Rattle.module_text.specs.declared.marks.TypeMarkKind.TheVariants as type_mark
use Rattle.module_text.specs.declared.values.PlainOctets.{PlainOctets}
use Rattle.module_text.specs.declared.values.PlainValueLabel.{PlainValueLabel}
use Rattle.module_text.specs.declared.values.Absence.{Absence}
use Rattle.module_text.specs.declared.values.Absence.TheVariants as absence
use Rattle.module_text.specs.declared.types.PlainPart.{PlainPart}
use Rattle.module_text.specs.declared.types.PlainForm.{PlainForm}
use Rattle.module_text.specs.declared.types.PlainForm.TheVariants as form
use Rattle.module_text.specs.declared.types.PlainLabel.{PlainLabel}
use Rattle.module_text.specs.declared.modules.PlainAssignment.{PlainAssignment}
use Rattle.module_text.specs.Texts.{parts_of}
use Rattle.module_text.specs.declared.spots.Spot.{Spot}
use Rattle.module_text.specs.declared.spots.Spot.TheVariants.{Elsewhere}
use Rattle.module_text.specs.Told.{told_name, words_of}
use Rattle.module_text.specs.Resolving.{resolve}
use Rattle.module_text.specs.Simple.{is_order_item}
use Rattle.module_text.specs.Defaults.{octets_of, spelling_told}
use Rattle.module_text.specs.Marks.{item_number, next_item}
use Rattle.module_text.specs.Faults.{space_at, part_spot}
use Rattle.module_text.specs.Orders.{may_be_absent}
use Rattle.module_text.specs.Meaning.{standard_meant, part_marks_meant}

-- ---- encoding instructions

abbrev pub IsPartMarkReady : List ℕ → PartMarkKind → Type 0
IsPartMarkReady generated (part_mark.Name name) = IsUtf8 (told_name generated name)
IsPartMarkReady generated (part_mark.Namespace space) = IsUtf8 space
IsPartMarkReady generated kind = Unit {0}

abbrev pub ArePartMarksReady : List ℕ → List PartMark → Type 0
ArePartMarksReady generated marks = All (λ (m : PartMark). IsPartMarkReady generated m.kind) marks

-- The item of a TEXT is found among those from a least number on.
abbrev pub IsTypeMarkReady : Spot → PlainForm → ℕ → TypeMarkKind → Type 0
IsTypeMarkReady spot f least (type_mark.Text identifier text) =
    IsUtf8 (told_name identifier text) × (item_number spot f least identifier ≡ item_number spot f 0 identifier)
IsTypeMarkReady spot f least kind = Unit {0}

abbrev pub AreTypeMarksReady : Spot → PlainForm → ℕ → List TypeMark → Type 0
AreTypeMarksReady spot f least [] = Unit {0}
AreTypeMarksReady spot f least (m ∷ ms) = IsTypeMarkReady spot f least m.kind × AreTypeMarksReady spot f (next_item spot f least m.kind) ms

-- ---- forms

-- There are fewer than 2^32 items.
abbrev pub HasRoom : PlainForm → Type 0
HasRoom (form.Words identifiers) = length identifiers < 2 ^ 32
HasRoom f = Unit {0}

abbrev pub HasWords : Spot → List TypeMark → PlainForm → Type 0
HasWords spot marks (form.Words identifiers) = is_order_item spot ≡ false → list_all is_utf8 (words_of marks identifiers) ≡ true
HasWords spot marks f = Unit {0}

-- ---- default and fixed values

abbrev pub IsText : Option (List ℕ) → Type 0
IsText None = ⊥
IsText (Some text) = IsUtf8 text

abbrev pub spelling_of : Rose PlainLabel → Rose PlainValueLabel → Option (List ℕ)
spelling_of t v = spelling_told (label_of t) (kids_of t) v

-- The default or fixed value that the text gives for a part whose type, through references, is this.
abbrev pub standard_told : Rose PlainLabel → Option PlainOctets → Absence → Standard
standard_told t (Some octets) absence = Fixed (unwrap_or (octets_of octets.digits) [])
standard_told t None (absence.Default v) = Default (unwrap_or (spelling_of t v) [])
standard_told t None absence.Optional = Free
standard_told t None absence.Never = Free

abbrev pub IsStandardReady : Rose PlainLabel → Option PlainOctets → Absence → Type 0
IsStandardReady t (Some octets) absence = IsText (octets_of octets.digits)
IsStandardReady t None (absence.Default v) = IsText (spelling_of t v)
IsStandardReady t None absence.Optional = Unit {0}
IsStandardReady t None absence.Never = Unit {0}

-- ---- types

module _ (P : List PlainAssignment) where
  -- A default value, if there is one, is one of the simple type.
  pub record IsPartReady (spot : Spot) (part : PlainPart) (t : Rose PlainLabel) : Type 0 where
    pub marks : ArePartMarksReady part.identifier part.marks
    pub standard : IsStandardReady (resolve P t) part.fixed part.absence
    pub meant : standard_meant (space_at P spot part.marks t) (resolve P t) part.fixed part.absence ≡ standard_told (resolve P t) part.fixed part.absence

  pub record IsLabelReady (spot : Spot) (l : PlainLabel) (ts : Roses PlainLabel) : Type 0 where
    pub room : HasRoom l.form
    pub words : HasWords spot l.marks l.form
    pub marks : AreTypeMarksReady spot l.form 0 l.marks
    pub parts : length_all ts ≡ length (parts_of l.form)

  abbrev mutual
    pub IsTypeReady : Spot → Rose PlainLabel → Type 0
    IsTypeReady spot (node l ts) = IsLabelReady spot l ts × ArePartsReady spot l 0 (parts_of l.form) ts

    -- The parts from the one with number i on, with these types, are ready.
    pub ArePartsReady : Spot → PlainLabel → ℕ → List PlainPart → Roses PlainLabel → Type 0
    ArePartsReady spot l i parts none = Unit {0}
    ArePartsReady spot l i parts (more t ts) =
        elim parts [
          | [] ↦ Unit {0}
          | part ∷ others ↦
              IsPartReady (part_spot spot l i part) part t
              × IsTypeReady (part_spot spot l i part) t
              × ArePartsReady spot l (i + 1) others ts
        ]

  abbrev pub IsAssignmentReady : PlainAssignment → Type 0
  IsAssignmentReady a = ArePartMarksReady a.reference a.marks × IsTypeReady Elsewhere a.body

abbrev pub IsReady : List PlainAssignment → Type 0
IsReady P = All (IsAssignmentReady P) P

-- ---- parts as the code makes them

abbrev pub component_told : List PlainAssignment → PlainPart → Rose PlainLabel → Component
component_told P part t = record {
  identifier = part.identifier;
  optional = may_be_absent part.absence;
  standard = standard_told (resolve P t) part.fixed part.absence;
  marks = part_marks_meant part.identifier part.marks;
}

module _ (P : List PlainAssignment) where
  abbrev pub components_told : List PlainPart → Roses PlainLabel → List Component
  components_told [] ts = []
  components_told (part ∷ parts) none = []
  components_told (part ∷ parts) (more t ts) = component_told P part t ∷ components_told parts ts

  -- The instructions and the default or fixed value of a part are ready.
  abbrev pub IsPartSpelled : PlainPart → Rose PlainLabel → Type 0
  IsPartSpelled part t = ArePartMarksReady part.identifier part.marks × IsStandardReady (resolve P t) part.fixed part.absence

  abbrev pub ArePartsSpelled : List PlainPart → Roses PlainLabel → Type 0
  ArePartsSpelled [] ts = Unit {0}
  ArePartsSpelled (part ∷ parts) none = Unit {0}
  ArePartsSpelled (part ∷ parts) (more t ts) = IsPartSpelled part t × ArePartsSpelled parts ts
