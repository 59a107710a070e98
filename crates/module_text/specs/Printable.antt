-- The modules that can be read back from their print, because the print shows all of the module.
use Rattle.std.specs.Prelude.{◌≡◌, ◌≢◌, ℕ, ◌+◌, ◌≤◌, Bool, true, false, ◌&&◌, not, nat_lt, None, List, [], ◌∷◌, map, filter, chars, bytes_eq, All, if◌then◌else◌}
use Rattle.std.specs.List.{list_all, Contains, IsDistinct}
use Rattle.base_trees.specs.Rose.{Rose, node, Roses, none, more, height}
use Rattle.base_texts.specs.Characters.{is_xml_char}
use Rattle.base_texts.specs.declared.white_space.WhiteSpace.TheVariants.{Preserve}
use Rattle.asn_names.specs.Restoring.{form_of}
use Rattle.asn_names.specs.ReservedWords.{reserved_words}
use Rattle.asn_types.specs.declared.marks.Instruction.{Instruction}
use Rattle.asn_types.specs.declared.marks.Instruction.TheVariants as mark
use Rattle.asn_types.specs.declared.roles.Role.{Role}
use Rattle.asn_types.specs.declared.roles.Role.TheVariants.{Order}
use Rattle.asn_types.specs.declared.types.Component.{Component}
use Rattle.asn_types.specs.declared.types.Form.{Form}
use Rattle.asn_types.specs.declared.types.Form.TheVariants as form
use Rattle.asn_types.specs.declared.types.TypeLabel.{TypeLabel}
use Rattle.asn_types.specs.declared.modules.Assignment.{Assignment}
use Rattle.asn_types.specs.Bounds.{IsBounded}
use Rattle.asn_types.specs.Modules.{IsModule}
use Rattle.asn_types.specs.Parts.{parts_of}
use Rattle.asn_types.specs.Roles.{role_of}
use Rattle.module_print.specs.Instructions.{rank}
use Rattle.module_text.specs.Names.{is_reference, is_identifier}
use Rattle.module_text.specs.Plain.{limit}
use Rattle.module_text.specs.declared.spots.Spot.{Spot}
use Rattle.module_text.specs.declared.spots.Spot.TheVariants as spot_

-- ---- encoding instructions

-- The instructions are in the order in which they are printed. Each appears once, except TEXT, whose items ascend.
abbrev pub comes_before : Instruction → Instruction → Bool
comes_before (mark.Text item text) (mark.Text other word) = nat_lt item other
comes_before m n = nat_lt (rank m) (rank n)

abbrev pub are_in_order : List Instruction → Bool
are_in_order [] = true
are_in_order (m ∷ []) = true
are_in_order (m ∷ n ∷ marks) = comes_before m n && are_in_order (n ∷ marks)

-- ATTRIBUTE, UNTAGGED, NAME and NAMESPACE appear only on components and assignments, the others only on types.
abbrev pub is_of_part : Instruction → Bool
is_of_part m = nat_lt (rank m) 4

-- Quoted texts have only XML characters.
abbrev pub IsXmlText : List ℕ → Type 0
IsXmlText text = list_all is_xml_char (chars text) ≡ true

-- A part or an assignment with this name may have the instruction.
abbrev pub MayHave : List ℕ → Instruction → Type 0
MayHave generated (mark.Name name) = (generated ≢ []) × (form_of generated name ≢ None) × IsXmlText name
MayHave generated (mark.Namespace space) = IsXmlText space
MayHave generated m = Unit {0}

pub record HasPartMarks (generated : List ℕ) (marks : List Instruction) : Type 0 where
  pub order : are_in_order marks ≡ true
  pub part : list_all is_of_part marks ≡ true
  pub names : All (MayHave generated) marks

-- TEXT appears exactly for the words that differ from their identifiers.
abbrev pub text_marks : ℕ → List (List ℕ) → List (List ℕ) → List Instruction
text_marks i (identifier ∷ identifiers) (word ∷ words) =
    if bytes_eq identifier word then text_marks (i + 1) identifiers words else mark.Text i word ∷ text_marks (i + 1) identifiers words
text_marks i _ _ = []

abbrev pub texts_due : Form → List Instruction
texts_due (form.Words identifiers words) = text_marks 0 identifiers words
texts_due _ = []

abbrev pub is_text : Instruction → Bool
is_text (mark.Text item text) = true
is_text _ = false

abbrev pub MayBe : Instruction → Type 0
MayBe (mark.WhiteSpace how) = how ≢ Preserve
MayBe (mark.Text item text) = IsXmlText text
MayBe m = Unit {0}

pub record HasTypeMarks (l : TypeLabel) : Type 0 where
  pub order : are_in_order l.marks ≡ true
  pub type : list_all (λ m. not (is_of_part m)) l.marks ≡ true
  pub texts : filter is_text l.marks ≡ texts_due l.form
  pub each : All MayBe l.marks

-- ---- names

abbrev pub IsIdentifier : List ℕ → Type 0
IsIdentifier name = is_identifier name ≡ true

-- The identifiers of the items of an ENUMERATED, except those that represent numbers.
abbrev pub identifiers_of : Form → List (List ℕ)
identifiers_of (form.Words identifiers words) = identifiers
identifiers_of (form.Order identifiers) = identifiers
identifiers_of _ = []

abbrev pub AreIdentifiers : List (List ℕ) → Type 0
AreIdentifiers names = All IsIdentifier names × IsDistinct bytes_eq names

abbrev pub part_names : Form → List (List ℕ)
part_names f = map (λ (part : Component). part.identifier) (parts_of f)

-- Only the part of a SEQUENCE OF may lack an identifier, and only a part of a SEQUENCE may be absent.
abbrev pub IsPresent : Component → Type 0
IsPresent part = part.optional ≡ false

abbrev pub HasNames : Form → Type 0
HasNames (form.Sequence parts) = AreIdentifiers (part_names (form.Sequence parts))
HasNames (form.Choice parts) = AreIdentifiers (part_names (form.Choice parts)) × All IsPresent parts
HasNames (form.SequenceOf part least most) = (part.identifier ≢ [] → IsIdentifier part.identifier) × IsPresent part
HasNames f = AreIdentifiers (identifiers_of f)

-- ---- where the ENUMERATED of an order appears

abbrev pub IsInSpot : Spot → Form → Type 0
IsInSpot spot_.OrderItem (form.Words identifiers words) = ⊥
IsInSpot spot_.OrderItem f = Unit {0}
IsInSpot spot_.Elsewhere (form.Order identifiers) = ⊥
IsInSpot spot_.Elsewhere f = Unit {0}
IsInSpot spot_.Order (form.Order identifiers) = ⊥
IsInSpot spot_.Order f = Unit {0}

abbrev pub is_order : Role → Bool
is_order Order = true
is_order _ = false

abbrev pub item_spot : Spot → Spot
item_spot spot_.Order = spot_.OrderItem
item_spot _ = spot_.Elsewhere

abbrev pub is_sequence_of : Form → Bool
is_sequence_of (form.SequenceOf part least most) = true
is_sequence_of _ = false

abbrev pub part_spot : Spot → TypeLabel → ℕ → Component → Spot
part_spot spot l i part =
    if is_sequence_of l.form then item_spot spot else (if is_order (role_of l i part) then spot_.Order else spot_.Elsewhere)

-- ---- types and assignments

pub record IsPrintableType (spot : Spot) (l : TypeLabel) : Type 0 where
  pub marks : HasTypeMarks l
  pub names : HasNames l.form
  pub parts : All (λ (part : Component). HasPartMarks part.identifier part.marks) (parts_of l.form)
  pub order : IsInSpot spot l.form

abbrev mutual
  pub ArePrintable : Spot → Rose TypeLabel → Type 0
  ArePrintable spot (node l ts) = IsPrintableType spot l × AllPrintable spot l 0 (parts_of l.form) ts

  pub AllPrintable : Spot → TypeLabel → ℕ → List Component → Roses TypeLabel → Type 0
  AllPrintable spot l i parts none = Unit {0}
  AllPrintable spot l i parts (more t ts) =
      elim parts [
        | [] ↦ Unit {0}
        | part ∷ others ↦ ArePrintable (part_spot spot l i part) t × AllPrintable spot l (i + 1) others ts
      ]

pub record IsPrintableAssignment (a : Assignment) : Type 0 where
  pub reference : is_reference a.reference ≡ true
  pub free : Contains reserved_words a.reference → ⊥
  pub marks : HasPartMarks a.reference a.marks
  pub types : ArePrintable spot_.Elsewhere a.body
  pub depth : height a.body ≤ limit

-- In each module numbers and words ascend, no CHOICE and no ENUMERATED is empty, and no bounds are crossed.
pub record IsPrintable (M : List Assignment) : Type 0 where
  pub sound : IsModule M
  pub bounded : IsBounded M
  pub assignments : All IsPrintableAssignment M
