-- The identifiers of the parts of a type, and the instructions that restore XML names (X.693, X.694).
use Rattle.std.specs.Prelude.{◌≡◌, ℕ, suc, Bool, false, List, [], ◌∷◌, ◌++◌, map, Option, Some, None, codes, if◌then◌else◌}
use Rattle.std.specs.Str.{chars}
use Rattle.base_texts.specs.declared.texts.Name.{Name}
use Rattle.base_trees.specs.Rose.{Rose, node, Roses}
use Rattle.base_trees.specs.Rose as rose
use Rattle.simple_types.specs.declared.standards.Standard.{Standard}
use Rattle.simple_types.specs.declared.standards.Standard.TheVariants.{Free}
use Rattle.simple_types.specs.Space.{Space, Spaces, none, more, Booleans, Wholes, Numbers, Words, Characters, ListOf, UnionOf}
use Rattle.asn_names.specs.declared.conversion.NameKind.TheVariants.{Reference, Identifier}
use Rattle.asn_names.specs.declared.restoration.NameForm.{NameForm}
use Rattle.asn_names.specs.Conversion.{converted}
use Rattle.asn_names.specs.Restoring.{form_of}
use Rattle.asn_names.specs.Taking.{IsTaken}
use Rattle.asn_types.specs.declared.marks.Instruction.{Instruction}
use Rattle.asn_types.specs.declared.marks.Instruction.TheVariants as mark
use Rattle.asn_types.specs.declared.types.Component.{Component}
use Rattle.asn_types.specs.declared.types.Form.{Form}
use Rattle.asn_types.specs.declared.types.Form.TheVariants as form
use Rattle.asn_types.specs.declared.types.TypeLabel.{TypeLabel}
use Rattle.asn_types.specs.Simples.{white_space_marks}
use Rattle.map_subjects.specs.declared.subjects.Subject.{Subject}
use Rattle.map_assignments.specs.Plans.{Group, a_sequence, a_choice, Label, attribute, element, group, elements, groups, texts, order, item, base, content, TypePlan, simple, sequence, choice, repeated, order_items, reference, Parts, finish, part}

abbrev pub type_label : Form → List Instruction → TypeLabel
type_label f marks = record { form = f; marks = marks }

abbrev pub component_with : List ℕ → Bool → Standard → List Instruction → Component
component_with identifier optional standard marks = record { identifier = identifier; optional = optional; standard = standard; marks = marks }

-- A component without a default or fixed value.
abbrev pub component_of : List ℕ → Bool → List Instruction → Component
component_of identifier optional marks = component_with identifier optional Free marks

-- The XML name as an identifier and as a reference of ASN.1.
abbrev pub identifier_of : List ℕ → List ℕ
identifier_of text = converted Identifier (chars text)

abbrev pub reference_of : List ℕ → List ℕ
reference_of text = converted Reference (chars text)

-- ---- instructions that restore names

-- NAME is present if the generated name isn't the name.
abbrev pub name_if : Option NameForm → List ℕ → List Instruction
name_if None name = []
name_if (Some f) name = mark.Name name ∷ []

abbrev pub name_marks : List ℕ → List ℕ → List Instruction
name_marks generated name = name_if (form_of generated name) name

-- NAMESPACE is present if there is a namespace.
abbrev pub namespace_marks : List ℕ → List Instruction
namespace_marks [] = []
namespace_marks (b ∷ bs) = mark.Namespace (b ∷ bs) ∷ []

abbrev pub qualified_marks : List ℕ → Name → List Instruction
qualified_marks generated name = name_marks generated name.local ++ namespace_marks name.space

-- TEXT is present for each item whose identifier isn't its word; these are the items from number i on.
abbrev pub text_if : Option NameForm → ℕ → List ℕ → List Instruction
text_if None i word = []
text_if (Some f) i word = mark.Text i word ∷ []

abbrev pub text_marks : ℕ → List (List ℕ) → List (List ℕ) → List Instruction
text_marks i (g ∷ gs) (word ∷ words) = text_if (form_of g word) i word ++ text_marks (suc i) gs words
text_marks i _ _ = []

-- ---- identifiers, made one after another in the scope of a type

abbrev pub AreTaken : List (List ℕ) → List (List ℕ) → List (List ℕ) → Type 0
AreTaken before [] [] = Unit {0}
AreTaken before (name ∷ names) (g ∷ gs) = IsTaken Identifier before name g × AreTaken (before ++ g ∷ []) names gs
AreTaken before _ _ = ⊥

-- ---- simple types in place (clauses 11 to 13)

-- A type without parts.
abbrev pub IsLeaf : Form → List Instruction → Rose TypeLabel → Type 0
IsLeaf f marks t = t ≡ node (type_label f marks) rose.none

-- An item of a LIST, which has no name.
abbrev pub list_item : Component
list_item = component_of [] false []

-- The type is an ENUMERATED of the words, whose identifiers are made in the order of the words.
pub record IsWordsType (words : List (List ℕ)) (marks : List Instruction) (t : Rose TypeLabel) : Type 0 where
  pub identifiers : List (List ℕ)
  pub taken : AreTaken [] (map identifier_of words) identifiers
  pub type : IsLeaf (form.Words identifiers words) (marks ++ text_marks 0 identifiers words) t

-- The type is that of a simple type. A union has the alternatives `alt`, `alt-1` and so on, with the types of its members.
abbrev mutual
  pub IsSimpleType : Space → Rose TypeLabel → Type 0
  IsSimpleType Booleans t = IsLeaf form.Bool [] t
  IsSimpleType (Wholes least greatest) t = IsLeaf (form.Int least greatest) [] t
  IsSimpleType (Numbers numbers) t = IsLeaf (form.Numbers numbers) (mark.UseNumber ∷ []) t
  IsSimpleType (Words how words) t = IsWordsType words (white_space_marks how) t
  IsSimpleType (Characters how least most class) t = IsLeaf (form.Utf8 least most class) (white_space_marks how) t
  IsSimpleType (ListOf s least most) t =
      (u : Rose TypeLabel) × (t ≡ node (type_label (form.SequenceOf list_item least most) (mark.List ∷ [])) (rose.more u rose.none)) × IsSimpleType s u
  IsSimpleType (UnionOf members) t =
      (parts : List Component) × (ts : Roses TypeLabel)
      × (t ≡ node (type_label (form.Choice parts) (mark.UseUnion ∷ [])) ts) × AreMembers [] members parts ts

  -- The parts and types are those of the members, after alternatives with these identifiers.
  pub AreMembers : List (List ℕ) → Spaces → List Component → Roses TypeLabel → Type 0
  AreMembers before none parts ts = (parts ≡ []) × (ts ≡ rose.none)
  AreMembers before (more s ss) parts ts =
      (identifier : List ℕ) × (others : List Component) × (u : Rose TypeLabel) × (us : Roses TypeLabel)
      × IsTaken Identifier before (codes "alt") identifier
      × (parts ≡ component_of identifier false [] ∷ others) × (ts ≡ rose.more u us)
      × IsSimpleType s u × AreMembers (before ++ identifier ∷ []) ss others us

-- ---- parts

abbrev pub group_name : Group → List ℕ
group_name a_sequence = codes "sequence"
group_name a_choice = codes "choice"

-- The name from which the identifier is made.
abbrev pub wanted : Label → List ℕ
wanted (attribute name standard) = identifier_of name.local
wanted (element name) = identifier_of name.local
wanted (group g) = group_name g
wanted (elements name) = identifier_of name.local ++ codes "-list"
wanted (groups g) = group_name g ++ codes "-list"
wanted texts = codes "embed-values"
wanted order = codes "order"
wanted item = []
wanted base = codes "base"
wanted content = codes "content"

-- The instructions of a part with this identifier.
abbrev pub part_marks : Label → List ℕ → List Instruction
part_marks (attribute name standard) generated = mark.Attribute ∷ qualified_marks generated name
part_marks (element name) generated = qualified_marks generated name
part_marks (group g) generated = mark.Untagged ∷ []
part_marks (elements name) generated = mark.Untagged ∷ []
part_marks (groups g) generated = mark.Untagged ∷ []
part_marks base generated = mark.Untagged ∷ []
part_marks _ generated = []

-- Only an attribute has a default or fixed value.
abbrev pub part_standard : Label → Standard
part_standard (attribute name standard) = standard
part_standard _ = Free

abbrev pub named_part : Label → List ℕ → Bool → Component
named_part l identifier optional = component_with identifier optional (part_standard l) (part_marks l identifier)

-- The part of a SEQUENCE OF. Its name is in no scope.
abbrev pub repeated_part : Label → Component
repeated_part l = named_part l (wanted l) false

abbrev pub sequence_marks : Bool → Bool → Bool → List Instruction
sequence_marks nillable mixed ordered =
    (if nillable then mark.UseNil ∷ [] else []) ++ (if mixed then mark.EmbedValues ∷ [] else []) ++ (if ordered then mark.UseOrder ∷ [] else [])

-- The items of the order of child elements are the identifiers of their parts, in their order (X.693, USE-ORDER).
pub record IsItemsType (before ls : List Label) (t : Rose TypeLabel) : Type 0 where
  pub taken : List (List ℕ)
  pub identifiers : List (List ℕ)
  pub before_taken : AreTaken [] (map wanted before) taken
  pub then_taken : AreTaken taken (map wanted ls) identifiers
  pub type : IsLeaf (form.Order identifiers) [] t

-- ---- types with their names

module _ (place : Subject → ℕ) where
  abbrev mutual
    pub IsNamed : TypePlan → Rose TypeLabel → Type 0
    IsNamed (simple s) t = IsSimpleType s t
    IsNamed (sequence nillable mixed ordered ps) t =
        (parts : List Component) × (ts : Roses TypeLabel)
        × (t ≡ node (type_label (form.Sequence parts) (sequence_marks nillable mixed ordered)) ts) × AreNamed [] ps parts ts
    IsNamed (choice ps) t =
        (parts : List Component) × (ts : Roses TypeLabel) × (t ≡ node (type_label (form.Choice parts) []) ts) × AreNamed [] ps parts ts
    IsNamed (repeated l p least most) t =
        (u : Rose TypeLabel) × (t ≡ node (type_label (form.SequenceOf (repeated_part l) least most) []) (rose.more u rose.none)) × IsNamed p u
    IsNamed (order_items before ls) t = IsItemsType before ls t
    IsNamed (reference w) t = IsLeaf (form.Ref (place w)) [] t

    -- The components are these parts, after those with these identifiers.
    pub AreNamed : List (List ℕ) → Parts → List Component → Roses TypeLabel → Type 0
    AreNamed before finish parts ts = (parts ≡ []) × (ts ≡ rose.none)
    AreNamed before (part l optional p ps) parts ts =
        (identifier : List ℕ) × (others : List Component) × (u : Rose TypeLabel) × (us : Roses TypeLabel)
        × IsTaken Identifier before (wanted l) identifier
        × (parts ≡ named_part l identifier optional ∷ others) × (ts ≡ rose.more u us)
        × IsNamed p u × AreNamed (before ++ identifier ∷ []) ps others us
