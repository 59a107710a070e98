-- The types of simple types (X.694, clauses 11 to 13). Identifiers, NAME and TEXT make no difference here.
use Rattle.std.specs.Prelude.{◌≡◌, ℕ, Bool, true, false, List, [], ◌∷◌, filter}
use Rattle.base_trees.specs.Rose.{Rose, node, Roses}
use Rattle.base_trees.specs.Rose as rose
use Rattle.base_texts.specs.declared.white_space.WhiteSpace.{WhiteSpace}
use Rattle.base_texts.specs.declared.white_space.WhiteSpace.TheVariants.{Preserve, Replace, Collapse}
use Rattle.simple_types.specs.Space.{Space, Spaces, none, more, Booleans, Wholes, Numbers, Words, Characters, ListOf, UnionOf}
use Rattle.simple_types.specs.Sound.{Sound}
use Rattle.asn_types.specs.declared.marks.Instruction.{Instruction}
use Rattle.asn_types.specs.declared.marks.Instruction.TheVariants as mark
use Rattle.asn_types.specs.declared.types.Component.{Component}
use Rattle.asn_types.specs.declared.types.Form.{Form}
use Rattle.asn_types.specs.declared.types.Form.TheVariants as form
use Rattle.asn_types.specs.declared.types.TypeLabel.{TypeLabel}

abbrev pub counts : Instruction → Bool
counts (mark.Name name) = false
counts (mark.Text item text) = false
counts _ = true

abbrev pub counting : List Instruction → List Instruction
counting marks = filter counts marks

-- WHITESPACE is present unless white space is preserved.
abbrev pub white_space_marks : WhiteSpace → List Instruction
white_space_marks Preserve = []
white_space_marks Replace = mark.WhiteSpace Replace ∷ []
white_space_marks Collapse = mark.WhiteSpace Collapse ∷ []

-- The type has this form and these marks.
abbrev pub IsType : TypeLabel → Form → List Instruction → Type 0
IsType l f marks = (l.form ≡ f) × (counting l.marks ≡ marks)

-- The component is an item or an alternative: never absent, and without marks.
abbrev pub IsPlain : Component → Type 0
IsPlain part = (part.optional ≡ false) × (counting part.marks ≡ [])

abbrev pub ArePlain : List Component → Type 0
ArePlain [] = Unit {0}
ArePlain (part ∷ parts) = IsPlain part × ArePlain parts

-- The simple type is mapped to the type.
abbrev mutual
  pub MapsTo : Space → Rose TypeLabel → Type 0
  MapsTo Booleans (node l ts) = IsType l form.Bool []
  MapsTo (Wholes least greatest) (node l ts) = IsType l (form.Int least greatest) []
  MapsTo (Numbers numbers) (node l ts) = IsType l (form.Numbers numbers) (mark.UseNumber ∷ [])
  MapsTo (Words how words) (node l ts) = (identifiers : List (List ℕ)) × IsType l (form.Words identifiers words) (white_space_marks how)
  MapsTo (Characters how least most class) (node l ts) = IsType l (form.Utf8 least most class) (white_space_marks how)
  MapsTo (ListOf item least most) (node l ts) =
      (part : Component) × IsType l (form.SequenceOf part least most) (mark.List ∷ []) × IsPlain part
      × elim ts [ rose.none ↦ ⊥ | rose.more t others ↦ MapsTo item t ]
  MapsTo (UnionOf members) (node l ts) =
      (parts : List Component) × IsType l (form.Choice parts) (mark.UseUnion ∷ []) × ArePlain parts × MapToEach members ts

  pub MapToEach : Spaces → Roses TypeLabel → Type 0
  MapToEach none rose.none = Unit {0}
  MapToEach (more s ss) (rose.more t ts) = MapsTo s t × MapToEach ss ts
  MapToEach _ _ = ⊥

-- Some simple type is mapped to the type.
abbrev pub IsSimple : Rose TypeLabel → Type 0
IsSimple t = (s : Space) × Sound s × MapsTo s t
