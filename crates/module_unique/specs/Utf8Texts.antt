-- Modules whose texts are UTF-8: names, namespaces and words in encoding instructions, words, default and fixed values. The
-- references and identifiers of a printable module are ASCII.
use Rattle.std.specs.Prelude.{List, All, IsUtf8}
use Rattle.base_trees.specs.Rose.{Rose, node, Roses, none, more}
use Rattle.simple_types.specs.declared.standards.Standard.{Standard}
use Rattle.simple_types.specs.declared.standards.Standard.TheVariants.{Free, Default, Fixed}
use Rattle.asn_types.specs.declared.marks.Instruction.{Instruction}
use Rattle.asn_types.specs.declared.marks.Instruction.TheVariants as mark
use Rattle.asn_types.specs.declared.types.Component.{Component}
use Rattle.asn_types.specs.declared.types.Form.{Form}
use Rattle.asn_types.specs.declared.types.Form.TheVariants as form
use Rattle.asn_types.specs.declared.types.TypeLabel.{TypeLabel}
use Rattle.asn_types.specs.declared.modules.Assignment.{Assignment}
use Rattle.asn_types.specs.Parts.{parts_of}

abbrev pub MarkIsUtf8 : Instruction → Type 0
MarkIsUtf8 (mark.Name name) = IsUtf8 name
MarkIsUtf8 (mark.Namespace space) = IsUtf8 space
MarkIsUtf8 (mark.Text item text) = IsUtf8 text
MarkIsUtf8 m = Unit {0}

abbrev pub WordsAreUtf8 : Form → Type 0
WordsAreUtf8 (form.Words identifiers words) = All IsUtf8 words
WordsAreUtf8 f = Unit {0}

abbrev pub StandardIsUtf8 : Standard → Type 0
StandardIsUtf8 Free = Unit {0}
StandardIsUtf8 (Default text) = IsUtf8 text
StandardIsUtf8 (Fixed text) = IsUtf8 text

pub record PartIsUtf8 (part : Component) : Type 0 where
  pub marks : All MarkIsUtf8 part.marks
  pub standard : StandardIsUtf8 part.standard

pub record LabelIsUtf8 (l : TypeLabel) : Type 0 where
  pub marks : All MarkIsUtf8 l.marks
  pub words : WordsAreUtf8 l.form
  pub parts : All PartIsUtf8 (parts_of l.form)

abbrev mutual
  pub TypeIsUtf8 : Rose TypeLabel → Type 0
  TypeIsUtf8 (node l ts) = LabelIsUtf8 l × TypesAreUtf8 ts

  pub TypesAreUtf8 : Roses TypeLabel → Type 0
  TypesAreUtf8 none = Unit {0}
  TypesAreUtf8 (more t ts) = TypeIsUtf8 t × TypesAreUtf8 ts

-- Each module of the program has such texts, because its names, words and values are of the type `Text`.
pub record HasTexts (M : List Assignment) : Type 0 where
  pub marks : All (λ (a : Assignment). All MarkIsUtf8 a.marks) M
  pub bodies : All (λ (a : Assignment). TypeIsUtf8 a.body) M
