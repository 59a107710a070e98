-- The simple type of a type, given by its form and its WHITESPACE (X.694, clauses 11 to 13).
use Rattle.std.specs.Prelude.{ℕ, List}
use Rattle.base_trees.specs.Rose.{Rose, node, Roses}
use Rattle.base_trees.specs.Rose as rose
use Rattle.simple_types.specs.Space.{Space, Spaces, none, more, Booleans, Wholes, Numbers, Words, Characters, ListOf, UnionOf}
use Rattle.simple_types.specs.declared.labels.ValueLabel.{ValueLabel}
use Rattle.simple_types.specs.Reading.{spelled}
use Rattle.asn_types.specs.declared.modules.Assignment.{Assignment}
use Rattle.asn_types.specs.declared.types.Form.TheVariants as form
use Rattle.asn_types.specs.declared.types.TypeLabel.{TypeLabel}
use Rattle.asn_types.specs.Marks.{white_space_of}
use Rattle.asn_types.specs.Refs.{resolve}

-- For a type that is not that of a simple type the result has no meaning.
abbrev mutual
  pub space_at : Rose TypeLabel → Space
  space_at (node l ts) = elim l.form [
    | form.Bool ↦ Booleans
    | form.Int least greatest ↦ Wholes least greatest
    | form.Numbers numbers ↦ Numbers numbers
    | form.Words identifiers words ↦ Words (white_space_of l.marks) words
    | form.Order identifiers ↦ Booleans
    | form.Utf8 least most class ↦ Characters (white_space_of l.marks) least most class
    | form.SequenceOf part least most ↦ ListOf (first_space ts) least most
    | form.Choice parts ↦ UnionOf (spaces_at ts)
    | form.Sequence parts ↦ Booleans
    | form.Ref to ↦ Booleans
  ]

  pub spaces_at : Roses TypeLabel → Spaces
  spaces_at rose.none = none
  spaces_at (rose.more t ts) = more (space_at t) (spaces_at ts)

  pub first_space : Roses TypeLabel → Space
  first_space rose.none = Booleans
  first_space (rose.more t ts) = space_at t

-- The canonical spelling of a value, whose type is found through references.
abbrev pub spelling : List Assignment → Rose TypeLabel → Rose ValueLabel → List ℕ
spelling M t v = spelled (space_at (resolve M t)) v
