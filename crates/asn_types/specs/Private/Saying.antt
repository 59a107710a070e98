-- The summary that the code keeps of encoding instructions, so that each query takes constant time.
use Rattle.std.specs.Prelude.{◌≡◌, ℕ, zero, suc, ◌+◌, Bool, true, false, ◌||◌, Option, Some, List, [], ◌∷◌, if◌then◌else◌}
use Rattle.base_texts.specs.declared.white_space.WhiteSpace.{WhiteSpace}
use Rattle.base_texts.specs.declared.white_space.WhiteSpace.TheVariants.{Preserve}
use Rattle.asn_types.specs.declared.marks.Instruction.{Instruction}
use Rattle.asn_types.specs.declared.marks.Instruction.TheVariants as mark
use Rattle.asn_types.specs.declared.said.Said.{Said}
use Rattle.asn_types.specs.Marks.{is_attribute, is_untagged, is_use_nil, is_embed_values, is_use_order, is_list, is_use_union, has_attribute, has_untagged, has_use_nil, has_embed_values, has_use_order, has_list, has_use_union, white_space_of}

-- The number of instructions that precede the first NAME; all, if there is none.
abbrev pub name_place : List Instruction → ℕ
name_place [] = zero
name_place (mark.Name name ∷ marks) = zero
name_place (_ ∷ marks) = suc (name_place marks)

-- The number of instructions that precede the first NAMESPACE; all, if there is none.
abbrev pub namespace_place : List Instruction → ℕ
namespace_place [] = zero
namespace_place (mark.Namespace space ∷ marks) = zero
namespace_place (_ ∷ marks) = suc (namespace_place marks)

-- The summary is that of the instructions, the first of which has this place.
pub record IsSaid (marks : List Instruction) (at : ℕ) (said : Said) : Type 0 where
  pub attribute : said.attribute ≡ has_attribute marks
  pub untagged : said.untagged ≡ has_untagged marks
  pub use_nil : said.use_nil ≡ has_use_nil marks
  pub embed_values : said.embed_values ≡ has_embed_values marks
  pub use_order : said.use_order ≡ has_use_order marks
  pub list : said.list ≡ has_list marks
  pub use_union : said.use_union ≡ has_use_union marks
  pub white_space : said.white_space ≡ white_space_of marks
  pub name_at : said.name_at ≡ at + name_place marks
  pub namespace_at : said.namespace_at ≡ at + namespace_place marks

abbrev pub nothing : ℕ → Said
nothing at = record {
  attribute = false;
  untagged = false;
  use_nil = false;
  embed_values = false;
  use_order = false;
  list = false;
  use_union = false;
  white_space = Preserve;
  name_at = at;
  namespace_at = at;
}

abbrev pub is_name : Instruction → Bool
is_name (mark.Name name) = true
is_name _ = false

abbrev pub is_namespace : Instruction → Bool
is_namespace (mark.Namespace space) = true
is_namespace _ = false

abbrev pub white_space_with : Instruction → WhiteSpace → WhiteSpace
white_space_with (mark.WhiteSpace how) behind = how
white_space_with _ behind = behind

-- The summary with one more instruction at this place, which precedes those summarised.
abbrev pub with_mark : Said → ℕ → Instruction → Said
with_mark behind at m = record {
  attribute = is_attribute m || behind.attribute;
  untagged = is_untagged m || behind.untagged;
  use_nil = is_use_nil m || behind.use_nil;
  embed_values = is_embed_values m || behind.embed_values;
  use_order = is_use_order m || behind.use_order;
  list = is_list m || behind.list;
  use_union = is_use_union m || behind.use_union;
  white_space = white_space_with m behind.white_space;
  name_at = if is_name m then at else behind.name_at;
  namespace_at = if is_namespace m then at else behind.namespace_at;
}

-- The local name, if the instruction at the place of the first NAME is this one, or there is none.
abbrev pub name_in : List ℕ → Option Instruction → List ℕ
name_in generated (Some (mark.Name name)) = name
name_in generated _ = generated

-- The namespace, if the instruction at the place of the first NAMESPACE is this one; empty if there is none.
abbrev pub space_in : Option Instruction → List ℕ
space_in (Some (mark.Namespace space)) = space
space_in _ = []
