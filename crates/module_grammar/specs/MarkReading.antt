-- Reading encoding instructions at the beginning of bytes: any number of one rank, and then those of the next.
use mathlib.Core.Logic.{inl, inr}
use Rattle.std.specs.Prelude.{ℕ, ◌⊎◌, List, [], ◌++◌, codes}
use Rattle.module_grammar.specs.Reading.{Reader, word_at, nothing_at, then_at, or_at, many_at, as_at, behind_at, before_at}
use Rattle.module_text.specs.declared.marks.NameAs.{NameAs}
use Rattle.module_text.specs.declared.marks.NameAs.TheVariants as as_
use Rattle.module_text.specs.declared.marks.PartMarkKind.{PartMarkKind}
use Rattle.module_text.specs.declared.marks.PartMarkKind.TheVariants as part_mark
use Rattle.module_text.specs.declared.marks.PartMark.{PartMark}
use Rattle.module_text.specs.declared.marks.TypeMarkKind.{TypeMarkKind}
use Rattle.module_text.specs.declared.marks.TypeMarkKind.TheVariants as type_mark
use Rattle.module_text.specs.declared.marks.TypeMark.{TypeMark}
use Rattle.module_grammar.specs.NameReading.{identifier_at, quoted_at}

abbrev pub name_as_of : ℕ → Unit {0} ⊎ (Unit {0} ⊎ List ℕ) → NameAs
name_as_of place (inl x) = as_.Capitalized
name_as_of place (inr (inl x)) = as_.Uncapitalized
name_as_of place (inr (inr name)) = as_.Quoted name

abbrev pub name_as_at : Reader NameAs
name_as_at = as_at name_as_of (or_at (word_at (codes " AS CAPITALIZED")) (or_at (word_at (codes " AS UNCAPITALIZED")) (behind_at (codes " AS ") quoted_at)))

-- ---- of one rank, up to the closing bracket

abbrev pub is_kind : {K : Type 0} → K → ℕ → Unit {0} → K
is_kind kind place x = kind

abbrev pub word_kind_at : {K : Type 0} → K → List ℕ → Reader K
word_kind_at kind word = as_at (is_kind kind) (word_at word)

abbrev pub name_kind : ℕ → NameAs → PartMarkKind
name_kind place name = part_mark.Name name

abbrev pub namespace_kind : ℕ → List ℕ → PartMarkKind
namespace_kind place space = part_mark.Namespace space

abbrev pub attribute_at : Reader PartMarkKind
attribute_at = word_kind_at part_mark.Attribute (codes "[ATTRIBUTE]")

abbrev pub untagged_at : Reader PartMarkKind
untagged_at = word_kind_at part_mark.Untagged (codes "[UNTAGGED]")

abbrev pub name_mark_at : Reader PartMarkKind
name_mark_at = as_at name_kind (behind_at (codes "[NAME") (before_at name_as_at (codes "]")))

abbrev pub namespace_at : Reader PartMarkKind
namespace_at = as_at namespace_kind (behind_at (codes "[NAMESPACE AS ") (before_at quoted_at (codes "]")))

abbrev pub either_kind : ℕ → TypeMarkKind ⊎ TypeMarkKind → TypeMarkKind
either_kind place (inl kind) = kind
either_kind place (inr kind) = kind

abbrev pub text_kind : ℕ → List ℕ × NameAs → TypeMarkKind
text_kind place x = type_mark.Text x.0 x.1

abbrev pub white_space_at : Reader TypeMarkKind
white_space_at = as_at either_kind (or_at (word_kind_at type_mark.Replace (codes "[WHITESPACE REPLACE]")) (word_kind_at type_mark.Collapse (codes "[WHITESPACE COLLAPSE]")))

abbrev pub text_mark_at : Reader TypeMarkKind
text_mark_at = as_at text_kind (behind_at (codes "[TEXT:") (before_at (then_at identifier_at (λ identifier. name_as_at)) (codes "]")))

-- ---- one mark, and many

abbrev pub part_mark_here : ℕ → PartMarkKind → PartMark
part_mark_here place kind = record { at = place; kind = kind }

abbrev pub one_part_mark_at : Reader PartMarkKind → Reader PartMark
one_part_mark_at read = as_at part_mark_here (before_at read (codes " "))

abbrev pub type_mark_here : ℕ → TypeMarkKind → TypeMark
type_mark_here place kind = record { at = place; kind = kind }

abbrev pub one_type_mark_at : Reader TypeMarkKind → Reader TypeMark
one_type_mark_at read = as_at type_mark_here (before_at read (codes " "))

abbrev pub joined : {M : Type 0} → ℕ → List M × List M → List M
joined place x = x.0 ++ x.1

-- Any number of one rank, and then those of higher ranks.
abbrev pub ranked_at : {M : Type 0} → Reader M → Reader (List M) → Reader (List M)
ranked_at read others = as_at joined (then_at (many_at read) (λ ms. others))

abbrev pub no_marks : {M : Type 0} → ℕ → Unit {0} → List M
no_marks place x = []

abbrev pub no_marks_at : {M : Type 0} → Reader (List M)
no_marks_at = as_at no_marks nothing_at

abbrev pub part_marks_at : Reader (List PartMark)
part_marks_at = ranked_at (one_part_mark_at attribute_at) (ranked_at (one_part_mark_at untagged_at) (ranked_at (one_part_mark_at name_mark_at) (ranked_at (one_part_mark_at namespace_at) no_marks_at)))

abbrev pub use_nil_at : Reader TypeMarkKind
use_nil_at = word_kind_at type_mark.UseNil (codes "[USE-NIL]")

abbrev pub embed_values_at : Reader TypeMarkKind
embed_values_at = word_kind_at type_mark.EmbedValues (codes "[EMBED-VALUES]")

abbrev pub use_order_at : Reader TypeMarkKind
use_order_at = word_kind_at type_mark.UseOrder (codes "[USE-ORDER]")

abbrev pub list_at : Reader TypeMarkKind
list_at = word_kind_at type_mark.List (codes "[LIST]")

abbrev pub use_union_at : Reader TypeMarkKind
use_union_at = word_kind_at type_mark.UseUnion (codes "[USE-UNION]")

abbrev pub use_number_at : Reader TypeMarkKind
use_number_at = word_kind_at type_mark.UseNumber (codes "[USE-NUMBER]")

abbrev pub texts_at : Reader (List TypeMark)
texts_at = ranked_at (one_type_mark_at text_mark_at) no_marks_at

abbrev pub white_spaces_at : Reader (List TypeMark)
white_spaces_at = ranked_at (one_type_mark_at white_space_at) texts_at

abbrev pub use_numbers_at : Reader (List TypeMark)
use_numbers_at = ranked_at (one_type_mark_at use_number_at) white_spaces_at

abbrev pub use_unions_at : Reader (List TypeMark)
use_unions_at = ranked_at (one_type_mark_at use_union_at) use_numbers_at

abbrev pub lists_at : Reader (List TypeMark)
lists_at = ranked_at (one_type_mark_at list_at) use_unions_at

abbrev pub use_orders_at : Reader (List TypeMark)
use_orders_at = ranked_at (one_type_mark_at use_order_at) lists_at

abbrev pub embed_values_marks_at : Reader (List TypeMark)
embed_values_marks_at = ranked_at (one_type_mark_at embed_values_at) use_orders_at

abbrev pub type_marks_at : Reader (List TypeMark)
type_marks_at = ranked_at (one_type_mark_at use_nil_at) embed_values_marks_at

abbrev pub or_kind_at : Reader TypeMarkKind → Reader TypeMarkKind → Reader TypeMarkKind
or_kind_at first second = as_at either_kind (or_at first second)

-- The first instruction of a type, of any rank.
abbrev pub own_mark_at : Reader TypeMarkKind
own_mark_at =
    or_kind_at use_nil_at
    (or_kind_at embed_values_at
    (or_kind_at use_order_at (or_kind_at list_at (or_kind_at use_union_at (or_kind_at use_number_at (or_kind_at white_space_at text_mark_at))))))
