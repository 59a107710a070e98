-- The order of encoding instructions: those of a part or an assignment precede those of its type.
use Rattle.std.specs.Prelude.{ℕ, Bool, true, ◌&&◌, nat_le, List, [], ◌∷◌}
use Rattle.module_text.specs.declared.marks.PartMarkKind.{PartMarkKind}
use Rattle.module_text.specs.declared.marks.PartMarkKind.TheVariants as part_mark
use Rattle.module_text.specs.declared.marks.PartMark.{PartMark}
use Rattle.module_text.specs.declared.marks.TypeMarkKind.{TypeMarkKind}
use Rattle.module_text.specs.declared.marks.TypeMarkKind.TheVariants as type_mark
use Rattle.module_text.specs.declared.marks.TypeMark.{TypeMark}

abbrev pub rank_of_part_mark : PartMarkKind → ℕ
rank_of_part_mark part_mark.Attribute = 0
rank_of_part_mark part_mark.Untagged = 1
rank_of_part_mark (part_mark.Name name) = 2
rank_of_part_mark (part_mark.Namespace space) = 3

abbrev pub rank_of_type_mark : TypeMarkKind → ℕ
rank_of_type_mark type_mark.UseNil = 4
rank_of_type_mark type_mark.EmbedValues = 5
rank_of_type_mark type_mark.UseOrder = 6
rank_of_type_mark type_mark.List = 7
rank_of_type_mark type_mark.UseUnion = 8
rank_of_type_mark type_mark.UseNumber = 9
rank_of_type_mark type_mark.Replace = 10
rank_of_type_mark type_mark.Collapse = 10
rank_of_type_mark (type_mark.Text identifier text) = 11

-- The ranks never decrease, and none is less than `least`.
abbrev pub part_marks_from : ℕ → List PartMark → Bool
part_marks_from least [] = true
part_marks_from least (m ∷ ms) = nat_le least (rank_of_part_mark m.kind) && part_marks_from (rank_of_part_mark m.kind) ms

abbrev pub type_marks_from : ℕ → List TypeMark → Bool
type_marks_from least [] = true
type_marks_from least (m ∷ ms) = nat_le least (rank_of_type_mark m.kind) && type_marks_from (rank_of_type_mark m.kind) ms
