-- Whether an encoding instruction may appear at its place. Each appears once, except TEXT, and each requires a form of its type.
use Rattle.std.specs.Prelude.{ℕ, suc, ◌+◌, ◌==◌, Bool, true, false, ◌&&◌, ◌||◌, not, Option, Some, None, List, [], ◌∷◌, position, drop, is_some, bytes_eq, if◌then◌else◌}
use Rattle.std.specs.Option.{option_map}
use Rattle.base_trees.specs.Rose.{node, Roses}
use Rattle.base_texts.specs.WhiteSpace.{has_bytes}
use Rattle.module_text.specs.declared.marks.NameAs.{NameAs}
use Rattle.module_text.specs.declared.marks.PartMarkKind.{PartMarkKind}
use Rattle.module_text.specs.declared.marks.PartMarkKind.TheVariants as part_mark
use Rattle.module_text.specs.declared.marks.PartMark.{PartMark}
use Rattle.module_text.specs.declared.marks.TypeMarkKind.{TypeMarkKind}
use Rattle.module_text.specs.declared.marks.TypeMarkKind.TheVariants as type_mark
use Rattle.module_text.specs.declared.types.PlainName.{PlainName}
use Rattle.module_text.specs.declared.types.PlainForm.{PlainForm}
use Rattle.module_text.specs.declared.types.PlainForm.TheVariants as form
use Rattle.module_text.specs.declared.types.PlainLabel.{PlainLabel}
use Rattle.module_text.specs.declared.modules.PlainAssignment.{PlainAssignment}
use Rattle.module_text.specs.Ranks.{rank_of_part_mark}
use Rattle.module_text.specs.declared.spots.Spot.{Spot}
use Rattle.module_text.specs.Told.{is_told_so, is_xml_text}
use Rattle.module_text.specs.Simple.{is_simple, is_order_item}
use Rattle.module_text.specs.Orders.{has_texts, has_content, has_order_part, is_sequence_of, is_choice}

-- ---- of a part or an assignment with this name, whose type represents a simple type or not

abbrev pub may_name : List ℕ → NameAs → Bool
may_name generated name = has_bytes generated && is_told_so generated name

abbrev pub part_mark_may : Bool → List ℕ → PartMarkKind → Bool
part_mark_may simple generated part_mark.Attribute = simple
part_mark_may simple generated part_mark.Untagged = true
part_mark_may simple generated (part_mark.Name name) = may_name generated name
part_mark_may simple generated (part_mark.Namespace space) = is_xml_text space

abbrev pub is_rank : Option ℕ → ℕ → Bool
is_rank None rank = false
is_rank (Some other) rank = other == rank

-- Instructions appear in their order. So an instruction that appears twice follows one of its rank.
abbrev pub part_mark_stands : Bool → List ℕ → Option ℕ → PartMark → Bool
part_mark_stands simple generated before m = not (is_rank before (rank_of_part_mark m.kind)) && part_mark_may simple generated m.kind

-- ---- of a type

-- The number of the first item with this identifier, from a least number on, if items represent words.
abbrev pub item_number : Spot → PlainForm → ℕ → List ℕ → Option ℕ
item_number spot (form.Words identifiers) least identifier =
    if is_order_item spot then None
    else option_map (λ i. least + i) (position (λ (i : PlainName). bytes_eq i.name identifier) (drop least identifiers))
item_number spot _ least identifier = None

module _ (P : List PlainAssignment) (spot : Spot) where
  abbrev pub type_mark_may : PlainLabel → Roses PlainLabel → ℕ → TypeMarkKind → Bool
  type_mark_may l ts least type_mark.UseNil = has_content l.form
  type_mark_may l ts least type_mark.EmbedValues = has_texts l.form ts
  type_mark_may l ts least type_mark.UseOrder = has_order_part P l ts
  type_mark_may l ts least type_mark.List = is_sequence_of l.form && is_simple spot (node l ts)
  type_mark_may l ts least type_mark.UseUnion = is_choice l.form && is_simple spot (node l ts)
  type_mark_may l ts least type_mark.UseNumber = true
  type_mark_may l ts least type_mark.Replace = true
  type_mark_may l ts least type_mark.Collapse = true
  type_mark_may l ts least (type_mark.Text identifier text) =
      is_some (item_number spot l.form least identifier) && is_told_so identifier text

abbrev pub is_text_rank : ℕ → Bool
is_text_rank rank = rank == 11

abbrev pub stands_once : Option ℕ → ℕ → Bool
stands_once before rank = is_text_rank rank || not (is_rank before rank)

-- The least number that the item of a TEXT after this one may have.
abbrev pub next_item : Spot → PlainForm → ℕ → TypeMarkKind → ℕ
next_item spot f least (type_mark.Text identifier text) = elim (item_number spot f least identifier) [ None ↦ least | Some i ↦ suc i ]
next_item spot f least _ = least
