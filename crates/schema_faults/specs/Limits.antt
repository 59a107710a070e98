-- The limits on schema documents.
use Rattle.std.specs.Prelude.{◌+◌, ℕ, Bool, false, ◌||◌, nat_le, nat_lt, List, codes, Some, None, if◌then◌else◌}
use Rattle.base_trees.specs.Rose.{Rose}
use Rattle.xml_items.specs.declared.label.ItemLabel.{ItemLabel}
use Rattle.base_texts.specs.Entries.{beside}
use Rattle.schema_syntax.specs.Digits.{is_large}
use Rattle.schema_syntax.specs.Children.{child_count}
use Rattle.schema_syntax.specs.declared.children.ChildSet.TheVariants.{TakenParticles, Attributes, Enumerations}
use Rattle.schema_syntax.specs.declared.roles.ElementRole.{ElementRole}
use Rattle.schema_syntax.specs.declared.roles.ElementRole.TheVariants.{Restriction, GlobalComplexType, InnerComplexType, Extension, Sequence, Choice, All}

-- The number of occurrences is 2^32 or more.
abbrev pub has_large : List ℕ → List (List ℕ × List ℕ) → Bool
has_large name own = elim (beside name own) [ None ↦ false | Some value ↦ is_large value ]

-- Too large are: a group inside 16 groups of the same content model, or of more than 500 supported particles; a type or an
-- extension of more than 400 attributes; a restriction of more than 10,000 enumerations.
abbrev pub is_too_large : ElementRole → ℕ → List (Rose ItemLabel) → Bool
is_too_large Sequence level kids = nat_le 16 level || nat_lt 500 (child_count TakenParticles kids)
is_too_large Choice level kids = nat_le 16 level || nat_lt 500 (child_count TakenParticles kids)
is_too_large All level kids = nat_le 16 level || nat_lt 500 (child_count TakenParticles kids)
is_too_large GlobalComplexType level kids = nat_lt 400 (child_count Attributes kids)
is_too_large InnerComplexType level kids = nat_lt 400 (child_count Attributes kids)
is_too_large Extension level kids = nat_lt 400 (child_count Attributes kids)
is_too_large Restriction level kids = nat_lt 10000 (child_count Enumerations kids)
is_too_large role level kids = false

abbrev pub is_over_limit : ElementRole → ℕ → List (List ℕ × List ℕ) → List (Rose ItemLabel) → Bool
is_over_limit role level own kids = has_large (codes "minOccurs") own || has_large (codes "maxOccurs") own || is_too_large role level kids

-- The number of groups of the same content model around the children, where 17 means 17 or more. A complex type begins again at
-- 0.
abbrev pub level_inside : ElementRole → ℕ → ℕ
level_inside Sequence level = if nat_lt level 17 then level + 1 else 17
level_inside Choice level = if nat_lt level 17 then level + 1 else 17
level_inside All level = if nat_lt level 17 then level + 1 else 17
level_inside GlobalComplexType level = 0
level_inside InnerComplexType level = 0
level_inside role level = level
