-- Where in the text of a value the first node begins that has this number of others around it, and what shows it.
use Rattle.std.specs.Prelude.{ℕ, zero, suc, Option, Some, None, List, [], ◌∷◌, ◌++◌, length, codes}
use Rattle.std.specs.Option.{option_map}
use Rattle.base_trees.specs.Rose.{Rose, node, Roses, none, more, list_of}
use Rattle.module_grammar.specs.Shapes.{Sunk, moved, deeper, each_deep, behind_word, shifted}
use Rattle.module_text.specs.declared.values.PlainValue.{PlainValue}
use Rattle.module_text.specs.declared.values.PlainValue.TheVariants as value
use Rattle.module_text.specs.declared.values.PlainValueLabel.{PlainValueLabel}
use Rattle.module_text.specs.declared.values.Absence.{Absence}
use Rattle.module_text.specs.declared.values.Absence.TheVariants as absence
use Rattle.module_text.specs.Texts.{value_text}

-- A node at the beginning of a text, which the first n bytes show.
abbrev pub first_node : ℕ → Sunk
first_node n = record { at = 0; told = n }

-- The node in a list of items with a word between each two.
abbrev pub listed_deep : {A : Type 0} → List ℕ → (A → List ℕ) → (A → Option Sunk) → List A → Option Sunk
listed_deep between write deep [] = None
listed_deep between write deep (a ∷ xs) = deeper (length (write a)) (deep a) (each_deep (behind_word between write) (shifted between deep) xs)

abbrev pub first_deep : (Rose PlainValueLabel → Option Sunk) → Roses PlainValueLabel → Option Sunk
first_deep deep none = None
first_deep deep (more v vs) = deep v

abbrev pub inside_deep : (Rose PlainValueLabel → Option Sunk) → PlainValue → Roses PlainValueLabel → Option Sunk
inside_deep deep value.List vs = option_map (moved 2) (listed_deep (codes ", ") value_text deep (list_of vs))
inside_deep deep (value.Chosen identifier) vs = option_map (moved (length (identifier ++ codes " : "))) (first_deep deep vs)
inside_deep deep _ vs = None

abbrev pub value_deep : ℕ → Rose PlainValueLabel → Option Sunk
value_deep zero v = Some (first_node 1)
value_deep (suc depth) (node l vs) = inside_deep (value_deep depth) l.value vs

-- ---- what follows a part that may be absent

abbrev pub absence_deep : ℕ → Absence → Option Sunk
absence_deep most (absence.Default v) = option_map (moved 9) (value_deep most v)
absence_deep most _ = None
