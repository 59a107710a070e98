use Rattle.std.proofs.Common.{◌≡◌, ℕ, List, ◌++◌, string_bytes}
use Rattle.base_trees.specs.Rose.{Rose, label_of, node_count}
use Rattle.xml_items.specs.declared.label.ItemLabel.{ItemLabel}
use Rattle.people_complaints.specs.Paths.{PathTo, root_step}
use Rattle.people_complaints.proofs.text_paths.path_of.Given as goal

-- these are the steps to the element, and each way on from it is one from the root
abbrev pub invariant-levels : goal.invariant-levels
invariant-levels l =
    (steps : List ℕ) × (string_bytes l.path ≡ root_step (label_of l.fn.root) ++ steps)
    × ((elements : List (Rose ItemLabel)) (later : List ℕ) → PathTo l.at l.node elements later
    → (all : List (Rose ItemLabel)) × PathTo l.at l.fn.root all (steps ++ later))

abbrev pub decreases-levels : goal.decreases-levels
decreases-levels l = node_count l.node
