-- The value that was read after others.
use Rattle.std.specs.Prelude.{List, [], ◌∷◌, false}
use Rattle.base_trees.specs.Rose.{Rose, node, none}
use Rattle.simple_types.specs.declared.labels.ValueLabel.{ValueLabel}
use Rattle.simple_types.specs.declared.labels.ValueLabel.TheVariants as value

-- The last of a value and these after it.
abbrev pub last_of : Rose ValueLabel → List (Rose ValueLabel) → Rose ValueLabel
last_of v [] = v
last_of v (w ∷ vs) = last_of w vs

-- The last of these values.
abbrev pub newest : List (Rose ValueLabel) → Rose ValueLabel
newest vs = last_of (node (value.Bool false) none) vs
