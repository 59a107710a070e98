-- The chain of a union: the text, then the spelling of the value read at each place of the chain, until the member stays the
-- same.
use Rattle.std.specs.Prelude.{◌≡◌, ◌≢◌, ℕ, Ok, Err, List}
use Rattle.base_trees.specs.Rose.{Rose, node, none as no_kids, more as with_kid}
use Rattle.simple_types.specs.declared.labels.ValueLabel.{ValueLabel}
use Rattle.simple_types.specs.declared.labels.ValueLabel.TheVariants as label
use Rattle.simple_types.specs.Reading.{Refusal, Reading, Taking}

-- The value of a union, for a member's number and value.
abbrev pub choice_of : ℕ × Rose ValueLabel → Rose ValueLabel
choice_of taken = node (label.Choice taken.0) (with_kid taken.1 no_kids)

-- From the value read at a place, the chain ends with a value or a refusal. A chain without end would end with neither.
pub data Ends (take : List ℕ → Taking) (spell : ℕ → Rose ValueLabel → List ℕ) : ℕ × Rose ValueLabel → Reading → Type 0 where
  stays : (taken next : ℕ × Rose ValueLabel) → take (spell taken.0 taken.1) ≡ Ok next → next.0 ≡ taken.0 → Ends take spell taken (Ok (choice_of taken))
  refused : (taken : ℕ × Rose ValueLabel) (why : Refusal) → take (spell taken.0 taken.1) ≡ Err why → Ends take spell taken (Err why)
  further : (taken next : ℕ × Rose ValueLabel) (reading : Reading) → take (spell taken.0 taken.1) ≡ Ok next → next.0 ≢ taken.0 → Ends take spell next reading → Ends take spell taken reading

abbrev pub EndsFrom : (List ℕ → Taking) → (ℕ → Rose ValueLabel → List ℕ) → Taking → Reading → Type 0
EndsFrom take spell (Ok taken) reading = Ends take spell taken reading
EndsFrom take spell (Err why) reading = reading ≡ Err why

abbrev pub ChainEnds : (List ℕ → Taking) → (ℕ → Rose ValueLabel → List ℕ) → List ℕ → Reading → Type 0
ChainEnds take spell text reading = EndsFrom take spell (take text) reading
