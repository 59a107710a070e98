use Rattle.std.proofs.Common.{◌≡◌, ◌+◌, ℕ, List, length, map, drop}
use Rattle.map_assignments.specs.Naming.{identifier_of}
use Rattle.map_assignments.specs.Private.Building.{LeadsToNames}
use Rattle.map_assignments.proofs.words.take_words.Given as goal

-- the identifiers so far, with those of the words that are left
abbrev pub invariant-words : goal.invariant-words
invariant-words l =
    (length l.made.items ≡ length l.initial.made.items + l.word-index)
    × ((first names : List (List ℕ)) → LeadsToNames first l.initial.scope l.initial.made.items (map identifier_of l.words) names
    → LeadsToNames first l.scope l.made.items (map identifier_of (drop l.word-index l.words)) names)
