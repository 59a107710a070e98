use Rattle.std.proofs.Common.{◌≡◌, take}
use Rattle.std.specs.Prelude.{filter}
use Rattle.simple_facets.specs.Restricting.{keeps_word}
use Rattle.simple_facets.proofs.narrowing.kept_words.Given as goal

abbrev pub invariant-words : goal.invariant-words
invariant-words l = l.kept.items ≡ filter (keeps_word l.asked l.space) (take l.word-index l.words)
