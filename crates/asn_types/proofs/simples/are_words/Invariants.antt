use Rattle.std.proofs.Common.{◌↔◌, drop}
use Rattle.simple_types.specs.Sound.{AreWords}
use Rattle.asn_types.proofs.simples.are_words.Given as goal

abbrev pub invariant-words : goal.invariant-words
invariant-words l = AreWords l.how l.words ↔ AreWords l.how (drop l.word-index l.words)
