use Rattle.std.proofs.Common.{◌≡◌, drop}
use Rattle.std.specs.Option.{option_map}
use Rattle.module_text.specs.Simple.{texts_ascend, texts_behind}
use Rattle.module_simple.proofs.simple.texts_ascend.Given as goal

abbrev pub invariant-words : goal.invariant-words
invariant-words l = texts_behind (option_map (λ w. w.now) l.last) (drop l.word-index l.words) ≡ texts_ascend l.words
