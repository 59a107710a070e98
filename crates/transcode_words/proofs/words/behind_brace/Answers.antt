use Rattle.std.proofs.Common.{arith}
use Rattle.std.proofs.lemmas.Str.Pattern.{strip_prefix_char}
use Rattle.transcode_words.proofs.words.behind_brace.Goals as goal

pub returns : goal.returns
returns c = strip_prefix_char 123 c.args.word.now c.strip_prefix.result c.strip_prefix.ensures.cases (omega arith)
