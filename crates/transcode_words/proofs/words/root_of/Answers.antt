use Rattle.std.proofs.Common.{◌∙◌, sym}
use Rattle.transcode_words.proofs.WordLemmas.{plain_root}
use Rattle.transcode_words.proofs.words.root_of.Goals as goal

pub returns-in-None : goal.returns-in-None
returns-in-None c =
    plain_root c.args.word.now c.as_str-name.result.now (λ rest e. c.in-None.ensures rest (c.as_str-name.ensures ∙ e)) c.as_str-name.ensures (sym c.is_ncname.ensures ∙ c.if-is_ncname.true)
