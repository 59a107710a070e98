use Rattle.std.proofs.Common.{subst, ◌<◌}
use Rattle.transcode_words.proofs.WordLemmas.{over}
use Rattle.transcode_words.proofs.words.number_of.Goals as goal

pub returns-then-next-gt100000 : goal.returns-then-next-gt100000
returns-then-next-gt100000 c = subst (λ n. 100000 < n) c.digits.invariant.rest (over c.digits.number c.digits.rest.now c.in-len1-up.len_at_least c.if-next-gt100000.true)
