use Rattle.std.proofs.Common.{◌<◌, length, arith}
use Rattle.std.proofs.lemmas.Bool.Decides.{nat_tests}
use Rattle.base_texts.proofs.FirstWord.{front-IsCharBoundary, word-IsCharBoundary, is_behind_front, cut_off, no_word}
use Rattle.base_texts.proofs.white_space.first_word.Goals as goal

pub range_from-words-requires : goal.range_from-words-requires
range_from-words-requires c some =
    let at = c.white_space_len.ensures in
    rw (at, c.as_bytes.ensures.value) (front-IsCharBoundary c.args.text.now c.utf8.text)

pub returns-then-is_empty-clause-words : goal.returns-then-is_empty-clause-words
returns-then-is_empty-clause-words c =
    no_word _ _ (is_behind_front _ _ _ _ c.as_bytes.ensures.value c.white_space_len.ensures c.range_from-words.ensures.value) (grind (arith, nat_tests))

pub split_at-requires : goal.split_at-requires
split_at-requires c = rw (c.word_len.ensures, c.as_bytes-2.ensures.value) (word-IsCharBoundary c.range_from-words.result.now)

pub returns-clause-words : goal.returns-clause-words
returns-clause-words c =
    let some : 0 < length c.range_from-words.result.now = grind (arith, nat_tests) in
    let is = is_behind_front _ _ _ _ c.as_bytes.ensures.value c.white_space_len.ensures c.range_from-words.ensures.value in
    cut_off _ _ _ _ _ _ is some c.as_bytes-2.ensures.value c.word_len.ensures c.split_at.ensures.front c.split_at.ensures.back
