use Rattle.std.proofs.Common.{rules}
use Rattle.xml_pieces.proofs.Values.{mentions_consume, mention_first, mention_on}
use Rattle.xml_pieces.proofs.value.replaced.Goals as goal

pub mentions-init : goal.mentions-init
mentions-init c = mention_first _ _ _ _ _ _ c.len_before.ensures.value c.split_at.ensures.front c.split_at.ensures.back c.in_ok-append_spaced.ensures (search rules)

pub mentions-smaller : goal.mentions-smaller
mentions-smaller c = mentions_consume.less _ _ _ c.in-Some.ensures

pub mentions-preserved : goal.mentions-preserved
mentions-preserved c = mention_on _ _ _ _ c.in-Some.run'.now c.in-Some.behind.now c.in-Some.c _ c.in-Some.ensures c.in_ok-append_char.ensures c.in_ok-append_spaced-2.ensures c.mentions.invariant
