use Rattle.base_texts.proofs.Replacing.{none_replaced}
use Rattle.base_texts.proofs.white_space.is_str_treated.Goals as goal

pub returns-in-Replace : goal.returns-in-Replace
returns-in-Replace c = rw c.in-Replace.is (none_replaced _ _ _ _ c.as_bytes.ensures.value c.first_replaced.ensures c.is_none.ensures)
