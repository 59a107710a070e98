use Rattle.std.proofs.Common.{rules, is_lt}
use Rattle.std.proofs.lemmas.Result.{on_ok_weaker}
use Rattle.std.proofs.lemmas.List.Sorted.{ranks_by}
use Rattle.std.proofs.lemmas.Fn.{always_returns_same}
use Rattle.map_subjects.specs.Subjects.{entry_cmp}
use Rattle.map_subjects.proofs.InOrder.{entry_total}
use Rattle.map_subjects.proofs.collecting.sort.Goals as goal

pub returns-clause-sorted : goal.returns-clause-sorted
returns-clause-sorted c =
    on_ok_weaker c.sort_by.result
    (λ sorted. sorted (λ a b. is_lt (entry_cmp a b)) (ranks_by entry_total (λ e. e)) (always_returns_same _ _ _ (λ a r f k. search rules)))
    c.sort_by.ensures.sorted
