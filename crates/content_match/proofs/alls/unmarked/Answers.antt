use Rattle.std.proofs.Common.{false, replicate, ◌∙◌, ap}
use Rattle.content_match.proofs.Picked.{unmarked_items}
use Rattle.content_match.proofs.alls.unmarked.Goals as goal

pub returns : goal.returns
returns c =
    c.in_ok-marks.ensures.items_if_clones_equal (λ b e. e) ∙ ap (λ n. replicate n false) (c.len.ensures ∙ c.args.all.now.kids.ok.0) ∙ unmarked_items c.args.all.now.kids.items
