use Rattle.std.proofs.Common.{◌≡◌, ◌++◌, sym, ◌∙◌, ap}
use Rattle.content_match.proofs.Standing.{spot_matched}
use Rattle.content_match.specs.Private.Standing.{spot_now}
use Rattle.xer_read.proofs.ways.ModelPath.follow_anew.Goals as goal

pub returns : goal.returns
returns c =
    let k = c.args.matcher.now in
    let ts : c.extend_from_slice.new.self.items ≡ k.turns = c.in_ok-extend_from_slice.ensures.items ∙ ap (λ z. z ++ c.turns.result.now) c.clear.ensures.items ∙ c.turns.ensures in
    let ks : c.extend_from_slice-2.new.self.items ≡ k.kids = c.in_ok-extend_from_slice-2.ensures.items ∙ ap (λ z. z ++ c.kids.result.now) c.clear-2.ensures.items ∙ c.kids.ensures in
    ap (λ z. spot_now z c.extend_from_slice-2.new.self.items) ts ∙ ap (λ z. spot_now k.turns z) ks ∙ sym (spot_matched k c.requires)
