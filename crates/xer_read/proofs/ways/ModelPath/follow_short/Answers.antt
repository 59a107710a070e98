use Rattle.std.proofs.Common.{◌≡◌, ℕ, List, [], ◌∷◌, length, refl, sym, ◌∙◌, ap, arith}
use Rattle.std.specs.Prelude.{slice_index_or, slice_set}
use Rattle.content_match.proofs.Standing.{spot_matched}
use Rattle.content_match.specs.Private.Standing.{spot_now}
use Rattle.content_match.specs.declared.places.Turn.{Turn}
use Rattle.xer_read.proofs.ways.ModelPath.follow_short.Goals as goal

both-written : (us ts : List Turn) (d : Turn) → length us ≡ 2 → length ts ≡ 2 → slice_set (slice_set us 0 (slice_index_or ts 0 d)) 1 (slice_index_or ts 1 d) ≡ ts
both-written (u ∷ v ∷ []) (t ∷ w ∷ []) d n m = refl
both-written [] ts d n m = absurd (omega arith)
both-written (u ∷ []) ts d n m = absurd (omega arith)
both-written (u ∷ v ∷ x ∷ us) ts d n m = absurd (omega arith)
both-written (u ∷ v ∷ []) [] d n m = absurd (omega arith)
both-written (u ∷ v ∷ []) (t ∷ []) d n m = absurd (omega arith)
both-written (u ∷ v ∷ []) (t ∷ w ∷ x ∷ ts) d n m = absurd (omega arith)

one-written : (js ks : List ℕ) → length js ≡ 1 → length ks ≡ 1 → slice_set js 0 (slice_index_or ks 0 0) ≡ ks
one-written (j ∷ []) (k ∷ []) n m = refl
one-written [] ks n m = absurd (omega arith)
one-written (j ∷ i ∷ js) ks n m = absurd (omega arith)
one-written (j ∷ []) [] n m = absurd (omega arith)
one-written (j ∷ []) (k ∷ l ∷ ks) n m = absurd (omega arith)

pub returns : goal.returns
returns c =
    let k = c.args.matcher.now in
    let d : Turn = record { particle = 0; turn = 0 } in
    let old = c.args.self.now in
    let ts : slice_set (slice_set old.turns.items 0 (slice_index_or c.turns.result.now 0 d)) 1 (slice_index_or c.turns-2.result.now 1 d) ≡ k.turns =
    ap (λ us. slice_set (slice_set old.turns.items 0 (slice_index_or us 0 d)) 1 (slice_index_or c.turns-2.result.now 1 d)) c.turns.ensures
    ∙ ap (λ us. slice_set (slice_set old.turns.items 0 (slice_index_or k.turns 0 d)) 1 (slice_index_or us 1 d)) c.turns-2.ensures
    ∙ both-written old.turns.items k.turns d c.requires.way.0 c.requires.matcher.0
    in
    let ks : slice_set old.kids.items 0 (slice_index_or c.kids.result.now 0 0) ≡ k.kids =
    ap (λ js. slice_set old.kids.items 0 (slice_index_or js 0 0)) c.kids.ensures ∙ one-written old.kids.items k.kids c.requires.way.1 c.requires.matcher.1
    in
    ap (λ us. spot_now us (slice_set old.kids.items 0 (slice_index_or c.kids.result.now 0 0))) ts ∙ ap (λ js. spot_now k.turns js) ks ∙ sym (spot_matched k c.requires.no_all)
