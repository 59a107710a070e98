-- The environment in which a request is answered, where no call has failed.
use Rattle.std.proofs.Common.{◌≡◌, ℕ, List, subst}
use Rattle.transcode_words.specs.Asked.{Asked}
use Rattle.transcode_words.specs.declared.outcome.Outcome.{Outcome}
use Rattle.transcode_core.specs.Requests.Answers.{Environment}
use Rattle.people_results.specs.Serving.{failed, Serves}

-- the files are those with these names, and each count is 0
pub begun : (asked : Asked) (names files : List (List ℕ)) (loads reads writes : ℕ) (later : Environment) (o : Outcome) → names ≡ files → loads ≡ 0 → reads ≡ 0 → writes ≡ 0
    → Serves asked (failed names loads reads writes 0) later o → Serves asked (failed files 0 0 0 0) later o
begun asked names files loads reads writes later o n l r w s =
    subst (λ (names : List (List ℕ)). Serves asked (failed names 0 0 0 0) later o) n
    (subst (λ (loads : ℕ). Serves asked (failed names loads 0 0 0) later o) l
    (subst (λ (reads : ℕ). Serves asked (failed names loads reads 0 0) later o) r
    (subst (λ (writes : ℕ). Serves asked (failed names loads reads writes 0) later o) w s)))
