-- What `answer` promises of known files and streams, said where nothing is known of them.
use Rattle.std.proofs.Common.{◌≡◌, ◌⊎◌, inl, inr, sym, subst}
use Rattle.transcode_words.specs.Asked.{Asked}
use Rattle.transcode_words.specs.declared.outcome.Outcome.{Outcome}
use Rattle.transcode_words.specs.declared.outcome.Outcome.TheVariants.{Done, WriteFault}
use Rattle.transcode_core.specs.Requests.Answers.{Environment, Answers}
use Rattle.transcode_core.proofs.Unseen.{answers_unseen}
use Rattle.people_results.specs.Serving.{IsAnswer, Serves}

-- the outcome, once the file of the output has its name or can't get it
pub finished : (asked : Asked) (old new : Environment) (A B : Type 0) (o : Outcome) → Answers asked old new A B o → (r : Outcome) → (r ≡ o) ⊎ ((o ≡ Done) × (r ≡ WriteFault))
    → Serves asked old new r
finished asked old new A B o a r (inl same) = inl (subst (λ p. IsAnswer asked old new p) (sym same) (answers_unseen old new A B o asked a))
finished asked old new A B o a r (inr (is, fault)) = inr (fault, subst (λ p. IsAnswer asked old new p) is (answers_unseen old new A B o asked a))
