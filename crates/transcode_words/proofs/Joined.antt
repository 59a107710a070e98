-- One step after another.
use Rattle.std.proofs.Common.{inl, inr, ◌⊎◌, Result, Ok, Err}
use Rattle.std.specs.Prelude.{⊤}
use Rattle.std.specs.Result.{IfOk}
use Rattle.transcode_words.specs.declared.outcome.Outcome.{Outcome}
use Rattle.transcode_words.specs.Order.{Then}
use Rattle.transcode_words.specs.Answers.{Answers, IsRefusal}

module _ {B C D : Type 0} (first : Result B Outcome → Type 0) (next : B → Result D Outcome → Type 0) (narrow wide : Outcome → Type 0) (view : C → D) where
  -- the first step passes, and the next one answers
  pub passed : (b : B) (v : Result C Outcome) → first (Ok b) → Answers view (next b) narrow v → ((o : Outcome) → narrow o → wide o)
      → Answers view (Then first next) wide v
  passed b (Ok c) pass due more = (b, pass, due)
  passed b (Err o) pass (inl (due, own)) more = inl (inr (b, pass, due), own)
  passed b (Err o) pass (inr cause) more = inr (more o cause)

  -- the first step refuses
  pub refused : (o : Outcome) → (first (Err o) × IsRefusal o) ⊎ narrow o → (narrow o → wide o) → (Then first next (Err o) × IsRefusal o) ⊎ wide o
  refused o (inl (due, own)) more = inl (inl due, own)
  refused o (inr cause) more = inr (more cause)

-- the same answer, for a wider cause
pub wider : {C D : Type 0} (due : Result D Outcome → Type 0) (narrow wide : Outcome → Type 0) (view : C → D) (v : Result C Outcome)
    → Answers view due narrow v → ((o : Outcome) → narrow o → wide o) → Answers view due wide v
wider due narrow wide view (Ok c) h more = h
wider due narrow wide view (Err o) (inl h) more = inl h
wider due narrow wide view (Err o) (inr cause) more = inr (more o cause)

-- an answer of which nothing is said
pub nothing_said : {C : Type 0} (v : Result C Outcome) → IfOk v (λ _. ⊤)
nothing_said (Ok c) = tt
nothing_said (Err o) = tt
