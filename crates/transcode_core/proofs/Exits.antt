-- Exits by `?`, with the error of a step.
use Rattle.std.proofs.Common.{◌≡◌, ◌⊎◌, sym, subst, Result, Ok, Err}
use Rattle.std.specs.Prelude.{IsErrAnd}
use Rattle.transcode_words.specs.declared.outcome.Outcome.{Outcome}
use Rattle.transcode_words.specs.Order.{Then}
use Rattle.transcode_words.specs.Answers.{Answers, IsRefusal}
use Rattle.transcode_words.proofs.Joined.{refused}

-- what holds of the error holds of the answer
pub returned : {C D : Type 0} (view : C → D) (due : Result D Outcome → Type 0) (cause : Outcome → Type 0) (v : Result C Outcome) (o : Outcome)
    → IsErrAnd v (λ e. e ≡ o) → (due (Err o) × IsRefusal o) ⊎ cause o → Answers view due cause v
returned view due cause (Ok c) o is h = absurd is
returned view due cause (Err e) o is h = subst (λ x. (due (Err x) × IsRefusal x) ⊎ cause x) (sym is) h

-- the first step refuses
pub refused_by : {B C D : Type 0} (first : Result B Outcome → Type 0) (next : B → Result D Outcome → Type 0) (narrow wide : Outcome → Type 0) (view : C → D)
    (v : Result C Outcome) (o : Outcome) → IsErrAnd v (λ e. e ≡ o) → (first (Err o) × IsRefusal o) ⊎ narrow o → (narrow o → wide o)
    → Answers view (Then first next) wide v
refused_by first next narrow wide view v o is h more = returned view (Then first next) wide v o is (refused first next narrow wide view o h more)
