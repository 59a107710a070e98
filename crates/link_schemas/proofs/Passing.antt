-- Passes one behind the other.
use Rattle.std.proofs.Common.{inl, inr, List, [], ◌∷◌, Option, Some, None, sym, subst}
use Rattle.std.specs.Prelude.{Result, Ok, Err}
use Rattle.std.specs.Option.{IfSome}
use Rattle.schema_components.specs.Raw.{Document}
use Rattle.link_names.specs.declared.faults.LinkingFault.{LinkingFault}
use Rattle.link_names.specs.Order.{IsFirstSuch}
use Rattle.link_schemas.specs.declared.passes.LinkError.{LinkError}
use Rattle.link_schemas.specs.Passes.{Pass, IsFault, IsShownBy}
use Rattle.link_schemas.specs.Answering.{shown, AnswersPasses, AnswersFault}

-- one pass
pub alone : (docs : List Document) (p : Pass) (found : Option LinkingFault) (r : Result (Unit {0}) LinkError) → IsFirstSuch (IsFault docs p) found
    → AnswersFault found r → AnswersPasses docs (p ∷ []) r
alone docs p None r h e = subst (AnswersPasses docs (p ∷ [])) (sym e) (h, tt)
alone docs p (Some f) r h e = subst (AnswersPasses docs (p ∷ [])) (sym e) (inl h)

each_some : (o : Option LinkingFault) (P Q : LinkingFault → Type 0) → ((f : LinkingFault) → P f → Q f) → IfSome o P → IfSome o Q
each_some None P Q all h = h
each_some (Some f) P Q all h = all f h

-- the first pass has no fault
pub goes_on : (docs : List Document) (p : Pass) (ps : List Pass) (u : Unit {0}) (r : Result (Unit {0}) LinkError) → AnswersPasses docs (p ∷ []) (Ok u)
    → AnswersPasses docs ps r → AnswersPasses docs (p ∷ ps) r
goes_on docs p ps u (Ok v) h k = (h.0, k)
goes_on docs p ps u (Err e) h k = each_some (shown e) (IsShownBy docs ps) (IsShownBy docs (p ∷ ps)) (λ f s. inr (h.0, s)) k

-- it has one
pub ends : (docs : List Document) (p : Pass) (ps : List Pass) (e : LinkError) → AnswersPasses docs (p ∷ []) (Err e) → AnswersPasses docs (p ∷ ps) (Err e)
ends docs p ps e h =
    each_some (shown e) (IsShownBy docs (p ∷ [])) (IsShownBy docs (p ∷ ps)) (λ f s. elim s [ inl one ↦ inl one | inr none ↦ absurd none.1 ]) h
