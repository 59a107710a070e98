-- Passes one behind the other, that which makes the simple types among them.
use Rattle.std.proofs.Common.{◌≡◌, inl, inr, List, [], ◌∷◌, ◌++◌, map, Option, Some, None, refl, ap, subst, Vec}
use Rattle.std.specs.Global.{Global}
use Rattle.std.specs.Prelude.{Result, Ok, Err}
use Rattle.std.specs.Option.{IfSome}
use Rattle.simple_types.specs.declared.simples.Simple.{Simple}
use Rattle.simple_types.specs.Seen.{space_of}
use Rattle.schema_components.specs.Raw.{Document}
use Rattle.schema_components.specs.Components.{Set}
use Rattle.link_names.specs.declared.faults.LinkingFault.{LinkingFault}
use Rattle.link_names.specs.SimpleTypes.{simple_types}
use Rattle.link_simple.specs.Answering.{made_of}
use Rattle.link_simple.specs.Making.{IsMaking}
use Rattle.link_set.specs.Sets.{parts_of, set_of}
use Rattle.link_schemas.specs.declared.passes.LinkError.{LinkError}
use Rattle.link_schemas.specs.Answering.{shown, AnswersPasses, AnswersSimples}
use Rattle.link_schemas.specs.Passes.{Pass, Making, Valuing, Comparing, Clearing, passes, passes_of_names, IsShownBy}
use Rattle.link_schemas.specs.Sets.{AnswersSpaces, Links}
use Rattle.link_schemas.proofs.Passing.{goes_on, ends}

-- those behind the making of simple types
abbrev checks : List Pass
checks = Valuing ∷ Comparing ∷ Clearing ∷ []

abbrev later : List Pass
later = Making ∷ checks

each_some : (o : Option LinkingFault) (P Q : LinkingFault → Type 0) → ((f : LinkingFault) → P f → Q f) → IfSome o P → IfSome o Q
each_some None P Q all h = h
each_some (Some f) P Q all h = all f h

shown_longer : (docs : List Document) (ps qs : List Pass) (f : LinkingFault) → IsShownBy docs ps f → IsShownBy docs (ps ++ qs) f
shown_longer docs [] qs f s = absurd s
shown_longer docs (p ∷ ps) qs f (inl first) = inl first
shown_longer docs (p ∷ ps) qs f (inr behind) = inr (behind.0, shown_longer docs ps qs f behind.1)

pub made_and_clear : (docs : List Document) (simples : Vec Simple Global) (u : Unit {0}) → AnswersSimples docs (Ok simples)
    → AnswersPasses docs checks (Ok u) → AnswersSpaces docs later (Ok simples)
made_and_clear docs simples u h k = ((h.2.0, k), h.0, h.1)

pub made_not_clear : (docs : List Document) (simples : Vec Simple Global) (e : LinkError) → AnswersSimples docs (Ok simples)
    → AnswersPasses docs checks (Err e) → AnswersSpaces docs later (Err e)
made_not_clear docs simples e h k = goes_on docs Making checks tt (Err e) h.2 k

pub not_made : (docs : List Document) (e : LinkError) → AnswersSimples docs (Err e) → AnswersSpaces docs later (Err e)
not_made docs e h = ends docs Making checks e h

pub behind_names : (docs : List Document) (u : Unit {0}) (r : Result (Vec Simple Global) LinkError) → AnswersPasses docs passes_of_names (Ok u)
    → AnswersSpaces docs later r → AnswersSpaces docs passes r
behind_names docs u (Ok simples) n h = ((n.0, (n.1.0, (n.1.1.0, (n.1.1.1.0, h.0)))), h.1, h.2)
behind_names docs u (Err e) n h =
    each_some (shown e) (IsShownBy docs later) (IsShownBy docs passes) (λ f s. inr (n.0, inr (n.1.0, inr (n.1.1.0, inr (n.1.1.1.0, s))))) h

pub in_names : (docs : List Document) (e : LinkError) → AnswersPasses docs passes_of_names (Err e) → AnswersSpaces docs passes (Err e)
in_names docs e h = each_some (shown e) (IsShownBy docs passes_of_names) (IsShownBy docs passes) (shown_longer docs passes_of_names later) h

twice : (simples : List Simple) → made_of simples ≡ map Some (map space_of simples)
twice [] = refl
twice (s ∷ ss) = ap (λ xs. Some (space_of s) ∷ xs) (twice ss)

pub links : (docs : List Document) (spaces : Vec Simple Global) (s : Set) → AnswersSpaces docs passes (Ok spaces)
    → parts_of s ≡ set_of docs (map space_of spaces.items) → Links docs (Ok s)
links docs spaces s h e = (h.0, (map space_of spaces.items, subst (IsMaking (simple_types docs)) (twice spaces.items) h.1, e))
