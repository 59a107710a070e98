-- The results of making simple types.
use Rattle.std.specs.Prelude.{List, Option, Some, None, map, Result, Ok, Err, IfSome}
use Rattle.std.specs.List.{All}
use Rattle.std.specs.Global.{Global}
use Rattle.std.specs.Prelude.{Vec}
use Rattle.simple_types.specs.declared.simples.Simple.{Simple}
use Rattle.simple_types.specs.Seen.{space_of}
use Rattle.simple_types.specs.Sound.{Sound}
use Rattle.simple_types.specs.Space.{Space}
use Rattle.schema_components.specs.Raw.{Document}
use Rattle.link_names.specs.Order.{IsFirstSuch}
use Rattle.link_names.specs.declared.faults.LinkingFault.{LinkingFault}
use Rattle.link_names.specs.SimpleTypes.{SimpleDefinition, simple_types}
use Rattle.link_simple.specs.declared.making.MakingError.{MakingError}
use Rattle.link_simple.specs.declared.making.MakingError.TheVariants as error
use Rattle.link_simple.specs.Making.{IsMaking, IsNotMadeOf}

-- The list of spaces in which each type is made.
abbrev pub made_of : List Simple → List (Option Space)
made_of simples = map (λ s. Some (space_of s)) simples

abbrev pub AreSound : List Simple → Type 0
AreSound simples = All (λ s. Sound (space_of s)) simples

-- The fault that an error shows; none if memory ran out.
abbrev pub shown_by : MakingError → Option LinkingFault
shown_by (error.Shown f) = Some f
shown_by error.Memory = None

-- The spaces of all these definitions, or the first fault, or out of memory.
abbrev pub AnswersMakingOf : List SimpleDefinition → Result (Vec Simple Global) MakingError → Type 0
AnswersMakingOf ds (Ok simples) = IsMaking ds (made_of simples.items) × AreSound simples.items × IsFirstSuch (IsNotMadeOf ds) None
AnswersMakingOf ds (Err e) = IfSome (shown_by e) (λ f. IsFirstSuch (IsNotMadeOf ds) (Some f))

abbrev pub AnswersMaking : List Document → Result (Vec Simple Global) MakingError → Type 0
AnswersMaking docs result = AnswersMakingOf (simple_types docs) result
