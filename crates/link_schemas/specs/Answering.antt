-- The results of passes.
use Rattle.std.specs.Prelude.{◌≡◌, List, [], ◌∷◌, Vec, Result, Ok, Err, Option, Some, None}
use Rattle.std.specs.Option.{IfSome}
use Rattle.std.specs.Global.{Global}
use Rattle.simple_types.specs.declared.simples.Simple.{Simple}
use Rattle.schema_components.specs.Raw.{Document}
use Rattle.link_names.specs.declared.faults.LinkingFault.{LinkingFault}
use Rattle.link_names.specs.Order.{place, fault}
use Rattle.link_names.specs.SimpleTypes.{simple_types}
use Rattle.link_simple.specs.Answering.{made_of, AreSound}
use Rattle.link_simple.specs.Making.{IsMaking}
use Rattle.link_schemas.specs.declared.passes.LinkError.{LinkError}
use Rattle.link_schemas.specs.declared.passes.LinkError.TheVariants as error
use Rattle.link_schemas.specs.Passes.{Pass, Making, IsShownBy, ArePassed}

-- The fault that an error shows; none if memory ran out.
abbrev pub shown : LinkError → Option LinkingFault
shown (error.Shown file at why) = Some (fault why (place file at))
shown error.Memory = None

-- Ok if the passes have no fault, else the fault that they show, or out of memory.
abbrev pub AnswersPasses : List Document → List Pass → Result (Unit {0}) LinkError → Type 0
AnswersPasses docs ps (Ok u) = ArePassed docs ps
AnswersPasses docs ps (Err e) = IfSome (shown e) (λ f. IsShownBy docs ps f)

-- An error for a fault that was found, and Ok for none.
abbrev pub AnswersFault : Option LinkingFault → Result (Unit {0}) LinkError → Type 0
AnswersFault None result = result ≡ Ok tt
AnswersFault (Some f) result = result ≡ Err (error.Shown f.place.file f.place.at f.why)

-- The spaces of all simple types if the pass that makes them has no fault, else the fault that it shows.
abbrev pub AnswersSimples : List Document → Result (Vec Simple Global) LinkError → Type 0
AnswersSimples docs (Ok simples) = IsMaking (simple_types docs) (made_of simples.items) × AreSound simples.items × ArePassed docs (Making ∷ [])
AnswersSimples docs (Err e) = IfSome (shown e) (IsShownBy docs (Making ∷ []))
