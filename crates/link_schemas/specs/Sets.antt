-- The result of linking: the set of the documents, or the first fault of the first pass that has one.
use Rattle.std.specs.Prelude.{◌≡◌, ℕ, ◌+◌, List, map, Some, Result, Ok, Err, slice_get}
use Rattle.std.specs.Prelude.{Vec}
use Rattle.std.specs.Global.{Global}
use Rattle.std.specs.Option.{IfSome}
use Rattle.simple_types.specs.declared.simples.Simple.{Simple}
use Rattle.simple_types.specs.Space.{Space}
use Rattle.schema_components.specs.Raw.{Document}
use Rattle.schema_components.specs.Components.{Set}
use Rattle.link_names.specs.SimpleTypes.{simple_types}
use Rattle.link_simple.specs.Answering.{made_of, AreSound}
use Rattle.link_simple.specs.Making.{IsMaking}
use Rattle.link_set.specs.Sets.{parts_of, set_of}
use Rattle.link_schemas.specs.declared.passes.LinkError.{LinkError}
use Rattle.link_schemas.specs.Answering.{shown}
use Rattle.link_schemas.specs.Passes.{Pass, passes, IsShownBy, ArePassed}

-- The files are numbered from 1, in their order.
abbrev pub AreNumbered : List Document → Type 0
AreNumbered docs = (k : ℕ) (d : Document) → slice_get docs k ≡ Some d → d.file ≡ k + 1

-- The simple types of the documents are made with these spaces, and the set is the one that has them.
abbrev pub IsSetOf : List Document → Set → Type 0
IsSetOf docs s = (spaces : List Space) × IsMaking (simple_types docs) (map Some spaces) × (parts_of s ≡ set_of docs spaces)

-- The set, if no pass has a fault, else the fault that the passes show, or out of memory.
abbrev pub Links : List Document → Result Set LinkError → Type 0
Links docs (Ok s) = ArePassed docs passes × IsSetOf docs s
Links docs (Err e) = IfSome (shown e) (λ f. IsShownBy docs passes f)

-- The spaces of all simple types, if these passes have no fault, else the fault that they show.
abbrev pub AnswersSpaces : List Document → List Pass → Result (Vec Simple Global) LinkError → Type 0
AnswersSpaces docs ps (Ok simples) = ArePassed docs ps × IsMaking (simple_types docs) (made_of simples.items) × AreSound simples.items
AnswersSpaces docs ps (Err e) = IfSome (shown e) (λ f. IsShownBy docs ps f)
