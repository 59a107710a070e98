-- The results of the code, compared with the required results.
use Rattle.std.specs.Prelude.{ℕ, Result, Ok, Err, List}
use Rattle.std.specs.Option.{IfSome}
use Rattle.simple_types.specs.declared.simples.Simple.{Simple}
use Rattle.simple_types.specs.Space.{Space}
use Rattle.simple_types.specs.Seen.{space_of}
use Rattle.simple_facets.specs.declared.refusals.FacetWhy.{FacetWhy}
use Rattle.simple_facets.specs.declared.refusals.FacetError.{FacetError}
use Rattle.simple_facets.specs.Refusals.{why_of}

-- The result is a required one, or an allocation failure.
abbrev pub AnswersFacets : {A : Type 0} → Result A FacetError → (Result A FacetWhy → Type 0) → Type 0
AnswersFacets (Ok value) Due = Due (Ok value)
AnswersFacets (Err error) Due = IfSome (why_of error) (λ w. Due (Err w))

-- The result is a type of a required space, or an allocation failure.
abbrev pub AnswersSpace : Result Simple FacetError → (Result Space FacetWhy → Type 0) → Type 0
AnswersSpace (Ok simple) Due = Due (Ok (space_of simple))
AnswersSpace (Err error) Due = IfSome (why_of error) (λ w. Due (Err w))
