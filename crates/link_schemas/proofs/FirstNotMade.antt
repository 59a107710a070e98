-- Where no simple type is made of itself there is a first one that can't be made although its parts are, or none.
use Rattle.std.proofs.Common.{◌≡◌, ℕ, zero, suc, inl, inr, List, [], ◌∷◌, refl, sym, ap, subst, Option, Some, None, Result, Ok, Err}
use Rattle.std.specs.Prelude.{slice_get}
use Rattle.std.specs.Result.{is_ok}
use Rattle.std.proofs.lemmas.Bool.{true≢false}
use Rattle.simple_types.specs.Space.{Space}
use Rattle.schema_components.specs.Raw.{Document}
use Rattle.link_names.specs.declared.faults.LinkingFault.{LinkingFault}
use Rattle.link_names.specs.declared.faults.LinkWhy.{LinkWhy}
use Rattle.link_names.specs.Order.{fault, OneHas, IsFirstSuch}
use Rattle.link_names.specs.Cycles.{numbers_in, IsCircular}
use Rattle.link_names.specs.SimpleTypes.{SimpleDefinition, simple_types}
use Rattle.link_simple.specs.Making.{IsLeft, IsMaking, IsNotMadeOf, IsNotMade}
use Rattle.link_simple.proofs.Existence.{some_left, some_making}
use Rattle.link_simple.proofs.Once.{once}
use Rattle.link_simple.proofs.Uniqueness.{one_making}
use Rattle.link_schemas.proofs.Firsts.{SomeFirst, some_of_none, some_of_one, some_of_all, some_of_same}

ok≢err : (s : Space) (w : LinkWhy) → (let r : Result Space LinkWhy = Ok s in r) ≡ Err w → ⊥
ok≢err s w e = true≢false (ap is_ok e)

err_is : (v w : LinkWhy) → (let r : Result Space LinkWhy = Err v in r) ≡ Err w → v ≡ w
err_is v w e = cc

the_same : (d e : SimpleDefinition) → Some d ≡ Some e → d ≡ e
the_same d e p = cc

module _ (ds : List SimpleDefinition) (made : List (Option Space)) (fits : IsMaking ds made) (only : (others : List (Option Space)) → IsMaking ds others → others ≡ made) where
  -- one type can't be made
  abbrev IsHere : SimpleDefinition → LinkingFault → Type 0
  IsHere d f = (f.place ≡ d.body) × IsLeft (numbers_in ds) made d.place.file d.how (Err f.why)

  here_if : (d : SimpleDefinition) (r : Result Space LinkWhy) → IsLeft (numbers_in ds) made d.place.file d.how r → SomeFirst (IsHere d)
  here_if d (Ok s) h = some_of_none (IsHere d) (λ f k. ok≢err s f.why (once (numbers_in ds) made d.place.file d.how (Ok s) (Err f.why) h k.1))
  here_if d (Err w) h =
      some_of_one (IsHere d) (fault w d.body) (refl, h)
      (λ f k. let same = err_is w f.why (once (numbers_in ds) made d.place.file d.how (Err w) (Err f.why) h k.1) in λ i. record { place = sym k.0 i; why = same i })

  here : (d : SimpleDefinition) → SomeFirst (IsHere d)
  here d = elim (some_left (numbers_in ds) made d.place.file d.how) [
    | inl left ↦ here_if d left.0 left.1
    | inr missing ↦ some_of_none (IsHere d) (λ f k. missing (Err f.why) k.1)
  ]

  -- by its number
  abbrev IsAmong : List SimpleDefinition → LinkingFault → Type 0
  IsAmong xs f = (n : ℕ) × (d : SimpleDefinition) × (slice_get xs n ≡ Some d) × IsHere d f

  number_of : (xs : List SimpleDefinition) (f : LinkingFault) → OneHas IsHere xs f → IsAmong xs f
  number_of [] f h = absurd h
  number_of (x ∷ xs) f (inl h) = (0, x, refl, h)
  number_of (x ∷ xs) f (inr h) = let rest = number_of xs f h in (suc rest.0, rest.1, rest.2, rest.3)

  of_number : (xs : List SimpleDefinition) (f : LinkingFault) (n : ℕ) (d : SimpleDefinition) → slice_get xs n ≡ Some d → IsHere d f → OneHas IsHere xs f
  of_number [] f n d is h = absurd cc
  of_number (x ∷ xs) f zero d is h = inl (subst (λ y. IsHere y f) (sym (the_same x d is)) h)
  of_number (x ∷ xs) f (suc n) d is h = inr (of_number xs f n d is h)

  to : (f : LinkingFault) → OneHas IsHere ds f → IsNotMadeOf ds f
  to f h = let a = number_of ds f h in (made, fits, a.0, a.1, a.2, a.3.0, a.3.1)

  from : (f : LinkingFault) → IsNotMadeOf ds f → OneHas IsHere ds f
  from f q =
      of_number ds f q.2 q.3 q.4 (q.5, subst (λ m. IsLeft (numbers_in ds) m q.3.place.file q.3.how (Err f.why)) (only q.0 q.1) q.6)

  not_made : SomeFirst (IsNotMadeOf ds)
  not_made = some_of_same (OneHas IsHere ds) (IsNotMadeOf ds) to from (some_of_all IsHere here ds)

pub some_not_made : (docs : List Document) → IsFirstSuch (IsCircular docs) None → SomeFirst (IsNotMade docs)
some_not_made docs none =
    let made = some_making docs none in
    not_made (simple_types docs) made.0 made.1 (λ others making. one_making docs none others made.0 making made.1)
