-- The bounds of a number or a size.
use mathlib.Core.Logic.{inl, inr}
use Rattle.std.proofs.Common.{◌≡◌, ◌⊎◌, ℕ, Option, Some, None, List, refl, sym, subst}
use Rattle.std.specs.Prelude.{codes}
use Rattle.module_grammar.specs.declared.reach.Reach.{Reach}
use Rattle.module_grammar.specs.declared.reach.Stop.{Stop}
use Rattle.module_grammar.specs.Reading.{nothing_at, or_at, behind_at}
use Rattle.module_grammar.specs.Reached.{IsFinal}
use Rattle.module_text.specs.declared.bounds.PlainNumber.{PlainNumber}
use Rattle.module_text.specs.declared.bounds.PlainEnds.{PlainEnds}
use Rattle.module_text.specs.declared.bounds.PlainEnds.TheVariants as ends
use Rattle.module_grammar.specs.NameReading.{number_at}
use Rattle.module_grammar.specs.BoundReading.{some_of, max_at, greatest_at, ends_of, ends_at}
use Rattle.module_parse.specs.declared.bounds.UpperBound.{UpperBound}
use Rattle.module_parse.specs.Reads.{IsRead, IsStopped, IsAgain, IsNothing}
use Rattle.module_parse.specs.Readers.{upper_of, from_upper, upper_bound_at}
use Rattle.module_parse.proofs.Chaining.{as_read, as_stops, as_back, stops_back, then_read, then_next_stops, or_first, or_second, or_again, nothing_read}

same_ends : (at place : ℕ) (least : PlainNumber) (g : PlainNumber ⊎ ℕ) → ends_of at (least, Some g) ≡ from_upper least (upper_of place g)
same_ends at place least (inl greatest) = refl
same_ends at place least (inr max) = refl

pub ends_upper : (bytes : List ℕ) (s p q : Reach) (least : PlainNumber) (u : UpperBound) → IsRead number_at bytes s least p → IsRead upper_bound_at bytes p u q → IsRead ends_at bytes s (from_upper least u) q
ends_upper bytes s p q least u h g =
    let k = as_back upper_of (behind_at (codes "..") (or_at number_at max_at)) bytes p q u g in
    subst (λ v. IsRead ends_at bytes s (from_upper least v) q) k.same
    (subst (λ e. IsRead ends_at bytes s e q) (same_ends s.at p.at least k.value)
    (as_read ends_of (then_read (λ _. greatest_at) h (as_read some_of (or_first nothing_at k.read)))))

pub ends_stop : (bytes : List ℕ) (s p : Reach) (least : PlainNumber) (e d : Stop) → IsRead number_at bytes s least p → IsStopped upper_bound_at bytes p e → (d ≡ e) × IsFinal d → IsStopped ends_at bytes s d
ends_stop bytes s p least e d h g a =
    let k = stops_back upper_of (behind_at (codes "..") (or_at number_at max_at)) bytes p e g in
    as_stops ends_of (then_next_stops (λ _. greatest_at) h (as_stops some_of (or_again nothing_at k a)))

pub ends_one : (bytes : List ℕ) (s p q t : Reach) (least : PlainNumber) (e : Stop) → IsRead number_at bytes s least p → IsStopped upper_bound_at bytes p e → IsAgain p e q → IsNothing q t → IsRead ends_at bytes s (ends.One least) t
ends_one bytes s p q t least e h g a n =
    let k = stops_back upper_of (behind_at (codes "..") (or_at number_at max_at)) bytes p e g in
    as_read ends_of (then_read (λ _. greatest_at) h (as_read some_of (or_second k a (nothing_read bytes q t n))))
