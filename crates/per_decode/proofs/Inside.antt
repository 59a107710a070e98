-- What a fault inside a field says of reading it.
use Rattle.std.proofs.Common.{◌≡◌, ℕ, ◌+◌, ◌*◌, ◌<◌, ◌≤◌, List, length, sym, ap, ◌∙◌, subst, Result, Err, inl, inr}
use Rattle.std.specs.Prelude.{◌⊎◌}
use Rattle.base_codecs.specs.declared.fetch.CursorError.{CursorError}
use Rattle.base_codecs.specs.declared.fetch.CursorError.TheVariants as cursor
use Rattle.base_codecs.specs.declared.spots.Spot.{Spot}
use Rattle.per_fields.specs.declared.stops.Stop.{Stop}
use Rattle.per_fields.specs.declared.stops.Why.TheVariants as why
use Rattle.per_fields.specs.Reading.{stop_at}
use Rattle.per_decode.specs.declared.faults.PerEnd.{PerEnd}
use Rattle.per_decode.specs.declared.faults.PerEnd.TheVariants as fault
use Rattle.per_decode.specs.Private.Giving.{short, too_long, halt_of, end_of, IsRead, FailsAt}

pub fails_inside : {B : Type 0} (limit : ℕ) (whole : List ℕ) (taken : ℕ) (read : Result (B × Spot) Stop) (f : PerEnd) (stop : Stop) (begin : ℕ) (e : CursorError)
    → (((f ≡ fault.Failed) × (e ≡ cursor.Failed)) ⊎ (((f ≡ fault.Short) × (stop.bit ≡ begin) × (e ≡ cursor.Short)) ⊎ ((f ≡ fault.TooLong) × (stop.bit ≡ begin) × (e ≡ cursor.TooLong))))
    → (e ≡ cursor.Failed → (8 * taken ≤ end_of read + 7) × (IsRead read → 8 * taken < end_of read))
    → (e ≡ cursor.Short → (read ≡ Err (stop_at begin why.Short (8 * taken))) × (length whole < limit))
    → (e ≡ cursor.TooLong → (read ≡ Err (stop_at begin why.Short (8 * taken))) × (limit ≤ length whole))
    → FailsAt limit whole (halt_of f stop) taken read
fails_inside limit whole taken read f stop begin e (inl (is, of)) a b c = subst (λ h. FailsAt limit whole h taken read) (sym (ap (λ g. halt_of g stop) is)) (a of)
fails_inside limit whole taken read f stop begin e (inr (inl (is, at, of))) a b c = subst (λ h. FailsAt limit whole h taken read) (sym (ap (λ g. halt_of g stop) is ∙ ap short at)) (b of)
fails_inside limit whole taken read f stop begin e (inr (inr (is, at, of))) a b c = subst (λ h. FailsAt limit whole h taken read) (sym (ap (λ g. halt_of g stop) is ∙ ap too_long at)) (c of)
