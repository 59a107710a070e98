-- The first bytes of a buffer are handed on.
use Rattle.std.proofs.Common.{◌≡◌, ◌==◌, ℕ, Bool, true, false, List, [], refl, ◌++◌, None, Some, take, drop, sym, ap, ◌∙◌, append_assoc, take-append-drop}
use Rattle.std.specs.declared.option.Option.{Option}
use Rattle.std.specs.Prelude.{if◌then◌else◌}
use Rattle.std.specs.Io.KnownBytes.{Consumes, prepend_known}
use Rattle.std.specs.Io.Buffered.{reader_buffer, reader_capacity, reader_inner, reader_remaining}
use Rattle.std.specs.declared.io.buffered.BufReader.{BufReader}

front_of : (known : Option (List ℕ)) (old new given : List ℕ) (n : ℕ) → new ≡ drop n old → given ≡ take n old → Consumes (prepend_known old known) (prepend_known new known) given
front_of None old new given n rest front = tt
front_of (Some xs) old new given n rest front =
    rw (rest, front) (ap (λ bytes. bytes ++ xs) (sym (take-append-drop n old)) ∙ append_assoc (take n old) (drop n old) xs)

unless : (c : Bool) (a b : Option (List ℕ)) (bytes : List ℕ) → Consumes a b bytes → Consumes (if c then None else a) (if c then None else b) bytes
unless true a b bytes h = tt
unless false a b bytes h = h

pub handed_on : {R A : Type 0} (remaining : R → Option (List ℕ)) (old new : BufReader R A) (given : List ℕ) (n : ℕ)
    → reader_buffer new ≡ drop n (reader_buffer old) → reader_inner new ≡ reader_inner old → reader_capacity new ≡ reader_capacity old
    → given ≡ take n (reader_buffer old) → Consumes (reader_remaining remaining old) (reader_remaining remaining new) given
handed_on remaining old new given n rest inner capacity front =
    rw (capacity, inner) (unless (reader_capacity old == 0) _ _ given (front_of (remaining old.inner) _ _ given n rest front))

-- A reader with an empty buffer has left what the reader behind it has.
none_in_front : (known : Option (List ℕ)) → prepend_known [] known ≡ known
none_in_front None = refl
none_in_front (Some xs) = refl

pub fresh : {R A : Type 0} (remaining : R → Option (List ℕ)) (r : BufReader R A) → reader_capacity r ≡ 65536 → reader_buffer r ≡ []
    → reader_remaining remaining r ≡ remaining (reader_inner r)
fresh remaining r capacity empty =
    ap (λ n. if n == 0 then None else prepend_known (reader_buffer r) (remaining (reader_inner r))) capacity
    ∙ ap (λ bytes. prepend_known bytes (remaining (reader_inner r))) empty ∙ none_in_front (remaining (reader_inner r))
