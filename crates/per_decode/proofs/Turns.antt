-- Fragments one by one, as a loop reads them.
use Rattle.std.proofs.Common.{◌≡◌, ℕ, zero, suc, ◌+◌, ◌*◌, ◌<◌, ◌≤◌, Bool, List, ◌++◌, length, refl, sym, ap, ◌∙◌, subst, arith, append_assoc, Option, Result, Ok, Err}
use Rattle.base_codecs.specs.declared.spots.Spot.{Spot}
use Rattle.per_fields.specs.declared.stops.Stop.{Stop}
use Rattle.per_fields.specs.Reading.{◌>>=◌, Reader, bits_at}
use Rattle.per_fields.specs.Fields.{skip_at, Piece, Last, Units, unit, length_from, length_here, count_here, count_at, fragments_at}
use Rattle.base_codecs.proofs.Codecs.{bind_ok, stop_ok, ok_is}
use Rattle.per_decode.specs.declared.faults.PerEnd.{PerEnd}
use Rattle.per_decode.specs.declared.faults.PerEnd.TheVariants as fault
use Rattle.std.specs.Prelude.{IfOk, IfErr}
use Rattle.per_decode.specs.Private.Giving.{Halt, halt_of, memory, end_of, FailsAt, Shows}
use Rattle.per_decode.proofs.Ends.{Sits, SteadyReader, Steady, sits_then, sits-bits, sits-skip, sits-length_from, sits-count, sits-fragments, fails_first}
use Rattle.per_decode.proofs.Loop.{with_front, end-front}

-- where something was read, reading stands there
at_ok : {A : Type 0} (X : List Bool) (p : ℕ) (r : Result (A × Spot) Stop) (x : A × Spot) → Sits X p r → r ≡ Ok x → (p ≤ x.1.at) × (x.1.at ≤ length X)
at_ok X p r x h e = let k = subst (Sits X p) e h in (k.later, k.inside)

eight : (b : ℕ) (X : List Bool) (s : Spot) (x : ℕ × Spot) → bits_at b 8 X s ≡ Ok x → x.1.at ≡ s.at + 8
unfolding bits_at
eight b X s x e = let g = stop_ok _ _ _ x e in let k = ok_is _ x g.1 in sym (ap (λ (y : ℕ × Spot). y.1.at) k)

length-later : (before : ℕ) (X : List Bool) (s : Spot) (x : Piece × Spot) → s.at ≤ length X → length_here before X s ≡ Ok x → s.at < x.1.at
unfolding length_here
length-later before X s x inside e =
    let g = bind_ok (bits_at s.at 8 X s) _ x e in
    let a = at_ok X s.at (bits_at s.at 8 X s) g.0 (sits-bits s.at 8 X s inside) g.1 in
    let b = at_ok X g.0.1.at (length_from before s.at g.0.0 X g.0.1) x (sits-length_from before s.at g.0.0 X g.0.1 a.1) g.2 in
    omega (arith, eight s.at X s g.0 g.1, b.0)

here-later : (least : ℕ) (most : Option ℕ) (before total : ℕ) (X : List Bool) (s : Spot) (x : Piece × Spot) → s.at ≤ length X → count_here least most before total X s ≡ Ok x → s.at < x.1.at
unfolding count_here
here-later least most before total X s x inside e =
    let g = bind_ok (length_here before X s) _ x e in
    let k = stop_ok _ _ _ x g.2 in
    let same : g.0 ≡ x = ok_is g.0 x k.1 in
    let h = length-later before X s g.0 inside g.1 in
    omega (arith, h, ap (λ (y : Piece × Spot). y.1.at) same)

-- a length takes some bits
pub count-later : (aligned : Bool) (least : ℕ) (most : Option ℕ) (before total : ℕ) (X : List Bool) (s : Spot) (x : Piece × Spot) → s.at ≤ length X → count_at aligned least most before total X s ≡ Ok x → (s.at < x.1.at) × (x.1.at ≤ length X)
unfolding count_at
count-later aligned least most before total X s x inside e =
    let g = bind_ok (skip_at aligned X s) _ x e in
    let a = at_ok X s.at (skip_at aligned X s) g.0 (sits-skip aligned X s inside) g.1 in
    let b = here-later least most before total X g.0.1 x a.1 g.2 in
    let c = at_ok X s.at (count_at aligned least most before total X s) x (sits-count aligned least most before total X s inside) (unfold count_at in e) in
    (omega (arith, a.0, b), c.1)

pub bind_same : {B C : Type 0} (r : Result B Stop) (f g : B → Result C Stop) → ((x : B) → r ≡ Ok x → f x ≡ g x) → (r >>= f) ≡ (r >>= g)
bind_same (Ok x) f g h = h x refl
bind_same (Err e) f g h = refl

module _ (aligned : Bool) {A : Type 0} (least : ℕ) (most : Option ℕ) (items : ℕ → Reader (List A)) (one : (n : ℕ) → SteadyReader (items n)) where
  abbrev joined : List A → Result (List A × Spot) Stop → Result (List A × Spot) Stop
  joined front r = r >>= λ b. Ok (front ++ b.0, b.1)

  -- behind a length: its items, and others where it isn't the last
  abbrev pub behind : (ℕ → ℕ → Reader (List A)) → ℕ → List Bool → Piece × Spot → Result (List A × Spot) Stop
  behind others total X n =
      elim n.0 as (λ _. Result (List A × Spot) Stop) [
        | Last k ↦ items k X n.1
        | Units k ↦ items (k * unit) X n.1 >>= λ a. others k (total + k * unit) X a.1 >>= λ b. Ok (a.0 ++ b.0, b.1)
      ]

  -- all turns that are enough for the bits that are left give the same
  turns_same : (m n before total : ℕ) (X : List Bool) (s : Spot) → s.at ≤ length X → length X < s.at + m → length X < s.at + n
      → fragments_at aligned least most items m before total X s ≡ fragments_at aligned least most items n before total X s
  unfolding fragments_at
  turns_same zero n before total X s inside h k = absurd (omega (arith, inside, h))
  turns_same (suc m) zero before total X s inside h k = absurd (omega (arith, inside, k))
  turns_same (suc m) (suc n) before total X s inside h k =
      bind_same (count_at aligned least most before total X s) (behind (λ k total. fragments_at aligned least most items m k total) total X) (behind (λ k total. fragments_at aligned least most items n k total) total X)
      (λ x e. let c = count-later aligned least most before total X s x inside e in
      by x.0 x.1 c.0 c.1 (λ k total r inside h g. turns_same m n k total X r inside h g))
    where
      by : (x : Piece) (r : Spot) → s.at < r.at → r.at ≤ length X
          → ((k total : ℕ) (r : Spot) → r.at ≤ length X → length X < r.at + m → length X < r.at + n → fragments_at aligned least most items m k total X r ≡ fragments_at aligned least most items n k total X r)
          → behind (λ k total. fragments_at aligned least most items m k total) total X (x, r) ≡ behind (λ k total. fragments_at aligned least most items n k total) total X (x, r)
      by (Last k) r past within further = refl
      by (Units j) r past within further =
          bind_same (items (j * unit) X r) (λ a. joined a.0 (fragments_at aligned least most items m j (total + j * unit) X a.1)) (λ a. joined a.0 (fragments_at aligned least most items n j (total + j * unit) X a.1))
          (λ a e. let c = at_ok X r.at (items (j * unit) X r) a (one (j * unit) X r within) e in
          ap (joined a.0) (further j (total + j * unit) a.1 c.1 (omega (arith, c.0, past, h)) (omega (arith, c.0, past, k))))

  -- what is left to read behind a fragment of so many units, when so many items were read
  abbrev pub left_at : ℕ → ℕ → Reader (List A)
  left_at before total X s = fragments_at aligned least most items (suc (length X)) before total X s

  pub left-step : (before total : ℕ) (X : List Bool) (s : Spot) → s.at ≤ length X → left_at before total X s ≡ (count_at aligned least most before total X s >>= behind left_at total X)
  unfolding fragments_at
  left-step before total X s inside =
      bind_same (count_at aligned least most before total X s) (behind (λ k total. fragments_at aligned least most items (length X) k total) total X) (behind left_at total X)
      (λ x e. let c = count-later aligned least most before total X s x inside e in by x.0 x.1 c.0 c.1)
    where
      by : (x : Piece) (r : Spot) → s.at < r.at → r.at ≤ length X → behind (λ k total. fragments_at aligned least most items (length X) k total) total X (x, r) ≡ behind left_at total X (x, r)
      by (Last k) r past within = refl
      by (Units j) r past within =
          bind_same (items (j * unit) X r) (λ a. joined a.0 (fragments_at aligned least most items (length X) j (total + j * unit) X a.1)) (λ a. joined a.0 (left_at j (total + j * unit) X a.1))
          (λ a e. let c = at_ok X r.at (items (j * unit) X r) a (one (j * unit) X r within) e in
          ap (joined a.0) (turns_same (length X) (suc (length X)) j (total + j * unit) X a.1 c.1 (omega (arith, c.0, past)) (omega (arith, c.0, past))))

  sits-left : (before total : ℕ) → SteadyReader (left_at before total)
  sits-left before total X s h = sits-fragments aligned least most items one (suc (length X)) before total X s h

  sits-behind : (total : ℕ) (X : List Bool) → Steady X (behind left_at total X)
  sits-behind total X n h = by n.0 n.1 h
    where
      by : (x : Piece) (r : Spot) → r.at ≤ length X → Sits X r.at (behind left_at total X (x, r))
      by (Last k) r i = one k X r i
      by (Units k) r i = sits_then X r.at (items (k * unit) X r) (λ a. joined a.0 (left_at k (total + k * unit) X a.1)) (one (k * unit) X r i) (λ a j.
          sits_then X a.1.at (left_at k (total + k * unit) X a.1) (λ b. Ok (a.0 ++ b.0, b.1)) (sits-left k (total + k * unit) X a.1 j) (λ b l. record { later = omega arith; inside = l }))

  front_then : (front a : List A) (r : Result (List A × Spot) Stop) → with_front front (joined a r) ≡ with_front (front ++ a) r
  front_then front a (Ok x) = ap (λ ys. Ok (ys, x.1)) (sym (append_assoc front a x.0))
  front_then front a (Err f) = refl

  -- A TURN OF THE LOOP, in front of which so much was read
  module _ (front : List A) (before total : ℕ) (X : List Bool) (s : Spot) (inside : s.at ≤ length X) where
    pub turn_fails : (limit : ℕ) (whole : List ℕ) (e : Halt) (taken : ℕ) → FailsAt limit whole e taken (count_at aligned least most before total X s) → FailsAt limit whole e taken (with_front front (left_at before total X s))
    turn_fails limit whole e taken h =
        let k = fails_first limit whole e taken X (count_at aligned least most before total X s) (behind left_at total X) (sits-count aligned least most before total X s inside).inside (sits-behind total X) h in
        let l = subst (FailsAt limit whole e taken) (sym (left-step before total X s inside)) k in
        fails_first limit whole e taken X (left_at before total X s) (λ b. Ok (front ++ b.0, b.1)) (sits-left before total X s inside).inside (λ b l. record { later = omega arith; inside = l }) l

    module _ (k : ℕ) (r : Spot) where
      pub turn_last : count_at aligned least most before total X s ≡ Ok (Last k, r) → with_front front (left_at before total X s) ≡ with_front front (items k X r)
      turn_last e = ap (with_front front) (left-step before total X s inside ∙ ap (λ c. c >>= behind left_at total X) e)

      -- the last items, which fail
      pub last_fail : (limit : ℕ) (whole : List ℕ) (e : Halt) (taken : ℕ) → count_at aligned least most before total X s ≡ Ok (Last k, r) → FailsAt limit whole e taken (items k X r) → FailsAt limit whole e taken (with_front front (left_at before total X s))
      last_fail limit whole e taken is h =
          let c = count-later aligned least most before total X s (Last k, r) inside is in
          subst (FailsAt limit whole e taken) (sym (turn_last is)) (fails_first limit whole e taken X (items k X r) (λ b. Ok (front ++ b.0, b.1)) (one k X r c.1).inside (λ b l. record { later = omega arith; inside = l }) h)

      pub turn_more : (a : List A) (q : Spot) → count_at aligned least most before total X s ≡ Ok (Units k, r) → items (k * unit) X r ≡ Ok (a, q)
          → with_front front (left_at before total X s) ≡ with_front (front ++ a) (left_at k (total + k * unit) X q)
      turn_more a q e f =
          ap (with_front front) (left-step before total X s inside ∙ ap (λ c. c >>= behind left_at total X) e ∙ ap (λ i. i >>= λ y. joined y.0 (left_at k (total + k * unit) X y.1)) f)
          ∙ front_then front a (left_at k (total + k * unit) X q)

      -- items of a fragment that fail
      pub items_fail : (limit : ℕ) (whole : List ℕ) (e : Halt) (taken : ℕ) → count_at aligned least most before total X s ≡ Ok (Units k, r) → FailsAt limit whole e taken (items (k * unit) X r) → FailsAt limit whole e taken (with_front front (left_at before total X s))
      items_fail limit whole e taken is h =
          let c = count-later aligned least most before total X s (Units k, r) inside is in
          let f = fails_first limit whole e taken X (items (k * unit) X r) (λ y. joined y.0 (left_at k (total + k * unit) X y.1)) (one (k * unit) X r c.1).inside
          (λ a j. sits_then X a.1.at (left_at k (total + k * unit) X a.1) (λ b. Ok (a.0 ++ b.0, b.1)) (sits-left k (total + k * unit) X a.1 j) (λ b l. record { later = omega arith; inside = l })) h in
          let same : left_at before total X s ≡ (items (k * unit) X r >>= λ y. joined y.0 (left_at k (total + k * unit) X y.1)) = left-step before total X s inside ∙ ap (λ c. c >>= behind left_at total X) is in
          fails_first limit whole e taken X (left_at before total X s) (λ b. Ok (front ++ b.0, b.1)) (sits-left before total X s inside).inside (λ b l. record { later = omega arith; inside = l })
          (subst (FailsAt limit whole e taken) (sym same) f)

      -- that fragment, where its items are read after those that precede it
      front_more : (i : Result (List A × Spot) Stop) → with_front front (i >>= λ y. joined y.0 (left_at k (total + k * unit) X y.1)) ≡ (with_front front i >>= λ z. joined z.0 (left_at k (total + k * unit) X z.1))
      front_more (Ok y) = front_then front y.0 (left_at k (total + k * unit) X y.1)
      front_more (Err f) = refl

      turn_is : count_at aligned least most before total X s ≡ Ok (Units k, r) → with_front front (left_at before total X s) ≡ (with_front front (items (k * unit) X r) >>= λ z. joined z.0 (left_at k (total + k * unit) X z.1))
      turn_is e = ap (with_front front) (left-step before total X s inside ∙ ap (λ c. c >>= behind left_at total X) e) ∙ front_more (items (k * unit) X r)

      pub turn_on : (all : List A) (q : Spot) → count_at aligned least most before total X s ≡ Ok (Units k, r) → with_front front (items (k * unit) X r) ≡ Ok (all, q)
          → with_front front (left_at before total X s) ≡ with_front all (left_at k (total + k * unit) X q)
      turn_on all q e f = turn_is e ∙ ap (λ z. z >>= λ z. joined z.0 (left_at k (total + k * unit) X z.1)) f

      pub turn_off : (limit : ℕ) (whole : List ℕ) (e : Halt) (taken : ℕ) → count_at aligned least most before total X s ≡ Ok (Units k, r) → FailsAt limit whole e taken (with_front front (items (k * unit) X r))
          → FailsAt limit whole e taken (with_front front (left_at before total X s))
      turn_off limit whole e taken is h =
          let c = count-later aligned least most before total X s (Units k, r) inside is in
          let i = one (k * unit) X r c.1 in
          subst (FailsAt limit whole e taken) (sym (turn_is is))
          (fails_first limit whole e taken X (with_front front (items (k * unit) X r)) (λ z. joined z.0 (left_at k (total + k * unit) X z.1)) (omega (arith, i.inside, end-front front (items (k * unit) X r)))
          (λ z j. sits_then X z.1.at (left_at k (total + k * unit) X z.1) (λ b. Ok (z.0 ++ b.0, b.1)) (sits-left k (total + k * unit) X z.1 j) (λ b l. record { later = omega arith; inside = l })) h)

  -- want of memory where so much is still to be read
  pub turn_full : (front : List A) (before total : ℕ) (X : List Bool) (s : Spot) (limit : ℕ) (whole : List ℕ) (taken : ℕ) → s.at ≤ length X → 8 * taken ≤ s.at + 7 → FailsAt limit whole memory taken (with_front front (left_at before total X s))
  turn_full front before total X s limit whole taken inside step =
      let k = sits_then X s.at (left_at before total X s) (λ b. Ok (front ++ b.0, b.1)) (sits-left before total X s inside) (λ b l. record { later = omega arith; inside = l }) in
      omega (arith, k.later, step)

-- octets or items put behind others, where memory may be missing
pub joined_shows : {A B : Type 0} (limit : ℕ) (whole : List ℕ) (view : A → List B) (r : Result A PerEnd) (front got : List B) (new : Spot) (stop : Stop) (taken : ℕ) (found : Result (List B × Spot) Stop)
    → found ≡ Ok (front ++ got, new) → 8 * taken ≤ new.at + 7 → IfOk r (λ all. view all ≡ front ++ got) → IfErr r (λ e. e ≡ fault.Memory) → Shows limit whole view r new stop taken found
joined_shows limit whole view (Ok all) front got new stop taken found is step ok err = is ∙ ap (λ bs. Ok (bs, new)) (sym ok)
joined_shows {B = B} limit whole view (Err e) front got new stop taken found is step ok err = subst (λ f. FailsAt limit whole (halt_of f stop) taken found) (sym err) (omega (arith, step, ap (end_of {B = List B}) is))
