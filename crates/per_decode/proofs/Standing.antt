-- What a source of bits has ahead, as bits of the octets that it began with.
use Rattle.std.proofs.Common.{◌≡◌, ℕ, ◌+◌, ◌-◌, ◌*◌, ◌<◌, ◌≤◌, ◌^◌, min, Bool, List, ◌++◌, length, eqb, false, refl, sym, ap, ◌∙◌, arith, take, drop, Option, Some, None, Result, Ok, Err, inl, inr}
use Rattle.std.proofs.lemmas.Bool.{cases_lt, le-ltb, lt-ltb, ne_eqb}
use Rattle.std.proofs.lemmas.Nat.{pow_pos}
use Rattle.std.proofs.lemmas.List.{length-append, length-take, length-drop, take_at, drop_at, drop-drop}
use Rattle.std.specs.Prelude.{OnOk, OnErr, IfOk, IsErr, ◌↔◌, true}
use Rattle.std.specs.List.{Contains}
use Rattle.base_codecs.proofs.Padding.{has_one, no_one}
use Rattle.std.specs.Io.KnownBytes.{IsAtEnd}
use Rattle.base_codecs.specs.Bits.{bits, number, octet_bits, gap}
use Rattle.base_codecs.specs.Cursors.{IsInStep, LosesFirst, ahead}
use Rattle.base_codecs.proofs.BitLemmas.{length-octet_bits, length-bits, number-bits}
use Rattle.base_codecs.specs.declared.spots.Spot.{Spot}
use Rattle.per_fields.specs.declared.stops.Why.TheVariants.{Short, Padding}
use Rattle.per_fields.specs.Reading.{bits_at, align_at, stop_at, moved}
use Rattle.per_decode.specs.Private.Standing.{IsAt}
use Rattle.per_decode.specs.Private.Giving.{input, spot, end_of, IsRead}

pub length-input : (limit : ℕ) (whole : List ℕ) → length (input limit whole) ≡ 8 * min limit (length whole)
length-input limit whole = length-octet_bits (take limit whole) ∙ ap (λ n. 8 * n) (length-take limit whole)

-- what stands behind so many bits
pub stands : (n x p : ℕ) (X rest : List Bool) → drop p X ≡ bits n x ++ rest → rest ≡ drop (p + n) X
stands n x p X rest e = sym (sym (drop-drop n p X) ∙ ap (drop n) e ∙ drop_at (bits n x) rest n (length-bits n x))

pub reads_bits : (b n x : ℕ) (X rest : List Bool) (s : Spot) → s.at ≤ length X → drop s.at X ≡ bits n x ++ rest → x < 2 ^ n → bits_at b n X s ≡ Ok (x, moved s n 0)
unfolding bits_at
reads_bits b n x X rest s inside e lt =
    let long : length X - s.at ≡ n + length rest = sym (length-drop s.at X) ∙ ap length e ∙ length-append (bits n x) rest ∙ ap (λ m. m + length rest) (length-bits n x) in
    let t : number (take n (drop s.at X)) ≡ x = ap (λ m. number (take n m)) e ∙ ap number (take_at (bits n x) rest n (length-bits n x)) ∙ number-bits n x lt in
    rw (le-ltb (length X) (s.at + n) (omega arith)) (rw t refl)

pub reads_short : (b n : ℕ) (X : List Bool) (s : Spot) (e : ℕ) → length X ≡ e → e < s.at + n → bits_at b n X s ≡ Err (stop_at b Short e)
unfolding bits_at
reads_short b n X s e long h = rw long (rw (lt-ltb e (s.at + n) h) refl)

pub fails_bits : (b n taken : ℕ) (X : List Bool) (s : Spot) → 8 * taken ≤ length X → 8 * taken < s.at + n → (8 * taken ≤ end_of (bits_at b n X s) + 7) × (IsRead (bits_at b n X s) → 8 * taken < end_of (bits_at b n X s))
unfolding bits_at
fails_bits b n taken X s h k =
    elim (cases_lt (length X) (s.at + n)) [
      | inl lt ↦ rw (lt-ltb (length X) (s.at + n) lt) (omega arith, λ r. absurd r)
      | inr le ↦ rw (le-ltb (length X) (s.at + n) le) (omega arith, λ r. k)
    ]

-- the octets that are left, when some more were taken
pub later : (whole : List ℕ) (t t' : ℕ) (old new : Option (List ℕ)) → t ≤ t' → t ≤ length whole → old ≡ Some (drop t whole) → LosesFirst old new (t' - t)
    → (t' ≤ length whole) × (new ≡ Some (drop t' whole))
later whole t t' old new le inside is took =
    let k = took (drop t whole) is in
    let e : t + (t' - t) ≡ t' = omega arith in
    (omega (arith, k.0, length-drop t whole), k.1 ∙ ap (λ xs. Some xs) (drop-drop (t' - t) t whole ∙ ap (λ n. drop n whole) e))

-- where a source stands after bits were taken, or weren't
pub at_after : {E : Type 0} (r : Result ℕ E) (whole : List ℕ) (limit n p p' t t' h h' l l' : ℕ) (old new : Option (List ℕ))
    → l ≡ limit → l' ≡ l → IsInStep p t → t ≤ t' → p ≤ 8 * t → OnOk r ((p' ≡ p + n) × IsInStep p' t') → OnErr r ((p' ≡ p) × (h' ≡ h))
    → ((left : List ℕ) → old ≡ Some left → IfOk r (λ x. ahead p t h l left ≡ bits n x ++ ahead p' t' h' l' (drop (t' - t) left))) → LosesFirst old new (t' - t)
    → IsAt whole limit p t h old → IsAt whole limit p' t' h' new
at_after (Ok x) whole limit n p p' t t' h h' l l' old new el el' step le far moved stays taken took at =
    let k = later whole t t' old new le at.inside at.rest took in
    let e : drop (t' - t) (drop t whole) ≡ drop t' whole = drop-drop (t' - t) t whole ∙ ap (λ m. drop m whole) (omega arith) in
    let here : drop p (input limit whole) ≡ bits n x ++ ahead p' t' h' limit (drop t' whole) =
    sym (at.bits step) ∙ ap (λ m. ahead p t h m (drop t whole)) (sym el) ∙ taken (drop t whole) at.rest
    ∙ ap (λ m. bits n x ++ ahead p' t' h' m (drop (t' - t) (drop t whole))) (el' ∙ el) ∙ ap (λ xs. bits n x ++ ahead p' t' h' limit xs) e in
    record { inside = k.0; rest = k.1; bits = λ s. stands n x p (input limit whole) _ here ∙ ap (λ m. drop m (input limit whole)) (sym moved.0) }
at_after (Err f) whole limit n p p' t t' h h' l l' old new el el' step le far moved stays taken took at =
    let k = later whole t t' old new le at.inside at.rest took in
    record {
      inside = k.0;
      rest = k.1;
      bits = λ s.
          let same : t' ≡ t = omega (arith, stays.0) in
          rw (stays.0, stays.1, same) (at.bits step);
    }

-- no octet is left: so many there were
pub at-end : (whole : List ℕ) (t : ℕ) (new : Option (List ℕ)) → t ≤ length whole → new ≡ Some (drop t whole) → IsAtEnd new → length whole ≡ t
at-end whole t None inside is end = absurd cc
at-end whole t (Some xs) inside is end = let e : xs ≡ drop t whole = cc in omega (arith, inside, ap length e, ap length end, length-drop t whole)

pub same_spot : (m n k l : ℕ) → m ≡ n → k ≡ l → spot m k ≡ spot n l
same_spot m n k l p q = ap (λ m. spot m k) p ∙ ap (λ k. spot n k) q

-- bits that are all 0, and some that are 1
pub none_held : (n h : ℕ) → h < 2 ^ n → (Contains (bits n h) true → ⊥) → h ≡ 0
none_held n h fits none = elim (cases_lt 0 h) [ inl some ↦ absurd (none (has_one n h fits some)) | inr le ↦ omega arith ]

pub some_held : (n h : ℕ) → Contains (bits n h) true → 0 < h
some_held n h some = elim (cases_lt 0 h) [ inl lt ↦ lt | inr le ↦ (let z : h ≡ 0 = omega arith in absurd (no_one n (rw z at some))) ]

pub padding_held : {A E : Type 0} (r : Result A E) (n h : ℕ) → h < 2 ^ n → (IsErr r ↔ Contains (bits n h) true) → OnOk r (h ≡ 0) × OnErr r (0 < h)
padding_held (Ok x) n h fits iff = (none_held n h fits (λ k. absurd (cc (iff.1 k))), tt)
padding_held (Err x) n h fits iff = (tt, some_held n h (iff.0 refl))

-- a position is inside the bits that may be read
pub stands_inside : (p t h l limit : ℕ) (whole : List ℕ) (old : Option (List ℕ)) → l ≡ limit → p ≤ 8 * t → t ≤ l → IsAt whole limit p t h old → p ≤ length (input limit whole)
stands_inside p t h l limit whole old same far within at = omega (arith, length-input limit whole, at.inside, same, far, within)

-- A CALL FOR BITS, from a source that stands at a position
module _ (b n p t h l nodes limit : ℕ) (whole : List ℕ) (old : Option (List ℕ)) (same : l ≡ limit) (step : IsInStep p t) (far : p ≤ 8 * t) (within : t ≤ l) (at : IsAt whole limit p t h old) where
  inside : p ≤ length (input limit whole)
  inside = omega (arith, length-input limit whole, at.inside, same, far, within)

  pub taken_bits : (x p' t' h' l' : ℕ) → p' ≡ p + n → x < 2 ^ n
      → ((left : List ℕ) → old ≡ Some left → ahead p t h l left ≡ bits n x ++ ahead p' t' h' l' (drop (t' - t) left))
      → bits_at b n (input limit whole) (spot p nodes) ≡ Ok (x, spot p' nodes)
  taken_bits x p' t' h' l' moved lt came =
      let here : drop p (input limit whole) ≡ bits n x ++ ahead p' t' h' l' (drop (t' - t) (drop t whole)) =
      sym (at.bits step) ∙ ap (λ m. ahead p t h m (drop t whole)) (sym same) ∙ came (drop t whole) at.rest in
      reads_bits b n x (input limit whole) _ (spot p nodes) inside here lt ∙ ap (λ r. Ok (x, r)) (same_spot _ _ _ _ (sym moved) (omega arith))

  pub failed_bits : (t' l' : ℕ) (new : Option (List ℕ)) → l' ≡ l → t ≤ t' → t' ≤ l' → LosesFirst old new (t' - t) → 8 * t' < p + n
      → (8 * t' ≤ end_of (bits_at b n (input limit whole) (spot p nodes)) + 7) × (IsRead (bits_at b n (input limit whole) (spot p nodes)) → 8 * t' < end_of (bits_at b n (input limit whole) (spot p nodes)))
  failed_bits t' l' new el le room took missing =
      let k = later whole t t' old new le at.inside at.rest took in
      fails_bits b n t' (input limit whole) (spot p nodes) (omega (arith, length-input limit whole, k.0, same, el, room)) missing

  pub short_bits : (t' : ℕ) (new : Option (List ℕ)) → t ≤ t' → LosesFirst old new (t' - t) → 8 * t' < p + n → t' < l → IsAtEnd new
      → (bits_at b n (input limit whole) (spot p nodes) ≡ Err (stop_at b Short (8 * t'))) × (length whole < limit)
  short_bits t' new le took missing room end =
      let k = later whole t t' old new le at.inside at.rest took in
      let e : length whole ≡ t' = at-end whole t' new k.0 k.1 end in
      (reads_short b n (input limit whole) (spot p nodes) (8 * t') (omega (arith, length-input limit whole, e, same, room)) missing, omega (arith, e, same, room))

  pub long_bits : (t' : ℕ) (new : Option (List ℕ)) → t ≤ t' → LosesFirst old new (t' - t) → 8 * t' < p + n → t' ≡ l
      → (bits_at b n (input limit whole) (spot p nodes) ≡ Err (stop_at b Short (8 * t'))) × (limit ≤ length whole)
  long_bits t' new le took missing room =
      let k = later whole t t' old new le at.inside at.rest took in
      (reads_short b n (input limit whole) (spot p nodes) (8 * t') (omega (arith, length-input limit whole, k.0, same, room)) missing, omega (arith, k.0, same, room))

  pub padding_ok : (p' : ℕ) → h ≡ 0 → p' ≡ 8 * t → align_at (input limit whole) (spot p nodes) ≡ Ok (0, spot p' nodes)
  unfolding align_at
  padding_ok p' zero_held moved =
      let g : gap p ≡ 8 * t - p = omega (arith, step, far) in
      let r : bits_at p (8 * t - p) (input limit whole) (spot p nodes) ≡ Ok (0, record { at = p + (8 * t - p); nodes = nodes + 0 }) =
      reads_bits p (8 * t - p) 0 (input limit whole) _ (spot p nodes) inside (sym (at.bits step) ∙ ap (λ m. bits (8 * t - p) m ++ octet_bits (take (limit - t) (drop t whole))) zero_held) (pow_pos (8 * t - p)) in
      rw g (rw r (ap (λ s. Ok (0, s)) (same_spot _ _ _ _ (omega (arith, moved, far)) (omega arith))))

  pub padding_err : 0 < h → h < 2 ^ (8 * t - p) → align_at (input limit whole) (spot p nodes) ≡ Err (stop_at p Padding (p + gap p))
  unfolding align_at
  padding_err some fits =
      let g : gap p ≡ 8 * t - p = omega (arith, step, far) in
      let r : bits_at p (8 * t - p) (input limit whole) (spot p nodes) ≡ Ok (h, record { at = p + (8 * t - p); nodes = nodes + 0 }) =
      reads_bits p (8 * t - p) h (input limit whole) _ (spot p nodes) inside (sym (at.bits step)) fits in
      let ne : eqb h 0 ≡ false = ne_eqb h 0 (omega arith) in
      rw g (rw r (rw ne refl))

  pub at_aligned : (p' t' h' : ℕ) (new : Option (List ℕ)) → h ≡ 0 → p' ≡ 8 * t → t' ≡ t → h' ≡ 0 → new ≡ old → IsAt whole limit p' t' h' new
  unfolding bits
  at_aligned p' t' h' new zero_held moved et eh enew =
      let here : octet_bits (take (limit - t) (drop t whole)) ≡ drop (p + (8 * t - p)) (input limit whole) = stands (8 * t - p) h p (input limit whole) _ (sym (at.bits step)) in
      let e : p + (8 * t - p) ≡ 8 * t = omega (arith, far) in
      let z : 8 * t - 8 * t ≡ 0 = omega arith in
      rw (enew, et, moved, eh) (record { inside = at.inside; rest = at.rest; bits = λ s. rw z (here ∙ ap (λ m. drop m (input limit whole)) e) })

  pub at_align : {A E : Type 0} (r : Result A E) (p' t' h' : ℕ) (new : Option (List ℕ)) → t' ≡ t → new ≡ old → OnOk r (h ≡ 0) → OnOk r ((p' ≡ 8 * t) × (h' ≡ 0)) → OnErr r ((p' ≡ p) × (h' ≡ h)) → IsAt whole limit p' t' h' new
  at_align (Ok x) p' t' h' new et enew zero_held moved stays = at_aligned p' t' h' new zero_held moved.0 et moved.1 enew
  at_align (Err x) p' t' h' new et enew zero_held moved stays = rw (enew, et, stays.0, stays.1) at
