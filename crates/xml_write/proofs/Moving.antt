-- Bytes that are moved up, the last first.
use Rattle.std.proofs.Common.{◌≡◌, ℕ, List, ◌++◌, ◌+◌, ◌-◌, ◌≤◌, length, take, drop, sym, ap, ◌∙◌, append_assoc, arith}
use Rattle.std.proofs.lemmas.List.{take-take, take-append-le, length-take-le, take-append-drop, drop_at, drop-drop, drop-take, length-drop}
use Rattle.std.proofs.lemmas.List.Edits.{length-paste}
use lib.Seq.{paste}

-- the first ones stand where they stood, and the others where they belong
pub record Moved (gap left : ℕ) (old bytes : List ℕ) : Type 0 where
  pub long : length bytes ≡ length old
  pub within : left + gap ≤ length old
  pub front : take left bytes ≡ take left old
  pub back : drop (left + gap) bytes ≡ drop left (take (length old - gap) old)

kept-front : (left at n : ℕ) (old bytes other : List ℕ) → left ≤ at → at ≤ length bytes → take (left + n) bytes ≡ take (left + n) old → take left (take at bytes ++ other) ≡ take left old
kept-front left at n old bytes other le within front =
    take-append-le left (take at bytes) other (omega (arith, length-take-le at bytes within)) ∙ take-take left at bytes le
    ∙ sym (take-take left (left + n) bytes (omega arith)) ∙ ap (take left) front ∙ take-take left (left + n) old (omega arith)

further-back : (gap left n : ℕ) (old bytes : List ℕ) → length bytes ≡ length old → (left + n) + gap ≤ length old → take (left + n) bytes ≡ take (left + n) old
    → drop ((left + n) + gap) bytes ≡ drop (left + n) (take (length old - gap) old) → drop (left + gap) (take (left + gap) bytes ++ (take n (drop left bytes) ++ drop ((left + gap) + n) bytes)) ≡ drop left (take (length old - gap) old)
further-back gap left n old bytes long within front back =
    let rest = take (length old - gap) old in
    let same : (left + gap) + n ≡ (left + n) + gap = omega arith in
    drop_at (take (left + gap) bytes) (take n (drop left bytes) ++ drop ((left + gap) + n) bytes) (left + gap) (length-take-le (left + gap) bytes (omega arith))
    ∙ ap (λ t. t ++ drop ((left + gap) + n) bytes) (sym (drop-take left n bytes) ∙ ap (drop left) (front ∙ sym (take-take (left + n) (length old - gap) old (omega arith))) ∙ drop-take left n rest)
    ∙ ap (λ k. take n (drop left rest) ++ drop k bytes) same
    ∙ ap (λ t. take n (drop left rest) ++ t) (back ∙ sym (drop-drop n left rest))
    ∙ take-append-drop n (drop left rest)

-- n more are moved
pub moved-on : (gap left n was : ℕ) (old bytes new : List ℕ) → was ≡ left + n → Moved gap was old bytes → new ≡ paste bytes (left + gap) (drop left bytes) n → Moved gap left old new
moved-on gap left n was old bytes new e moved is =
    let within : (left + n) + gap ≤ length old = omega (arith, moved.within) in
    let front : take (left + n) bytes ≡ take (left + n) old = ap (λ k. take k bytes) (sym e) ∙ moved.front ∙ ap (λ k. take k old) e in
    let back : drop ((left + n) + gap) bytes ≡ drop (left + n) (take (length old - gap) old) = ap (λ k. drop (k + gap) bytes) (sym e) ∙ moved.back ∙ ap (λ k. drop k (take (length old - gap) old)) e in
    let parts : new ≡ take (left + gap) bytes ++ (take n (drop left bytes) ++ drop ((left + gap) + n) bytes) = is ∙ append_assoc (take (left + gap) bytes) (take n (drop left bytes)) (drop ((left + gap) + n) bytes) in
    record {
      long = ap length is ∙ length-paste bytes (left + gap) (drop left bytes) n (omega (arith, moved.long)) (omega (arith, moved.long, length-drop left bytes)) ∙ moved.long;
      within = omega arith;
      front = ap (take left) parts ∙ kept-front left (left + gap) n old bytes (take n (drop left bytes) ++ drop ((left + gap) + n) bytes) (omega arith) (omega (arith, moved.long)) front;
      back = ap (drop (left + gap)) parts ∙ further-back gap left n old bytes moved.long within front back;
    }
