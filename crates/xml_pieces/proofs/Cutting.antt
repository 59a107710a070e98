-- What stands before a mark, found from the front.
use Rattle.std.proofs.Common.{◌≡◌, ℕ, ◌+◌, ◌<◌, List, [], ◌∷◌, ◌++◌, length, take, drop, get_or, Option, Some, None, refl, sym, ap, ◌∙◌, append_assoc, inl, inr, add-one, drop-cons}
use Rattle.std.proofs.lemmas.List.{append-nil, take_more}
use Rattle.xml_pieces.specs.Pieces.{behind}
use Rattle.xml_pieces.specs.Reading.{put, until}
use Rattle.xml_pieces.proofs.Strips.{behind_takes}
use Rattle.xml_pieces.proofs.Tools.{ahead_cases, pairs}

-- with this before what was found
abbrev pub with_before : List ℕ → Option (List ℕ × List ℕ) → Option (List ℕ × List ℕ)
with_before front (Some r) = Some (front ++ r.0, r.1)
with_before front None = None

abbrev pub pair_some : List ℕ → List ℕ → Option (List ℕ × List ℕ)
pair_some a b = Some (a, b)

pub with_nothing : (o : Option (List ℕ × List ℕ)) → with_before [] o ≡ o
with_nothing (Some r) = refl
with_nothing None = refl

with_put : (front : List ℕ) (b : ℕ) (o : Option (List ℕ × List ℕ)) → with_before front (put b o) ≡ with_before (front ++ b ∷ []) o
with_put front b (Some r) = ap (λ (l : List ℕ). pair_some l r.1) (simp append_assoc)
with_put front b None = refl

-- past a place where the mark doesn't stand
pub until_on : (mark bytes : List ℕ) (at : ℕ) (total : Option (List ℕ × List ℕ)) → at < length bytes → behind mark (drop at bytes) ≡ None
    → with_before (take at bytes) (until mark (drop at bytes)) ≡ total → with_before (take (at + 1) bytes) (until mark (drop (at + 1) bytes)) ≡ total
until_on mark bytes at total lt none so_far =
    let b = get_or bytes at 0 in
    let cut : drop at bytes ≡ b ∷ drop (at + 1) bytes = rw (add-one, drop-cons bytes at 0) refl in
    let here : behind mark (b ∷ drop (at + 1) bytes) ≡ None = ap (behind mark) (sym cut) ∙ none in
    let step : until mark (b ∷ drop (at + 1) bytes) ≡ put b (until mark (drop (at + 1) bytes)) = rw here refl in
    let front : take (at + 1) bytes ≡ take at bytes ++ b ∷ [] = take_more bytes at 0 lt in
    rw front (sym (with_put (take at bytes) b (until mark (drop (at + 1) bytes))) ∙ ap (with_before (take at bytes)) (sym step ∙ ap (until mark) (sym cut)) ∙ so_far)

-- at a place where the mark stands
pub until_here : (mark bytes rest : List ℕ) (at : ℕ) (total : Option (List ℕ × List ℕ)) → at < length bytes → behind mark (drop at bytes) ≡ Some rest
    → with_before (take at bytes) (until mark (drop at bytes)) ≡ total → total ≡ Some (take at bytes, rest)
until_here mark bytes rest at total lt found so_far =
    let b = get_or bytes at 0 in
    let cut : drop at bytes ≡ b ∷ drop (at + 1) bytes = rw (add-one, drop-cons bytes at 0) refl in
    let here : behind mark (b ∷ drop (at + 1) bytes) ≡ Some rest = ap (behind mark) (sym cut) ∙ found in
    let step : until mark (b ∷ drop (at + 1) bytes) ≡ Some ([], rest) = rw here refl in
    sym so_far ∙ ap (λ (x : List ℕ). with_before (take at bytes) (until mark x)) cut ∙ ap (with_before (take at bytes)) step ∙ ap (λ (l : List ℕ). pair_some l rest) (append-nil (take at bytes))

pub put_takes : (b : ℕ) (o : Option (List ℕ × List ℕ)) (inner rest : List ℕ) → put b o ≡ Some (inner, rest) → (t : List ℕ) × (o ≡ Some (t, rest)) × (inner ≡ b ∷ t)
put_takes b (Some r) inner rest e =
    let both = pairs (b ∷ r.0, r.1) (inner, rest) e in
    (r.0, ap (λ (x : List ℕ). pair_some r.0 x) both.1, sym both.0)
put_takes b None inner rest e = absurd cc

pub until_takes : (mark bytes inner rest : List ℕ) → until mark bytes ≡ Some (inner, rest) → bytes ≡ inner ++ (mark ++ rest)
until_takes mark [] inner rest e = absurd cc
until_takes mark (b ∷ bs) inner rest e = elim (ahead_cases (behind mark (b ∷ bs)) (put b (until mark bs)) (λ r. Some ([], r)) (Some (inner, rest)) e) [
  | inl f ↦ (
      let both = pairs ([], f.0) (inner, rest) f.2 in
      behind_takes mark (b ∷ bs) f.0 f.1 ∙ (λ i. both.0 i ++ (mark ++ both.1 i)))
  | inr f ↦ (
      let p = put_takes b (until mark bs) inner rest f.1 in
      ap (λ (x : List ℕ). b ∷ x) (until_takes mark bs p.0 rest p.1) ∙ ap (λ (x : List ℕ). x ++ (mark ++ rest)) (sym p.2))
]
