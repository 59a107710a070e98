-- The way down to an element.
use Rattle.std.proofs.Common.{◌≡◌, ℕ, ◌+◌, ◌<◌, List, [], ◌∷◌, ◌++◌, refl, sym, ◌∙◌, ap, arith}
use Rattle.std.specs.Prelude.{count_by, Bool, All, Option, Some, None}
use Rattle.std.proofs.lemmas.List.{append-nil, append_assoc}
use Rattle.std.proofs.lemmas.List.Elements.{All-push}
use Rattle.std.proofs.lemmas.List.Sums.{sum_by-append}
use Rattle.base_trees.specs.Rose.{Rose, roses_of, label_of, kids_of, node_count, count_all}
use Rattle.base_trees.proofs.Roses.{node_count-kids, count_all-append}
use Rattle.xml_items.specs.declared.label.ItemLabel.{ItemLabel}
use Rattle.people_complaints.specs.Paths.{BeginsBy, PathTo, Ends, root_step, IsPath}

-- where each way on from an element is one from the root, and the way ends there, the steps so far are the path
pub path_to : (at : ℕ) (items tree : Rose ItemLabel) (path steps : List ℕ) → path ≡ root_step (label_of items) ++ steps → Ends at tree
    → ((elements : List (Rose ItemLabel)) (later : List ℕ) → PathTo at tree elements later → (all : List (Rose ItemLabel)) × PathTo at items all (steps ++ later))
    → IsPath at items path
path_to at items tree path steps e ends on =
    let here = on [] [] (ends, refl) in
    record {
      elements = here.0;
      steps = steps ++ [];
      way = here.1;
      text = e ∙ ap (λ s. root_step (label_of items) ++ s) (sym (append-nil steps));
    }

-- a kid has fewer nodes
pub kid_smaller : {L : Type 0} (tree kid : Rose L) (before behind : List (Rose L)) → kids_of tree ≡ before ++ kid ∷ behind → node_count kid < node_count tree
kid_smaller tree kid before behind e =
    omega (arith, node_count-kids tree, ap (λ ts. count_all (roses_of ts)) e, count_all-append before (kid ∷ behind))

-- those up to one are all but those behind it
pub behind_counted : {X : Type 0} (p : X → Bool) (xs before behind : List X) (x : X) → xs ≡ before ++ x ∷ behind
    → count_by p (before ++ x ∷ []) + count_by p behind ≡ count_by p xs
behind_counted p xs before behind x e =
    let one : count_by p (before ++ x ∷ behind) ≡ count_by p before + count_by p (x ∷ behind) = sum_by-append _ before (x ∷ behind) in
    let two : count_by p (before ++ x ∷ []) ≡ count_by p before + count_by p (x ∷ []) = sum_by-append _ before (x ∷ []) in
    let head : count_by p (x ∷ behind) ≡ count_by p (x ∷ []) + count_by p behind = sum_by-append _ (x ∷ []) behind in
    let three : count_by p xs ≡ count_by p (before ++ x ∷ behind) = ap (λ l. count_by p l) e in
    omega (arith, one, two, three, head)

-- none of the items has come, or the last that came begins by the byte, as all before it
abbrev pub Reached : ℕ → List (Rose ItemLabel) → List (Rose ItemLabel) → Option (Rose ItemLabel × List (Rose ItemLabel)) → Type 0
Reached at all kids None = kids ≡ all
Reached at all kids (Some found) =
    (before : List (Rose ItemLabel)) × (all ≡ before ++ found.0 ∷ found.1) × All (BeginsBy at) before × BeginsBy at found.0 × (found.1 ≡ kids)

-- the next one begins by the byte too
pub reached_more : (at : ℕ) (all kids rest : List (Rose ItemLabel)) (kid : Rose ItemLabel) (found : Option (Rose ItemLabel × List (Rose ItemLabel)))
    → Reached at all kids found → kids ≡ kid ∷ rest → BeginsBy at kid → Reached at all rest (Some (kid, rest))
reached_more at all kids rest kid None here e by = ([], sym here ∙ e, λ k d lt. absurd (omega arith), by, refl)
reached_more at all kids rest kid (Some found) (before, split, earlier, last, same) e by = (
  before ++ found.0 ∷ [],
  split ∙ ap (λ l. before ++ found.0 ∷ l) (same ∙ e) ∙ sym (append_assoc before (found.0 ∷ []) (kid ∷ rest)),
  All-push (BeginsBy at) before found.0 earlier last,
  by,
  refl,
)
