-- Lists of types, and values that are equal.
use Rattle.std.proofs.Common.{◌≡◌, ℕ, zero, suc, ◌+◌, ◌<◌, ◌≤◌, List, [], ◌∷◌, ◌++◌, refl, sym, ap, ◌∙◌, arith, length, get_or, take}
use Rattle.std.proofs.lemmas.List.{take_more}
use Rattle.base_trees.specs.Rose.{Rose, node, roses_of, label_of, kids_of, node_count, count_all}
use Rattle.base_trees.proofs.Roses.{node-parts}
use Rattle.simple_types.specs.declared.simples.Simple.{Simple}
use Rattle.simple_types.specs.Space.{Spaces, none, more}
use Rattle.simple_types.specs.Seen.{space_of, spaces_in}
use Rattle.simple_types.specs.Joining.{joined}

pub joined-none : (ss : Spaces) → ss ≡ joined ss none
joined-none none = refl
joined-none (more s ss) = ap (more s) (joined-none ss)

pub joined-assoc : (a b c : Spaces) → joined (joined a b) c ≡ joined a (joined b c)
joined-assoc none b c = refl
joined-assoc (more s ss) b c = ap (more s) (joined-assoc ss b c)

pub spaces-append : (xs ys : List Simple) → spaces_in (xs ++ ys) ≡ joined (spaces_in xs) (spaces_in ys)
spaces-append [] ys = refl
spaces-append (x ∷ xs) ys = ap (more (space_of x)) (spaces-append xs ys)

-- one more is copied
pub copied_more : (start : Spaces) (out members : List Simple) (i : ℕ) (d copied : Simple) → i < length members → spaces_in out ≡ joined start (spaces_in (take i members))
    → space_of copied ≡ space_of (get_or members i d) → spaces_in (out ++ copied ∷ []) ≡ joined start (spaces_in (take (i + 1) members))
copied_more start out members i d copied below so_far same =
    let member = get_or members i d in
    spaces-append out (copied ∷ [])
    ∙ ap (λ s. joined (spaces_in out) (more s none)) same
    ∙ ap (λ ss. joined ss (more (space_of member) none)) so_far
    ∙ joined-assoc start (spaces_in (take i members)) (more (space_of member) none)
    ∙ ap (joined start) (sym (ap spaces_in (take_more members i d below) ∙ spaces-append (take i members) (member ∷ [])))

pub same_tree : {L : Type 0} (a b : Rose L) → label_of a ≡ label_of b → kids_of a ≡ kids_of b → a ≡ b
same_tree a b labels kids =
    sym (node-parts a) ∙ ap (λ l. node l (roses_of (kids_of a))) labels ∙ ap (λ ks. node (label_of b) (roses_of ks)) kids ∙ node-parts b

pub kid_part : {L : Type 0} (ts : List (Rose L)) (i : ℕ) (d : Rose L) → i < length ts → node_count (get_or ts i d) ≤ count_all (roses_of ts)
kid_part [] i d below = absurd (omega arith)
kid_part (t ∷ ts) zero d below = omega arith
kid_part (t ∷ ts) (suc i) d below = let inner = kid_part ts i d (omega arith) in omega arith
