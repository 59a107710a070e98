-- Pieces that are joined.
use Rattle.std.proofs.Common.{◌≡◌, ℕ, suc, ◌+◌, ◌<◌, ◌≤◌, List, [], ◌∷◌, ◌++◌, length, take, drop, get_or, map, refl, sym, ap, ◌∙◌, arith, append_assoc, append-nil, Result, Ok, Err}
use Rattle.std.specs.Result.{IsOk, OnOk}
use Rattle.std.specs.List.{concat}
use Rattle.std.proofs.lemmas.List.{take_more, take-append-drop, length-append}
use Rattle.std.proofs.Math.Seq.{drop-cons}

pub concat-append : (xs ys : List (List ℕ)) → concat (xs ++ ys) ≡ concat xs ++ concat ys
concat-append [] ys = refl
concat-append (x ∷ xs) ys = ap (λ l. x ++ l) (concat-append xs ys) ∙ sym (append_assoc x (concat xs) (concat ys))

pub map-append : {X : Type 0} (f : X → List ℕ) (xs ys : List X) → map f (xs ++ ys) ≡ map f xs ++ map f ys
map-append f [] ys = refl
map-append f (x ∷ xs) ys = ap (λ l. f x ∷ l) (map-append f xs ys)

parts_split : {X : Type 0} (f : X → List ℕ) (xs : List X) (i : ℕ) (d : X) → i < length xs
    → concat (map f xs) ≡ concat (map f (take i xs)) ++ (f (get_or xs i d) ++ concat (map f (drop (suc i) xs)))
parts_split f xs i d lt =
    let e : xs ≡ take i xs ++ get_or xs i d ∷ drop (suc i) xs =
    sym (take-append-drop i xs) ∙ ap (λ l. take i xs ++ l) (drop-cons xs i d lt) in
    ap (λ l. concat (map f l)) e
    ∙ ap concat (map-append f (take i xs) (get_or xs i d ∷ drop (suc i) xs))
    ∙ concat-append (map f (take i xs)) (f (get_or xs i d) ∷ map f (drop (suc i) xs))

pub part_more : {X : Type 0} (f : X → List ℕ) (xs : List X) (i : ℕ) (d : X) → i < length xs
    → concat (map f (take i xs)) ++ f (get_or xs i d) ≡ concat (map f (take (i + 1) xs))
part_more f xs i d lt =
    ap (λ l. concat (map f (take i xs)) ++ l) (sym (append-nil (f (get_or xs i d))))
    ∙ sym (ap (λ l. concat (map f l)) (take_more xs i d lt) ∙ ap concat (map-append f (take i xs) (get_or xs i d ∷ []))
    ∙ concat-append (map f (take i xs)) (f (get_or xs i d) ∷ []))

pub part_joined : {X : Type 0} (f : X → List ℕ) (xs : List X) (i : ℕ) (d : X) (before after : List ℕ) → i < length xs
    → before ≡ concat (map f (take i xs)) → after ≡ before ++ f (get_or xs i d) → after ≡ concat (map f (take (i + 1) xs))
part_joined f xs i d before after lt so_far more = more ∙ (ap (λ l. l ++ f (get_or xs i d)) so_far ∙ part_more f xs i d lt)

-- there is room for the part at i, where there is room for all parts
pub part_fits : {X : Type 0} (f : X → List ℕ) (xs : List X) (i : ℕ) (d : X) (before : List ℕ) (room : ℕ) → i < length xs
    → before ≡ concat (map f (take i xs)) → length (concat (map f xs)) ≤ room → length before + length (f (get_or xs i d)) ≤ room
part_fits f xs i d before room lt so_far all =
    let e : length (concat (map f xs)) ≡ length before + (length (f (get_or xs i d)) + length (concat (map f (drop (suc i) xs)))) =
    ap length (parts_split f xs i d lt) ∙ length-append (concat (map f (take i xs))) (f (get_or xs i d) ++ concat (map f (drop (suc i) xs)))
    ∙ ap (λ n. length (concat (map f (take i xs))) + n) (length-append (f (get_or xs i d)) (concat (map f (drop (suc i) xs))))
    ∙ ap (λ l. length l + (length (f (get_or xs i d)) + length (concat (map f (drop (suc i) xs))))) (sym so_far) in
    omega arith

pub on_ok : {T E : Type 0} (r : Result T E) (P : Type 0) → IsOk r → OnOk r P → P
on_ok (Ok x) P is h = h
on_ok (Err e) P is h = absurd cc
