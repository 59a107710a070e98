-- Lists joined, with one more.
use Rattle.std.proofs.Common.{◌≡◌, ℕ, ◌+◌, ◌<◌, List, [], ◌∷◌, ◌++◌, length, take, get_or, map, Some, slice_get, sym, ap, ◌∙◌, append-nil}
use Rattle.std.specs.List.{flat_map}
use Rattle.std.proofs.lemmas.List.{take_more, map_more}
use Rattle.std.proofs.lemmas.Grind.{flat_map-append}
use Rattle.std.proofs.lemmas.Option.{slice_get_within, get_or_from_slice_get}

pub flat_more : {X A : Type 0} (f : X → List A) (xs : List X) (n : ℕ) (x : X) → slice_get xs n ≡ Some x
    → flat_map f (take (n + 1) xs) ≡ flat_map f (take n xs) ++ f x
flat_more f xs n x e =
    ap (flat_map f) (take_more xs n x (slice_get_within xs n x e) ∙ ap (λ y. take n xs ++ y ∷ []) (get_or_from_slice_get xs n x x e))
    ∙ flat_map-append f (take n xs) (x ∷ []) ∙ ap (λ ys. flat_map f (take n xs) ++ ys) (append-nil (f x))

pub mapped_more : {X Y A : Type 0} (g : X → Y) (f : Y → List A) (xs : List X) (i : ℕ) (x : X) → i < length xs → x ≡ get_or xs i x
    → flat_map f (map g (take (i + 1) xs)) ≡ flat_map f (map g (take i xs)) ++ f (g x)
mapped_more g f xs i x lt is =
    ap (flat_map f) (map_more g xs i x lt ∙ ap (λ y. map g (take i xs) ++ g y ∷ []) (sym is))
    ∙ flat_map-append f (map g (take i xs)) (g x ∷ []) ∙ ap (λ ys. flat_map f (map g (take i xs)) ++ ys) (append-nil (f (g x)))
