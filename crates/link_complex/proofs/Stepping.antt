-- The first fault of the elements of a list, with one element more.
use Rattle.std.proofs.Common.{◌≡◌, ℕ, ◌+◌, ◌<◌, ◌≤◌, List, [], ◌∷◌, ◌++◌, length, take, get_or, map, Option, sym, ap, ◌∙◌, subst}
use Rattle.std.proofs.lemmas.List.{map_more, take_all}
use Rattle.link_names.specs.declared.faults.LinkingFault.{LinkingFault}
use Rattle.link_names.specs.Order.{IsFirstSuch, OneHas, first_of}
use Rattle.link_names.proofs.Firsts.{one_more_has}

pub one_mapped : {A B : Type 0} (has : B → LinkingFault → Type 0) (g : A → B) (xs : List A) (i : ℕ) (x : A) → i < length xs → x ≡ get_or xs i x
    → (o p : Option LinkingFault) → IsFirstSuch (OneHas has (map g (take i xs))) o → IsFirstSuch (has (g x)) p
    → IsFirstSuch (OneHas has (map g (take (i + 1) xs))) (first_of o p)
one_mapped has g xs i x lt is o p so_far here =
    subst (λ ys. IsFirstSuch (OneHas has ys) (first_of o p)) (sym (map_more g xs i x lt ∙ ap (λ y. map g (take i xs) ++ g y ∷ []) (sym is)))
    (one_more_has has (map g (take i xs)) (g x) o p so_far here)

-- what holds of all that was passed, at the end
pub at_end : {A B : Type 0} (P : List B → Type 0) (g : A → B) (xs ys : List A) (i : ℕ) (zs : List B) → length xs ≤ i → xs ≡ ys → map g ys ≡ zs
    → P (map g (take i xs)) → P zs
at_end P g xs ys i zs le same told h = subst P (ap (map g) (take_all i xs le ∙ same) ∙ told) h
