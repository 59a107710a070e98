-- A text to which pieces were put.
use Rattle.std.proofs.Common.{◌≡◌, ℕ, List, ◌++◌, ◌∙◌, ap}
use Rattle.std.proofs.lemmas.List.{append_assoc}

three : (old a b c : List ℕ) → old ++ a ++ b ++ c ≡ old ++ (a ++ b ++ c)
three old a b c = ap (λ l. l ++ c) (append_assoc old a b) ∙ append_assoc old (a ++ b) c

four : (old a b c d : List ℕ) → old ++ a ++ b ++ c ++ d ≡ old ++ (a ++ b ++ c ++ d)
four old a b c d = ap (λ l. l ++ d) (three old a b c) ∙ append_assoc old (a ++ b ++ c) d

-- what ten pieces are together
pub gathered : (old a b c d e f g h i j t u v w : List ℕ) → t ≡ old ++ a ++ b ++ c → u ≡ t ++ d ++ e ++ f → v ≡ u ++ g ++ h ++ i → w ≡ v ++ j
    → w ≡ old ++ ((a ++ b ++ c) ++ (d ++ e ++ f) ++ (g ++ h ++ i) ++ j)
gathered old a b c d e f g h i j t u v w t-is u-is v-is w-is =
    let first : t ≡ old ++ (a ++ b ++ c) = t-is ∙ three old a b c in
    let second : u ≡ old ++ (a ++ b ++ c) ++ (d ++ e ++ f) = u-is ∙ three t d e f ∙ ap (λ l. l ++ (d ++ e ++ f)) first in
    let third : v ≡ old ++ (a ++ b ++ c) ++ (d ++ e ++ f) ++ (g ++ h ++ i) = v-is ∙ three u g h i ∙ ap (λ l. l ++ (g ++ h ++ i)) second in
    w-is ∙ ap (λ l. l ++ j) third ∙ four old (a ++ b ++ c) (d ++ e ++ f) (g ++ h ++ i) j
