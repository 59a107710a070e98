-- The kids of an element are taken apart and put together.
use Rattle.std.proofs.Common.{◌≡◌, ℕ, suc, List, [], ◌∷◌, length, refl, sym, ◌∙◌, ap, subst, arith}
use Rattle.base_trees.specs.Rose.{node, Roses, none, more, length_all}
use Rattle.xml_items.specs.Plain.{Plain, element, text}
use Rattle.xml_items.specs.Mixing.{text_before, interleaved, child_elements, behind_first, texts_between, AllElements, NoTextFirst, AreTidy}
use Rattle.xml_items.specs.MixedLaws.{TakesApart, PutsTogether}

all_elements : (items : Roses Plain) → AllElements (child_elements items)
all_elements none = tt
all_elements (more (node (element name xs) ks) items) = (tt, all_elements items)
all_elements (more (node (text words) ks) items) = all_elements items

-- the first text is empty where none comes first
no_text_first : (items : Roses Plain) → NoTextFirst items → texts_between items ≡ [] ∷ behind_first (texts_between items)
no_text_first none h = refl
no_text_first (more (node (element name xs) ks) items) h = refl
no_text_first (more (node (text words) ks) items) h = absurd h

put_first : (words : List ℕ) (items : Roses Plain) (texts : List (List ℕ)) → (words ≡ [] → ⊥) → NoTextFirst items → interleaved ([] ∷ texts) (child_elements items) ≡ items
    → interleaved (words ∷ texts) (child_elements items) ≡ more (node (text words) none) items
put_first [] items texts h n g = absurd (h refl)
put_first (b ∷ bs) none texts h n g = refl
put_first (b ∷ bs) (more (node (element name xs) ks) items) texts h n g = ap (λ s. more (node (text (b ∷ bs)) none) s) g
put_first (b ∷ bs) (more (node (text words) ks) items) texts h n g = absurd n

together_again : (items : Roses Plain) → AreTidy items → interleaved (texts_between items) (child_elements items) ≡ items
together_again none h = refl
together_again (more (node (element name xs) ks) items) h = ap (λ s. more (node (element name xs) ks) s) (together_again items h)
together_again (more (node (text words) ks) items) (some, is, first, h) =
    let e = no_text_first items first in
    let g : interleaved ([] ∷ behind_first (texts_between items)) (child_elements items) ≡ items = subst (λ s. interleaved s (child_elements items) ≡ items) e (together_again items h) in
    put_first words items (behind_first (texts_between items)) some first g ∙ ap (λ s. more s items) (sym is)

counted : (items : Roses Plain) → AreTidy items → length (texts_between items) ≡ suc (length_all (child_elements items))
counted none h = refl
counted (more (node (element name xs) ks) items) h = omega (arith, counted items h)
counted (more (node (text words) ks) items) (some, is, first, h) =
    let e : length (texts_between items) ≡ suc (length (behind_first (texts_between items))) = ap length (no_text_first items first) in
    let c = counted items h in
    omega (arith, e, c)

pub takes_apart : TakesApart
takes_apart items h = (together_again items h, all_elements items, counted items h)

put_tidy : (words : List ℕ) (items : Roses Plain) → NoTextFirst items → AreTidy items → AreTidy (text_before words items)
put_tidy [] items n h = h
put_tidy (b ∷ bs) items n h = ((λ e. cc), refl, n, h)

put_texts : (words : List ℕ) (items : Roses Plain) (texts : List (List ℕ)) → texts_between items ≡ [] ∷ texts → texts_between (text_before words items) ≡ words ∷ texts
put_texts [] items texts e = e
put_texts (b ∷ bs) items texts e = ap (λ z. (b ∷ bs) ∷ behind_first z) e

pub put_elements : (words : List ℕ) (items : Roses Plain) → child_elements (text_before words items) ≡ child_elements items
put_elements [] items = refl
put_elements (b ∷ bs) items = refl

pub puts_together : PutsTogether
puts_together [] none a l = absurd (omega (arith, l))
puts_together [] (more e es) a l = absurd (omega (arith, l))
puts_together (words ∷ []) none a l = (put_tidy words none tt tt, put_texts words none [] refl, put_elements words none)
puts_together (words ∷ others ∷ texts) none a l = absurd (omega (arith, l))
puts_together (words ∷ texts) (more (node (text s) ks) es) a l = absurd a.0
puts_together (words ∷ texts) (more (node (element name xs) ks) es) a l =
    let r = puts_together texts es a.1 (omega (arith, l)) in
    let items = more (node (element name xs) ks) (interleaved texts es) in
    (put_tidy words items tt r.0, put_texts words items texts (ap (λ z. [] ∷ z) r.1), put_elements words items ∙ ap (λ z. more (node (element name xs) ks) z) r.2)

-- texts change no child element
pub interleaved_elements : (texts : List (List ℕ)) (items : Roses Plain) → child_elements (interleaved texts items) ≡ child_elements items
interleaved_elements [] items = refl
interleaved_elements (words ∷ texts) none = put_elements words none
interleaved_elements (words ∷ texts) (more (node (element name xs) ks) items) =
    put_elements words (more (node (element name xs) ks) (interleaved texts items)) ∙ ap (λ s. more (node (element name xs) ks) s) (interleaved_elements texts items)
interleaved_elements (words ∷ texts) (more (node (text s) ks) items) =
    put_elements words (more (node (text s) ks) (interleaved texts items)) ∙ interleaved_elements texts items
