-- The places that are counted, by the label and the kids of an element.
use Rattle.std.proofs.Common.{◌≡◌, ℕ, ◌<◌, ◌+◌, List, [], ◌++◌, length, drop, get_or, ap, sym, ◌∙◌, append_assoc, true, false, cond}
use Rattle.schema_read.proofs.Words.{append-nil, Name, Rose, node, roses_of, label_of, kids_of, roses_of-list_of, roses_of-drop, ItemLabel, Element, Text, is_looked_into, counted_here, counted_inside, counted_at, counted_among}

module _ (t : Rose ItemLabel) where
  pub counted_at-text : (text : List ℕ) (at : ℕ) → label_of t ≡ Text text at → [] ≡ counted_at t
  counted_at-text text at = elim t as (λ u. label_of u ≡ Text text at → [] ≡ counted_at u) [ node l ts ↦ λ is. sym (ap (λ k. counted_at (node k ts)) is) ]

  pub counted_at-element : (name : Name) (attributes : List (Name × List ℕ)) (declares : List (List ℕ × List ℕ)) (at : ℕ) → label_of t ≡ Element name attributes declares at
      → counted_here name at ++ counted_inside name (counted_among (roses_of (kids_of t))) ≡ counted_at t
  counted_at-element name attributes declares at = elim t as (λ u. label_of u ≡ Element name attributes declares at
      → counted_here name at ++ counted_inside name (counted_among (roses_of (kids_of u))) ≡ counted_at u) [
        | node l ts ↦ λ is.
            ap (λ us. counted_here name at ++ counted_inside name (counted_among us)) (roses_of-list_of ts)
            ∙ sym (ap (λ k. counted_at (node k ts)) is)
      ]

-- the kid with number i of a list, as a loop has it
pub one_more_counted : (kids : List (Rose ItemLabel)) (i : ℕ) (kid : Rose ItemLabel) → i < length kids → kid ≡ get_or kids i kid → (before : List ℕ)
    → (before ++ counted_at kid) ++ counted_among (roses_of (drop (i + 1) kids)) ≡ before ++ counted_among (roses_of (drop i kids))
one_more_counted kids i kid at here before =
    append_assoc before (counted_at kid) (counted_among (roses_of (drop (i + 1) kids)))
    ∙ ap (λ ts. before ++ counted_among ts) (sym (roses_of-drop kids i kid at here))

-- what is in an element that is looked into, and in another
pub inside_counted : (name : Name) (before inside here all : List ℕ) → is_looked_into name ≡ true → here ++ counted_inside name inside ≡ all → (before ++ here) ++ inside ≡ before ++ all
inside_counted name before inside here all is whole = append_assoc before here inside ∙ ap (λ l. before ++ l) (ap (λ b. here ++ cond b inside []) (sym is) ∙ whole)

pub nothing_counted : (name : Name) (before inside here all : List ℕ) → is_looked_into name ≡ false → here ++ counted_inside name inside ≡ all → before ++ here ≡ before ++ all
nothing_counted name before inside here all is whole = ap (λ l. before ++ l) (sym (append-nil here) ∙ (ap (λ b. here ++ cond b inside []) (sym is) ∙ whole))
