-- Steps of the loops over lists whose first fault is sought.
use Rattle.std.proofs.Common.{◌≡◌, ℕ, Bool, true, false, ◌||◌, Option, Some, None, List, [], ◌∷◌, ◌++◌, refl, sym, ap, ◌∙◌, append_assoc, drop, length, min, ◌<◌, ◌≤◌, arith}
use Rattle.std.specs.Prelude.{ℤ, nat_le}
use Rattle.std.proofs.lemmas.Bool.{leb-true, leb-false}
use Rattle.std.proofs.lemmas.List.{at_drop_all}
use Rattle.module_text.specs.declared.marks.PartMark.{PartMark}
use Rattle.module_text.specs.declared.types.NumberedItem.{NumberedItem}
use Rattle.module_text.specs.declared.types.PlainName.{PlainName}
use Rattle.module_text.specs.Ranks.{rank_of_part_mark}
use Rattle.module_text.specs.declared.reasons.TextFault.{TextFault}
use Rattle.module_text.specs.declared.reasons.ModuleWhy.TheVariants.{Duplicate, Spelling}
use Rattle.module_text.specs.Listed.{fault, first}
use Rattle.module_text.specs.Told.{whole_of}
use Rattle.module_text.specs.Simple.{with_number}
use Rattle.module_text.specs.Marks.{part_mark_stands}
use Rattle.module_text.specs.Faults.{part_mark_faults, has_text, item_faults, numbered_faults, is_word_above, word_faults}
use Rattle.module_pieces.proofs.Firsts.{first-front, first-behind}

-- ---- encoding instructions of parts

pub mark-passed : (simple : Bool) (generated : List ℕ) (before : Option ℕ) (m : PartMark) (ms : List PartMark)
    → part_mark_stands simple generated before m ≡ true
    → first (part_mark_faults simple generated (Some (rank_of_part_mark m.kind)) ms) ≡ first (part_mark_faults simple generated before (m ∷ ms))
mark-passed simple generated before m ms e = rw e refl

pub mark-stopped : (simple : Bool) (generated : List ℕ) (before : Option ℕ) (m : PartMark) (ms : List PartMark)
    → part_mark_stands simple generated before m ≡ false
    → Some (fault m.at Spelling) ≡ first (part_mark_faults simple generated before (m ∷ ms))
unfolding first
mark-stopped simple generated before m ms e = rw e refl

-- ---- items with numbers

pub item-again : (before : List (List ℕ)) (last : Option ℤ) (item : NumberedItem) (items : List NumberedItem)
    → has_text before item.identifier.name ≡ true
    → Some (fault item.identifier.at Duplicate) ≡ first (numbered_faults before last (item ∷ items))
unfolding first
item-again before last item items e = rw e refl

pub item-faulty : (before : List (List ℕ)) (last : Option ℤ) (item : NumberedItem) (items : List NumberedItem) (f : TextFault)
    → has_text before item.identifier.name ≡ false
    → Some f ≡ first (item_faults last item)
    → Some f ≡ first (numbered_faults before last (item ∷ items))
item-faulty before last item items f e found = rw e (first-front (item_faults last item) _ f found)

pub item-passed : (before : List (List ℕ)) (last : Option ℤ) (item : NumberedItem) (items : List NumberedItem)
    → has_text before item.identifier.name ≡ false
    → None ≡ first (item_faults last item)
    → first (numbered_faults (before ++ item.identifier.name ∷ []) (whole_of item.number) items) ≡ first (numbered_faults before last (item ∷ items))
item-passed before last item items e none = rw e (first-behind (item_faults last item) _ _ none refl)

-- ---- their numbers

abbrev pub with_front : List ℤ → Option (List ℤ) → Option (List ℤ)
with_front xs None = None
with_front xs (Some ys) = Some (xs ++ ys)

pub front-more : (xs : List ℤ) (z : ℤ) (o : Option (List ℤ)) → with_front (xs ++ z ∷ []) o ≡ with_front xs (with_number (Some z) o)
front-more xs z None = refl
front-more xs z (Some ys) = ap Some (append_assoc xs (z ∷ []) ys)

-- ---- items without numbers

module _ (order : Bool) (before : List (List ℕ)) (last : Option (List ℕ)) (i : PlainName) (is : List PlainName) (word : List ℕ) (words : List (List ℕ)) where
  pub word-again : has_text before i.name ≡ true
      → Some (fault i.at Duplicate) ≡ first (word_faults order before last (i ∷ is) (word ∷ words))
  unfolding first
  word-again e = rw e refl

  pub word-below : has_text before i.name ≡ false → (order || is_word_above last word) ≡ false
      → Some (fault i.at Spelling) ≡ first (word_faults order before last (i ∷ is) (word ∷ words))
  unfolding first
  word-below e below = rw e (rw below refl)

  pub word-passed : has_text before i.name ≡ false → (order || is_word_above last word) ≡ true
      → first (word_faults order (before ++ i.name ∷ []) (Some word) is words) ≡ first (word_faults order before last (i ∷ is) (word ∷ words))
  word-passed e above = rw e (rw above refl)

-- where one of the lists is at its end
no_words : (order : Bool) (before : List (List ℕ)) (last : Option (List ℕ)) (is : List PlainName) → None ≡ first (word_faults order before last is [])
unfolding first
no_words order before last [] = refl
no_words order before last (i ∷ is) = refl

no_items : (order : Bool) (before : List (List ℕ)) (last : Option (List ℕ)) (words : List (List ℕ)) → None ≡ first (word_faults order before last [] words)
unfolding first
no_items order before last words = refl

pub words-ended : (order : Bool) (before : List (List ℕ)) (last : Option (List ℕ)) (is : List PlainName) (words : List (List ℕ)) (n : ℕ) (short : Bool)
    → nat_le (length is) n ≡ short → min (length is) (length words) ≤ n
    → None ≡ first (word_faults order before last (drop n is) (drop n words))
words-ended order before last is words n true e le =
    no_items order before last (drop n words)
    ∙ sym (at_drop_all (λ xs. first (word_faults order before last xs (drop n words))) is n (leb-true (length is) n e))
words-ended order before last is words n false e le =
    let over : n < length is = leb-false (length is) n e in
    no_words order before last (drop n is)
    ∙ sym (at_drop_all (λ xs. first (word_faults order before last (drop n is) xs)) words n (omega (arith, over, le)))
