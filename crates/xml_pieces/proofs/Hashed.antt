-- Names whose hashes differ.
use Rattle.std.proofs.Common.{◌≡◌, ℕ, Bool, true, false, List, [], ◌∷◌, map, refl, ap, ◌∙◌}
use Rattle.std.specs.List.{AllByRecursion, IsDistinct}
use Rattle.std.specs.List.Sorted.{IsPermutation, IsStrictlyIncreasing}
use Rattle.std.specs.Cmp.{eq_by_cmp_equiv}
use Rattle.std.specs.Ordering.{nat_cmp, eq_by_cmp, is_eq}
use Rattle.std.proofs.lemmas.Cmp.{nat_cmp_total, tied_itself}
use Rattle.std.proofs.lemmas.List.Sorted.{IsPermutation-sym}
use Rattle.std.proofs.lemmas.Map.Keys.{IsDistinct-head, IsDistinct-tail, IsDistinct-from_sorted, IsDistinct-IsPermutation, sorted_from_strictly_increasing}
use Rattle.base_texts.specs.declared.texts.Name.{Name}
use Rattle.base_texts.specs.Names.{name_eq}
use Rattle.base_texts.proofs.NameLaws.{name_eq-Decides}
use Rattle.xml_pieces.specs.Namespaces.{expanded_twice, has_name}
use Rattle.xml_pieces.specs.Private.Hashes.{hash_of}

abbrev pub hashes : List (Name × List ℕ) → List ℕ
hashes attributes = map (λ (a : Name × List ℕ). hash_of a.0) attributes

abbrev same : ℕ → ℕ → Bool
same = eq_by_cmp nat_cmp

differ : (a b : Name) → same (hash_of b) (hash_of a) ≡ false → name_eq a b ≡ false
differ a b apart = go (name_eq a b) refl
  where
    go : (r : Bool) → name_eq a b ≡ r → name_eq a b ≡ false
    go false e = e
    go true e = absurd (
        let is : a ≡ b = (name_eq-Decides a b).0 e in
        let tied : same (hash_of b) (hash_of a) ≡ true = ap (λ (n : Name). same (hash_of b) (hash_of n)) is ∙ ap is_eq (tied_itself nat_cmp_total (hash_of b)) in
        cc (tied, apart))

none_named : (name : Name) (xs : List (Name × List ℕ)) → AllByRecursion (λ h. same (hash_of name) h ≡ false) (hashes xs) → has_name name xs ≡ false
none_named name [] h = refl
none_named name (x ∷ xs) h = rw (differ x.0 name h.0) (none_named name xs h.1)

once : (xs : List (Name × List ℕ)) → IsDistinct same (hashes xs) → expanded_twice xs ≡ false
once [] h = refl
once (x ∷ xs) h =
    rw (none_named x.0 xs (IsDistinct-head same (hash_of x.0) (hashes xs) h)) (once xs (IsDistinct-tail same (hash_of x.0) (hashes xs) h))

-- none stands twice where the hashes ascend once they are put in order
pub told_apart : (xs : List (Name × List ℕ)) (ordered : List ℕ) → IsPermutation (hashes xs) ordered → IsStrictlyIncreasing ordered → expanded_twice xs ≡ false
told_apart xs ordered moved up =
    once xs (IsDistinct-IsPermutation same (eq_by_cmp_equiv nat_cmp_total).symm ordered (hashes xs) (IsPermutation-sym (hashes xs) ordered moved)
    (IsDistinct-from_sorted nat_cmp ordered (sorted_from_strictly_increasing ordered up)))
