-- What was taken so far of a source, and what it has left.
use Rattle.std.proofs.Common.{◌≡◌, ℕ, ◌+◌, ◌≤◌, List, ◌++◌, length, refl, sym, ap, ◌∙◌, subst, arith, take, drop, Option, Some, None}
use Rattle.std.proofs.lemmas.List.{length-take-le, take-append-le, length-append}
use Rattle.std.proofs.Math.Seq.{take-append-add, drop-append_seam}
use Rattle.std.proofs.KnownBytes.{Consumes-trans}
use Rattle.std.specs.Io.KnownBytes.{Consumes}
use Rattle.base_codecs.specs.Cursors.{LosesFirst}
use borrow.Rule.Slice.PartMut.{put_mid, post_of}

take-put_mid : (a k n : ℕ) (xs ys : List ℕ) → n ≤ length ys → a ≤ length xs → take (a + n) (put_mid a k xs ys) ≡ take a xs ++ take n ys
take-put_mid a k n xs ys h l =
    ap (λ m. take (m + n) (put_mid a k xs ys)) (sym (length-take-le a xs l)) ∙ take-append-add (take a xs) (ys ++ post_of a k xs) n
    ∙ ap (λ m. take a xs ++ m) (take-append-le n ys (post_of a k xs) h)

-- one read more, behind the octets that are there
pub read_more : (old mid new : Option (List ℕ)) (a k n : ℕ) (xs ys : List ℕ) → n ≤ length ys → a ≤ length xs
    → Consumes old mid (take a xs) → Consumes mid new (take n ys) → Consumes old new (take (a + n) (put_mid a k xs ys))
read_more old mid new a k n xs ys h l p q =
    subst (Consumes old new) (sym (take-put_mid a k n xs ys h l)) (Consumes-trans old mid new (take a xs) (take n ys) p q)

-- what is left, where it is told
pub told_rest : (old new : Option (List ℕ)) (bs left : List ℕ) → Consumes old new bs → old ≡ Some left → (rest : List ℕ) × (new ≡ Some rest) × (left ≡ bs ++ rest)
told_rest None new bs left p is = cc
told_rest (Some xs) None bs left p is = absurd p
told_rest (Some xs) (Some ys) bs left p is = let e : xs ≡ left = cc in (ys, refl, sym e ∙ p)

-- where octets came, the source lost so many
pub loses : (old new : Option (List ℕ)) (bs : List ℕ) (count : ℕ) → Consumes old new bs → length bs ≡ count → LosesFirst old new count
loses old new bs count p long left is =
    let told = told_rest old new bs left p is in
    let back : drop count left ≡ told.0 = ap (drop count) told.2 ∙ ap (λ n. drop n (bs ++ told.0)) (sym long) ∙ drop-append_seam bs told.0 in
    (omega (arith, ap length told.2, length-append bs told.0, long), told.1 ∙ ap (λ xs. Some xs) (sym back))

-- the front of a buffer that is longer has as many octets as came
pub came_length : (count : ℕ) (buf : List ℕ) → count ≤ length buf → length (take count buf) ≡ count
came_length count buf h = length-take-le count buf h
