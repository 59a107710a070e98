-- Items one after the other, as a loop reads them.
use Rattle.std.proofs.Common.{◌≡◌, ℕ, zero, suc, ◌<◌, ◌≤◌, List, [], ◌∷◌, ◌++◌, length, Option, Some, None, refl, sym, ap, ◌∙◌, append_assoc, arith}
use Rattle.std.proofs.lemmas.List.{append-nil}
use Rattle.xml_pieces.specs.Reading.{ahead, before, many}

-- each item takes a byte at least
pub record Consumes {A : Type 0} (item : List ℕ → Option (A × List ℕ)) : Type 0 where
  pub less : (bytes : List ℕ) (x : A) (rest : List ℕ) → item bytes ≡ Some (x, rest) → length rest < length bytes

at_end : {A : Type 0} (item : List ℕ → Option (A × List ℕ)) → Consumes item → (o : Option (A × List ℕ)) → item [] ≡ o → o ≡ None
at_end item c None e = refl
at_end item c (Some x) e = absurd (omega (arith, c.less [] x.0 x.1 e))

go : {A : Type 0} (item : List ℕ → Option (A × List ℕ)) → Consumes item → (bytes : List ℕ) (m n : ℕ) → length bytes ≤ suc m → length bytes ≤ suc n
    → ((rest : List ℕ) → length rest ≤ m → length rest ≤ n → many item m rest ≡ many item n rest) → (o : Option (A × List ℕ)) → item bytes ≡ o
    → ahead o ([], bytes) (λ x. before x.0 (many item m x.1)) ≡ ahead o ([], bytes) (λ x. before x.0 (many item n x.1))
go item c bytes m n p q same None e = refl
go item c bytes m n p q same (Some x) e = ap (before x.0) (same x.1 (omega (arith, c.less bytes x.0 x.1 e)) (omega (arith, c.less bytes x.0 x.1 e)))

nothing : {A : Type 0} (item : List ℕ → Option (A × List ℕ)) → Consumes item → (n : ℕ) → many item n [] ≡ ([], [])
nothing item c zero = refl
nothing item c (suc n) = rw (at_end item c (item []) refl) refl

empty : {A : Type 0} (item : List ℕ → Option (A × List ℕ)) → Consumes item → (n : ℕ) (bytes : List ℕ) → length bytes ≤ 0 → many item n bytes ≡ ([], bytes)
empty item c n [] le = nothing item c n
empty item c n (b ∷ bs) le = absurd (omega arith)

-- more than enough is enough
pub enough : {A : Type 0} (item : List ℕ → Option (A × List ℕ)) → Consumes item → (m n : ℕ) (bytes : List ℕ) → length bytes ≤ m → length bytes ≤ n → many item m bytes ≡ many item n bytes
enough item c zero n bytes p q = sym (empty item c n bytes p)
enough item c (suc m) zero bytes p q = empty item c (suc m) bytes q
enough item c (suc m) (suc n) bytes p q = go item c bytes m n p q (λ rest a b. enough item c m n rest a b) (item bytes) refl

abbrev pub with_front : {A : Type 0} → List A → List A × List ℕ → List A × List ℕ
with_front front r = (front ++ r.0, r.1)

fuel : {A : Type 0} (item : List ℕ → Option (A × List ℕ)) → Consumes item → (bytes : List ℕ) (o : Option (A × List ℕ)) → item bytes ≡ o
    → ahead o ([], bytes) (λ x. before x.0 (many item (length bytes) x.1)) ≡ ahead o ([], bytes) (λ x. before x.0 (many item (length x.1) x.1))
fuel item c bytes None e = refl
fuel item c bytes (Some x) e = ap (before x.0) (enough item c (length bytes) (length x.1) x.1 (omega (arith, c.less bytes x.0 x.1 e)) (omega arith))

regroup : {A : Type 0} (front : List A) (x : A) (r : List A × List ℕ) → with_front front (before x r) ≡ with_front (front ++ x ∷ []) r
regroup {A} front x r = ap (λ (l : List A). (l, r.1)) (simp append_assoc)

ends : {A : Type 0} (front : List A) (bytes : List ℕ) → with_front front ([], bytes) ≡ (front, bytes)
ends {A} front bytes = ap (λ (l : List A). (l, bytes)) (append-nil front)

unfolded : {A : Type 0} (item : List ℕ → Option (A × List ℕ)) → Consumes item → (bytes : List ℕ) → many item (length bytes) bytes ≡ ahead (item bytes) ([], bytes) (λ x. before x.0 (many item (length x.1) x.1))
unfolded item c bytes = enough item c (length bytes) (suc (length bytes)) bytes (omega arith) (omega arith) ∙ fuel item c bytes (item bytes) refl

pub goes_on : {A : Type 0} (item : List ℕ → Option (A × List ℕ)) → Consumes item → (front : List A) (bytes : List ℕ) (x : A) (rest : List ℕ) (total : List A × List ℕ) → item bytes ≡ Some (x, rest)
    → with_front front (many item (length bytes) bytes) ≡ total → with_front (front ++ x ∷ []) (many item (length rest) rest) ≡ total
goes_on item c front bytes x rest total e so_far =
    let one : many item (length bytes) bytes ≡ before x (many item (length rest) rest) = unfolded item c bytes ∙ (let r : ahead (item bytes) ([], bytes) (λ y. before y.0 (many item (length y.1) y.1)) ≡ before x (many item (length rest) rest) = rw e refl in r) in
    let moved : with_front front (many item (length bytes) bytes) ≡ with_front (front ++ x ∷ []) (many item (length rest) rest) = rw one (regroup front x (many item (length rest) rest)) in
    sym moved ∙ so_far

pub is_done : {A : Type 0} (item : List ℕ → Option (A × List ℕ)) → Consumes item → (front : List A) (bytes : List ℕ) (total : List A × List ℕ) → item bytes ≡ None
    → with_front front (many item (length bytes) bytes) ≡ total → total ≡ (front, bytes)
is_done item c front bytes total e so_far =
    let one : many item (length bytes) bytes ≡ ([], bytes) = unfolded item c bytes ∙ (let r : ahead (item bytes) ([], bytes) (λ y. before y.0 (many item (length y.1) y.1)) ≡ ([], bytes) = rw e refl in r) in
    let stop : with_front front (many item (length bytes) bytes) ≡ (front, bytes) = rw one (ends front bytes) in
    sym so_far ∙ stop

pub one_more : {A : Type 0} (item : List ℕ → Option (A × List ℕ)) → Consumes item → (bytes : List ℕ) (x : A) (rest : List ℕ) → item bytes ≡ Some (x, rest) → many item (length bytes) bytes ≡ before x (many item (length rest) rest)
one_more item c bytes x rest e = unfolded item c bytes ∙ (let r : ahead (item bytes) ([], bytes) (λ y. before y.0 (many item (length y.1) y.1)) ≡ before x (many item (length rest) rest) = rw e refl in r)

pub no_more : {A : Type 0} (item : List ℕ → Option (A × List ℕ)) → Consumes item → (bytes : List ℕ) → item bytes ≡ None → many item (length bytes) bytes ≡ ([], bytes)
no_more item c bytes e = unfolded item c bytes ∙ (let r : ahead (item bytes) ([], bytes) (λ y. before y.0 (many item (length y.1) y.1)) ≡ ([], bytes) = rw e refl in r)
